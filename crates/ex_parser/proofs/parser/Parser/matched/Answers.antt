use Rattle.std.proofs.Common.{refl, subst, drop, ◌∷◌}
use Rattle.ex_parser.specs.Machine.{Want, Matched}
use Rattle.ex_parser.specs.Shown.{PatternShows, is_matched}
use Rattle.ex_parser.proofs.Turns.{no_pattern, a_pattern, begins}
use Rattle.ex_parser.proofs.parser.Parser.matched.Goals as goal

pub returns-in-None : goal.returns-in-None
returns-in-None c = λ all s v k i. no_pattern _ _ all v.pattern _ (subst (λ o. PatternShows c.args.self.now.nodes.items o v.pattern) c.in-None.is (c.pattern_of.ensures _ v i))

pub returns-in_ok-moved-in-Some : goal.returns-in_ok-moved-in-Some
returns-in_ok-moved-in-Some c = λ all s v k i.
    a_pattern c.in-Some.pattern v.pattern (λ p. Want (Matched p ∷ s) (drop c.args.after all)) (subst (λ o. PatternShows c.args.self.now.nodes.items o v.pattern) c.in-Some.is (c.pattern_of.ensures _ v i))
    (λ p q. begins _ _ all _ s (Matched p) c.in_ok-moved-in-Some.ensures k (is_matched q) refl)
