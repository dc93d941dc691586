use Rattle.std.proofs.Common.{subst, ◌∷◌}
use Rattle.ex_parser.specs.Machine.{Want, PartSource}
use Rattle.ex_parser.specs.Shown.{PatternShows, is_part_source}
use Rattle.ex_parser.proofs.Turns.{no_pattern, a_pattern, begins}
use Rattle.ex_parser.proofs.parser.Parser.part_pattern.Goals as goal

pub returns-in-None : goal.returns-in-None
returns-in-None c = λ h j all rest s v k i r. no_pattern _ _ all v.pattern _ (subst (λ o. PatternShows c.args.self.now.nodes.items o v.pattern) c.in-None.is (c.pattern_of.ensures _ v i))

pub returns-in_ok-moved-in-Some : goal.returns-in_ok-moved-in-Some
returns-in_ok-moved-in-Some c = λ h j all rest s v k i r.
    a_pattern c.in-Some.pattern v.pattern (λ p. Want (PartSource h p ∷ s) rest) (subst (λ o. PatternShows c.args.self.now.nodes.items o v.pattern) c.in-Some.is (c.pattern_of.ensures _ v i))
    (λ p q. begins _ _ all _ s (PartSource h p) c.in_ok-moved-in-Some.ensures k (is_part_source j q) r)
