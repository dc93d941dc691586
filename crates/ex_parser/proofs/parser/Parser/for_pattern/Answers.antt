use Rattle.std.proofs.Common.{subst}
use Rattle.ex_parser.specs.declared.follow.Next.TheVariants.{LeftArrow}
use Rattle.ex_parser.specs.Machine.{ForSource, for_pattern}
use Rattle.ex_parser.specs.Shown.{PatternShows, is_for_source}
use Rattle.ex_parser.proofs.Turns.{no_pattern, a_pattern, begins, next_is, at_next}
use Rattle.ex_parser.proofs.parser.Parser.for_pattern.Goals as goal

pub returns-in_default : goal.returns-in_default
returns-in_default c = λ all s v f k i e. no_pattern _ _ all v.pattern _ (subst (λ o. PatternShows c.args.self.now.nodes.items o v.pattern) c.in_default.is (c.pattern_of.ensures _ v i))

pub returns-in_ok-moved-in-LeftArrow : goal.returns-in_ok-moved-in-LeftArrow
returns-in_ok-moved-in-LeftArrow c = λ all s v f k i e.
    a_pattern c.in-Some.pattern v.pattern (λ p. for_pattern f.next f.rest p s) (subst (λ o. PatternShows c.args.self.now.nodes.items o v.pattern) c.in-Some.is (c.pattern_of.ensures _ v i))
    (λ p q. at_next (λ n. for_pattern n f.rest p s) LeftArrow f (next_is all _ f _ c.in-LeftArrow.is e) (begins _ _ all f.rest s (ForSource p) c.in_ok-moved-in-LeftArrow.ensures k (is_for_source q) e.1))
