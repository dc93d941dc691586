use Rattle.std.proofs.Common.{subst}
use Rattle.ex_grammar.specs.Trees.{NoClause}
use Rattle.ex_parser.specs.declared.follow.Next.TheVariants.{RightArrow}
use Rattle.ex_parser.specs.Machine.{first_pattern, InClause}
use Rattle.ex_parser.specs.Shown.{PatternShows, is_clause}
use Rattle.ex_parser.proofs.Turns.{no_pattern, a_pattern, next_is, at_next}
use Rattle.ex_parser.proofs.parser.Parser.first_pattern.Goals as goal

pub returns-in_default : goal.returns-in_default
returns-in_default c = λ t h all s v f k i e. no_pattern _ _ all v.pattern _ (subst (λ o. PatternShows c.args.self.now.nodes.items o v.pattern) c.in_default.is (c.pattern_of.ensures _ v i))

pub returns-in_ok-moved-in-RightArrow : goal.returns-in_ok-moved-in-RightArrow
returns-in_ok-moved-in-RightArrow c = λ t h all s v f k i e.
    a_pattern c.in-Some.pattern v.pattern (λ p. first_pattern f.next f.rest t p s) (subst (λ o. PatternShows c.args.self.now.nodes.items o v.pattern) c.in-Some.is (c.pattern_of.ensures _ v i))
    (λ p q. at_next (λ n. first_pattern n f.rest t p s) RightArrow f (next_is all _ f _ c.in-RightArrow.is e) (c.in_ok-moved-in-RightArrow.ensures all f.rest s (InClause t NoClause p) k (is_clause h c.new-clauses.ensures.items q) e.1))
