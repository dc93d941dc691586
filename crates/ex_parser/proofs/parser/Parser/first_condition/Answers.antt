use Rattle.std.proofs.Common.{subst}
use Rattle.ex_grammar.specs.Trees.{NoChoice}
use Rattle.ex_parser.specs.declared.follow.Next.TheVariants.{RightArrow}
use Rattle.ex_parser.specs.Machine.{first_condition, InChoice}
use Rattle.ex_parser.specs.Shown.{TreeShows, is_choice}
use Rattle.ex_parser.proofs.Turns.{no_tree, a_tree, next_is, at_next}
use Rattle.ex_parser.proofs.parser.Parser.first_condition.Goals as goal

pub returns-in_default : goal.returns-in_default
returns-in_default c = λ all s v f k i e. no_tree _ _ all v.tree _ (subst (λ o. TreeShows c.args.self.now.nodes.items o v.tree) c.in_default.is (c.tree_of.ensures _ v i))

pub returns-in_ok-moved-in-RightArrow : goal.returns-in_ok-moved-in-RightArrow
returns-in_ok-moved-in-RightArrow c = λ all s v f k i e.
    a_tree c.in-Some.condition v.tree (λ t. first_condition f.next f.rest t s) (subst (λ o. TreeShows c.args.self.now.nodes.items o v.tree) c.in-Some.is (c.tree_of.ensures _ v i))
    (λ t q. at_next (λ n. first_condition n f.rest t s) RightArrow f (next_is all _ f _ c.in-RightArrow.is e) (c.in_ok-moved-in-RightArrow.ensures all f.rest s (InChoice NoChoice t) k (is_choice c.new-choices.ensures.items q) e.1))
