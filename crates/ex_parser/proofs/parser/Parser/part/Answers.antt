use Rattle.std.proofs.Common.{subst}
use Rattle.ex_parser.specs.declared.follow.Next.TheVariants.{LeftArrow}
use Rattle.ex_parser.specs.Machine.{part, after_part, and_filter}
use Rattle.ex_parser.specs.Shown.{TreeShows}
use Rattle.ex_parser.proofs.Turns.{no_tree, a_tree, next_is, other_next, at_next, head_filter}
use Rattle.ex_parser.proofs.BlockTurns.{a_filter}
use Rattle.ex_parser.proofs.parser.Parser.part.Goals as goal

pub returns-in_default-tree_of : goal.returns-in_default-tree_of
returns-in_default-tree_of c = λ h j all s v f k i e.
    a_filter f h v s (other_next all _ f LeftArrow e c.in_default.not-LeftArrow)
    (no_tree _ _ all v.tree _ (subst (λ o. TreeShows c.args.self.now.nodes.items o v.tree) c.in_default-tree_of.is (c.tree_of.ensures _ v i)))

pub returns-in_ok-moved-in-LeftArrow : goal.returns-in_ok-moved-in-LeftArrow
returns-in_ok-moved-in-LeftArrow c = λ h j all s v f k i e. at_next (λ n. part n f.rest h v s) LeftArrow f (next_is all _ f _ c.in-LeftArrow.is e) (c.in_ok-moved-in-LeftArrow.ensures h j all f.rest s v k i e.1)

pub returns-in_ok-moved-in_default : goal.returns-in_ok-moved-in_default
returns-in_ok-moved-in_default c = λ h j all s v f k i e.
    a_filter f h v s (other_next all _ f LeftArrow e c.in_default.not-LeftArrow)
    (a_tree c.in-Some.filter v.tree (λ t. after_part f.next f.rest (and_filter h t) s) (subst (λ o. TreeShows c.args.self.now.nodes.items o v.tree) c.in-Some.is (c.tree_of.ensures _ v i))
    (λ t q. c.in_ok-moved-in_default.ensures all s (and_filter h t) f k (head_filter _ c.args.head _ h c.in-Some.filter t c.in_ok-head-in_default.ensures j q) e))
