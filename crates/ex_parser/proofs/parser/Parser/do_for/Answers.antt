use Rattle.std.proofs.Common.{refl, subst, drop}
use Rattle.ex_parser.specs.Machine.{Have, made, one, for_tree}
use Rattle.ex_parser.specs.Shown.{TreeShows}
use Rattle.ex_parser.proofs.Turns.{no_tree, a_tree, makes, for_at}
use Rattle.ex_parser.proofs.parser.Parser.do_for.Goals as goal

pub returns-in_default : goal.returns-in_default
returns-in_default c = λ h j all s v k i. no_tree _ _ all v.tree _ (subst (λ o. TreeShows c.args.self.now.nodes.items o v.tree) c.in_default.is (c.tree_of.ensures _ v i))

pub returns : goal.returns
returns c = λ h j all s v k i.
    a_tree c.in-Some.tree v.tree (λ a. Have s (made (for_tree h (one a)) 11) (drop c.args.at all)) (subst (λ o. TreeShows c.args.self.now.nodes.items o v.tree) c.in-Some.is (c.tree_of.ensures _ v i))
    (λ a q. makes _ _ all _ s _ c.in_ok-moved.ensures k (for_at _ c.args.head h c.in-Some.tree _ a j c.in_ok-body.ensures q) refl)
