use Rattle.std.proofs.Common.{refl, subst, drop}
use Rattle.ex_grammar.specs.Trees.{IfElse}
use Rattle.ex_parser.specs.Machine.{Have, made, one}
use Rattle.ex_parser.specs.Shown.{TreeShows}
use Rattle.ex_parser.proofs.Turns.{no_tree, a_tree, makes, if_else_at}
use Rattle.ex_parser.proofs.parser.Parser.do_else.Goals as goal

pub returns-in_default : goal.returns-in_default
returns-in_default c = λ t a h j all s v k i. no_tree _ _ all v.tree _ (subst (λ o. TreeShows c.args.self.now.nodes.items o v.tree) c.in_default.is (c.tree_of.ensures _ v i))

pub returns : goal.returns
returns c = λ t a h j all s v k i.
    a_tree c.in-Some.other v.tree (λ b. Have s (made (IfElse t (one a) (one b)) 11) (drop c.args.at all)) (subst (λ o. TreeShows c.args.self.now.nodes.items o v.tree) c.in-Some.is (c.tree_of.ensures _ v i))
    (λ b q. makes _ _ all _ s _ c.in_ok-moved.ensures k (if_else_at _ c.args.condition c.args.body c.in-Some.other _ _ t a b h c.in_ok-body.ensures j c.in_ok-other.ensures q) refl)
