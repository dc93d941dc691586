use Rattle.std.proofs.Common.{refl, subst, drop}
use Rattle.ex_grammar.specs.Trees.{Apply}
use Rattle.ex_grammar.specs.Operators.{level}
use Rattle.ex_parser.specs.Machine.{Have, made}
use Rattle.ex_parser.specs.Shown.{TreeShows, Turned}
use Rattle.ex_parser.proofs.Turns.{no_tree, a_tree, makes, apply_at}
use Rattle.ex_parser.proofs.parser.Parser.apply.Goals as goal

pub returns-in-None : goal.returns-in-None
returns-in-None c = λ a h all s v k i. no_tree _ _ all v.tree _ (subst (λ o. TreeShows c.args.self.now.nodes.items o v.tree) c.in-None.is (c.tree_of.ensures _ v i))

pub returns-in_ok-moved-in-Some : goal.returns-in_ok-moved-in-Some
returns-in_ok-moved-in-Some c = λ a h all s v k i.
    a_tree c.in-Some.right v.tree (λ b. Have s (made (Apply c.args.op a b) (level c.args.op)) (drop c.args.at all)) (subst (λ o. TreeShows c.args.self.now.nodes.items o v.tree) c.in-Some.is (c.tree_of.ensures _ v i))
    (λ b q. subst (λ l. Turned c.args.self.now.nodes.items c.made.new.self.nodes.items c.made.new.self.stack.items all c.in_ok-moved-in-Some.moved (Have s (made (Apply c.args.op a b) l) (drop c.args.at all))) c.level.ensures
    (makes _ _ all _ s _ c.in_ok-moved-in-Some.ensures k (apply_at _ c.args.op c.args.left c.in-Some.right a b h q) refl))
