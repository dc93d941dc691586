use Rattle.std.proofs.Common.{refl, sym, subst, drop, ◌∙◌, true, false}
use Rattle.ex_parser.specs.Machine.{Operand, take_operand, may_take}
use Rattle.ex_parser.specs.Shown.{TreeShows, is_operand}
use Rattle.ex_parser.proofs.Turns.{no_tree, a_tree, begins, fails, at_true}
use Rattle.ex_parser.proofs.parser.Parser.operand.Goals as goal

pub returns-in_default : goal.returns-in_default
returns-in_default c = λ all s v k i. no_tree _ _ all v.tree _ (subst (λ o. TreeShows c.args.self.now.nodes.items o v.tree) c.in_default.is (c.tree_of.ensures _ v i))

pub returns-then-may_take : goal.returns-then-may_take
returns-then-may_take c = λ all s v k i.
    a_tree c.in-Some.left v.tree (λ a. take_operand (may_take c.args.op v) c.args.op a s (drop c.args.after all)) (subst (λ o. TreeShows c.args.self.now.nodes.items o v.tree) c.in-Some.is (c.tree_of.ensures _ v i))
    (λ a q. at_true (λ b. take_operand b c.args.op a s (drop c.args.after all)) true (may_take c.args.op v) (sym (c.may_take.ensures _ v i) ∙ c.if-may_take.true) (begins _ _ all _ s (Operand c.args.op a) c.in_ok-moved.ensures k (is_operand q) refl))

pub returns : goal.returns
returns c = λ all s v k i.
    a_tree c.in-Some.left v.tree (λ a. take_operand (may_take c.args.op v) c.args.op a s (drop c.args.after all)) (subst (λ o. TreeShows c.args.self.now.nodes.items o v.tree) c.in-Some.is (c.tree_of.ensures _ v i))
    (λ a q. at_true (λ b. take_operand b c.args.op a s (drop c.args.after all)) false (may_take c.args.op v) (sym (c.may_take.ensures _ v i) ∙ c.if-may_take.false) (fails _ _ all refl))
