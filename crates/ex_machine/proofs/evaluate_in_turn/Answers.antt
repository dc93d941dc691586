use Rattle.std.proofs.Common.{drop, suc, add-one, arith}
use Rattle.ex_machine.proofs.Bodies.{next_tree, none_left, goes_on, ends_with}
use Rattle.ex_machine.proofs.evaluate_in_turn.Goals as goal

pub go_on-requires : goal.go_on-requires
go_on-requires c =
    let next = next_tree c.args.nodes.now c.args.roots.now c.requires.0 c.loop-root.root-index c.requires.1 c.loop-root-test.true in
    (next.tree, next.at)

pub loop-root-preserved : goal.loop-root-preserved
loop-root-preserved c = λ trees are.
    let next = next_tree c.args.nodes.now c.args.roots.now trees c.loop-root.root-index are c.loop-root-test.true in
    rw add-one (goes_on c.args.base.now _ _ _ _ (drop (suc c.loop-root.root-index) trees) next.tree (c.in_ok-ended.ensures next.tree next.at) next.is (c.loop-root.invariant trees are))

pub returns : goal.returns
returns c = λ trees are.
    ends_with c.args.base.now _ _ _ (none_left c.args.nodes.now c.args.roots.now trees c.loop-root.root-index are (omega arith)) (c.loop-root.invariant trees are)
