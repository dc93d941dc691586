use Rattle.ex_prims.proofs.Charging.{refused_without}
use Rattle.ex_prims.specs.Calls.{answered}
use Rattle.ex_prims.proofs.calls.call.Goals as goal

-- src/calls.rt:52:1
pub returns : goal.returns
returns c = c.settle.ensures (answered c.args.name.now c.args.args.now) c.size_together.ensures c.answer-given.ensures (refused_without c.args.name.now c.args.args.now)
