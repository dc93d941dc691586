use Rattle.std.proofs.Common.{subst, sym, drop_of_length-le}
use Rattle.std.specs.List.{AllByRecursion}
use Rattle.utf16_text.specs.Units.{AreScalars}
use Rattle.livemd_write.proofs.Blocks.{left}
use Rattle.livemd_write.proofs.Telling.{turn}
use Rattle.livemd_write.proofs.cells.look_at.Goals as goal

pub loop-line-preserved : goal.loop-line-preserved
loop-line-preserved c = turn (AllByRecursion AreScalars) _ c.args.before.now c.loop-line.line-index c.line-item.result (left c.args.before.now c.loop-line.line-index c.line-item.result c.loop-line-test.true c.line-item.is) c.loop-line.invariant (λ g. (c.as_str.ensures.scalars, g))

pub returns : goal.returns
returns c = c.loop-line.invariant (subst (AllByRecursion AreScalars) (sym (drop_of_length-le c.args.before.now c.loop-line-test.false)) tt)
