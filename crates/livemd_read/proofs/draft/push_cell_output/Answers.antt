use Rattle.livemd_read.proofs.Building.{cell_output_pushed}
use Rattle.livemd_read.proofs.draft.push_cell_output.Goals as goal

pub returns : goal.returns
returns c = record {
  ok = cell_output_pushed c.args.section.now c.args.output c.item_mut-cell.result.now _ _ c.len-count.ensures c.if-count-eq0.false c.item_mut-cell.ensures.value c.in_ok-push.ensures.ok;
}
