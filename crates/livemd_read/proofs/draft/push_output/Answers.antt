use Rattle.livemd_read.proofs.Building.{output_pushed}
use Rattle.livemd_read.proofs.draft.push_output.Goals as goal

pub returns : goal.returns
returns c = record {
  ok = output_pushed c.args.parts.now c.args.output c.item_mut-section.result.now _ _ c.len-count.ensures c.if-count-eq0.false c.item_mut-section.ensures.value c.in_ok-push_cell_output.ensures.ok;
}
