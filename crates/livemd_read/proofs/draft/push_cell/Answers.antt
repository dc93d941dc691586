use Rattle.livemd_read.proofs.Building.{cell_pushed}
use Rattle.livemd_read.proofs.draft.push_cell.Goals as goal

pub returns : goal.returns
returns c = record {
  ok = cell_pushed
      c.args.parts.now
      c.item_mut-section.result.now
      _
      _
      c.args.kind
      _
      _
      c.args.before
      _
      c.requires.section
      c.len-last.ensures
      c.item_mut-section.ensures.value
      c.in_ok-of.ensures
      c.new.ensures
      c.in_ok-push.ensures.ok;
}
