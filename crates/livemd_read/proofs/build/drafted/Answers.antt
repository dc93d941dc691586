use Rattle.livemd_read.proofs.Fronts.{few_next_cell, few_next_section}
use Rattle.livemd_read.proofs.build.drafted.Goals as goal

pub take-requires-clause-sections : goal.take-requires-clause-sections
take-requires-clause-sections c = few_next_section c.args.items.now c.loop-item.item-index c.loop-item.draft c.loop-item.invariant c.requires.sections

pub take-requires-clause-cells : goal.take-requires-clause-cells
take-requires-clause-cells c = few_next_cell c.args.items.now c.loop-item.item-index c.loop-item.draft c.loop-item.invariant c.requires.cells
