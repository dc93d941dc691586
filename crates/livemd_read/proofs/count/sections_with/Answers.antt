use Rattle.std.proofs.Common.{sym, ◌∙◌, arith}
use Rattle.livemd_read.proofs.Counting.{no_section, section_of_cell, sections_by}
use Rattle.livemd_read.proofs.count.sections_with.Goals as goal

pub returns-in-Code-clause-value : goal.returns-in-Code-clause-value
returns-in-Code-clause-value c = sections_by c.args.item.now c.args.count _ (section_of_cell c.args.item.now c.args.count c.in-Code.is ∙ sym c.max.ensures)

pub returns-in_default : goal.returns-in_default
returns-in_default c = record {
  bound = omega arith;
  value = sections_by c.args.item.now c.args.count _ (no_section c.args.item.now c.args.count c.in_default.not-Section c.in_default.not-Code c.in_default.not-Markdown);
}
