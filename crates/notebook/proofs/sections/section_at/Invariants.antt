use Rattle.std.proofs.Common.{◌≡◌, false, take}
use Rattle.std.specs.List.{list_any}
use Rattle.notebook.specs.Flow.{is_section}
use Rattle.notebook.proofs.sections.section_at.Given as goal

abbrev pub invariant-loop-at : goal.invariant-loop-at
invariant-loop-at l = list_any (is_section l.id) (take l.at l.sections) ≡ false
