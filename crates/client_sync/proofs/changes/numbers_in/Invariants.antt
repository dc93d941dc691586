use Rattle.std.proofs.Common.{◌≡◌, drop}
use Rattle.notebook.specs.Change.{cells_in}
use Rattle.client_sync.proofs.changes.numbers_in.Given as goal

-- the section is among those that are left
abbrev pub invariant-loop-section : goal.invariant-loop-section
invariant-loop-section l = cells_in l.id l.sections ≡ cells_in l.id (drop l.section-index l.sections)
