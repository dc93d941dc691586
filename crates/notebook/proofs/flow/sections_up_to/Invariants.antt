use Rattle.std.proofs.Common.{◌≡◌, ◌++◌, take, drop}
use Rattle.notebook.specs.Flow.{is_section, up_to}
use Rattle.notebook.proofs.flow.sections_up_to.Given as goal

abbrev pub invariant-loop-at : goal.invariant-loop-at
invariant-loop-at l = up_to (is_section l.id) l.sections ≡ take l.at l.sections ++ up_to (is_section l.id) (drop l.at l.sections)
