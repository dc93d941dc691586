use Rattle.std.proofs.Common.{◌≡◌, take, false}
use Rattle.std.specs.List.{list_any}
use Rattle.notebook.specs.Flow.{is_code_numbered}
use Rattle.notebook.proofs.before.cut_at.Given as goal

-- no earlier code cell has the number
abbrev pub invariant-loop-at : goal.invariant-loop-at
invariant-loop-at l = list_any (is_code_numbered l.id) (take l.at l.cells) ≡ false
