use Rattle.std.proofs.Common.{◌≡◌, take, None, find}
use Rattle.notebook.specs.Flow.{has_code}
use Rattle.notebook.proofs.before.home_of.Given as goal

-- no earlier section has the code cell
abbrev pub invariant-loop-at : goal.invariant-loop-at
invariant-loop-at l = find (has_code l.id) (take l.at l.sections) ≡ None
