use Rattle.std.proofs.Common.{◌≡◌, take, None, find}
use Rattle.lanes.specs.Changes.{is_eval}
use Rattle.lanes.proofs.change.place_of_eval.Given as goal

-- no earlier one passes
abbrev pub invariant-loop-at : goal.invariant-loop-at
invariant-loop-at l = find (is_eval l.eval) (take l.at l.running) ≡ None
