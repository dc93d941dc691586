use Rattle.std.proofs.Common.{◌≡◌, ℕ, ◌<◌, ◌≤◌, ◌-◌, true, length, get_or}
use Rattle.blanks.specs.Blanks.{is_space_or_tab}
use Rattle.blanks.proofs.trim.without_front_blanks.Given as goal

-- all before the start found are spaces and tabs
abbrev pub invariant-loop-start : goal.invariant-loop-start
invariant-loop-start l = record {
  within : l.start ≤ length l.text;
  cut : (k : ℕ) → k < l.start → is_space_or_tab (get_or l.text k 0) ≡ true;
}

abbrev pub decreases-loop-start : goal.decreases-loop-start
decreases-loop-start l = length l.text - l.start
