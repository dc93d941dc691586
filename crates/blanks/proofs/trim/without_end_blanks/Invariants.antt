use Rattle.std.proofs.Common.{◌≡◌, ◌<◌, ◌≤◌, true, take, length, get_or}
use Rattle.blanks.specs.Blanks.{drop_end, is_space_or_tab}
use Rattle.blanks.proofs.trim.without_end_blanks.Given as goal

-- what stands behind the end found are spaces and tabs
abbrev pub invariant-loop-end : goal.invariant-loop-end
invariant-loop-end l = record {
  within : l.end ≤ length l.text;
  blank : l.end < length l.text → is_space_or_tab (get_or l.text l.end 0) ≡ true;
  kept : drop_end is_space_or_tab (take l.end l.text) ≡ drop_end is_space_or_tab l.text;
}

abbrev pub decreases-loop-end : goal.decreases-loop-end
decreases-loop-end l = l.end
