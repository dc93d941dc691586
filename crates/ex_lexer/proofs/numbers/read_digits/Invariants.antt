use Rattle.std.proofs.Common.{◌≡◌, ◌≤◌, ◌-◌, List, ℕ, length, drop}
use Rattle.ex_lexer.specs.Runs.{digits_at, another, Counts}
use Rattle.ex_lexer.proofs.numbers.read_digits.Given as goal

-- the digits so far, and then those of the rest
abbrev pub invariant-loop-len : goal.invariant-loop-len
invariant-loop-len l = (ds : List ℕ) × (l.len ≤ length l.bytes) × (digits_at l.bytes ≡ another l.len ds (digits_at (drop l.len l.bytes))) × Counts l.value ds

abbrev pub decreases-loop-len : goal.decreases-loop-len
decreases-loop-len l = length l.bytes - l.len
