use Rattle.std.proofs.Common.{◌≡◌, ◌+◌, ◌≤◌, ◌-◌, length, drop}
use Rattle.ex_lexer.specs.Runs.{plain_len}
use Rattle.ex_lexer.proofs.texts.plain_len.Given as goal

-- so many are plain, and those of the rest
abbrev pub invariant-loop-len : goal.invariant-loop-len
invariant-loop-len l = record {
  within : l.len ≤ length l.bytes;
  plain : plain_len l.bytes ≡ l.len + plain_len (drop l.len l.bytes);
}

abbrev pub decreases-loop-len : goal.decreases-loop-len
decreases-loop-len l = length l.bytes - l.len
