use Rattle.std.proofs.Common.{◌≡◌, ℕ, ◌<◌, ◌≤◌, ◌-◌, true, length, get_or}
use Rattle.ex_grammar.specs.Names.{is_alias_byte}
use Rattle.ex_lexer.proofs.front.alias_len.Given as goal

-- all before the place are such bytes
abbrev pub invariant-loop-len : goal.invariant-loop-len
invariant-loop-len l = record {
  within : l.len ≤ length l.bytes;
  passes : (k : ℕ) → k < l.len → is_alias_byte (get_or l.bytes k 0) ≡ true;
}

abbrev pub decreases-loop-len : goal.decreases-loop-len
decreases-loop-len l = length l.bytes - l.len
