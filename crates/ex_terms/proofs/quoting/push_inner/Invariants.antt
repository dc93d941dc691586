use Rattle.std.proofs.Common.{◌≡◌, ◌++◌, ℕ, List, string_bytes}
use Rattle.std.specs.Str.{encode_utf8_all}
use Rattle.ex_terms.specs.Printed.{inner, pending}
use Rattle.ex_terms.proofs.quoting.push_inner.Given as goal

-- whatever follows the characters so far
abbrev pub invariant-loop-c : goal.invariant-loop-c
invariant-loop-c l = (back : List ℕ) → string_bytes l.out ++ encode_utf8_all (pending l.waits back) ≡ string_bytes l.initial.out ++ encode_utf8_all (inner (l.yielded ++ back))
