use Rattle.std.proofs.Common.{◌≡◌, ◌++◌, ℕ, List}
use Rattle.ex_terms.specs.Printed.{is_name}
use Rattle.ex_terms.specs.Names.{completes}
use Rattle.ex_terms.proofs.names.is_name.Given as goal

-- whatever follows the characters so far
abbrev pub invariant-loop-c : goal.invariant-loop-c
invariant-loop-c l = (back : List ℕ) → completes l.name back ≡ is_name (l.yielded ++ back)
