use Rattle.std.proofs.Common.{◌≡◌, ◌+◌, ◌≤◌, drop}
use Rattle.ex_terms.specs.Seen.{terms_of}
use Rattle.ex_terms.specs.Sizes.{sizes_of, capped}
use Rattle.ex_terms.proofs.items.size_together.Given as goal

-- what is added so far and the sizes of the values that are left are all
abbrev pub invariant-loop-value : goal.invariant-loop-value
invariant-loop-value l = record {
  all : capped (l.size + sizes_of (terms_of (drop l.value-index l.values))) ≡ capped (sizes_of (terms_of l.values));
  fits : l.size ≤ 18446744073709551615;
}
