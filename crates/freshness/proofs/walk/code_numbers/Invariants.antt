use Rattle.std.proofs.Common.{◌≡◌, ◌++◌, drop}
use Rattle.std.specs.Prelude.{flat_map}
use Rattle.freshness.specs.Following.{code_numbers, section_numbers}
use Rattle.freshness.proofs.walk.code_numbers.Given as goal

-- the numbers so far, and those of what is left
abbrev pub invariant-loop-section : goal.invariant-loop-section
invariant-loop-section l = l.ids.items ++ flat_map section_numbers (drop l.section-index l.section-items) ≡ code_numbers l.parts
