-- How far a script reaches, and how much it leaves.
use Rattle.std.proofs.Common.{◌≡◌, ℕ, zero, suc, ◌+◌, ◌≤◌, List, [], ◌∷◌, ◌++◌, length, map, replicate, refl, ap, ◌∙◌, arith}
use Rattle.utf16_text.proofs.Counts.{unit_count-cons}
use Rattle.utf16_text.specs.Units.{unit_count, units_of_character}
use Rattle.delta.specs.Spread.{Small, Keep, Drop, Put, small_reach, small_items}
use Rattle.delta.specs.Steps.{all_small}
use Rattle.delta.specs.declared.Step.{Step}
use Rattle.delta_laws.proofs.Padding.{small_reach-more, small_items-more}
use Rattle.delta_laws.proofs.Scripts.{Op, Kept, Gone, New, old, new, wide, width, IsScript}

-- a script reaches over its old text, and has its new text's units
reach_keeps : (n : ℕ) (s : List Small) → small_reach (replicate n Keep ++ s) ≡ n + small_reach s
reach_keeps zero s = omega arith
reach_keeps (suc n) s = omega (arith, reach_keeps n s)

reach_drops : (n : ℕ) (s : List Small) → small_reach (replicate n Drop ++ s) ≡ n + small_reach s
reach_drops zero s = omega arith
reach_drops (suc n) s = omega (arith, reach_drops n s)

reach_puts : (us : List ℕ) (s : List Small) → small_reach (map Put us ++ s) ≡ small_reach s
reach_puts [] s = refl
reach_puts (u ∷ us) s = reach_puts us s

items_keeps : (n : ℕ) (s : List Small) → small_items (replicate n Keep ++ s) ≡ n + small_items s
items_keeps zero s = omega arith
items_keeps (suc n) s = omega (arith, items_keeps n s)

items_drops : (n : ℕ) (s : List Small) → small_items (replicate n Drop ++ s) ≡ small_items s
items_drops zero s = refl
items_drops (suc n) s = items_drops n s

items_puts : (us : List ℕ) (s : List Small) → small_items (map Put us ++ s) ≡ length us + small_items s
items_puts [] s = omega arith
items_puts (u ∷ us) s = omega (arith, items_puts us s)

pub reach_wide : (s : List Op) → small_reach (wide s) ≡ unit_count (old s)
reach_wide [] = refl
reach_wide (Kept c ∷ s) = omega (arith, reach_keeps (width c) (wide s), reach_wide s, unit_count-cons c (old s))
reach_wide (Gone c ∷ s) = omega (arith, reach_drops (width c) (wide s), reach_wide s, unit_count-cons c (old s))
reach_wide (New c ∷ s) = reach_puts (units_of_character c) (wide s) ∙ reach_wide s

items_wide : (s : List Op) → small_items (wide s) ≡ unit_count (new s)
items_wide [] = refl
items_wide (Kept c ∷ s) = omega (arith, items_keeps (width c) (wide s), items_wide s, unit_count-cons c (new s))
items_wide (Gone c ∷ s) = items_drops (width c) (wide s) ∙ items_wide s
items_wide (New c ∷ s) = omega (arith, items_puts (units_of_character c) (wide s), items_wide s, unit_count-cons c (new s))

pub reach_script : (d : List Step) (t : List ℕ) (s : IsScript d t) → small_reach (all_small d) ≤ unit_count t
reach_script d t s = omega (arith, small_reach-more (all_small d) s.spare, ap small_reach s.small, reach_wide s.script, ap unit_count s.from)

pub items_script : (d : List Step) (t : List ℕ) (s : IsScript d t) → small_items (all_small d) + s.spare ≡ unit_count (new s.script)
items_script d t s = omega (arith, small_items-more (all_small d) s.spare, ap small_items s.small, items_wide s.script)
