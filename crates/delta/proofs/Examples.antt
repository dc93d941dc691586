-- The definitions at small deltas, as a check of what they say.
use Rattle.std.proofs.Common.{◌≡◌, true, false, [], ◌∷◌, Some, None, refl}
use Rattle.delta.specs.declared.Step.TheVariants.{Retain, Insert, Delete}
use Rattle.delta.specs.Canonical.{bad_step}
use Rattle.delta.specs.Moves.{text_after, composed, transformed, over}
use Rattle.delta.specs.Pack.{packed}
use Rattle.delta.specs.Steps.{all_small, broken_cut}

applies : text_after (Retain 3 ∷ Insert (88 ∷ []) ∷ []) (97 ∷ 0x1_F600 ∷ 98 ∷ []) ≡ 97 ∷ 0x1_F600 ∷ 88 ∷ 98 ∷ []
applies = refl

cuts : broken_cut (Retain 3 ∷ Insert (88 ∷ []) ∷ []) (97 ∷ 0x1_F600 ∷ 98 ∷ []) ≡ None
cuts = refl

splits : broken_cut (Retain 2 ∷ Insert (88 ∷ []) ∷ []) (97 ∷ 0x1_F600 ∷ 98 ∷ []) ≡ Some 2
splits = refl

packs : packed (all_small (Retain 1 ∷ Delete 2 ∷ Insert (120 ∷ []) ∷ [])) ≡ Retain 1 ∷ Insert (120 ∷ []) ∷ Delete 2 ∷ []
packs = refl

insert_after_delete : bad_step (Retain 1 ∷ Delete 2 ∷ Insert (120 ∷ []) ∷ []) ≡ Some 2
insert_after_delete = refl

last_retain : bad_step (Retain 3 ∷ []) ≡ Some 0
last_retain = refl

zero_retain : bad_step (Retain 0 ∷ []) ≡ Some 0
zero_retain = refl

no_step : bad_step [] ≡ None
no_step = refl

too_far : bad_step (Delete 1 ∷ Retain 0x4000_0000_0000_0000 ∷ Delete 1 ∷ []) ≡ Some 1
too_far = refl

left_first : transformed false (Insert (65 ∷ []) ∷ []) (Insert (66 ∷ []) ∷ []) ≡ Retain 1 ∷ Insert (66 ∷ []) ∷ []
left_first = refl

right_first : transformed true (Insert (65 ∷ []) ∷ []) (Insert (66 ∷ []) ∷ []) ≡ Insert (66 ∷ []) ∷ []
right_first = refl

into_a_delete : transformed false (Retain 1 ∷ Delete 2 ∷ []) (Retain 2 ∷ Insert (88 ∷ []) ∷ []) ≡ Retain 1 ∷ Insert (88 ∷ []) ∷ []
into_a_delete = refl

over_two : over (Insert (90 ∷ []) ∷ []) ((Insert (65 ∷ []) ∷ []) ∷ (Retain 1 ∷ Insert (66 ∷ []) ∷ []) ∷ []) ≡ Retain 2 ∷ Insert (90 ∷ []) ∷ []
over_two = refl

deletes_inserted : composed (Retain 1 ∷ Insert (120 ∷ 121 ∷ []) ∷ []) (Retain 1 ∷ Delete 1 ∷ []) ≡ Retain 1 ∷ Insert (121 ∷ []) ∷ []
deletes_inserted = refl

undoes : composed (Insert (120 ∷ []) ∷ []) (Delete 1 ∷ []) ≡ []
undoes = refl

-- one half of a pair is left out
half_left : composed (Insert (0x1_F600 ∷ []) ∷ []) (Delete 1 ∷ []) ≡ []
half_left = refl

-- two halves meet as another pair
halves_meet : composed (Insert (0x1_F600 ∷ 0x1_F601 ∷ []) ∷ []) (Retain 1 ∷ Delete 2 ∷ []) ≡ Insert (0x1_F601 ∷ []) ∷ []
halves_meet = refl
