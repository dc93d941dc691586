-- Where a name is bound.
use Rattle.std.proofs.Common.{◌≡◌, ◌<◌, ◌≤◌, ◌+◌, ℕ, suc, Bool, true, false, List, [], ◌∷◌, ◌++◌, length, Some, None, refl, ap, arith}
use Rattle.std.specs.Prelude.{slice_set, position, nat_lt}
use Rattle.std.specs.List.{position_or_len}
use Rattle.std.specs.Str.{bytes_eq}
use Rattle.std.proofs.lemmas.Bool.Decides.{nat_tests}
use Rattle.ex_value.specs.declared.Value.{Value}
use Rattle.ex_model.specs.declared.bindings.Binding.{Binding}
use Rattle.ex_model.specs.Bound.{put}

-- whether a binding has the name
abbrev pub has : List ℕ → Binding → Bool
has x b = bytes_eq b.name x

in_place : (bs : List Binding) (x : List ℕ) (v : Value) → position_or_len (has x) bs < length bs → slice_set bs (position_or_len (has x) bs) (record { name = x; value = v }) ≡ put bs x v
in_place [] x v h = absurd (omega arith)
in_place (b ∷ bs) x v h = of (bytes_eq b.name x) (λ lt. in_place bs x v lt) refl
  where
    of : (t : Bool) → (position_or_len (has x) bs < length bs → slice_set bs (position_or_len (has x) bs) (record { name = x; value = v }) ≡ put bs x v) → bytes_eq b.name x ≡ t → slice_set (b ∷ bs) (position_or_len (has x) (b ∷ bs)) (record { name = x; value = v }) ≡ put (b ∷ bs) x v
    of true rest e = rw e refl
    of false rest e =
        let one : 1 + position_or_len (has x) bs ≡ suc (position_or_len (has x) bs) = omega arith in
        let more : 1 + position_or_len (has x) bs < length (b ∷ bs) = rw e at h in
        let there : position_or_len (has x) bs < length bs = omega arith in
        rw (e, one) (ap (λ l. b ∷ l) (rest there))

at_end : (bs : List Binding) (x : List ℕ) (v : Value) → length bs ≤ position_or_len (has x) bs → bs ++ record { name = x; value = v } ∷ [] ≡ put bs x v
at_end [] x v h = refl
at_end (b ∷ bs) x v h = of (bytes_eq b.name x) (λ le. at_end bs x v le) refl
  where
    of : (t : Bool) → (length bs ≤ position_or_len (has x) bs → bs ++ record { name = x; value = v } ∷ [] ≡ put bs x v) → bytes_eq b.name x ≡ t → (b ∷ bs) ++ record { name = x; value = v } ∷ [] ≡ put (b ∷ bs) x v
    of true rest e = let none : length (b ∷ bs) ≤ 0 = rw e at h in absurd (omega arith)
    of false rest e =
        let more : length (b ∷ bs) ≤ 1 + position_or_len (has x) bs = rw e at h in
        let there : length bs ≤ position_or_len (has x) bs = omega arith in
        rw e (ap (λ l. b ∷ l) (rest there))

-- a name that has a binding is bound anew in its place
pub put_in_place : (bs : List Binding) (x : List ℕ) (v : Value) (i : ℕ) → Some i ≡ position (has x) bs → slice_set bs i (record { name = x; value = v }) ≡ put bs x v
put_in_place bs x v i e = of (nat_lt (position_or_len (has x) bs) (length bs)) refl
  where
    of : (t : Bool) → nat_lt (position_or_len (has x) bs) (length bs) ≡ t → slice_set bs i (record { name = x; value = v }) ≡ put bs x v
    of true h =
        let is : Some i ≡ Some (position_or_len (has x) bs) = rw h at e in
        let same : i ≡ position_or_len (has x) bs = cc in
        let lt : position_or_len (has x) bs < length bs = grind (arith, nat_tests) in
        rw same (in_place bs x v lt)
    of false h = let is : Some i ≡ None = rw h at e in cc

-- a name without a binding is bound at the end
pub put_at_end : (bs : List Binding) (x : List ℕ) (v : Value) → None ≡ position (has x) bs → bs ++ record { name = x; value = v } ∷ [] ≡ put bs x v
put_at_end bs x v e = of (nat_lt (position_or_len (has x) bs) (length bs)) refl
  where
    of : (t : Bool) → nat_lt (position_or_len (has x) bs) (length bs) ≡ t → bs ++ record { name = x; value = v } ∷ [] ≡ put bs x v
    of true h = let is : None ≡ Some (position_or_len (has x) bs) = rw h at e in cc
    of false h = let ge : length bs ≤ position_or_len (has x) bs = grind (arith, nat_tests) in at_end bs x v ge
