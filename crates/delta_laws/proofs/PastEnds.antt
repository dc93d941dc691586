-- A delta that reaches past the text does so after every other, too.
use Rattle.std.proofs.Common.{◌≡◌, ℕ, zero, suc, ◌+◌, ◌-◌, ◌<◌, ◌≤◌, ◌==◌, ◌⊎◌, inl, inr, Bool, true, false, cond, List, [], ◌∷◌, ◌++◌, length, map, replicate, Option, Some, None, refl, sym, ap, ◌∙◌, arith, append_assoc, max}
use Rattle.std.proofs.lemmas.Bool.Decides.{nat_tests}
use Rattle.std.proofs.lemmas.List.{append-nil, map-append}
use Rattle.std.proofs.lemmas.List.Sums.{sum_by-cons}
use Rattle.std.specs.Prelude.{nat_le, not, slice_get, ◌&&◌}
use Rattle.utf16_text.proofs.Counts.{unit_count-cons}
use Rattle.utf16_text.proofs.Decoding.{only_scalars, decoded-units, units-only_scalars, decoded-AreScalars}
use Rattle.utf16_text.proofs.Scalars.{AreScalars-head}
use Rattle.utf16_text.specs.Units.{units, unit_count, decoded, begun_by, AreScalars}
use Rattle.delta.proofs.CanonicalPacks.{packed_parts, reach_parts, reach_packed, reach_steps}
use Rattle.delta.proofs.Packs.{puts_past}
use Rattle.delta.specs.Canonical.{is_proper, may_end, is_retain, keeps_rules, first_bad, IsCanonical}
use Rattle.delta.specs.Compose.{mark}
use Rattle.delta.specs.Moves.{FitsText, text_after}
use Rattle.delta.specs.Pack.{first_puts, first_drops, inserting, deleting, kept, from_keep, packed}
use Rattle.delta.specs.Spread.{Small, Keep, Drop, Put, keep, gap, small_reach, small_items}
use Rattle.delta.specs.Steps.{passed, reach_of, small_steps, all_small}
use Rattle.delta.specs.Transform.{gaps, moved, moved_over, transformed_small}
use Rattle.delta.specs.declared.Step.{Step}
use Rattle.delta.specs.declared.Step.TheVariants.{Retain, Insert, Delete}
use Rattle.delta_laws.proofs.Padding.{keep-past, gap-past, small_reach-more}
use Rattle.delta_laws.proofs.Scripts.{width_pos, script_of, text_after-script}
use Rattle.delta_laws.proofs.Reaches.{reach_wide, items_script}
use Rattle.delta_laws.specs.Ends.{is_felt, ends_felt, StaysPast}

-- packing takes nothing of the reach
record IsKeptWhole (s : List Small) : Type 0 where
  pub whole : reach_of (packed s) ≡ small_reach s
  pub some : packed s ≡ [] → ⊥

right_nil : {X : Type 0} (xs ys : List X) → xs ++ ys ≡ [] → ys ≡ []
right_nil [] ys e = e
right_nil (x ∷ xs) ys e = cc

left_nil : {X : Type 0} (xs ys : List X) → xs ++ ys ≡ [] → xs ≡ []
left_nil [] ys e = refl
left_nil (x ∷ xs) ys e = cc

no_insert : (cs : List ℕ) → inserting cs ≡ [] → cs ≡ []
no_insert [] e = refl
no_insert (c ∷ cs) e = cc

reach_kept_some : (d : List Step) → (d ≡ [] → ⊥) → reach_of (kept d) ≡ suc (reach_of d)
reach_kept_some [] some = absurd (some refl)
reach_kept_some (Retain n ∷ d) some = omega (arith, sum_by-cons passed (Retain n) d, sum_by-cons passed (Retain (suc n)) d)
reach_kept_some (Insert text ∷ d) some = omega (arith, sum_by-cons passed (Retain 1) (Insert text ∷ d))
reach_kept_some (Delete n ∷ d) some = omega (arith, sum_by-cons passed (Retain 1) (Delete n ∷ d))

kept_some : (d : List Step) → (d ≡ [] → ⊥) → kept d ≡ [] → ⊥
kept_some [] some e = some refl
kept_some (Retain n ∷ d) some e = cc
kept_some (Insert text ∷ d) some e = cc
kept_some (Delete n ∷ d) some e = cc

put_some : (u : ℕ) (s : List Small) → (packed s ≡ [] → ⊥) → packed (Put u ∷ s) ≡ [] → ⊥
put_some u s some e =
    let rest : List Step = deleting (first_drops s) ++ from_keep s in
    let parts : inserting (decoded (u ∷ first_puts s)) ++ rest ≡ [] = sym (packed_parts (Put u ∷ s)) ∙ e in
    let none : decoded (u ∷ first_puts s) ≡ [] = no_insert (decoded (u ∷ first_puts s)) (left_nil (inserting (decoded (u ∷ first_puts s))) rest parts) in
    let later : decoded (first_puts s) ≡ [] = right_nil (begun_by u (first_puts s)) (decoded (first_puts s)) none in
    some (packed_parts s ∙ (ap (λ w. inserting w ++ rest) later ∙ right_nil (inserting (decoded (u ∷ first_puts s))) rest parts))

cons_whole : (x : Small) (s : List Small) → IsKeptWhole s → IsKeptWhole (x ∷ s)
cons_whole Keep s q = record { whole = reach_kept_some (packed s) q.some ∙ ap suc q.whole; some = kept_some (packed s) q.some }
cons_whole Drop s q = record { whole = omega (arith, reach_parts (Drop ∷ s), reach_parts s, q.whole); some = λ e. absurd (omega (arith, reach_parts (Drop ∷ s), ap reach_of e)) }
cons_whole (Put u) s q = record { whole = omega (arith, reach_parts (Put u ∷ s), reach_parts s, q.whole); some = put_some u s q.some }

append_whole : (a b : List Small) → IsKeptWhole b → IsKeptWhole (a ++ b)
append_whole [] b q = q
append_whole (x ∷ a) b q = cons_whole x (a ++ b) (append_whole a b q)

reach_puts : (us : List ℕ) → small_reach (map Put us) ≡ 0
reach_puts [] = refl
reach_puts (u ∷ us) = reach_puts us

puts_whole : (cs : List ℕ) → 0 < unit_count cs → IsKeptWhole (map Put (units cs))
puts_whole cs lt = record {
  whole = omega (arith, reach_packed (map Put (units cs)), reach_puts (units cs));
  some = λ e.
      let all : first_puts (map Put (units cs)) ≡ units cs = simp append-nil at (puts_past (units cs) []) in
      let parts = sym (packed_parts (map Put (units cs))) ∙ e in
      let none : decoded (first_puts (map Put (units cs))) ≡ [] = no_insert _ (left_nil (inserting (decoded (first_puts (map Put (units cs))))) _ parts) in
      let chars : only_scalars cs ≡ [] = sym (decoded-units cs) ∙ (ap decoded (sym all) ∙ none) in
      absurd (omega (arith, ap length (units-only_scalars cs), ap unit_count chars));
}

drop_whole : (vs : List ℕ) → IsKeptWhole (Drop ∷ map Put vs)
drop_whole vs = record {
  whole = omega (arith, reach_packed (Drop ∷ map Put vs), reach_parts (Drop ∷ map Put vs), reach_puts vs);
  some = λ e. absurd (omega (arith, reach_parts (Drop ∷ map Put vs), ap reach_of e));
}

-- units of a character at the end of a gap
record EndsInUnits (us : List ℕ) : Type 0 where
  pub before : List ℕ
  pub last : List ℕ
  pub parts : us ≡ before ++ units last
  pub some : 0 < unit_count last

ends_whole : (us : List ℕ) → EndsInUnits us → IsKeptWhole (map Put us)
ends_whole us e = rw (e.parts, map-append) (append_whole (map Put e.before) (map Put (units e.last)) (puts_whole e.last e.some))

-- the last old unit of a base is dropped by the right alone
abbrev DropsLast : ℕ → (ℕ → Bool) → (ℕ → Bool) → Type 0
DropsLast zero lk rk = ⊥
DropsLast (suc m) lk rk = (lk m ≡ true) × (rk m ≡ false)

last_gaps : (f : Bool) (r : List ℕ) → gaps f [] r ≡ map Put r
last_gaps true r = append-nil (map Put r)
last_gaps false r = refl

moved_puts : (f : Bool) (n : ℕ) (lk : ℕ → Bool) (lg : ℕ → List ℕ) (rk : ℕ → Bool) (rg : ℕ → List ℕ) → lg n ≡ [] → EndsInUnits (rg n) → IsKeptWhole (moved f lk lg rk rg n)
moved_puts f zero lk lg rk rg e u = rw (e, last_gaps f (rg zero)) (ends_whole (rg zero) u)
moved_puts f (suc n) lk lg rk rg e u =
    let more = moved_puts f n (λ i. lk (suc i)) (λ i. lg (suc i)) (λ i. rk (suc i)) (λ i. rg (suc i)) e u in
    append_whole (gaps f (lg zero) (rg zero)) _ (append_whole (cond (lk zero) (mark (rk zero) ∷ []) []) _ more)

moved_drops : (f : Bool) (n : ℕ) (lk : ℕ → Bool) (lg : ℕ → List ℕ) (rk : ℕ → Bool) (rg : ℕ → List ℕ) → lg n ≡ [] → DropsLast n lk rk → IsKeptWhole (moved f lk lg rk rg n)
moved_drops f zero lk lg rk rg e d = absurd d
moved_drops f (suc zero) lk lg rk rg e d =
    append_whole (gaps f (lg zero) (rg zero)) _ (rw (d.0, d.1, e, last_gaps f (rg 1)) (drop_whole (rg 1)))
moved_drops f (suc (suc n)) lk lg rk rg e d =
    let more = moved_drops f (suc n) (λ i. lk (suc i)) (λ i. lg (suc i)) (λ i. rk (suc i)) (λ i. rg (suc i)) e d in
    append_whole (gaps f (lg zero) (rg zero)) _ (append_whole (cond (lk zero) (mark (rk zero) ∷ []) []) _ more)

-- where a delta with a felt end ends
abbrev FeltAt : List Small → ℕ → Type 0
FeltAt s n = EndsInUnits (gap s n) ⊎ DropsLast n (λ i. true) (keep s)

gap_past : (y : Bool) (n : ℕ) (s : List Small) (i : ℕ) → gap (replicate n (mark y) ++ s) (n + i) ≡ gap s i
gap_past y zero s i = let e : 0 + i ≡ i = omega arith in rw e refl
gap_past true (suc n) s i = let e : suc n + i ≡ suc (n + i) = omega arith in rw e (gap_past true n s i)
gap_past false (suc n) s i = let e : suc n + i ≡ suc (n + i) = omega arith in rw e (gap_past false n s i)

keep_past : (y : Bool) (n : ℕ) (s : List Small) (i : ℕ) → keep (replicate n (mark y) ++ s) (n + i) ≡ keep s i
keep_past y zero s i = let e : 0 + i ≡ i = omega arith in rw e refl
keep_past true (suc n) s i = let e : suc n + i ≡ suc (n + i) = omega arith in rw e (keep_past true n s i)
keep_past false (suc n) s i = let e : suc n + i ≡ suc (n + i) = omega arith in rw e (keep_past false n s i)

felt_past : (y : Bool) (n : ℕ) (s : List Small) (m : ℕ) → FeltAt s m → FeltAt (replicate n (mark y) ++ s) (n + m)
felt_past y n s m (inl u) = inl (rw (gap_past y n s m) u)
felt_past y n s zero (inr d) = absurd d
felt_past y n s (suc m) (inr d) = let e : n + suc m ≡ suc (n + m) = omega arith in inr (rw e (refl, keep_past y n s m ∙ d.1))

gap_puts : (us : List ℕ) (s : List Small) → gap (map Put us ++ s) zero ≡ us ++ gap s zero
gap_puts [] s = refl
gap_puts (u ∷ us) s = ap (λ w. u ∷ w) (gap_puts us s)

gap_later : (us : List ℕ) (s : List Small) (i : ℕ) → gap (map Put us ++ s) (suc i) ≡ gap s (suc i)
gap_later [] s i = refl
gap_later (u ∷ us) s i = gap_later us s i

keep_puts : (us : List ℕ) (s : List Small) (i : ℕ) → keep (map Put us ++ s) i ≡ keep s i
keep_puts [] s i = refl
keep_puts (u ∷ us) s i = keep_puts us s i

more_units : (us vs : List ℕ) → EndsInUnits vs → EndsInUnits (us ++ vs)
more_units us vs e = record { before = us ++ e.before; last = e.last; parts = ap (λ w. us ++ w) e.parts ∙ sym (append_assoc us e.before (units e.last)); some = e.some }

felt_puts : (us : List ℕ) (s : List Small) (m : ℕ) → FeltAt s m → FeltAt (map Put us ++ s) m
felt_puts us s zero (inl u) = inl (rw (gap_puts us s) (more_units us (gap s zero) u))
felt_puts us s (suc m) (inl u) = inl (rw (gap_later us s m) u)
felt_puts us s zero (inr d) = absurd d
felt_puts us s (suc m) (inr d) = inr (refl, keep_puts us s m ∙ d.1)

felt_step : (step : Step) (s : List Small) (m : ℕ) → FeltAt s m → FeltAt (small_steps step ++ s) (passed step + m)
felt_step (Retain n) s m f = felt_past true n s m f
felt_step (Delete n) s m f = felt_past false n s m f
felt_step (Insert text) s m f = let e : 0 + m ≡ m = omega arith in rw e (felt_puts (units text) s m f)

at_least : (n : ℕ) → nat_le 1 n ≡ true → 0 < n
at_least n e = grind (arith, nat_tests)

dropped : (m : ℕ) (s : List Small) → keep (replicate (suc m) Drop ++ s) m ≡ false
dropped zero s = refl
dropped (suc m) s = dropped m s

felt_last : (step : Step) → is_felt step ≡ true → FeltAt (all_small (step ∷ [])) (reach_of (step ∷ []))
felt_last (Retain n) e = cc
felt_last (Insert text) e = inl (rw (gap_puts (units text) [], append-nil (units text)) (record { before = []; last = text; parts = refl; some = at_least (unit_count text) e }))
felt_last (Delete zero) e = absurd (grind (arith, nat_tests))
felt_last (Delete (suc m)) e = let n : reach_of (Delete (suc m) ∷ []) ≡ suc m = omega (arith, sum_by-cons passed (Delete (suc m)) []) in inr (rw n (refl, dropped m []))

felt_at : (d : List Step) → ends_felt d ≡ true → FeltAt (all_small d) (reach_of d)
felt_at [] e = cc
felt_at (step ∷ []) e = felt_last step e
felt_at (step ∷ next ∷ d) e = rw (sum_by-cons passed step (next ∷ d)) (felt_step step (all_small (next ∷ d)) (reach_of (next ∷ d)) (felt_at (next ∷ d) e))

-- the reach of a transform is the length of the left's result over its base
abbrev items : (ℕ → Bool) → (ℕ → List ℕ) → ℕ → ℕ
items k g zero = length (g zero)
items k g (suc n) = length (g zero) + (cond (k zero) 1 0 + items (λ i. k (suc i)) (λ i. g (suc i)) n)

reach_append : (s t : List Small) → small_reach (s ++ t) ≡ small_reach s + small_reach t
reach_append [] t = omega arith
reach_append (Keep ∷ s) t = omega (arith, reach_append s t)
reach_append (Drop ∷ s) t = omega (arith, reach_append s t)
reach_append (Put u ∷ s) t = reach_append s t

reach_keeps : (n : ℕ) → small_reach (replicate n Keep) ≡ n
reach_keeps zero = refl
reach_keeps (suc n) = ap suc (reach_keeps n)

reach_gaps : (f : Bool) (l r : List ℕ) → small_reach (gaps f l r) ≡ length l
reach_gaps true l r = omega (arith, reach_append (map Put r) (replicate (length l) Keep), reach_puts r, reach_keeps (length l))
reach_gaps false l r = omega (arith, reach_append (replicate (length l) Keep) (map Put r), reach_puts r, reach_keeps (length l))

reach_unit : (b c : Bool) → small_reach (cond b (mark c ∷ []) []) ≡ cond b 1 0
reach_unit true true = refl
reach_unit true false = refl
reach_unit false c = refl

reach_moved : (f : Bool) (n : ℕ) (lk : ℕ → Bool) (lg : ℕ → List ℕ) (rk : ℕ → Bool) (rg : ℕ → List ℕ) → small_reach (moved f lk lg rk rg n) ≡ items lk lg n
reach_moved f zero lk lg rk rg = reach_gaps f (lg zero) (rg zero)
reach_moved f (suc n) lk lg rk rg =
    let y : List Small = moved f (λ i. lk (suc i)) (λ i. lg (suc i)) (λ i. rk (suc i)) (λ i. rg (suc i)) n in
    let x : List Small = cond (lk zero) (mark (rk zero) ∷ []) [] in
    omega (
      arith,
      reach_append (gaps f (lg zero) (rg zero)) (x ++ y),
      reach_append x y,
      reach_gaps f (lg zero) (rg zero),
      reach_unit (lk zero) (rk zero),
      reach_moved f n (λ i. lk (suc i)) (λ i. lg (suc i)) (λ i. rk (suc i)) (λ i. rg (suc i)),
    )

items_kept : (n : ℕ) → items (λ i. true) (λ i. []) n ≡ n
items_kept zero = refl
items_kept (suc n) = omega (arith, items_kept n)

items_put : (u : ℕ) (s : List Small) (n : ℕ) → items (keep s) (gap (Put u ∷ s)) n ≡ suc (items (keep s) (gap s) n)
items_put u s zero = refl
items_put u s (suc n) = omega arith

items_is : (s : List Small) (n : ℕ) → small_reach s ≤ n → items (keep s) (gap s) n ≡ small_items s + (n - small_reach s)
items_is [] n le = omega (arith, items_kept n)
items_is (Keep ∷ s) zero le = absurd (omega arith)
items_is (Keep ∷ s) (suc n) le = omega (arith, items_is s n (omega arith))
items_is (Drop ∷ s) zero le = absurd (omega arith)
items_is (Drop ∷ s) (suc n) le = omega (arith, items_is s n (omega arith))
items_is (Put u ∷ s) n le = omega (arith, items_put u s n, items_is s n le)

-- packed steps end in one that is felt
felt_nonempty : (d : List Step) → ends_felt d ≡ true → d ≡ [] → ⊥
felt_nonempty [] e z = cc
felt_nonempty (step ∷ d) e z = cc

felt_cons : (step : Step) (d : List Step) → ends_felt d ≡ true → ends_felt (step ∷ d) ≡ true
felt_cons step [] e = cc
felt_cons step (next ∷ d) e = e

felt_kept : (d : List Step) → ends_felt d ≡ true → ends_felt (kept d) ≡ true
felt_kept [] e = cc
felt_kept (Retain n ∷ []) e = cc
felt_kept (Retain n ∷ next ∷ d) e = e
felt_kept (Insert text ∷ d) e = e
felt_kept (Delete n ∷ d) e = e

abbrev EmptyOrFelt : List Step → Type 0
EmptyOrFelt d = (d ≡ []) ⊎ (ends_felt d ≡ true)

pub one_felt : (n : ℕ) → 0 < n → nat_le 1 n ≡ true
one_felt n lt = grind (arith, nat_tests)

felt_deleting : (n : ℕ) (d : List Step) → EmptyOrFelt d → EmptyOrFelt (deleting n ++ d)
felt_deleting zero d e = e
felt_deleting (suc n) d (inl e) = inr (rw e (one_felt (suc n) (omega arith)))
felt_deleting (suc n) d (inr e) = inr (felt_cons (Delete (suc n)) d e)

felt_inserting : (cs : List ℕ) (d : List Step) → AreScalars cs → EmptyOrFelt d → EmptyOrFelt (inserting cs ++ d)
felt_inserting [] d g e = e
felt_inserting (c ∷ cs) d g (inl e) = inr (rw e (one_felt (unit_count (c ∷ cs)) (omega (arith, unit_count-cons c cs, width_pos c (AreScalars-head c cs g)))))
felt_inserting (c ∷ cs) d g (inr e) = inr (felt_cons (Insert (c ∷ cs)) d e)

felt_keep : (d : List Step) → EmptyOrFelt d → EmptyOrFelt (kept d)
felt_keep d (inl e) = inl (rw e refl)
felt_keep d (inr e) = inr (felt_kept d e)

felt_stretch : (s : List Small) → EmptyOrFelt (from_keep s) → EmptyOrFelt (packed s)
felt_stretch s e = rw (packed_parts s) (felt_inserting (decoded (first_puts s)) (deleting (first_drops s) ++ from_keep s) (decoded-AreScalars (first_puts s)) (felt_deleting (first_drops s) (from_keep s) e))

felt_from : (s : List Small) → EmptyOrFelt (from_keep s)
felt_from [] = inl refl
felt_from (Keep ∷ s) = felt_keep (packed s) (felt_stretch s (felt_from s))
felt_from (Drop ∷ s) = felt_from s
felt_from (Put u ∷ s) = felt_from s

packed_felt : (s : List Small) → (packed s ≡ [] → ⊥) → ends_felt (packed s) ≡ true
packed_felt s some = elim (felt_stretch s (felt_from s)) [ inl e ↦ absurd (some e) | inr e ↦ e ]

-- the law
whole_transform : (f : Bool) (s : List Small) (d : List Step) → small_reach s < reach_of d → ends_felt d ≡ true → IsKeptWhole (transformed_small f s (all_small d))
whole_transform f s d lt e =
    let base : max (small_reach s) (small_reach (all_small d)) ≡ reach_of d = omega (arith, reach_steps d) in
    rw base (at (reach_of d) lt (felt_at d e))
  where
    at : (n : ℕ) → small_reach s < n → FeltAt (all_small d) n → IsKeptWhole (moved_over f s (all_small d) n)
    at n lt (inl u) = moved_puts f n (keep s) (gap s) (keep (all_small d)) (gap (all_small d)) (gap-past s n lt) u
    at zero lt (inr k) = absurd k
    at (suc m) lt (inr k) = moved_drops f (suc m) (keep s) (gap s) (keep (all_small d)) (gap (all_small d)) (gap-past s (suc m) lt) (keep-past s m (omega arith), k.1)

pub past_end_law : (f : Bool) (x d : List Step) (t : List ℕ) → FitsText x t → ends_felt d ≡ true → unit_count t < reach_of d → StaysPast f x d t
past_end_law f x d t fit e lt =
    let p = script_of x t fit in
    let same : unit_count (only_scalars t) ≡ unit_count t = ap length (units-only_scalars t) in
    let all : small_reach (all_small x) + p.spare ≡ unit_count t = omega (arith, small_reach-more (all_small x) p.spare, ap small_reach p.small, reach_wide p.script, ap unit_count p.from, same) in
    let made : small_items (all_small x) + p.spare ≡ unit_count (text_after x t) = items_script x (only_scalars t) p ∙ ap unit_count (sym (text_after-script x t p)) in
    let q = whole_transform f (all_small x) d (omega arith) e in
    let base : max (small_reach (all_small x)) (small_reach (all_small d)) ≡ reach_of d = omega (arith, reach_steps d) in
    let long : small_reach (transformed_small f (all_small x) (all_small d)) ≡ small_items (all_small x) + (reach_of d - small_reach (all_small x)) =
    reach_moved f (max (small_reach (all_small x)) (small_reach (all_small d))) (keep (all_small x)) (gap (all_small x)) (keep (all_small d)) (gap (all_small d))
    ∙ (ap (λ n. items (keep (all_small x)) (gap (all_small x)) n) base ∙ items_is (all_small x) (reach_of d) (omega arith)) in
    record { past = omega (arith, q.whole, long, made, all); felt = packed_felt (transformed_small f (all_small x) (all_small d)) q.some }

-- the last step of a delta
pub ends_felt-last : (d : List Step) (step : Step) → slice_get d (length d - 1) ≡ Some step → ends_felt d ≡ is_felt step
ends_felt-last [] step e = cc
ends_felt-last (first ∷ []) step e = let same : first ≡ step = cc in ap is_felt same
ends_felt-last (first ∷ next ∷ d) step e =
    let n : length (first ∷ next ∷ d) - 1 ≡ suc (length (next ∷ d) - 1) = omega arith in
    ends_felt-last (next ∷ d) step (rw n at e)

and_parts : (a b c d e : Bool) → (a && b && c && d && e) ≡ true → (a ≡ true) × (c ≡ true)
and_parts true true true d e h = (refl, refl)
and_parts true true false d e h = cc
and_parts true false c d e h = cc
and_parts false b c d e h = cc

no_retain : (b : Bool) → not (b && true) ≡ true → b ≡ false
no_retain true h = cc
no_retain false h = refl

rest_good : (b : Bool) (o : Option ℕ) (n : ℕ) → cond b o (Some n) ≡ None → (b ≡ true) × (o ≡ None)
rest_good true o n e = (refl, e)
rest_good false o n e = cc

last_from : (before after : List Step) (step : Step) → first_bad before after ≡ None → slice_get after (length after - 1) ≡ Some step → (is_proper step ≡ true) × (is_retain step ≡ false)
last_from before [] step g e = cc
last_from before (first ∷ []) step g e =
    let same : first ≡ step = cc in
    let good = rest_good (keeps_rules before first true) (first_bad (before ++ first ∷ []) []) (length before) g in
    let parts = and_parts (is_proper first) (may_end before first) (not (is_retain first && true)) _ _ good.0 in
    rw (← same) (parts.0, no_retain (is_retain first) parts.1)
last_from before (first ∷ next ∷ d) step g e =
    let n : length (first ∷ next ∷ d) - 1 ≡ suc (length (next ∷ d) - 1) = omega arith in
    let good = rest_good (keeps_rules before first (length (next ∷ d) == 0)) (first_bad (before ++ first ∷ []) (next ∷ d)) (length before) g in
    last_from (before ++ first ∷ []) (next ∷ d) step good.1 (rw n at e)

pub last_rules : (d : List Step) (step : Step) → IsCanonical d → slice_get d (length d - 1) ≡ Some step → (is_proper step ≡ true) × (is_retain step ≡ false)
last_rules d step c e = last_from [] d step c.good e

pub some_units : (text : List ℕ) → AreScalars text → is_proper (Insert text) ≡ true → 0 < unit_count text
some_units [] g p = cc
some_units (c ∷ cs) g p = omega (arith, unit_count-cons c cs, width_pos c (AreScalars-head c cs g))

pub no_last : (d : List Step) → slice_get d (length d - 1) ≡ None → d ≡ []
no_last [] e = refl
no_last (first ∷ []) e = cc
no_last (first ∷ next ∷ d) e =
    let n : length (first ∷ next ∷ d) - 1 ≡ suc (length (next ∷ d) - 1) = omega arith in
    let none : next ∷ d ≡ [] = no_last (next ∷ d) (rw n at e) in
    cc
