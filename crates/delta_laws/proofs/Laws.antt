-- The laws of deltas, by what each does to the characters of the text.
use Rattle.std.proofs.Common.{◌≡◌, ℕ, zero, suc, ◌+◌, ◌≤◌, Bool, true, false, cond, List, [], ◌∷◌, ◌++◌, length, replicate, refl, sym, ap, ◌∙◌, arith, max}
use Rattle.std.proofs.lemmas.List.{append-nil, replicate-append-replicate}
use Rattle.std.specs.Prelude.{not}
use Rattle.utf16_text.proofs.Decoding.{only_scalars, only_scalars-AreScalars, decoded-AreScalars, decoded-units-AreScalars, units-only_scalars}
use Rattle.utf16_text.specs.Units.{units, unit_count, decoded, AreScalars}
use Rattle.delta.proofs.Compositions.{followed_by}
use Rattle.delta.proofs.Run.{woven_is_run}
use Rattle.delta.specs.Moves.{FitsText, text_after, composed, transformed}
use Rattle.delta.specs.Pack.{packed}
use Rattle.delta.specs.Spread.{Keep, keep, gap, small_reach, small_items}
use Rattle.delta.specs.Steps.{all_small, applied}
use Rattle.delta.specs.Transform.{moved, moved_over, gaps}
use Rattle.delta.specs.declared.Step.{Step}
use Rattle.delta_laws.specs.Laws.{IsPairMoved, IsPairComposed, IsNothing, DeltaLaws}
use Rattle.delta_laws.proofs.Following.{followed_scripts}
use Rattle.delta_laws.proofs.Misfits.{fits-from, misfit-none}
use Rattle.delta_laws.proofs.Packing.{packed_script}
use Rattle.delta_laws.proofs.Padding.{transformed_small-more, composed_small-more, packed-more}
use Rattle.delta_laws.proofs.PastEnds.{past_end_law}
use Rattle.delta_laws.proofs.Reaches.{reach_script, items_script}
use Rattle.delta_laws.proofs.Scripts.{Op, old, new, wide, AreGood, IsScript, script_of, text_after-script, FitsText-from_only_scalars}
use Rattle.delta_laws.proofs.Transforming.{moved_scripts}

-- a transform of deltas is the packed transform of their scripts
transformed_scripts : (f : Bool) (a b : List Step) (t : List ℕ) (p : IsScript a t) (q : IsScript b t) → transformed f a b ≡ packed (moved_over f (wide p.script) (wide q.script) (unit_count t))
transformed_scripts f a b t p q =
    sym (transformed_small-more f (all_small a) (all_small b) p.spare q.spare (unit_count t) (reach_script a t p) (reach_script b t q))
    ∙ (ap (λ w. packed (moved_over f w (all_small b ++ replicate q.spare Keep) (unit_count t))) p.small ∙ ap (λ w. packed (moved_over f (wide p.script) w (unit_count t))) q.small)

-- a packed script fits the text that it begins from, and makes its own
fits_from : (d : List Step) (s : List Op) (t : List ℕ) → d ≡ packed (wide s) → old s ≡ t → AreGood s → FitsText d t × (text_after d t ≡ new s)
fits_from d s t e o g = rw (e, ← o) (packed_script s g)

pub moved_law : (f : Bool) (a b : List Step) (t : List ℕ) → FitsText a t → FitsText b t → IsPairMoved f a b t
moved_law f a b t fa fb =
    let p = script_of a t fa in
    let q = script_of b t fb in
    let m = moved_scripts f p.script q.script (p.from ∙ sym q.from) p.good q.good in
    let after_a : text_after a t ≡ new p.script = text_after-script a t p in
    let after_b : text_after b t ≡ new q.script = text_after-script b t q in
    let right_is : transformed f a b ≡ packed (wide m.right) =
    transformed_scripts f a b (only_scalars t) p q ∙ ap packed (ap (λ w. moved_over f (wide p.script) (wide q.script) (unit_count w)) (sym p.from) ∙ m.right_small) in
    let left_is : transformed (not f) b a ≡ packed (wide m.left) =
    transformed_scripts (not f) b a (only_scalars t) q p ∙ ap packed (ap (λ w. moved_over (not f) (wide q.script) (wide p.script) (unit_count w)) (sym q.from) ∙ m.left_small) in
    let right = fits_from (transformed f a b) m.right (text_after a t) right_is (m.right_from ∙ sym after_a) m.right_good in
    let left = fits_from (transformed (not f) b a) m.left (text_after b t) left_is (m.left_from ∙ sym after_b) m.left_good in
    record { right_fits = right.0; left_fits = left.0; one_text = right.1 ∙ (m.same ∙ sym left.1) }

pub composed_law : (a b : List Step) (t : List ℕ) → FitsText a t → FitsText b (text_after a t) → IsPairComposed a b t
composed_law a b t fa fb =
    let p = script_of a t fa in
    let q = script_of b (text_after a t) fb in
    let after_a : text_after a t ≡ new p.script = text_after-script a t p in
    let same_text : only_scalars (text_after a t) ≡ text_after a t = only_scalars-AreScalars (text_after a t) (decoded-AreScalars (applied a (units t))) in
    let m = followed_scripts p.script q.script (sym after_a ∙ (sym same_text ∙ sym q.from)) p.good q.good in
    let enough : small_reach (all_small b) ≤ small_items (all_small a) + p.spare =
    omega (arith, reach_script b (only_scalars (text_after a t)) q, items_script a (only_scalars t) p, ap unit_count same_text, ap unit_count after_a) in
    let is : composed a b ≡ packed (wide m.script) =
    sym (composed_small-more (all_small a) (all_small b) p.spare q.spare enough)
    ∙ (ap (λ w. packed (followed_by w (all_small a ++ replicate p.spare Keep))) q.small ∙ (ap (λ w. packed (followed_by (wide q.script) w)) p.small ∙ ap packed m.small)) in
    let whole = fits_from (composed a b) m.script (only_scalars t) is (m.from ∙ p.from) m.good in
    let same_units : text_after (composed a b) (only_scalars t) ≡ text_after (composed a b) t = ap (λ us. decoded (applied (composed a b) us)) (units-only_scalars t) in
    record { fits = FitsText-from_only_scalars (composed a b) t whole.0; one_text = sym same_units ∙ (whole.1 ∙ (m.to ∙ sym (text_after-script b (text_after a t) q))) }

empty_list : (d : List Step) → length d ≡ 0 → d ≡ []
empty_list [] e = refl
empty_list (s ∷ d) e = absurd (omega arith)

gaps_kept : (f : Bool) (l : List ℕ) → gaps f l [] ≡ replicate (length l) Keep
gaps_kept true l = refl
gaps_kept false l = append-nil (replicate (length l) Keep)

unit_kept : (b : Bool) (k : ℕ) → (j : ℕ) × (cond b (Keep ∷ []) [] ++ replicate k Keep ≡ replicate j Keep)
unit_kept true k = (suc k, refl)
unit_kept false k = (k, refl)

-- an empty right puts nothing in and drops nothing
only_keeps : (f : Bool) (lk : ℕ → Bool) (lg : ℕ → List ℕ) (n : ℕ) → (k : ℕ) × (moved f lk lg (λ i. true) (λ i. []) n ≡ replicate k Keep)
only_keeps f lk lg zero = (length (lg zero), gaps_kept f (lg zero))
only_keeps f lk lg (suc n) =
    let more = only_keeps f (λ i. lk (suc i)) (λ i. lg (suc i)) n in
    let one = unit_kept (lk zero) more.0 in
    (length (lg zero) + one.0, rw (gaps_kept f (lg zero), more.1, one.1) (replicate-append-replicate (length (lg zero)) one.0 Keep))

empty_moved_law : (f : Bool) (x : List Step) → transformed f x [] ≡ []
empty_moved_law f x =
    let k = only_keeps f (keep (all_small x)) (gap (all_small x)) (max (small_reach (all_small x)) 0) in
    ap packed k.1 ∙ packed-more [] k.0

empty_text_law : (t : List ℕ) → AreScalars t → text_after [] t ≡ t
empty_text_law t g = ap decoded (woven_is_run [] (units t)) ∙ decoded-units-AreScalars t g

pub nothing_law : IsNothing []
nothing_law = record {
  fits = λ t. record { within = omega arith; whole = refl };
  text = empty_text_law;
  moved = empty_moved_law;
}

pub delta_laws : DeltaLaws
delta_laws = record {
  moved = moved_law;
  one_after_the_other = composed_law;
  empty = empty_list;
  nothing = nothing_law;
  past_end = past_end_law;
  makes_text = λ d t. decoded-AreScalars (applied d (units t));
  fits = fits-from;
  no_misfit = misfit-none;
}
