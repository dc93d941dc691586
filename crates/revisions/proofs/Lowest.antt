-- The least floor, and floors that are put in and taken away.
use Rattle.std.proofs.Common.{◌≡◌, ℕ, ◌≤◌, ◌==◌, max, min, Bool, true, false, if◌then◌else◌, List, [], ◌∷◌, ◌++◌, refl, ap, ◌∙◌, arith}
use Rattle.std.specs.Prelude.{filter, not}
use Rattle.std.proofs.lemmas.Bool.Decides.{nat_tests}
use Rattle.revisions.specs.declared.floors.Floor.{Floor}
use Rattle.revisions.specs.Floors.{has_floor, is_of_other, lowest, raised, raised_one, with_client, without}

pub lowest-le : (rev : ℕ) (fs : List Floor) → lowest rev fs ≤ rev
lowest-le rev [] = omega arith
lowest-le rev (f ∷ fs) = omega (arith, lowest-le (min rev f.rev) fs)

lowest-min : (a b : ℕ) (fs : List Floor) → lowest (min a b) fs ≡ min a (lowest b fs)
lowest-min a b [] = refl
lowest-min a b (f ∷ fs) =
    let same : min (min a b) f.rev ≡ min a (min b f.rev) = omega arith in
    ap (λ k. lowest k fs) same ∙ lowest-min a (min b f.rev) fs

-- the first floor and the others
pub lowest-cons : (rev : ℕ) (f : Floor) (fs : List Floor) → lowest rev (f ∷ fs) ≡ min f.rev (lowest rev fs)
lowest-cons rev f fs =
    let turned : min rev f.rev ≡ min f.rev rev = omega arith in
    ap (λ k. lowest k fs) turned ∙ lowest-min f.rev rev fs

-- raised floors and a raised revision lower nothing
raised-up : (n r : ℕ) (f : Floor) → f.rev ≤ (raised_one n r f).rev
raised-up n r f = elim (f.client == n) as (λ b. f.rev ≤ (if b then max f.rev r else f.rev)) [ true ↦ omega arith | false ↦ omega arith ]

pub lowest-rises : (n r a b : ℕ) (fs : List Floor) → a ≤ b → lowest a fs ≤ lowest b (raised n r fs)
lowest-rises n r a b [] h = h
lowest-rises n r a b (f ∷ fs) h = lowest-rises n r (min a f.rev) (min b (raised_one n r f).rev) fs (omega (arith, raised-up n r f))

-- a floor at the revision lowers nothing
lowest-more : (rev : ℕ) (fs : List Floor) (f : Floor) → rev ≤ f.rev → lowest rev (fs ++ f ∷ []) ≡ lowest rev fs
lowest-more rev [] f h = omega arith
lowest-more rev (g ∷ fs) f h = lowest-more (min rev g.rev) fs f (omega arith)

-- fewer floors lower nothing
lowest-fewer : (p : Floor → Bool) (a b : ℕ) (fs : List Floor) → a ≤ b → lowest a fs ≤ lowest b (filter p fs)
lowest-fewer p a b [] h = h
lowest-fewer p a b (f ∷ fs) h =
    elim (p f)
    as (λ t. lowest (min a f.rev) fs ≤ lowest b (if t then f ∷ filter p fs else filter p fs))
    [ true ↦ lowest-fewer p (min a f.rev) (min b f.rev) fs (omega arith) | false ↦ lowest-fewer p (min a f.rev) b fs (omega arith) ]

pub lowest-left : (client rev : ℕ) (fs : List Floor) → lowest rev fs ≤ lowest rev (without client fs)
lowest-left client rev fs = lowest-fewer (is_of_other client) rev rev fs (omega arith)

-- a client that joins lowers nothing
pub lowest-joined : (client rev : ℕ) (fs : List Floor) → lowest rev fs ≤ lowest rev (with_client client rev fs)
lowest-joined client rev fs = omega (arith, lowest-left client rev fs, lowest-more rev (without client fs) (record { client = client; rev = rev }) (omega arith))

-- without a client that has no floor
pub without-stranger : (client : ℕ) (fs : List Floor) → has_floor client fs ≡ false → without client fs ≡ fs
without-stranger client [] e = refl
without-stranger client (f ∷ fs) e =
    elim (f.client == client)
    as (λ b. (if b then true else has_floor client fs) ≡ false → (if not b then f ∷ without client fs else without client fs) ≡ f ∷ fs)
    [ true ↦ λ k. absurd (cc k) | false ↦ λ k. ap (λ w. f ∷ w) (without-stranger client fs k) ]
    e

-- a client that joins and leaves
without-last : (client rev : ℕ) (fs : List Floor) → without client (fs ++ record { client = client; rev = rev } ∷ []) ≡ without client fs
without-last client rev [] = ap (λ b. if not b then record { client = client; rev = rev } ∷ [] else []) {y = true} (grind (arith, nat_tests))
without-last client rev (f ∷ fs) = ap (λ w. if not (f.client == client) then f ∷ w else w) (without-last client rev fs)

without-twice : (client : ℕ) (fs : List Floor) → without client (without client fs) ≡ without client fs
without-twice client [] = refl
without-twice client (f ∷ fs) =
    elim (f.client == client)
    as (λ b. (f.client == client) ≡ b → without client (if not b then f ∷ without client fs else without client fs) ≡ (if not b then f ∷ without client fs else without client fs)) [
      | true ↦ λ t. without-twice client fs
      | false ↦ λ t. ap (λ b. if not b then f ∷ without client (without client fs) else without client (without client fs)) t ∙ ap (λ w. f ∷ w) (without-twice client fs)
    ]
    refl

pub without-joined : (client rev : ℕ) (fs : List Floor) → without client (with_client client rev fs) ≡ without client fs
without-joined client rev fs = without-last client rev (without client fs) ∙ without-twice client fs
