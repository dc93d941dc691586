-- A source has one meaning, and a path shows one thing, where no source reads as two bodies.
use Rattle.std.proofs.Common.{◌≡◌, ℕ, List, [], ◌∷◌, ◌++◌, refl, ap, subst, arith}
use Rattle.ex_model.specs.declared.bindings.Binding.{Binding}
use Rattle.ex_model.specs.declared.ran.Ran.{Ran}
use Rattle.ex_model.specs.declared.ran.Shown.{Shown}
use Rattle.ex_model.specs.Tree.{Tree}
use Rattle.ex_model.specs.Reads.{Reads}
use Rattle.ex_model.specs.Meaning.{meaning}
use Rattle.ex_model.specs.Means.{Means, is_too_long, is_unread, is_read}
use Rattle.ex_model.specs.Along.{MeansInCell, After, at_start, and_after, IsShown, is_last}

-- a source reads as one body at most
abbrev pub ReadsOnce : Type 0
ReadsOnce = (source : List ℕ) (t u : List Tree) → Reads source t → Reads source u → t ≡ u

-- a source has one meaning
pub one_meaning : ReadsOnce → {source : List ℕ} {base : List Binding} {limit : ℕ} {r s : Ran} → Means source base limit r → Means source base limit s → r ≡ s
one_meaning once (is_too_long a) (is_too_long b) = refl
one_meaning once (is_too_long a) (is_unread b d) = absurd (omega arith)
one_meaning once (is_too_long a) (is_read b d) = absurd (omega arith)
one_meaning once (is_unread a c) (is_too_long b) = absurd (omega arith)
one_meaning once (is_unread a c) (is_unread b d) = refl
one_meaning once (is_unread a c) (is_read b d) = absurd (c _ d)
one_meaning once (is_read a c) (is_too_long b) = absurd (omega arith)
one_meaning once (is_read a c) (is_unread b d) = absurd (d _ c)
one_meaning once {source} {base} {limit} (is_read {trees = t} a c) (is_read {trees = u} b d) = ap (λ trees. meaning trees base limit) (once source t u c d)

-- two lists with one more each are equal part by part
snoc_same : {X : Type 0} (xs ys : List X) (x y : X) → xs ++ x ∷ [] ≡ ys ++ y ∷ [] → (xs ≡ ys) × (x ≡ y)
snoc_same [] [] x y e = (refl, (cc))
snoc_same [] (z ∷ []) x y e = absurd (let h : [] ≡ y ∷ [] = cc in cc)
snoc_same [] (z ∷ w ∷ ys) x y e = absurd (let h : [] ≡ w ∷ (ys ++ y ∷ []) = cc in cc)
snoc_same (z ∷ []) [] x y e = absurd (let h : x ∷ [] ≡ [] = cc in cc)
snoc_same (z ∷ w ∷ xs) [] x y e = absurd (let h : w ∷ (xs ++ x ∷ []) ≡ [] = cc in cc)
snoc_same (z ∷ xs) (w ∷ ys) x y e =
    let h : xs ++ x ∷ [] ≡ ys ++ y ∷ [] = cc in
    let r = snoc_same xs ys x y h in
    let front : xs ≡ ys = r.0 in
    let first : z ≡ w = cc in
    (rw (first, front) refl, r.1)

-- a path leaves one list of bindings
pub one_after : ReadsOnce → {xs ys : List (List ℕ)} {b c : List Binding} → After xs b → After ys c → xs ≡ ys → b ≡ c
one_after once at_start at_start e = refl
one_after once at_start (and_after {sources = []} h m o) e = absurd (cc)
one_after once at_start (and_after {sources = z ∷ sources} h m o) e = absurd (cc)
one_after once (and_after {sources = []} h m o) at_start e = absurd (cc)
one_after once (and_after {sources = z ∷ sources} h m o) at_start e = absurd (cc)
one_after once (and_after {sources = xs} {base = b} {source = s} {ran = r} h m o) (and_after {sources = ys} {base = c} {source = t} {ran = q} k n p) e =
    let same = snoc_same xs ys s t e in
    let bases : b ≡ c = one_after once h k same.0 in
    let means : MeansInCell t c r = subst (λ x. MeansInCell x c r) same.1 (subst (λ x. MeansInCell s x r) bases m) in
    let rans : r ≡ q = one_meaning once means n in
    rw (bases, rans) refl

-- a path shows one thing
pub one_shown : ReadsOnce → {xs ys : List (List ℕ)} {r s : Shown} → IsShown xs r → IsShown ys s → xs ≡ ys → r ≡ s
one_shown once (is_last {sources = xs} {base = b} {source = s} {ran = r} h m) (is_last {sources = ys} {base = c} {source = t} {ran = q} k n) e =
    let same = snoc_same xs ys s t e in
    let bases : b ≡ c = one_after once h k same.0 in
    let means : MeansInCell t c r = subst (λ x. MeansInCell x c r) same.1 (subst (λ x. MeansInCell s x r) bases m) in
    ap (λ (x : Ran). x.shown) (one_meaning once means n)
