-- Sums over lists, and what numbers of their own are by sums.
use Rattle.std.proofs.Common.{◌≡◌, ℕ, ◌+◌, ◌<◌, ◌≤◌, true, false, List, [], ◌∷◌, ◌++◌, length, take, drop, get_or, map, refl, ap, ◌∙◌, arith, subst, eq-eqb, eqb-true, suc, zero}
use Rattle.std.specs.Prelude.{◌==◌, nat_lt, if◌then◌else◌, Contains, insert}
use Rattle.std.specs.List.{flat_map, AllByRecursion}
use Rattle.std.proofs.lemmas.Bool.{lt-ltb, ltb-true}
use Rattle.std.proofs.lemmas.List.{take-append-drop}
use Rattle.std.proofs.lemmas.Grind.{flat_map-append}
use Rattle.notebook.specs.declared.parts.Cell.{Cell}
use Rattle.notebook.specs.declared.parts.Section.{Section}
use Rattle.notebook.specs.Book.{cells_of}
use Rattle.notebook.specs.Rules.{AreDistinct, IsBelow}

-- the sum of what w gives of each element
abbrev pub total : {X : Type 0} → (X → ℕ) → List X → ℕ
total w [] = 0
total w (x ∷ xs) = w x + total w xs

pub total-append : {X : Type 0} (w : X → ℕ) (xs ys : List X) → total w (xs ++ ys) ≡ total w xs + total w ys
total-append w [] ys = omega arith
total-append w (x ∷ xs) ys = let rest : total w (xs ++ ys) ≡ total w xs + total w ys = total-append w xs ys in omega arith

pub total-seam : {X : Type 0} (w : X → ℕ) (xs : List X) (x : X) (ys : List X) → total w (xs ++ x ∷ ys) ≡ w x + total w (xs ++ ys)
total-seam w xs x ys =
    let one : total w (xs ++ x ∷ ys) ≡ total w xs + (w x + total w ys) = total-append w xs (x ∷ ys) in
    let two : total w (xs ++ ys) ≡ total w xs + total w ys = total-append w xs ys in
    omega arith

pub total-insert : {X : Type 0} (w : X → ℕ) (xs : List X) (i : ℕ) (x : X) → total w (insert xs i x) ≡ w x + total w xs
total-insert w xs i x = total-seam w (take i xs) x (drop i xs) ∙ ap (λ ys. w x + total w ys) (take-append-drop i xs)

pub total-map : {X Y : Type 0} (w : Y → ℕ) (f : X → Y) (xs : List X) → total w (map f xs) ≡ total (λ x. w (f x)) xs
total-map w f [] = refl
total-map w f (x ∷ xs) = ap (λ k. w (f x) + k) (total-map w f xs)

-- over the cells of sections
pub total-cells : (w : Cell → ℕ) (xs : List Section) (s : Section) (ys : List Section) → total w (flat_map cells_of (xs ++ s ∷ ys)) ≡ total w s.cells + total w (flat_map cells_of (xs ++ ys))
total-cells w xs s ys =
    let one : total w (flat_map cells_of (xs ++ s ∷ ys)) ≡ total w (flat_map cells_of xs) + total w (s.cells ++ flat_map cells_of ys) =
    ap (total w) (flat_map-append cells_of xs (s ∷ ys)) ∙ total-append w (flat_map cells_of xs) (s.cells ++ flat_map cells_of ys) in
    let two : total w (s.cells ++ flat_map cells_of ys) ≡ total w s.cells + total w (flat_map cells_of ys) = total-append w s.cells (flat_map cells_of ys) in
    let three : total w (flat_map cells_of (xs ++ ys)) ≡ total w (flat_map cells_of xs) + total w (flat_map cells_of ys) =
    ap (total w) (flat_map-append cells_of xs ys) ∙ total-append w (flat_map cells_of xs) (flat_map cells_of ys) in
    omega arith

-- 1 for the number itself
abbrev pub same : ℕ → ℕ → ℕ
same k m = if m == k then 1 else 0

-- 1 for a number that isn't below
abbrev pub late : ℕ → ℕ → ℕ
late next m = if nat_lt m next then 0 else 1

same-one : (k m : ℕ) → m ≡ k → same k m ≡ 1
same-one k m e = ap (λ b. if b then 1 else 0) (eq-eqb m k e)

-- a number that doesn't stand in a list
absent-sum : (ns : List ℕ) (k : ℕ) → (¬ Contains ns k) → total (same k) ns ≡ 0
absent-sum [] k h = refl
absent-sum (n ∷ ns) k h =
    let rest : total (same k) ns ≡ 0 = absent-sum ns k (λ (i, within, at). h (suc i, omega (arith, within), at)) in
    elim (n == k)
    as (λ b. (n == k) ≡ b → (if b then 1 else 0) + total (same k) ns ≡ 0)
    [ true ↦ λ e. absurd (h (0, omega arith, eqb-true n k e)) | false ↦ λ e. omega (arith, rest) ]
    refl

none-there : (ns : List ℕ) (k i : ℕ) → i < length ns → get_or ns i k ≡ k → total (same k) ns ≡ 0 → ⊥
none-there [] k i within at none = omega (arith, within)
none-there (n ∷ ns) k zero within at none = let one : same k n ≡ 1 = same-one k n at in omega (arith, one, none)
none-there (n ∷ ns) k (suc i) within at none = none-there ns k i (omega (arith, within)) at (omega (arith, none))

pub sum-absent : (ns : List ℕ) (k : ℕ) → total (same k) ns ≡ 0 → ¬ Contains ns k
sum-absent ns k none = λ (i, within, at). none-there ns k i within at none

-- numbers that each stand once
pub distinct-sum : (ns : List ℕ) (k : ℕ) → AreDistinct ns → total (same k) ns ≤ 1
distinct-sum [] k h = omega arith
distinct-sum (n ∷ ns) k h =
    let rest : total (same k) ns ≤ 1 = distinct-sum ns k h.1 in
    elim (n == k)
    as (λ b. (n == k) ≡ b → (if b then 1 else 0) + total (same k) ns ≤ 1) [
      | true ↦ λ e. let none : total (same k) ns ≡ 0 = subst (λ (i : ℕ). total (same i) ns ≡ 0) (eqb-true n k e) (absent-sum ns n h.0) in omega (arith, none)
      | false ↦ λ e. omega (arith, rest)
    ]
    refl

pub sum-distinct : (ns : List ℕ) → ((k : ℕ) → total (same k) ns ≤ 1) → AreDistinct ns
sum-distinct [] h = tt
sum-distinct (n ∷ ns) h =
    let one : same n n ≡ 1 = same-one n n refl in
    let all : same n n + total (same n) ns ≤ 1 = h n in
    (sum-absent ns n (omega (arith, one, all)), sum-distinct ns (λ k. let few : same k n + total (same k) ns ≤ 1 = h k in omega (arith, few)))

-- numbers below the next one
below-sum : (next : ℕ) (ns : List ℕ) → AllByRecursion (IsBelow next) ns → total (late next) ns ≡ 0
below-sum next [] h = refl
below-sum next (n ∷ ns) h =
    let here : late next n ≡ 0 = ap (λ b. if b then 0 else 1) (lt-ltb n next h.0) in
    let rest : total (late next) ns ≡ 0 = below-sum next ns h.1 in
    omega (arith, here, rest)

late-none : (next n : ℕ) → late next n ≡ 0 → n < next
late-none next n h =
    elim (nat_lt n next)
    as (λ b. nat_lt n next ≡ b → ◌≡◌ {A = ℕ} (if b then 0 else 1) 0 → n < next)
    [ true ↦ λ e g. ltb-true n next e | false ↦ λ e g. omega (arith, g) ]
    refl
    h

sum-below : (next : ℕ) (ns : List ℕ) → total (late next) ns ≡ 0 → AllByRecursion (IsBelow next) ns
sum-below next [] h = tt
sum-below next (n ∷ ns) h = (late-none next n (omega (arith, h)), sum-below next ns (omega (arith, h)))

late-one : (next n : ℕ) → late next n ≤ 1
late-one next n = elim (nat_lt n next) as (λ b. (if b then 0 else 1) ≤ 1) [ true ↦ omega arith | false ↦ omega arith ]

late-more : (next n : ℕ) → late (next + 1) n ≤ late next n
late-more next n =
    elim (nat_lt n next)
    as (λ b. nat_lt n next ≡ b → late (next + 1) n ≤ (if b then 0 else 1)) [
      | true ↦ λ e.
          let below : n < next = ltb-true n next e in
          let here : late (next + 1) n ≡ 0 = ap (λ b. if b then 0 else 1) (lt-ltb n (next + 1) (omega (arith, below))) in
          omega (arith, here)
      | false ↦ λ e. late-one (next + 1) n
    ]
    refl

lates-more : (next : ℕ) (ns : List ℕ) → total (late (next + 1)) ns ≤ total (late next) ns
lates-more next [] = omega arith
lates-more next (n ∷ ns) = omega (arith, late-more next n, lates-more next ns)

-- numbers of their own, below the next one, of which none is 0
pub record AreNumbers (next : ℕ) (ns : List ℕ) : Type 0 where
  pub distinct : AreDistinct (0 ∷ ns)
  pub below : AllByRecursion (IsBelow next) (0 ∷ ns)

-- they stay so where each stands at most as often as before
pub fewer-numbers : (next : ℕ) (ns ms : List ℕ) → AreNumbers next ns → ((w : ℕ → ℕ) → total w ms ≤ total w ns) → AreNumbers next ms
fewer-numbers next ns ms h less = record {
  distinct = sum-distinct (0 ∷ ms) (λ k. let old : same k 0 + total (same k) ns ≤ 1 = distinct-sum (0 ∷ ns) k h.distinct in omega (arith, old, less (same k)));
  below = (h.below.0, sum-below next ms (let none : total (late next) ns ≡ 0 = below-sum next ns h.below.1 in omega (arith, none, less (late next))));
}

pub fresh-sum : (next : ℕ) (ns : List ℕ) → AllByRecursion (IsBelow next) ns → total (same next) ns ≡ 0
fresh-sum next [] h = refl
fresh-sum next (n ∷ ns) h =
    let rest : total (same next) ns ≡ 0 = fresh-sum next ns h.1 in
    elim (n == next)
    as (λ b. (n == next) ≡ b → (if b then 1 else 0) + total (same next) ns ≡ 0)
    [ true ↦ λ e. absurd (let is : n ≡ next = eqb-true n next e in omega (arith, is, h.0)) | false ↦ λ e. omega (arith, rest) ]
    refl

once : (next : ℕ) (ns ms : List ℕ) (k : ℕ) → AreNumbers next ns → total (same k) ms ≤ same k next + total (same k) ns → same k 0 + total (same k) ms ≤ 1
once next ns ms k h less =
    let old : same k 0 + total (same k) ns ≤ 1 = distinct-sum (0 ∷ ns) k h.distinct in
    elim (next == k)
    as (λ b. (next == k) ≡ b → total (same k) ms ≤ (if b then 1 else 0) + total (same k) ns → same k 0 + total (same k) ms ≤ 1) [
      | true ↦ λ e l.
          let is : next ≡ k = eqb-true next k e in
          let none : same k 0 + total (same k) ns ≡ 0 = subst (λ (i : ℕ). same i 0 + total (same i) ns ≡ 0) is (fresh-sum next (0 ∷ ns) h.below) in
          omega (arith, none, l)
      | false ↦ λ e l. omega (arith, old, l)
    ]
    refl
    less

-- and where the next one is added
pub one-number : (next : ℕ) (ns ms : List ℕ) → AreNumbers next ns → ((w : ℕ → ℕ) → total w ms ≤ w next + total w ns) → AreNumbers (next + 1) ms
one-number next ns ms h less =
    let positive : 0 < next = h.below.0 in
    let none : total (late next) ns ≡ 0 = below-sum next ns h.below.1 in
    let later : total (late (next + 1)) ns ≤ total (late next) ns = lates-more next ns in
    let own : late (next + 1) next ≡ 0 = ap (λ b. if b then 0 else 1) (lt-ltb next (next + 1) (omega arith)) in
    record {
      distinct = sum-distinct (0 ∷ ms) (λ k. once next ns ms k h (less (same k)));
      below = (omega (arith, positive), sum-below (next + 1) ms (omega (arith, none, later, own, less (late (next + 1)))));
    }

-- a list of which nothing is counted
pub none-counted : {X : Type 0} (w : X → ℕ) (P : X → Type 0) → ((x : X) → P x → w x ≡ 0) → (xs : List X) → AllByRecursion P xs → total w xs ≡ 0
none-counted w P each [] h = refl
none-counted w P each (x ∷ xs) h = omega (arith, each x h.0, none-counted w P each xs h.1)

pub all-uncounted : {X : Type 0} (w : X → ℕ) (P : X → Type 0) → ((x : X) → w x ≡ 0 → P x) → (xs : List X) → total w xs ≡ 0 → AllByRecursion P xs
all-uncounted w P each [] h = tt
all-uncounted w P each (x ∷ xs) h = (each x (omega (arith, h)), all-uncounted w P each xs (omega (arith, h)))
