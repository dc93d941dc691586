-- Keeps at the end of small steps change nothing.
use Rattle.std.proofs.Common.{◌≡◌, ℕ, zero, suc, ◌+◌, ◌-◌, ◌<◌, ◌≤◌, Bool, true, false, List, [], ◌∷◌, ◌++◌, map, replicate, refl, sym, ap, ◌∙◌, arith, append_assoc, zero-add, max}
use Rattle.std.proofs.lemmas.List.{append-nil, replicate-append-replicate}
use Rattle.delta.proofs.Compositions.{followed_by}
use Rattle.delta.specs.Compose.{followed, over_base, composed_small}
use Rattle.delta.specs.Pack.{first_puts, first_drops, stretch, inserting, deleting, kept, from_keep, packed}
use Rattle.delta.specs.Spread.{Small, Keep, Drop, Put, keep, gap, small_reach, small_items}
use Rattle.delta.specs.Transform.{gaps, moved, moved_over, transformed_small}
use Rattle.utf16_text.specs.Units.{decoded}

-- packing
first_puts-more : (s : List Small) (k : ℕ) → first_puts (s ++ replicate k Keep) ≡ first_puts s
first_puts-more [] zero = refl
first_puts-more [] (suc k) = refl
first_puts-more (Keep ∷ s) k = refl
first_puts-more (Drop ∷ s) k = first_puts-more s k
first_puts-more (Put u ∷ s) k = ap (λ w. u ∷ w) (first_puts-more s k)

first_drops-more : (s : List Small) (k : ℕ) → first_drops (s ++ replicate k Keep) ≡ first_drops s
first_drops-more [] zero = refl
first_drops-more [] (suc k) = refl
first_drops-more (Keep ∷ s) k = refl
first_drops-more (Drop ∷ s) k = ap suc (first_drops-more s k)
first_drops-more (Put u ∷ s) k = first_drops-more s k

all_kept : (k : ℕ) → from_keep (replicate k Keep) ≡ []
all_kept zero = refl
all_kept (suc k) = rw (first_puts-more [] k, first_drops-more [] k) (ap kept (all_kept k))

stretch-more : (s : List Small) (k : ℕ) → stretch (s ++ replicate k Keep) ≡ stretch s
stretch-more s k = ap (λ w. inserting (decoded w) ++ deleting (first_drops (s ++ replicate k Keep))) (first_puts-more s k) ∙ ap (λ w. inserting (decoded (first_puts s)) ++ deleting w) (first_drops-more s k)

from_keep-more : (s : List Small) (k : ℕ) → from_keep (s ++ replicate k Keep) ≡ from_keep s
from_keep-more [] k = all_kept k
from_keep-more (Keep ∷ s) k = ap (λ w. kept (w ++ from_keep (s ++ replicate k Keep))) (stretch-more s k) ∙ ap (λ w. kept (stretch s ++ w)) (from_keep-more s k)
from_keep-more (Drop ∷ s) k = from_keep-more s k
from_keep-more (Put u ∷ s) k = from_keep-more s k

pub packed-more : (s : List Small) (k : ℕ) → packed (s ++ replicate k Keep) ≡ packed s
packed-more s k = ap (λ w. w ++ from_keep (s ++ replicate k Keep)) (stretch-more s k) ∙ ap (λ w. stretch s ++ w) (from_keep-more s k)

-- flags and gaps
keep-all_kept : (k i : ℕ) → keep (replicate k Keep) i ≡ true
keep-all_kept zero i = refl
keep-all_kept (suc k) zero = refl
keep-all_kept (suc k) (suc i) = keep-all_kept k i

gap-all_kept : (k i : ℕ) → gap (replicate k Keep) i ≡ []
gap-all_kept zero i = refl
gap-all_kept (suc k) zero = refl
gap-all_kept (suc k) (suc i) = gap-all_kept k i

pub keep-more : (s : List Small) (k i : ℕ) → keep (s ++ replicate k Keep) i ≡ keep s i
keep-more [] k i = keep-all_kept k i
keep-more (Keep ∷ s) k zero = refl
keep-more (Keep ∷ s) k (suc i) = keep-more s k i
keep-more (Drop ∷ s) k zero = refl
keep-more (Drop ∷ s) k (suc i) = keep-more s k i
keep-more (Put u ∷ s) k i = keep-more s k i

pub gap-more : (s : List Small) (k i : ℕ) → gap (s ++ replicate k Keep) i ≡ gap s i
gap-more [] k i = gap-all_kept k i
gap-more (Keep ∷ s) k zero = refl
gap-more (Keep ∷ s) k (suc i) = gap-more s k i
gap-more (Drop ∷ s) k zero = refl
gap-more (Drop ∷ s) k (suc i) = gap-more s k i
gap-more (Put u ∷ s) k zero = ap (λ w. u ∷ w) (gap-more s k zero)
gap-more (Put u ∷ s) k (suc i) = gap-more s k (suc i)

pub keep-past : (s : List Small) (i : ℕ) → small_reach s ≤ i → keep s i ≡ true
keep-past [] i le = refl
keep-past (Keep ∷ s) zero le = absurd (omega arith)
keep-past (Keep ∷ s) (suc i) le = keep-past s i (omega arith)
keep-past (Drop ∷ s) zero le = absurd (omega arith)
keep-past (Drop ∷ s) (suc i) le = keep-past s i (omega arith)
keep-past (Put u ∷ s) i le = keep-past s i le

pub gap-past : (s : List Small) (i : ℕ) → small_reach s < i → gap s i ≡ []
gap-past [] i lt = refl
gap-past (Keep ∷ s) zero lt = absurd (omega arith)
gap-past (Keep ∷ s) (suc i) lt = gap-past s i (omega arith)
gap-past (Drop ∷ s) zero lt = absurd (omega arith)
gap-past (Drop ∷ s) (suc i) lt = gap-past s i (omega arith)
gap-past (Put u ∷ s) zero lt = absurd (omega arith)
gap-past (Put u ∷ s) (suc i) lt = gap-past s (suc i) lt

pub small_reach-more : (s : List Small) (k : ℕ) → small_reach (s ++ replicate k Keep) ≡ small_reach s + k
small_reach-more [] zero = refl
small_reach-more [] (suc k) = ap suc (small_reach-more [] k) ∙ omega arith
small_reach-more (Keep ∷ s) k = omega (arith, small_reach-more s k)
small_reach-more (Drop ∷ s) k = omega (arith, small_reach-more s k)
small_reach-more (Put u ∷ s) k = small_reach-more s k

pub small_items-more : (s : List Small) (k : ℕ) → small_items (s ++ replicate k Keep) ≡ small_items s + k
small_items-more [] zero = refl
small_items-more [] (suc k) = ap suc (small_items-more [] k) ∙ omega arith
small_items-more (Keep ∷ s) k = omega (arith, small_items-more s k)
small_items-more (Drop ∷ s) k = small_items-more s k
small_items-more (Put u ∷ s) k = omega (arith, small_items-more s k)

-- the same flags and gaps move the same
moved-same : (f : Bool) (n : ℕ) (lk lk' : ℕ → Bool) (lg lg' : ℕ → List ℕ) (rk rk' : ℕ → Bool) (rg rg' : ℕ → List ℕ)
    → ((i : ℕ) → lk i ≡ lk' i) → ((i : ℕ) → lg i ≡ lg' i) → ((i : ℕ) → rk i ≡ rk' i) → ((i : ℕ) → rg i ≡ rg' i)
    → moved f lk lg rk rg n ≡ moved f lk' lg' rk' rg' n
moved-same f zero lk lk' lg lg' rk rk' rg rg' a b c d = rw (b zero, d zero) refl
moved-same f (suc n) lk lk' lg lg' rk rk' rg rg' a b c d =
    let more = moved-same f n (λ i. lk (suc i)) (λ i. lk' (suc i)) (λ i. lg (suc i)) (λ i. lg' (suc i)) (λ i. rk (suc i)) (λ i. rk' (suc i)) (λ i. rg (suc i)) (λ i. rg' (suc i))
    (λ i. a (suc i)) (λ i. b (suc i)) (λ i. c (suc i)) (λ i. d (suc i)) in
    rw (a zero, b zero, c zero, d zero, more) refl

-- past both reaches everything stays
moved-past : (f : Bool) (e : ℕ) (lk : ℕ → Bool) (lg : ℕ → List ℕ) (rk : ℕ → Bool) (rg : ℕ → List ℕ)
    → ((i : ℕ) → lk i ≡ true) → ((i : ℕ) → lg (suc i) ≡ []) → ((i : ℕ) → rk i ≡ true) → ((i : ℕ) → rg (suc i) ≡ [])
    → moved f lk lg rk rg e ≡ gaps f (lg zero) (rg zero) ++ replicate e Keep
moved-past f zero lk lg rk rg a b c d = sym (append-nil (gaps f (lg zero) (rg zero)))
moved-past f (suc e) lk lg rk rg a b c d =
    let more = moved-past f e (λ i. lk (suc i)) (λ i. lg (suc i)) (λ i. rk (suc i)) (λ i. rg (suc i)) (λ i. a (suc i)) (λ i. b (suc i)) (λ i. c (suc i)) (λ i. d (suc i)) in
    rw (a zero, c zero) (ap (λ w. gaps f (lg zero) (rg zero) ++ (Keep ∷ w)) (more ∙ rw (b zero, d zero) (none f)))
  where
    none : (f : Bool) → gaps f [] [] ++ replicate e Keep ≡ replicate e Keep
    none true = refl
    none false = refl

moved-longer : (f : Bool) (n e : ℕ) (lk : ℕ → Bool) (lg : ℕ → List ℕ) (rk : ℕ → Bool) (rg : ℕ → List ℕ)
    → ((i : ℕ) → n ≤ i → lk i ≡ true) → ((i : ℕ) → n < i → lg i ≡ []) → ((i : ℕ) → n ≤ i → rk i ≡ true) → ((i : ℕ) → n < i → rg i ≡ [])
    → moved f lk lg rk rg (n + e) ≡ moved f lk lg rk rg n ++ replicate e Keep
moved-longer f zero e lk lg rk rg a b c d =
    rw zero-add (moved-past f e lk lg rk rg (λ i. a i (omega arith)) (λ i. b (suc i) (omega arith)) (λ i. c i (omega arith)) (λ i. d (suc i) (omega arith)))
moved-longer f (suc n) e lk lg rk rg a b c d =
    let more = moved-longer f n e (λ i. lk (suc i)) (λ i. lg (suc i)) (λ i. rk (suc i)) (λ i. rg (suc i))
    (λ i le. a (suc i) (omega arith)) (λ i lt. b (suc i) (omega arith)) (λ i le. c (suc i) (omega arith)) (λ i lt. d (suc i) (omega arith)) in
    let m : suc n + e ≡ suc (n + e) = omega arith in
    rw (m, more, append_assoc, append_assoc) refl

-- a transform over any base that is long enough, with Keeps at the end of each
pub transformed_small-more : (f : Bool) (s t : List Small) (j k n : ℕ) → small_reach s ≤ n → small_reach t ≤ n
    → packed (moved_over f (s ++ replicate j Keep) (t ++ replicate k Keep) n) ≡ packed (transformed_small f s t)
transformed_small-more f s t j k n a b =
    let m : ℕ = max (small_reach s) (small_reach t) in
    let longer : n ≡ m + (n - m) = omega arith in
    let same : moved_over f (s ++ replicate j Keep) (t ++ replicate k Keep) n ≡ moved_over f s t n =
    moved-same f n (keep (s ++ replicate j Keep)) (keep s) (gap (s ++ replicate j Keep)) (gap s) (keep (t ++ replicate k Keep)) (keep t) (gap (t ++ replicate k Keep)) (gap t)
    (keep-more s j) (gap-more s j) (keep-more t k) (gap-more t k) in
    let past : moved_over f s t (m + (n - m)) ≡ moved_over f s t m ++ replicate (n - m) Keep =
    moved-longer f m (n - m) (keep s) (gap s) (keep t) (gap t)
    (λ i le. keep-past s i (omega arith)) (λ i lt. gap-past s i (omega arith)) (λ i le. keep-past t i (omega arith)) (λ i lt. gap-past t i (omega arith)) in
    ap packed (same ∙ (ap (λ x. moved_over f s t x) longer ∙ past)) ∙ packed-more (moved_over f s t m) (n - m)

-- the same flags and gaps follow the same
followed-same : (a : List Small) (k k' : ℕ → Bool) (g g' : ℕ → List ℕ) → ((i : ℕ) → k i ≡ k' i) → ((i : ℕ) → g i ≡ g' i) → followed k g a ≡ followed k' g' a
followed-same [] k k' g g' p q = rw (q zero) refl
followed-same (Drop ∷ a) k k' g g' p q = ap (λ w. Drop ∷ w) (followed-same a k k' g g' p q)
followed-same (Keep ∷ a) k k' g g' p q =
    let more = followed-same a (λ i. k (suc i)) (λ i. k' (suc i)) (λ i. g (suc i)) (λ i. g' (suc i)) (λ i. p (suc i)) (λ i. q (suc i)) in
    rw (p zero, q zero, more) refl
followed-same (Put u ∷ a) k k' g g' p q =
    let more = followed-same a (λ i. k (suc i)) (λ i. k' (suc i)) (λ i. g (suc i)) (λ i. g' (suc i)) (λ i. p (suc i)) (λ i. q (suc i)) in
    rw (p zero, q zero, more) refl

followed-past : (e : ℕ) (k : ℕ → Bool) (g : ℕ → List ℕ) → ((i : ℕ) → k i ≡ true) → ((i : ℕ) → g (suc i) ≡ []) → followed k g (replicate e Keep) ≡ map Put (g zero) ++ replicate e Keep
followed-past zero k g p q = sym (append-nil (map Put (g zero)))
followed-past (suc e) k g p q =
    let more = followed-past e (λ i. k (suc i)) (λ i. g (suc i)) (λ i. p (suc i)) (λ i. q (suc i)) in
    rw (p zero) (ap (λ w. map Put (g zero) ++ (Keep ∷ w)) (more ∙ rw (q zero) refl))

followed-longer : (a : List Small) (e : ℕ) (k : ℕ → Bool) (g : ℕ → List ℕ) → ((i : ℕ) → small_items a ≤ i → k i ≡ true) → ((i : ℕ) → small_items a < i → g i ≡ [])
    → followed k g (a ++ replicate e Keep) ≡ followed k g a ++ replicate e Keep
followed-longer [] e k g p q = followed-past e k g (λ i. p i (omega arith)) (λ i. q (suc i) (omega arith))
followed-longer (Drop ∷ a) e k g p q = ap (λ w. Drop ∷ w) (followed-longer a e k g p q)
followed-longer (Keep ∷ a) e k g p q =
    let more = followed-longer a e (λ i. k (suc i)) (λ i. g (suc i)) (λ i le. p (suc i) (omega arith)) (λ i lt. q (suc i) (omega arith)) in
    rw (more, append_assoc) refl
followed-longer (Put u ∷ a) e k g p q =
    let more = followed-longer a e (λ i. k (suc i)) (λ i. g (suc i)) (λ i le. p (suc i) (omega arith)) (λ i lt. q (suc i) (omega arith)) in
    rw (more, append_assoc, append_assoc) refl

-- a composition over any base that is long enough, with Keeps at the end of the second
pub composed_small-more : (a b : List Small) (j k : ℕ) → small_reach b ≤ small_items a + j → packed (followed_by (b ++ replicate k Keep) (a ++ replicate j Keep)) ≡ packed (composed_small a b)
composed_small-more a b j k le =
    let m : ℕ = small_reach b - small_items a in
    let longer : j ≡ m + (j - m) = omega arith in
    let parts : a ++ replicate j Keep ≡ over_base a b ++ replicate (j - m) Keep =
    ap (λ n. a ++ replicate n Keep) longer ∙ (ap (λ w. a ++ w) (sym (replicate-append-replicate m (j - m) Keep)) ∙ sym (append_assoc a (replicate m Keep) (replicate (j - m) Keep))) in
    let enough : small_reach b ≤ small_items (over_base a b) = omega (arith, small_items-more a m) in
    let same : followed_by (b ++ replicate k Keep) (a ++ replicate j Keep) ≡ followed_by b (a ++ replicate j Keep) =
    followed-same (a ++ replicate j Keep) (keep (b ++ replicate k Keep)) (keep b) (gap (b ++ replicate k Keep)) (gap b) (keep-more b k) (gap-more b k) in
    let past : followed_by b (over_base a b ++ replicate (j - m) Keep) ≡ composed_small a b ++ replicate (j - m) Keep =
    followed-longer (over_base a b) (j - m) (keep b) (gap b) (λ i le. keep-past b i (omega arith)) (λ i lt. gap-past b i (omega arith)) in
    ap packed (same ∙ (ap (λ w. followed_by b w) parts ∙ past)) ∙ packed-more (composed_small a b) (j - m)
