-- Packed steps are canonical.
use Rattle.std.proofs.Common.{◌≡◌, ℕ, zero, suc, ◌+◌, ◌-◌, ◌^◌, ◌≤◌, ◌==◌, Bool, true, false, ◌&&◌, cond, List, [], ◌∷◌, ◌++◌, length, length-append, map, replicate, Option, Some, None, refl, sym, ap, ◌∙◌, arith, append_assoc, max}
use Rattle.std.proofs.lemmas.Bool.Decides.{nat_tests}
use Rattle.std.proofs.lemmas.List.Sums.{sum_by-cons, sum_by-append}
use Rattle.std.specs.Prelude.{nat_le, not, slice_get}
use Rattle.delta.proofs.Halves.{unit_count-decoded}
use Rattle.utf16_text.specs.Units.{units, unit_count, decoded}
use Rattle.delta.specs.Canonical.{is_proper, may_come_after, may_end, is_retain, keeps_rules, first_bad, bad_step}
use Rattle.delta.specs.Compose.{mark, followed, over_base, composed_small}
use Rattle.delta.specs.Pack.{first_puts, first_drops, inserting, deleting, kept, from_keep, packed}
use Rattle.delta.specs.Spread.{Small, Keep, Drop, Put, keep, gap, small_reach, small_items}
use Rattle.delta.specs.Steps.{passed, put_in, reach_of, inserted_by, small_steps, all_small}
use Rattle.delta.specs.Transform.{gaps, moved, transformed_small}
use Rattle.delta.specs.declared.Step.{Step}
use Rattle.delta.specs.declared.Step.TheVariants.{Retain, Insert, Delete}

-- the steps may stand after a step, or at the begin
pub record Stands (last : Option Step) (step : Step) (after : List Step) : Type 0 where
  pub proper : is_proper step ≡ true
  pub follows : may_come_after last step ≡ true
  pub more : not (is_retain step && (length after == 0)) ≡ true

abbrev pub Follows : Option Step → List Step → Type 0
Follows last [] = Unit {0}
Follows last (step ∷ after) = Stands last step after × Follows (Some step) after

last_of : (before : List Step) (step : Step) → slice_get (before ++ step ∷ []) (length (before ++ step ∷ []) - 1) ≡ Some step
last_of before step =
    let n : length (before ++ step ∷ []) - 1 ≡ length before = omega (arith, length-append before (step ∷ [])) in
    rw n (at before)
  where
    at : (xs : List Step) → slice_get (xs ++ step ∷ []) (length xs) ≡ Some step
    at [] = refl
    at (x ∷ xs) = at xs

all_five : (a b c d e : Bool) → a ≡ true → b ≡ true → c ≡ true → d ≡ true → e ≡ true → (a && b && c && d && e) ≡ true
all_five a b c d e p q r s t = rw (p, q, r, s, t) refl

within : (m n : ℕ) → m ≤ n → nat_le m n ≡ true
within m n le = grind (arith, nat_tests)

no_bad : (before after : List Step) (last : Option Step) → last ≡ slice_get before (length before - 1) → Follows last after → reach_of before + reach_of after ≤ 2 ^ 62 → inserted_by before + inserted_by after ≤ 2 ^ 62
    → first_bad before after ≡ None
no_bad before [] last e f r i = refl
no_bad before (step ∷ after) last e f r i =
    let good : keeps_rules before step (length after == 0) ≡ true =
    all_five (is_proper step) (may_end before step) (not (is_retain step && (length after == 0))) (nat_le (reach_of before + passed step) (2 ^ 62)) (nat_le (inserted_by before + put_in step) (2 ^ 62)) f.0.proper
    (rw e at f.0.follows) f.0.more (within _ _ (omega (arith, sum_by-cons passed step after))) (within _ _ (omega (arith, sum_by-cons put_in step after))) in
    rw good
    (no_bad (before ++ step ∷ []) after (Some step) (sym (last_of before step)) f.1
    (omega (arith, sum_by-append passed before (step ∷ []), sum_by-cons passed step after, sum_by-cons passed step []))
    (omega (arith, sum_by-append put_in before (step ∷ []), sum_by-cons put_in step after, sum_by-cons put_in step [])))

-- a step that a retain may stand after
abbrev pub NotRetain : Option Step → Type 0
NotRetain None = Unit {0}
NotRetain (Some (Retain n)) = ⊥
NotRetain (Some (Insert text)) = Unit {0}
NotRetain (Some (Delete n)) = Unit {0}

retain_after : (last : Option Step) (n : ℕ) → NotRetain last → may_come_after last (Retain n) ≡ true
retain_after None n h = refl
retain_after (Some (Retain m)) n h = absurd h
retain_after (Some (Insert text)) n h = refl
retain_after (Some (Delete m)) n h = refl

-- how long a retain is makes no difference to what follows it
other_retain : (m n : ℕ) (d : List Step) → Follows (Some (Retain m)) d → Follows (Some (Retain n)) d
other_retain m n [] f = tt
other_retain m n (Retain k ∷ d) f = absurd (cc (f.0.follows))
other_retain m n (Insert text ∷ d) f = (record { proper = f.0.proper; follows = refl; more = f.0.more }, f.1)
other_retain m n (Delete k ∷ d) f = (record { proper = f.0.proper; follows = refl; more = f.0.more }, f.1)

some_follow : (n : ℕ) → not (suc n == 0) ≡ true
some_follow n = grind (arith, nat_tests)

kept_follows : (last : Option Step) (d : List Step) → NotRetain last → Follows None d → Follows last (kept d)
kept_follows last [] h f = tt
kept_follows last (Retain n ∷ d) h f = (record { proper = within 1 (suc n) (omega arith); follows = retain_after last (suc n) h; more = f.0.more }, other_retain n (suc n) d f.1)
kept_follows last (Insert text ∷ d) h f =
    (record { proper = refl; follows = retain_after last 1 h; more = some_follow (length d) }, (record { proper = f.0.proper; follows = refl; more = f.0.more }, f.1))
kept_follows last (Delete n ∷ d) h f =
    (record { proper = refl; follows = retain_after last 1 h; more = some_follow (length d) }, (record { proper = f.0.proper; follows = refl; more = f.0.more }, f.1))

-- a stretch, and what follows it
stretch_follows : (cs : List ℕ) (n : ℕ) (d : List Step) → ((last : Option Step) → NotRetain last → Follows last d) → Follows None (inserting cs ++ (deleting n ++ d))
stretch_follows [] zero d f = f None tt
stretch_follows [] (suc n) d f = (record { proper = within 1 (suc n) (omega arith); follows = refl; more = refl }, f (Some (Delete (suc n))) tt)
stretch_follows (c ∷ cs) zero d f = (record { proper = within 1 (suc (length cs)) (omega arith); follows = refl; more = refl }, f (Some (Insert (c ∷ cs))) tt)
stretch_follows (c ∷ cs) (suc n) d f =
    (record { proper = within 1 (suc (length cs)) (omega arith); follows = refl; more = refl }, (record { proper = within 1 (suc n) (omega arith); follows = refl; more = refl }, f (Some (Delete (suc n))) tt))

pub packed_parts : (s : List Small) → packed s ≡ inserting (decoded (first_puts s)) ++ (deleting (first_drops s) ++ from_keep s)
packed_parts s = append_assoc (inserting (decoded (first_puts s))) (deleting (first_drops s)) (from_keep s)

packed_follows : (s : List Small) → ((last : Option Step) → NotRetain last → Follows last (from_keep s)) → Follows None (packed s)
packed_follows s f = rw (packed_parts s) (stretch_follows (decoded (first_puts s)) (first_drops s) (from_keep s) f)

from_keep_follows : (s : List Small) (last : Option Step) → NotRetain last → Follows last (from_keep s)
from_keep_follows [] last h = tt
from_keep_follows (Keep ∷ s) last h = kept_follows last (packed s) h (packed_follows s (λ l n. from_keep_follows s l n))
from_keep_follows (Drop ∷ s) last h = from_keep_follows s last h
from_keep_follows (Put u ∷ s) last h = from_keep_follows s last h

-- the sums
abbrev pub small_puts : List Small → ℕ
small_puts [] = zero
small_puts (Keep ∷ s) = small_puts s
small_puts (Drop ∷ s) = small_puts s
small_puts (Put u ∷ s) = suc (small_puts s)

reach_kept : (d : List Step) → reach_of (kept d) ≤ suc (reach_of d)
reach_kept [] = omega arith
reach_kept (Retain n ∷ d) = omega (arith, sum_by-cons passed (Retain n) d, sum_by-cons passed (Retain (suc n)) d)
reach_kept (Insert text ∷ d) = omega (arith, sum_by-cons passed (Retain 1) (Insert text ∷ d))
reach_kept (Delete n ∷ d) = omega (arith, sum_by-cons passed (Retain 1) (Delete n ∷ d))

inserted_kept : (d : List Step) → inserted_by (kept d) ≡ inserted_by d
inserted_kept [] = refl
inserted_kept (Retain n ∷ d) = omega (arith, sum_by-cons put_in (Retain n) d, sum_by-cons put_in (Retain (suc n)) d)
inserted_kept (Insert text ∷ d) = omega (arith, sum_by-cons put_in (Retain 1) (Insert text ∷ d))
inserted_kept (Delete n ∷ d) = omega (arith, sum_by-cons put_in (Retain 1) (Delete n ∷ d))

reach_inserting : (cs : List ℕ) (d : List Step) → reach_of (inserting cs ++ d) ≡ reach_of d
reach_inserting [] d = refl
reach_inserting (c ∷ cs) d = omega (arith, sum_by-cons passed (Insert (c ∷ cs)) d)

reach_deleting : (n : ℕ) (d : List Step) → reach_of (deleting n ++ d) ≡ n + reach_of d
reach_deleting zero d = omega arith
reach_deleting (suc n) d = sum_by-cons passed (Delete (suc n)) d

inserted_inserting : (cs : List ℕ) (d : List Step) → inserted_by (inserting cs ++ d) ≡ unit_count cs + inserted_by d
inserted_inserting [] d = omega arith
inserted_inserting (c ∷ cs) d = sum_by-cons put_in (Insert (c ∷ cs)) d

inserted_deleting : (n : ℕ) (d : List Step) → inserted_by (deleting n ++ d) ≡ inserted_by d
inserted_deleting zero d = refl
inserted_deleting (suc n) d = omega (arith, sum_by-cons put_in (Delete (suc n)) d)

pub reach_parts : (s : List Small) → reach_of (packed s) ≡ first_drops s + reach_of (from_keep s)
reach_parts s =
    ap reach_of (packed_parts s) ∙ (reach_inserting (decoded (first_puts s)) (deleting (first_drops s) ++ from_keep s) ∙ reach_deleting (first_drops s) (from_keep s))

inserted_parts : (s : List Small) → inserted_by (packed s) ≡ unit_count (decoded (first_puts s)) + inserted_by (from_keep s)
inserted_parts s =
    ap inserted_by (packed_parts s)
    ∙ (inserted_inserting (decoded (first_puts s)) (deleting (first_drops s) ++ from_keep s) ∙ ap (λ w. unit_count (decoded (first_puts s)) + w) (inserted_deleting (first_drops s) (from_keep s)))

reach_from : (s : List Small) → first_drops s + reach_of (from_keep s) ≤ small_reach s
reach_from [] = omega arith
reach_from (Keep ∷ s) = omega (arith, reach_from s, reach_parts s, reach_kept (packed s))
reach_from (Drop ∷ s) = omega (arith, reach_from s)
reach_from (Put u ∷ s) = reach_from s

inserted_from : (s : List Small) → length (first_puts s) + inserted_by (from_keep s) ≤ small_puts s
inserted_from [] = omega arith
inserted_from (Keep ∷ s) = omega (arith, inserted_from s, inserted_parts s, inserted_kept (packed s), unit_count-decoded (first_puts s))
inserted_from (Drop ∷ s) = inserted_from s
inserted_from (Put u ∷ s) = omega (arith, inserted_from s)

pub reach_packed : (s : List Small) → reach_of (packed s) ≤ small_reach s
reach_packed s = omega (arith, reach_parts s, reach_from s)

pub inserted_packed : (s : List Small) → inserted_by (packed s) ≤ small_puts s
inserted_packed s = omega (arith, inserted_parts s, inserted_from s, unit_count-decoded (first_puts s))

-- what is packed is a delta, where the sums are small enough
pub packed_good : (s : List Small) → small_reach s ≤ 2 ^ 62 → small_puts s ≤ 2 ^ 62 → bad_step (packed s) ≡ None
packed_good s r p =
    no_bad [] (packed s) None refl (packed_follows s (λ l n. from_keep_follows s l n)) (omega (arith, reach_packed s)) (omega (arith, inserted_packed s))

-- the sums of steps
puts_append : (s t : List Small) → small_puts (s ++ t) ≡ small_puts s + small_puts t
puts_append [] t = omega arith
puts_append (Keep ∷ s) t = puts_append s t
puts_append (Drop ∷ s) t = puts_append s t
puts_append (Put u ∷ s) t = omega (arith, puts_append s t)

reach_append : (s t : List Small) → small_reach (s ++ t) ≡ small_reach s + small_reach t
reach_append [] t = omega arith
reach_append (Keep ∷ s) t = omega (arith, reach_append s t)
reach_append (Drop ∷ s) t = omega (arith, reach_append s t)
reach_append (Put u ∷ s) t = reach_append s t

keeps_sums : (n : ℕ) → (small_reach (replicate n Keep) ≡ n) × (small_puts (replicate n Keep) ≡ 0)
keeps_sums zero = (refl, refl)
keeps_sums (suc n) = (ap suc (keeps_sums n).0, (keeps_sums n).1)

drops_sums : (n : ℕ) → (small_reach (replicate n Drop) ≡ n) × (small_puts (replicate n Drop) ≡ 0)
drops_sums zero = (refl, refl)
drops_sums (suc n) = (ap suc (drops_sums n).0, (drops_sums n).1)

puts_sums : (us : List ℕ) → (small_reach (map Put us) ≡ 0) × (small_puts (map Put us) ≡ length us)
puts_sums [] = (refl, refl)
puts_sums (u ∷ us) = ((puts_sums us).0, ap suc (puts_sums us).1)

step_sums : (step : Step) → (small_reach (small_steps step) ≡ passed step) × (small_puts (small_steps step) ≡ put_in step)
step_sums (Retain n) = keeps_sums n
step_sums (Insert text) = puts_sums (units text)
step_sums (Delete n) = drops_sums n

pub reach_steps : (d : List Step) → small_reach (all_small d) ≡ reach_of d
reach_steps [] = refl
reach_steps (step ∷ d) = omega (arith, reach_append (small_steps step) (all_small d), reach_steps d, (step_sums step).0, sum_by-cons passed step d)

pub puts_steps : (d : List Step) → small_puts (all_small d) ≡ inserted_by d
puts_steps [] = refl
puts_steps (step ∷ d) = omega (arith, puts_append (small_steps step) (all_small d), puts_steps d, (step_sums step).1, sum_by-cons put_in step d)

-- how many units stand in the gaps up to a place
abbrev total : (ℕ → List ℕ) → ℕ → ℕ
total g zero = length (g zero)
total g (suc n) = length (g zero) + total (λ i. g (suc i)) n

total_none : (n : ℕ) → total (λ i. []) n ≡ 0
total_none zero = refl
total_none (suc n) = omega (arith, total_none n)

total_put : (u : ℕ) (s : List Small) (n : ℕ) → total (gap (Put u ∷ s)) n ≡ suc (total (gap s) n)
total_put u s zero = refl
total_put u s (suc n) = omega arith

total_gap : (s : List Small) (n : ℕ) → total (gap s) n ≤ small_puts s
total_gap [] n = omega (arith, total_none n)
total_gap (Keep ∷ s) zero = omega arith
total_gap (Keep ∷ s) (suc n) = omega (arith, total_gap s n)
total_gap (Drop ∷ s) zero = omega arith
total_gap (Drop ∷ s) (suc n) = omega (arith, total_gap s n)
total_gap (Put u ∷ s) n = omega (arith, total_gap s n, total_put u s n)

gaps_sums : (f : Bool) (l r : List ℕ) → (small_reach (gaps f l r) ≡ length l) × (small_puts (gaps f l r) ≡ length r)
gaps_sums true l r =
    (omega (arith, reach_append (map Put r) (replicate (length l) Keep), (puts_sums r).0, (keeps_sums (length l)).0), omega (arith, puts_append (map Put r) (replicate (length l) Keep), (puts_sums r).1, (keeps_sums (length l)).1))
gaps_sums false l r =
    (omega (arith, reach_append (replicate (length l) Keep) (map Put r), (puts_sums r).0, (keeps_sums (length l)).0), omega (arith, puts_append (replicate (length l) Keep) (map Put r), (puts_sums r).1, (keeps_sums (length l)).1))

unit_sums : (b c : Bool) → (small_reach (cond b (mark c ∷ []) []) ≤ 1) × (small_puts (cond b (mark c ∷ []) []) ≡ 0)
unit_sums true true = (omega arith, refl)
unit_sums true false = (omega arith, refl)
unit_sums false c = (omega arith, refl)

moved_sums : (f : Bool) (n : ℕ) (lk : ℕ → Bool) (lg : ℕ → List ℕ) (rk : ℕ → Bool) (rg : ℕ → List ℕ) → (small_reach (moved f lk lg rk rg n) ≤ n + total lg n) × (small_puts (moved f lk lg rk rg n) ≤ total rg n)
moved_sums f zero lk lg rk rg = (omega (arith, (gaps_sums f (lg zero) (rg zero)).0), omega (arith, (gaps_sums f (lg zero) (rg zero)).1))
moved_sums f (suc n) lk lg rk rg =
    let more = moved_sums f n (λ i. lk (suc i)) (λ i. lg (suc i)) (λ i. rk (suc i)) (λ i. rg (suc i)) in
    let here = gaps_sums f (lg zero) (rg zero) in
    let unit = unit_sums (lk zero) (rk zero) in
    let x : List Small = cond (lk zero) (mark (rk zero) ∷ []) [] in
    let y : List Small = moved f (λ i. lk (suc i)) (λ i. lg (suc i)) (λ i. rk (suc i)) (λ i. rg (suc i)) n in (
      omega (arith, reach_append (gaps f (lg zero) (rg zero)) (x ++ y), reach_append x y, here.0, unit.0, more.0),
      omega (arith, puts_append (gaps f (lg zero) (rg zero)) (x ++ y), puts_append x y, here.1, unit.1, more.1),
    )

-- a transform's sums
pub transform_reach : (f : Bool) (s t : List Small) → small_reach (transformed_small f s t) ≤ small_reach s + small_reach t + small_puts s
transform_reach f s t =
    omega (arith, (moved_sums f (max (small_reach s) (small_reach t)) (keep s) (gap s) (keep t) (gap t)).0, total_gap s (max (small_reach s) (small_reach t)))

pub transform_puts : (f : Bool) (s t : List Small) → small_puts (transformed_small f s t) ≤ small_puts t
transform_puts f s t =
    omega (arith, (moved_sums f (max (small_reach s) (small_reach t)) (keep s) (gap s) (keep t) (gap t)).1, total_gap t (max (small_reach s) (small_reach t)))

-- a composition's sums
put_sums : (b : Bool) (u : ℕ) → (small_reach (cond b (Put u ∷ []) []) ≡ 0) × (small_puts (cond b (Put u ∷ []) []) ≤ 1)
put_sums true u = (refl, omega arith)
put_sums false u = (refl, omega arith)

mark_sums : (b : Bool) (s : List Small) → (small_reach (mark b ∷ s) ≡ suc (small_reach s)) × (small_puts (mark b ∷ s) ≡ small_puts s)
mark_sums true s = (refl, refl)
mark_sums false s = (refl, refl)

followed_sums : (a : List Small) (k : ℕ → Bool) (g : ℕ → List ℕ) → (small_reach (followed k g a) ≡ small_reach a) × (small_puts (followed k g a) ≤ small_puts a + total g (small_items a))
followed_sums [] k g = ((puts_sums (g zero)).0, omega (arith, (puts_sums (g zero)).1))
followed_sums (Drop ∷ a) k g = let more = followed_sums a k g in (ap suc more.0, more.1)
followed_sums (Keep ∷ a) k g =
    let more = followed_sums a (λ i. k (suc i)) (λ i. g (suc i)) in
    let y : List Small = followed (λ i. k (suc i)) (λ i. g (suc i)) a in
    let here = puts_sums (g zero) in
    let unit = mark_sums (k zero) y in
    (omega (arith, reach_append (map Put (g zero)) (mark (k zero) ∷ y), here.0, unit.0, more.0), omega (arith, puts_append (map Put (g zero)) (mark (k zero) ∷ y), here.1, unit.1, more.1))
followed_sums (Put u ∷ a) k g =
    let more = followed_sums a (λ i. k (suc i)) (λ i. g (suc i)) in
    let y : List Small = followed (λ i. k (suc i)) (λ i. g (suc i)) a in
    let x : List Small = cond (k zero) (Put u ∷ []) [] in
    let here = puts_sums (g zero) in
    let unit = put_sums (k zero) u in (
      omega (arith, reach_append (map Put (g zero)) (x ++ y), reach_append x y, here.0, unit.0, more.0),
      omega (arith, puts_append (map Put (g zero)) (x ++ y), puts_append x y, here.1, unit.1, more.1),
    )

pub compose_reach : (s t : List Small) → small_reach (composed_small s t) ≤ small_reach s + small_reach t
compose_reach s t =
    let n : ℕ = small_reach t - small_items s in
    omega (arith, (followed_sums (over_base s t) (keep t) (gap t)).0, reach_append s (replicate n Keep), (keeps_sums n).0)

pub compose_puts : (s t : List Small) → small_puts (composed_small s t) ≤ small_puts s + small_puts t
compose_puts s t =
    let n : ℕ = small_reach t - small_items s in
    omega (arith, (followed_sums (over_base s t) (keep t) (gap t)).1, puts_append s (replicate n Keep), (keeps_sums n).1, total_gap t (small_items (over_base s t)))
