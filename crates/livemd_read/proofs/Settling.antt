-- Items are settled from the last to the first, each in its place.
use Rattle.std.proofs.Common.{◌≡◌, ℕ, ◌+◌, ◌-◌, ◌<◌, ◌≤◌, zero, suc, List, [], ◌∷◌, ◌++◌, length, get_or, set, refl, sym, ap, ◌∙◌, append_assoc, length-append, arith}
use Rattle.std.proofs.Math.Seq.{set-append_seam}
use Rattle.std.proofs.lemmas.List.{append-nil, map-set}
use Rattle.livemd_format.specs.Items as format
use Rattle.livemd_format.specs.Settled.{settle, settled}
use Rattle.livemd_read.specs.declared.items.Item.{Item}
use Rattle.livemd_read.specs.declared.settle.Behind.{Behind}
use Rattle.livemd_read.specs.Views.{IsBehind, item_of, views}

-- the items before a place are as they were, those from it on are settled, and what is told of them is known
pub record IsSettling (all items : List Item) (at : ℕ) (b : Behind) : Type 0 where
  pub front : List format.Item
  pub behind : List format.Item
  pub parts : views all ≡ front ++ behind
  pub settled : views items ≡ front ++ settled behind
  pub place : at ≡ length front
  pub told : IsBehind b behind

abbrev pub Settles : List Item → List Item → ℕ → Behind → Type 0
Settles all items at b = IsSettling all items at b

views-length : (is : List Item) → length (views is) ≡ length is
views-length [] = refl
views-length (i ∷ is) = ap (λ n. suc n) (views-length is)

pub settles_first : (all : List Item) (n : ℕ) (b : Behind) → n ≡ length all → IsBehind b [] → Settles all all n b
settles_first all n b e h = record { front = views all; behind = []; parts = sym (append-nil (views all)); settled = sym (append-nil (views all)); place = e ∙ sym (views-length all); told = h }

-- ---- one item

-- the last element of a list that has one
record HasLast (xs : List format.Item) (n : ℕ) : Type 0 where
  front : List format.Item
  last : format.Item
  parts : xs ≡ front ++ last ∷ []
  count : length front ≡ n

last_of : (xs : List format.Item) (n : ℕ) → length xs ≡ suc n → HasLast xs n
last_of [] n e = absurd (omega (arith, e))
last_of (x ∷ []) n e = record { front = []; last = x; parts = refl; count = omega (arith, e) }
last_of (x ∷ y ∷ xs) zero e = absurd (omega (arith, e))
last_of (x ∷ y ∷ xs) (suc n) e =
    let r : HasLast (y ∷ xs) n = last_of (y ∷ xs) n (omega (arith, e)) in
    record { front = x ∷ r.front; last = r.last; parts = ap (λ ys. x ∷ ys) r.parts; count = ap (λ k. suc k) r.count }

at_seam : (is : List Item) (xs ys : List format.Item) (x : format.Item) (d : Item) → views is ≡ xs ++ x ∷ ys → item_of (get_or is (length xs) d) ≡ x
at_seam [] [] ys x d e = absurd cc
at_seam [] (z ∷ xs) ys x d e = absurd cc
at_seam (i ∷ is) [] ys x d e = cc
at_seam (i ∷ is) (z ∷ xs) ys x d e = at_seam is xs ys x d (cc)

set_seam : (is : List Item) (xs ys : List format.Item) (x : format.Item) (j : Item) → views is ≡ xs ++ x ∷ ys → views (set is (length xs) j) ≡ xs ++ item_of j ∷ ys
set_seam is xs ys x j e = map-set item_of is (length xs) j ∙ (ap (λ l. set l (length xs) (item_of j)) e ∙ set-append_seam xs x ys (item_of j))

pub settles_on : (all items items2 items3 : List Item) (at next : ℕ) (i d j : Item) (b c : Behind) → 0 < at → next ≡ at - 1 → i ≡ get_or items next i → items2 ≡ set items next d → items3 ≡ set items2 next j
    → ((is : List format.Item) → IsBehind b is → item_of j ≡ settle (item_of i) is) → ((is : List format.Item) → IsBehind b is → IsBehind c (item_of i ∷ is)) → Settles all items at b → Settles all items3 next c
settles_on all items items2 items3 at next i d j b c some n is e f s t h =
    let r : HasLast h.front next = last_of h.front next (omega (arith, h.place, n, some)) in
    let before : views items ≡ r.front ++ r.last ∷ settled h.behind = h.settled ∙ (ap (λ w. w ++ settled h.behind) r.parts ∙ append_assoc r.front (r.last ∷ []) (settled h.behind)) in
    let it : item_of i ≡ r.last = ap item_of is ∙ (ap (λ k. item_of (get_or items k i)) (sym r.count) ∙ at_seam items r.front (settled h.behind) r.last i before) in
    let out : views items2 ≡ r.front ++ item_of d ∷ settled h.behind = ap views e ∙ (ap (λ k. views (set items k d)) (sym r.count) ∙ set_seam items r.front (settled h.behind) r.last d before) in
    let back : views items3 ≡ r.front ++ item_of j ∷ settled h.behind = ap views f ∙ (ap (λ k. views (set items2 k j)) (sym r.count) ∙ set_seam items2 r.front (settled h.behind) (item_of d) j out) in
    record {
      front = r.front;
      behind = item_of i ∷ h.behind;
      parts = h.parts ∙ (ap (λ w. w ++ h.behind) r.parts ∙ (append_assoc r.front (r.last ∷ []) h.behind ∙ ap (λ x. r.front ++ x ∷ h.behind) (sym it)));
      settled = back ∙ ap (λ x. r.front ++ x ∷ settled h.behind) (s h.behind h.told);
      place = sym r.count;
      told = t h.behind h.told;
    }

pub within : (all items : List Item) (at : ℕ) (b : Behind) → 0 < at → Settles all items at b → at - 1 < length items
within all items at b some h =
    let count : length items ≡ length h.front + length (settled h.behind) = sym (views-length items) ∙ (ap length h.settled ∙ length-append h.front (settled h.behind)) in
    omega (arith, count, h.place, some)

none_before : (xs : List format.Item) (at : ℕ) → at ≡ length xs → at ≤ 0 → xs ≡ []
none_before [] at e z = refl
none_before (x ∷ xs) at e z = absurd (omega (arith, e, z))

pub settles_last : (all items : List Item) (at : ℕ) (b : Behind) → at ≤ 0 → Settles all items at b → views items ≡ settled (views all)
settles_last all items at b z h =
    let none : h.front ≡ [] = none_before h.front at h.place z in
    h.settled ∙ (ap (λ w. w ++ settled h.behind) none ∙ ap settled (sym (h.parts ∙ ap (λ w. w ++ h.behind) none)))
