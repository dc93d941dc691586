-- The turns of a transform.
use Rattle.std.proofs.Common.{◌≡◌, ℕ, zero, suc, ◌+◌, ◌^◌, ◌<◌, ◌≤◌, Bool, true, false, ◌&&◌, ◌⊎◌, inl, inr, List, [], ◌++◌, length, length-append, map, replicate, take, refl, sym, ap, ◌∙◌, arith}
use Rattle.std.proofs.lemmas.List.{length-map, length-replicate, length-take}
use Rattle.std.specs.Prelude.{not, ◌||◌}
use Rattle.delta.proofs.FrontLemmas.{ended}
use Rattle.delta.proofs.PackerLemmas.{head_reach}
use Rattle.delta.proofs.Transforms.{turn_both, turn_left, turn_right, left_new, left_new_after, right_new, right_new_after}
use Rattle.delta.specs.Compose.{mark}
use Rattle.delta.specs.Fronts.{IsFront, IsHead, HasRun, IsPast, IsLongest, left, head_small, run_of, is_new}
use Rattle.delta.specs.Pack.{packed}
use Rattle.delta.specs.Packers.{packs, TakesSteps}
use Rattle.delta.specs.Runs.{all_runs}
use Rattle.delta.specs.Spread.{Small, Keep, Drop, Put, gap, small_reach}
use Rattle.delta.specs.Transform.{transformed_small}
use Rattle.delta.specs.Turns.{IsMoveTurn, moved_piece}
use Rattle.delta.specs.declared.front.Run.{Run}
use Rattle.delta.specs.declared.front.Head.{Head}
use Rattle.delta.specs.declared.front.Head.TheVariants.{End, Kept, Gone, New}
use Rattle.delta.specs.declared.front.Front.{Front}
use Rattle.delta.specs.declared.packer.Packer.{Packer}

-- old units on both sides
same_at : (f : Bool) (h k : Head) (m : ℕ) (s t s' t' : List Small) → s ≡ run_of h m ++ s' → t ≡ run_of k m ++ t' → (h ≡ End → s' ≡ []) → (k ≡ End → t' ≡ [])
    → is_new h ≡ false → is_new k ≡ false → (h ≡ End → k ≡ End → ⊥) → transformed_small f s t ≡ head_small (moved_piece h k m) ++ transformed_small f s' t'
same_at f End End m s t s' t' e d z y a b more = absurd (more refl refl)
same_at f End (Kept n) m s t s' t' e d z y a b more = let w = z refl in rw (e, d, w) (turn_right f true m t')
same_at f End (Gone n) m s t s' t' e d z y a b more = let w = z refl in rw (e, d, w) (turn_right f false m t')
same_at f (Kept j) End m s t s' t' e d z y a b more = let w = y refl in rw (e, d, w) (turn_left f true m s')
same_at f (Gone j) End m s t s' t' e d z y a b more = let w = y refl in rw (e, d, w) (turn_left f false m s')
same_at f (Kept j) (Kept n) m s t s' t' e d z y a b more = rw (e, d) (turn_both f true true m s' t')
same_at f (Kept j) (Gone n) m s t s' t' e d z y a b more = rw (e, d) (turn_both f true false m s' t')
same_at f (Gone j) (Kept n) m s t s' t' e d z y a b more = rw (e, d) (turn_both f false true m s' t')
same_at f (Gone j) (Gone n) m s t s' t' e d z y a b more = rw (e, d) (turn_both f false false m s' t')
same_at f (New us) k m s t s' t' e d z y a b more = absurd (cc)
same_at f End (New us) m s t s' t' e d z y a b more = absurd (cc)
same_at f (Kept j) (New us) m s t s' t' e d z y a b more = absurd (cc)
same_at f (Gone j) (New us) m s t s' t' e d z y a b more = absurd (cc)

-- a turn of m units makes one of the two shorter
pub shorter_by : (h : Head) (m : ℕ) (s s' : List Small) → HasRun h m → s ≡ run_of h m ++ s' → (h ≡ End) ⊎ (length s ≡ m + length s')
shorter_by End m s s' r e = inl refl
shorter_by (Kept n) m s s' r e = inr (ap length e ∙ omega (arith, length-append (replicate m Keep) s', length-replicate m Keep))
shorter_by (Gone n) m s s' r e = inr (ap length e ∙ omega (arith, length-append (replicate m Drop) s', length-replicate m Drop))
shorter_by (New us) m s s' r e = inr (ap length e ∙ omega (arith, length-append (map Put (take m us.now)) s', length-map (take m us.now) Put, length-take m us.now))

not_longer : (h : Head) (m : ℕ) (s s' : List Small) → h ≡ End → s ≡ run_of h m ++ s' → length s ≡ length s'
not_longer h m s s' z e = rw z at (ap length e)

pub fewer_by : (h k : Head) (m : ℕ) (s t s' t' : List Small) → 0 < m → HasRun h m → HasRun k m → s ≡ run_of h m ++ s' → t ≡ run_of k m ++ t' → (h ≡ End → k ≡ End → ⊥)
    → length s' + length t' < length s + length t
fewer_by h k m s t s' t' pos a b e d more = elim (shorter_by h m s s' a e) [
  | inl z ↦ elim (shorter_by k m t t' b d) [
    | inl y ↦ absurd (more z y)
    | inr y ↦ omega (arith, not_longer h m s s' z e)
  ]
  | inr z ↦ elim (shorter_by k m t t' b d) [
    | inl y ↦ omega (arith, not_longer k m t t' y d)
    | inr y ↦ omega arith
  ]
]

pub head_any : (h : Head) (rest : List Run) → IsHead h rest → IsHead h []
head_any End rest i = refl
head_any (Kept n) rest i = i
head_any (Gone n) rest i = i
head_any (New us) rest i = i

pub move_turn : (f : Bool) (l r l' r' : Front) (m : ℕ) (piece : Head) → (IsHead l.head [] → IsHead r.head [] → 0 < m) → IsFront l → IsFront r → IsPast l m l' → IsPast r m r' → piece ≡ moved_piece l.head r.head m
    → HasRun l.head m → HasRun r.head m → is_new l.head ≡ false → is_new r.head ≡ false → (l.head ≡ End → r.head ≡ End → ⊥) → IsMoveTurn f l r piece l' r'
move_turn f l r l' r' m piece pos i j p q e u v a b more = record {
  left_front = p.front;
  right_front = q.front;
  same = rw e (same_at f l.head r.head m (left l) (left r) (left l') (left r') p.parts q.parts (λ z. ended l' p.front (p.ends z)) (λ z. ended r' q.front (q.ends z)) a b more);
  fewer = fewer_by l.head r.head m (left l) (left r) (left l') (left r') (pos (head_any l.head l.rest.now i.head) (head_any r.head r.rest.now j.head)) u v p.parts q.parts more;
}

-- no insert is at the front, so nothing is put in there
pub no_gap : (f : Front) → IsFront f → is_new f.head ≡ false → gap (left f) 0 ≡ []
no_gap f i e = at f.head f.rest.now i.head e
  where
    runs_gap : (x : Bool) (n : ℕ) (s : List Small) → 0 < n → gap (replicate n (mark x) ++ s) 0 ≡ []
    runs_gap x zero s lt = absurd (omega arith)
    runs_gap true (suc n) s lt = refl
    runs_gap false (suc n) s lt = refl

    at : (h : Head) (rest : List Run) → IsHead h rest → is_new h ≡ false → gap (head_small h ++ all_runs rest) 0 ≡ []
    at End rest j p = rw j refl
    at (Kept n) rest j p = runs_gap true n (all_runs rest) j
    at (Gone n) rest j p = runs_gap false n (all_runs rest) j
    at (New us) rest j p = absurd (cc)

-- a new head is some units
pub new_length : (h : Head) (rest : List Run) (s : List Small) → is_new h ≡ true → IsHead h rest → length s < length (head_small h ++ s)
new_length End rest s e i = absurd (cc)
new_length (Kept n) rest s e i = absurd (cc)
new_length (Gone n) rest s e i = absurd (cc)
new_length (New us) rest s e i = omega (arith, i, length-append (map Put us.now) s, length-map us.now Put)

both_true : (a b : Bool) → (a && b) ≡ true → (a ≡ true) × (b ≡ true)
both_true true b e = (refl, e)
both_true false b e = cc

not_true : (b : Bool) → not b ≡ true → b ≡ false
not_true true p = cc
not_true false p = refl

right_at : (f : Bool) (h : Head) (l : Front) (t : List Small) → IsFront l → is_new h ≡ true → (f || not (is_new l.head)) ≡ true → transformed_small f (left l) (head_small h ++ t) ≡ head_small h ++ transformed_small f (left l) t
right_at f End l t i e c = absurd (cc)
right_at f (Kept n) l t i e c = absurd (cc)
right_at f (Gone n) l t i e c = absurd (cc)
right_at true (New us) l t i e c = right_new us.now (left l) t
right_at false (New us) l t i e c = right_new_after us.now (left l) t (no_gap l i (not_true (is_new l.head) c))

pub right_turn : (f : Bool) (l r r' : Front) → IsFront l → IsFront r → (is_new r.head && (f || not (is_new l.head))) ≡ true → IsFront r' → left r' ≡ all_runs r.rest.now → IsMoveTurn f l r r.head l r'
right_turn f l r r' i j c k w =
    let t = both_true (is_new r.head) (f || not (is_new l.head)) c in
    record {
      left_front = i;
      right_front = k;
      same = rw w (right_at f r.head l (all_runs r.rest.now) i t.0 t.1);
      fewer = omega (arith, ap length w, new_length r.head r.rest.now (all_runs r.rest.now) t.0 j.head);
    }

not_both : (a b : Bool) → (a && b) ≡ false → b ≡ true → a ≡ false
not_both true b e w = cc
not_both false b e w = refl

left_at : (f : Bool) (h : Head) (m : ℕ) (r : Front) (s : List Small) → IsFront r → is_new h ≡ true → IsLongest h m → (is_new r.head && (f || not (is_new h))) ≡ false
    → transformed_small f (head_small h ++ s) (left r) ≡ replicate m Keep ++ transformed_small f s (left r)
left_at f End m r s j e l c = absurd (cc)
left_at f (Kept n) m r s j e l c = absurd (cc)
left_at f (Gone n) m r s j e l c = absurd (cc)
left_at true (New us) m r s j e l c = rw l (left_new_after us.now s (left r) (no_gap r j (not_both (is_new r.head) true c refl)))
left_at false (New us) m r s j e l c = rw l (left_new us.now s (left r))

pub left_turn : (f : Bool) (l r l' : Front) (m : ℕ) → IsFront l → IsFront r → is_new l.head ≡ true → (is_new r.head && (f || not (is_new l.head))) ≡ false → IsLongest l.head m → IsFront l' → left l' ≡ all_runs l.rest.now
    → IsMoveTurn f l r (Kept m) l' r
left_turn f l r l' m i j e c q k w = record {
  left_front = k;
  right_front = j;
  same = rw w (left_at f l.head m r (all_runs l.rest.now) j e q c);
  fewer = omega (arith, ap length w, new_length l.head l.rest.now (all_runs l.rest.now) e i.head);
}

-- a loop's state: what the packer holds, with what is to come, is the whole, within the limit
pub record Moving (f : Bool) (s t : List Small) (p : Packer) (l r : Front) : Type 0 where
  pub left_front : IsFront l
  pub right_front : IsFront r
  pub same : packs p (transformed_small f (left l) (left r)) ≡ packed (transformed_small f s t)
  pub count : p.keeps + p.drops + small_reach (transformed_small f (left l) (left r)) ≤ 2 ^ 62

pub moving_room : (f : Bool) (s t : List Small) (p : Packer) (l r l' r' : Front) (piece : Head) → Moving f s t p l r → IsMoveTurn f l r piece l' r' → p.keeps + p.drops + small_reach (head_small piece) ≤ 2 ^ 62
moving_room f s t p l r l' r' piece z w = omega (arith, z.count, ap small_reach w.same, head_reach piece (transformed_small f (left l') (left r')))

pub moving_turn : (f : Bool) (s t : List Small) (p p' : Packer) (l r l' r' : Front) (piece : Head) → Moving f s t p l r → IsMoveTurn f l r piece l' r' → TakesSteps p p' (head_small piece) → Moving f s t p' l' r'
moving_turn f s t p p' l r l' r' piece z w k = record {
  left_front = w.left_front;
  right_front = w.right_front;
  same = k.same (transformed_small f (left l') (left r')) ∙ (ap (λ v. packs p v) (sym w.same) ∙ z.same);
  count = omega (arith, z.count, k.count, ap small_reach w.same, head_reach piece (transformed_small f (left l') (left r')));
}

nothing : (f : Bool) → transformed_small f [] [] ≡ []
nothing true = refl
nothing false = refl

pub moving_end : (f : Bool) (s t : List Small) (p : Packer) (l r : Front) → Moving f s t p l r → (l.head ≡ End) × (r.head ≡ End) → packs p [] ≡ packed (transformed_small f s t)
moving_end f s t p l r z h =
    let a = ended l z.left_front h.0 in
    let b = ended r z.right_front h.1 in
    rw (a, b, nothing) at z.same
