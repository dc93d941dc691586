-- The turns of a composition.
use Rattle.std.proofs.Common.{◌≡◌, ℕ, zero, suc, ◌+◌, ◌-◌, ◌^◌, ◌<◌, ◌≤◌, Bool, true, false, List, [], ◌∷◌, ◌++◌, length, length-append, map, replicate, take, refl, sym, ap, ◌∙◌, arith, append_assoc}
use Rattle.std.proofs.lemmas.List.{length-take}
use Rattle.delta.proofs.Compositions.{followed_by, drops_first, keeps_meet, puts_kept, puts_gone, put_before_keep, put_before_put, put_at_end}
use Rattle.delta.proofs.FrontLemmas.{ended}
use Rattle.delta.proofs.MoveTurns.{fewer_by, head_any, new_length}
use Rattle.delta.proofs.PackerLemmas.{head_reach}
use Rattle.delta.specs.Compose.{mark, over_base, composed_small}
use Rattle.delta.specs.Fronts.{IsFront, IsHead, HasRun, IsPast, IsNewOf, left, head_small, run_of, is_new, is_gone}
use Rattle.delta.specs.Pack.{packed}
use Rattle.delta.specs.Packers.{packs, TakesSteps}
use Rattle.delta.specs.Runs.{all_runs}
use Rattle.delta.specs.Spread.{Small, Keep, Drop, Put, small_reach, small_items}
use Rattle.delta.specs.Turns.{IsJoinTurn, IsJoined}
use Rattle.delta.specs.declared.front.Run.{Run}
use Rattle.delta.specs.declared.front.Head.{Head}
use Rattle.delta.specs.declared.front.Head.TheVariants.{End, Kept, Gone, New}
use Rattle.delta.specs.declared.front.Front.{Front}
use Rattle.delta.specs.declared.packer.Packer.{Packer}

reach_marks : (y : Bool) (m : ℕ) (t : List Small) → small_reach (replicate m (mark y) ++ t) ≡ m + small_reach t
reach_marks y zero t = omega arith
reach_marks true (suc m) t = omega (arith, reach_marks true m t)
reach_marks false (suc m) t = omega (arith, reach_marks false m t)

reach_puts : (us : List ℕ) (t : List Small) → small_reach (map Put us ++ t) ≡ small_reach t
reach_puts [] t = refl
reach_puts (u ∷ us) t = reach_puts us t

items_keeps : (m : ℕ) (s : List Small) → small_items (replicate m Keep ++ s) ≡ m + small_items s
items_keeps zero s = omega arith
items_keeps (suc m) s = omega (arith, items_keeps m s)

items_drops : (m : ℕ) (s : List Small) → small_items (replicate m Drop ++ s) ≡ small_items s
items_drops zero s = refl
items_drops (suc m) s = items_drops m s

items_puts : (us : List ℕ) (s : List Small) → small_items (map Put us ++ s) ≡ length us + small_items s
items_puts [] s = omega arith
items_puts (u ∷ us) s = omega (arith, items_puts us s)

-- the base, where a front part is taken away from it
base_past : (x s t t' : List Small) → small_reach t - small_items (x ++ s) ≡ small_reach t' - small_items s → over_base (x ++ s) t ≡ x ++ over_base s t'
base_past x s t t' e = ap (λ n. (x ++ s) ++ replicate n Keep) e ∙ append_assoc x s (replicate (small_reach t' - small_items s) Keep)

-- what the first drops
dropped : (m : ℕ) (s t : List Small) → composed_small (replicate m Drop ++ s) t ≡ replicate m Drop ++ composed_small s t
dropped m s t = ap (λ w. followed_by t w) (base_past (replicate m Drop) s t t (omega (arith, items_drops m s))) ∙ drops_first m t (over_base s t)

-- units of the first's result, as the second says
kept_meet : (y : Bool) (m : ℕ) (s t : List Small) → composed_small (replicate m Keep ++ s) (replicate m (mark y) ++ t) ≡ replicate m (mark y) ++ composed_small s t
kept_meet y m s t =
    ap (λ w. followed_by (replicate m (mark y) ++ t) w) (base_past (replicate m Keep) s (replicate m (mark y) ++ t) t (omega (arith, items_keeps m s, reach_marks y m t)))
    ∙ keeps_meet y m t (over_base s t)

new_kept : (vs : List ℕ) (s t : List Small) → composed_small (map Put vs ++ s) (replicate (length vs) Keep ++ t) ≡ map Put vs ++ composed_small s t
new_kept vs s t =
    ap (λ w. followed_by (replicate (length vs) Keep ++ t) w) (base_past (map Put vs) s (replicate (length vs) Keep ++ t) t (omega (arith, items_puts vs s, reach_marks true (length vs) t)))
    ∙ puts_kept vs t (over_base s t)

new_gone : (vs : List ℕ) (s t : List Small) → composed_small (map Put vs ++ s) (replicate (length vs) Drop ++ t) ≡ composed_small s t
new_gone vs s t =
    ap (λ w. followed_by (replicate (length vs) Drop ++ t) w) (base_past (map Put vs) s (replicate (length vs) Drop ++ t) t (omega (arith, items_puts vs s, reach_marks false (length vs) t)))
    ∙ puts_gone vs t (over_base s t)

-- past the end of the first
replicate-plus : (x : Small) (m n : ℕ) → replicate (m + n) x ≡ replicate m x ++ replicate n x
replicate-plus x zero n = let e : 0 + n ≡ n = omega arith in rw e refl
replicate-plus x (suc m) n = let e : suc m + n ≡ suc (m + n) = omega arith in rw e (ap (λ w. x ∷ w) (replicate-plus x m n))

first_ended : (y : Bool) (m : ℕ) (t : List Small) → composed_small [] (replicate m (mark y) ++ t) ≡ replicate m (mark y) ++ composed_small [] t
first_ended y m t =
    let e : small_reach (replicate m (mark y) ++ t) - 0 ≡ m + (small_reach t - 0) = omega (arith, reach_marks y m t) in
    ap (λ n. followed_by (replicate m (mark y) ++ t) (replicate n Keep)) e
    ∙ (ap (λ w. followed_by (replicate m (mark y) ++ t) w) (replicate-plus Keep m (small_reach t - 0)) ∙ keeps_meet y m t (replicate (small_reach t - 0) Keep))

-- past the end of the second
keeps_after : (m : ℕ) (x : List Small) → followed_by [] (replicate m Keep ++ x) ≡ replicate m Keep ++ followed_by [] x
keeps_after zero x = refl
keeps_after (suc m) x = ap (λ w. Keep ∷ w) (keeps_after m x)

puts_after : (vs : List ℕ) (x : List Small) → followed_by [] (map Put vs ++ x) ≡ map Put vs ++ followed_by [] x
puts_after [] x = refl
puts_after (v ∷ vs) x = ap (λ w. Put v ∷ w) (puts_after vs x)

second_ended_keeps : (m : ℕ) (s : List Small) → composed_small (replicate m Keep ++ s) [] ≡ replicate m Keep ++ composed_small s []
second_ended_keeps m s = ap (λ w. followed_by [] w) (base_past (replicate m Keep) s [] [] (omega arith)) ∙ keeps_after m (over_base s [])

second_ended_puts : (vs : List ℕ) (s : List Small) → composed_small (map Put vs ++ s) [] ≡ map Put vs ++ composed_small s []
second_ended_puts vs s = ap (λ w. followed_by [] w) (base_past (map Put vs) s [] [] (omega arith)) ∙ puts_after vs (over_base s [])

new_piece : (g : Head) (us : List ℕ) → IsNewOf g us → head_small g ≡ map Put us
new_piece End us n = absurd n
new_piece (Kept m) us n = absurd n
new_piece (Gone m) us n = absurd n
new_piece (New vs) us n = ap (λ w. map Put w) n

joined_at : (h k : Head) (m : ℕ) (piece : Head) (s t s' t' : List Small) → s ≡ run_of h m ++ s' → t ≡ run_of k m ++ t' → (h ≡ End → s' ≡ []) → (k ≡ End → t' ≡ [])
    → HasRun h m → is_gone h ≡ false → is_new k ≡ false → (h ≡ End → k ≡ End → ⊥) → IsJoined h k m piece → composed_small s t ≡ head_small piece ++ composed_small s' t'
joined_at End End m piece s t s' t' e d z y r a b more j = absurd (more refl refl)
joined_at End (Kept n) m piece s t s' t' e d z y r a b more j = let w = z refl in rw (e, d, w, j) (first_ended true m t')
joined_at End (Gone n) m piece s t s' t' e d z y r a b more j = let w = z refl in rw (e, d, w, j) (first_ended false m t')
joined_at (Kept n) End m piece s t s' t' e d z y r a b more j = let w = y refl in rw (e, d, w, j) (second_ended_keeps m s')
joined_at (Kept n) (Kept i) m piece s t s' t' e d z y r a b more j = rw (e, d, j) (kept_meet true m s' t')
joined_at (Kept n) (Gone i) m piece s t s' t' e d z y r a b more j = rw (e, d, j) (kept_meet false m s' t')
joined_at (New us) End m piece s t s' t' e d z y r a b more j = let w = y refl in rw (e, d, w, new_piece piece (take m us.now) j) (second_ended_puts (take m us.now) s')
joined_at (New us) (Kept i) m piece s t s' t' e d z y r a b more j =
    let l : m ≡ length (take m us.now) = omega (arith, length-take m us.now) in
    rw (e, d, new_piece piece (take m us.now) j) (ap (λ n. composed_small (map Put (take m us.now) ++ s') (replicate n Keep ++ t')) l ∙ new_kept (take m us.now) s' t')
joined_at (New us) (Gone i) m piece s t s' t' e d z y r a b more j =
    let l : m ≡ length (take m us.now) = omega (arith, length-take m us.now) in
    rw (e, d, j) (ap (λ n. composed_small (map Put (take m us.now) ++ s') (replicate n Drop ++ t')) l ∙ new_gone (take m us.now) s' t')
joined_at (Gone n) k m piece s t s' t' e d z y r a b more j = absurd (cc)
joined_at End (New vs) m piece s t s' t' e d z y r a b more j = absurd (cc)
joined_at (Kept n) (New vs) m piece s t s' t' e d z y r a b more j = absurd (cc)
joined_at (New us) (New vs) m piece s t s' t' e d z y r a b more j = absurd (cc)

pub join_turn : (a b a' b' : Front) (m : ℕ) (piece : Head) → (IsHead a.head [] → IsHead b.head [] → 0 < m) → IsFront a → IsFront b → IsPast a m a' → IsPast b m b' → IsJoined a.head b.head m piece
    → HasRun a.head m → HasRun b.head m → is_gone a.head ≡ false → is_new b.head ≡ false → (a.head ≡ End → b.head ≡ End → ⊥) → IsJoinTurn a b piece a' b'
join_turn a b a' b' m piece pos i j p q e u v x y more = record {
  first_front = p.front;
  second_front = q.front;
  same = joined_at a.head b.head m piece (left a) (left b) (left a') (left b') p.parts q.parts (λ z. ended a' p.front (p.ends z)) (λ z. ended b' q.front (q.ends z)) u x y more e;
  fewer = fewer_by a.head b.head m (left a) (left b) (left a') (left b') (pos (head_any a.head a.rest.now i.head) (head_any b.head b.rest.now j.head)) u v p.parts q.parts more;
}

-- the first drops units
gone_at : (h : Head) (rest : List Run) (s t : List Small) → is_gone h ≡ true → composed_small (head_small h ++ s) t ≡ head_small h ++ composed_small s t
gone_at End rest s t e = absurd (cc)
gone_at (Kept n) rest s t e = absurd (cc)
gone_at (Gone n) rest s t e = dropped n s t
gone_at (New us) rest s t e = absurd (cc)

gone_length : (h : Head) (rest : List Run) (s : List Small) → is_gone h ≡ true → IsHead h rest → length s < length (head_small h ++ s)
gone_length End rest s e i = absurd (cc)
gone_length (Kept n) rest s e i = absurd (cc)
gone_length (Gone zero) rest s e i = absurd (omega arith)
gone_length (Gone (suc n)) rest s e i = omega (arith, length-append (replicate n Drop) s)
gone_length (New us) rest s e i = absurd (cc)

pub gone_turn : (a b a' : Front) → IsFront a → IsFront b → is_gone a.head ≡ true → IsFront a' → left a' ≡ all_runs a.rest.now → IsJoinTurn a b a.head a' b
gone_turn a b a' i j g k w = record {
  first_front = k;
  second_front = j;
  same = rw w (gone_at a.head a.rest.now (all_runs a.rest.now) (left b) g);
  fewer = omega (arith, ap length w, gone_length a.head a.rest.now (all_runs a.rest.now) g i.head);
}

-- the second puts units in, where the first drops none
abbrev NotDropped : List Small → Type 0
NotDropped [] = Unit {0}
NotDropped (Keep ∷ s) = Unit {0}
NotDropped (Drop ∷ s) = ⊥
NotDropped (Put u ∷ s) = Unit {0}

put_before : (vs : List ℕ) (t x : List Small) → NotDropped x → followed_by (map Put vs ++ t) x ≡ map Put vs ++ followed_by t x
put_before vs t [] n = put_at_end vs t
put_before vs t (Keep ∷ x) n = put_before_keep vs t x
put_before vs t (Drop ∷ x) n = absurd n
put_before vs t (Put u ∷ x) n = put_before_put vs u t x

all_kept : (p : ℕ) → NotDropped (replicate p Keep)
all_kept zero = tt
all_kept (suc p) = tt

not_dropped : (h : Head) (rest : List Run) (p : ℕ) → is_gone h ≡ false → IsHead h rest → NotDropped ((head_small h ++ all_runs rest) ++ replicate p Keep)
not_dropped End rest p e i = rw i (all_kept p)
not_dropped (Kept zero) rest p e i = absurd (omega arith)
not_dropped (Kept (suc n)) rest p e i = tt
not_dropped (Gone n) rest p e i = absurd (cc)
not_dropped (New us) rest p e i = at us.now i
  where
    at : (vs : List ℕ) → 0 < length vs → NotDropped ((map Put vs ++ all_runs rest) ++ replicate p Keep)
    at [] lt = absurd (omega arith)
    at (v ∷ vs) lt = tt

new_at : (k : Head) (a : Front) (t : List Small) → IsFront a → is_gone a.head ≡ false → is_new k ≡ true → composed_small (left a) (head_small k ++ t) ≡ head_small k ++ composed_small (left a) t
new_at End a t i g e = absurd (cc)
new_at (Kept n) a t i g e = absurd (cc)
new_at (Gone n) a t i g e = absurd (cc)
new_at (New us) a t i g e =
    let same : over_base (left a) (map Put us.now ++ t) ≡ over_base (left a) t = ap (λ n. left a ++ replicate (n - small_items (left a)) Keep) (reach_puts us.now t) in
    ap (λ w. followed_by (map Put us.now ++ t) w) same
    ∙ put_before us.now t (over_base (left a) t) (not_dropped a.head a.rest.now (small_reach t - small_items (left a)) g i.head)

pub new_turn : (a b b' : Front) → IsFront a → IsFront b → is_gone a.head ≡ false → is_new b.head ≡ true → IsFront b' → left b' ≡ all_runs b.rest.now → IsJoinTurn a b b.head a b'
new_turn a b b' i j g e k w = record {
  first_front = i;
  second_front = k;
  same = rw w (new_at b.head a (all_runs b.rest.now) i g e);
  fewer = omega (arith, ap length w, new_length b.head b.rest.now (all_runs b.rest.now) e j.head);
}

-- a loop's state: what the packer holds, with what is to come, is the whole, within the limit
pub record Joining (s t : List Small) (p : Packer) (a b : Front) : Type 0 where
  pub first_front : IsFront a
  pub second_front : IsFront b
  pub same : packs p (composed_small (left a) (left b)) ≡ packed (composed_small s t)
  pub count : p.keeps + p.drops + small_reach (composed_small (left a) (left b)) ≤ 2 ^ 62

pub joining_room : (s t : List Small) (p : Packer) (a b a' b' : Front) (piece : Head) → Joining s t p a b → IsJoinTurn a b piece a' b' → p.keeps + p.drops + small_reach (head_small piece) ≤ 2 ^ 62
joining_room s t p a b a' b' piece z w = omega (arith, z.count, ap small_reach w.same, head_reach piece (composed_small (left a') (left b')))

pub joining_turn : (s t : List Small) (p p' : Packer) (a b a' b' : Front) (piece : Head) → Joining s t p a b → IsJoinTurn a b piece a' b' → TakesSteps p p' (head_small piece) → Joining s t p' a' b'
joining_turn s t p p' a b a' b' piece z w k = record {
  first_front = w.first_front;
  second_front = w.second_front;
  same = k.same (composed_small (left a') (left b')) ∙ (ap (λ v. packs p v) (sym w.same) ∙ z.same);
  count = omega (arith, z.count, k.count, ap small_reach w.same, head_reach piece (composed_small (left a') (left b')));
}

pub joining_end : (s t : List Small) (p : Packer) (a b : Front) → Joining s t p a b → (a.head ≡ End) × (b.head ≡ End) → packs p [] ≡ packed (composed_small s t)
joining_end s t p a b z h =
    let x = ended a z.first_front h.0 in
    let y = ended b z.second_front h.1 in
    rw (x, y) at z.same
