-- The machine has one end, and comes to it.
use Rattle.std.proofs.Common.{◌≡◌, ℕ, ◌+◌, ◌*◌, ◌<◌, Bool, true, false, List, [], ◌∷◌, ◌++◌, length, refl, sym, ap, arith, length-append}
use Rattle.std.specs.Prelude.{nat_le, if◌then◌else◌}
use Rattle.ex_model.specs.Tokens.{Token, Number, Name, Sign, Equals, Opening, Closing, Separator}
use Rattle.ex_model.specs.Tree.{Tree}
use Rattle.ex_model.specs.Grammar.{level, Derives, integer, variable, parentheses, binary, match, tighter}
use Rattle.ex_source.specs.Machine.{Frame, Operand, Matched, Bracket, State, Want, Have, Done, Stuck, floor, reduce, have, want, step, Reaches, here, there}
use Rattle.ex_source.proofs.Complete.{and_on, last, Stops, NoEquals, complete}
use Rattle.ex_source.proofs.Sound.{Front, Good, good_step, bottom}

-- the machine is at its end
abbrev pub IsFinal : State → Type 0
IsFinal (Want s ts) = ⊥
IsFinal (Have s t ts) = ⊥
IsFinal (Done t ts) = Unit {0}
IsFinal Stuck = Unit {0}

stays : (a b : State) → IsFinal a → Reaches a b → a ≡ b
stays a b f here = refl
stays (Done t ts) b f (there p) = stays (Done t ts) b f p
stays Stuck b f (there p) = stays Stuck b f p
stays (Want s ts) b f (there p) = absurd f
stays (Have s t ts) b f (there p) = absurd f

pub one_end : {a b c : State} → Reaches a b → IsFinal b → Reaches a c → IsFinal c → b ≡ c
one_end {a} {b} {c} here fb q fc = stays a c fb q
one_end {a} {b} {c} (there p) fb here fc = sym (stays a b fc (there p))
one_end (there p) fb (there q) fc = one_end p fb q fc

-- an expression ends before a separator or the end of the tokens
abbrev pub EndsBefore : List Token → Type 0
EndsBefore [] = Unit {0}
EndsBefore (Separator ∷ ts) = Unit {0}
EndsBefore (t ∷ ts) = ⊥

ends_stops : (ts : List Token) → EndsBefore ts → Stops 0 ts
ends_stops [] h = tt
ends_stops (Separator ∷ ts) h = tt
ends_stops (t ∷ ts) h = absurd h

ends_no_equals : (ts : List Token) → EndsBefore ts → NoEquals ts
ends_no_equals [] h = tt
ends_no_equals (Separator ∷ ts) h = tt
ends_no_equals (t ∷ ts) h = absurd h

ends_done : (t : Tree) (ts : List Token) → EndsBefore ts → step (Have [] t ts) ≡ Done t ts
ends_done t [] h = refl
ends_done t (Separator ∷ ts) h = refl
ends_done t (u ∷ ts) h = absurd h

-- what derives before a separator is where the machine ends
pub comes_to : (ts rest : List Token) (t : Tree) → Derives 0 ts t → EndsBefore rest → Reaches (Want [] (ts ++ rest)) (Done t rest)
comes_to ts rest t d h = and_on (complete d [] rest (omega arith) (ends_stops rest h) (ends_no_equals rest h)) (last (ends_done t rest h))

-- soundness, over whole runs
good_reaches : (all : List Token) {a b : State} → Reaches a b → Good all a → Good all b
good_reaches all here g = g
good_reaches all (there {a} p) g = good_reaches all p (good_step all a g)

pub front_of : (all : List Token) (t : Tree) (rest : List Token) → Reaches (Want [] all) (Done t rest) → Front all t rest
front_of all t rest r = good_reaches all r (record { before = []; stacked = bottom; split = refl })

-- what derives has a token
pub derives_some : {l : ℕ} {ts : List Token} {t : Tree} → Derives l ts t → 0 < length ts
derives_some (integer n) = omega arith
derives_some (variable x) = omega arith
derives_some (parentheses d) = omega arith
derives_some (binary {o} {xs} {ys} d e) = omega (arith, length-append xs (Sign o ∷ ys))
derives_some (match {xs} {ys} p d) = omega (arith, length-append xs (Equals ∷ ys))
derives_some (tighter le d) = derives_some d

-- an expression takes a token
pub front_shorter : (all : List Token) (t : Tree) (rest : List Token) → Reaches (Want [] all) (Done t rest) → length rest < length all
front_shorter all t rest r = let f = front_of all t rest r in omega (arith, ap length f.split, length-append f.xs rest, derives_some f.derives)

-- each step takes a token or a frame
abbrev pub weight : State → ℕ
weight (Want s ts) = 1 + 2 * length ts + length s
weight (Have s t ts) = 1 + 2 * length ts + length s
weight (Done t ts) = 0
weight Stuck = 0

reduce_falls : (s : List Frame) (t : Tree) (ts : List Token) → weight (reduce s t ts) < 1 + 2 * length ts + length s
reduce_falls [] t ts = omega arith
reduce_falls (Operand o a ∷ s) t ts = omega arith
reduce_falls (Matched x ∷ s) t ts = omega arith
reduce_falls (Bracket ∷ s) t ts = omega arith

if_falls : (b : Bool) (x y : State) (n : ℕ) → weight x < n → weight y < n → weight (if b then x else y) < n
if_falls true x y n h k = h
if_falls false x y n h k = k

have_falls : (s : List Frame) (t : Tree) (ts : List Token) → weight (have s t ts) < 1 + 2 * length ts + length s
have_falls s t (Sign o ∷ ts) = if_falls (nat_le (floor s) (level o)) _ _ _ (omega arith) (reduce_falls s t (Sign o ∷ ts))
have_falls (Bracket ∷ s) t (Closing ∷ ts) = omega arith
have_falls s t ts = reduce_falls s t ts

want_falls : (s : List Frame) (ts : List Token) → weight (want s ts) < 1 + 2 * length ts + length s
want_falls s [] = omega arith
want_falls s (Number n ∷ ts) = omega arith
want_falls s (Name x ∷ Equals ∷ ts) = if_falls (nat_le (floor s) 0) _ _ _ (omega arith) (omega arith)
want_falls s (Name x ∷ ts) = omega arith
want_falls s (Opening ∷ ts) = omega arith
want_falls s (t ∷ ts) = omega arith

pub falls : (st : State) → 0 < weight st → weight (step st) < weight st
falls (Want s ts) h = want_falls s ts
falls (Have s t ts) h = have_falls s t ts
falls (Done t ts) h = absurd (omega arith)
falls Stuck h = absurd (omega arith)
