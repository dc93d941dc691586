-- What is read derives.
use Rattle.std.proofs.Common.{◌≡◌, ℕ, ◌<◌, ◌≤◌, Bool, true, false, List, [], ◌∷◌, ◌++◌, refl, ◌∙◌, arith, append_assoc}
use Rattle.std.specs.Prelude.{nat_le, if◌then◌else◌}
use Rattle.std.proofs.lemmas.Bool.Decides.{nat_tests}
use Rattle.ex_model.specs.declared.ast.Operator.{Operator}
use Rattle.ex_model.specs.Tokens.{Token, Number, Name, Sign, Equals, Opening, Closing}
use Rattle.ex_model.specs.Tree.{Tree, Integer, Variable}
use Rattle.ex_model.specs.Grammar.{level, left, named, Derives, integer, variable, parentheses, binary, match, tighter}
use Rattle.ex_source.specs.Machine.{Frame, Operand, Matched, Bracket, State, Want, Have, Done, Stuck, floor, reduce, have, want, at_sign, at_closing, step}
use Rattle.ex_source.proofs.Complete.{Stops, level_high}

-- the frames stand for these tokens
pub data Stacked : List Frame → List Token → Type 0 where
  bottom : Stacked [] []
  on_binary : {o : Operator} {a : Tree} {s : List Frame} {before xs : List Token} → Stacked s before → floor s ≤ level o → Derives (left o) xs a → Stacked (Operand o a ∷ s) (before ++ (xs ++ Sign o ∷ []))
  on_match : {x : List ℕ} {s : List Frame} {before : List Token} → Stacked s before → floor s ≤ 0 → Stacked (Matched x ∷ s) (before ++ (Name x ∷ Equals ∷ []))
  on_bracket : {s : List Frame} {before : List Token} → Stacked s before → Stacked (Bracket ∷ s) (before ++ Opening ∷ [])

-- the expression that was read, after the frames
pub record Read (all : List Token) (s : List Frame) (t : Tree) (rest : List Token) : Type 0 where
  pub before : List Token
  pub xs : List Token
  pub l : ℕ
  pub stacked : Stacked s before
  pub derives : Derives l xs t
  pub admits : floor s ≤ l
  pub stops : Stops l rest
  pub split : all ≡ before ++ (xs ++ rest)

-- the front of the tokens derives this tree
pub record Front (all : List Token) (t : Tree) (rest : List Token) : Type 0 where
  pub xs : List Token
  pub derives : Derives 0 xs t
  pub split : all ≡ xs ++ rest

pub record Begun (all : List Token) (s : List Frame) (rest : List Token) : Type 0 where
  pub before : List Token
  pub stacked : Stacked s before
  pub split : all ≡ before ++ rest

abbrev pub Good : List Token → State → Type 0
Good all (Want s rest) = Begun all s rest
Good all (Have s t rest) = Read all s t rest
Good all (Done t rest) = Front all t rest
Good all Stuck = Unit {0}

-- the topmost frame is complete before these tokens
abbrev Reduces : List Frame → List Token → Type 0
Reduces s (Sign m ∷ ts) = level m < floor s
Reduces s ts = Unit {0}

stops_primary : (ts : List Token) → Stops 11 ts
stops_primary [] = tt
stops_primary (Sign m ∷ ts) = omega (arith, level_high m)
stops_primary (t ∷ ts) = tt

stops_binary : (l : ℕ) (o : Operator) (a : Tree) (s : List Frame) (ts : List Token) → Stops l ts → Reduces (Operand o a ∷ s) ts → Stops (level o) ts
stops_binary l o a s [] h r = tt
stops_binary l o a s (Sign m ∷ ts) h r = omega arith
stops_binary l o a s (t ∷ ts) h r = tt

stops_match : (l : ℕ) (x : List ℕ) (s : List Frame) (ts : List Token) → Stops l ts → Reduces (Matched x ∷ s) ts → Stops 0 ts
stops_match l x s [] h r = tt
stops_match l x s (Sign m ∷ ts) h r = absurd (omega arith)
stops_match l x s (t ∷ ts) h r = tt

floor_small : (s : List Frame) → floor s ≤ 11
floor_small [] = omega arith
floor_small (Operand o a ∷ s) = omega (arith, level_high o)
floor_small (Matched x ∷ s) = omega arith
floor_small (Bracket ∷ s) = omega arith

good_reduce : (all : List Token) {s : List Frame} {before xs : List Token} {l : ℕ} {t : Tree} → Stacked s before → Derives l xs t → floor s ≤ l
    → (rest : List Token) → Stops l rest → Reduces s rest → all ≡ before ++ (xs ++ rest) → Good all (reduce s t rest)
good_reduce all {xs = xs} bottom d f rest h r sp = record { xs = xs; derives = tighter (omega arith) d; split = sp }
good_reduce all {xs = xs} {l = l} (on_binary {o} {a} {s} {before} {xs = ys} st le da) d f rest h r sp = record {
  before = before;
  xs = ys ++ Sign o ∷ xs;
  l = level o;
  stacked = st;
  derives = binary da (tighter f d);
  admits = le;
  stops = stops_binary l o a s rest h r;
  split = sp ∙ simp append_assoc;
}
good_reduce all {xs = xs} {l = l} (on_match {x} {s} {before} st le) d f rest h r sp = record {
  before = before;
  xs = Name x ∷ Equals ∷ xs;
  l = 0;
  stacked = st;
  derives = match {xs = Name x ∷ []} (named x) (tighter (omega arith) d);
  admits = le;
  stops = stops_match l x s rest h r;
  split = sp ∙ simp append_assoc;
}
good_reduce all (on_bracket st) d f rest h r sp = tt

good_if : (all : List Token) (b : Bool) (x y : State) → (b ≡ true → Good all x) → (b ≡ false → Good all y) → Good all (if b then x else y)
good_if all true x y f g = f refl
good_if all false x y f g = g refl

le_is : (a b : ℕ) → nat_le a b ≡ true → a ≤ b
le_is a b h = grind (arith, nat_tests)

gt_is : (a b : ℕ) → nat_le a b ≡ false → b < a
gt_is a b h = grind (arith, nat_tests)

good_sign : (all : List Token) (s : List Frame) (t : Tree) (o : Operator) (ts : List Token) → Read all s t (Sign o ∷ ts) → Good all (at_sign s t o ts)
good_sign all s t o ts r = good_if all (nat_le (floor s) (level o)) (Want (Operand o t ∷ s) ts) (reduce s t (Sign o ∷ ts))
    (λ le. record {
      before = r.before ++ (r.xs ++ Sign o ∷ []);
      stacked = on_binary r.stacked (le_is (floor s) (level o) le) (tighter r.stops r.derives);
      split = r.split ∙ simp append_assoc;
    })
    (λ gt. good_reduce all r.stacked r.derives r.admits (Sign o ∷ ts) r.stops (gt_is (floor s) (level o) gt) r.split)

good_closing : (all : List Token) (s : List Frame) (t : Tree) (ts : List Token) → Read all s t (Closing ∷ ts) → Good all (at_closing s t ts)
good_closing all s t ts r = closing r.stacked r.derives r.admits r.stops r.split
  where
    closing : {s : List Frame} {before xs : List Token} {l : ℕ} → Stacked s before → Derives l xs t → floor s ≤ l → Stops l (Closing ∷ ts) → all ≡ before ++ (xs ++ Closing ∷ ts) → Good all (at_closing s t ts)
    closing {xs = xs} (on_bracket {s} {before} st) d f h sp = record {
      before = before;
      xs = Opening ∷ (xs ++ Closing ∷ []);
      l = 11;
      stacked = st;
      derives = parentheses (tighter (omega arith) d);
      admits = floor_small s;
      stops = stops_primary ts;
      split = sp ∙ simp append_assoc;
    }
    closing st d f h sp = good_reduce all st d f (Closing ∷ ts) h tt sp

good_have : (all : List Token) (s : List Frame) (t : Tree) (ts : List Token) → Read all s t ts → Good all (have s t ts)
good_have all s t [] r = good_reduce all r.stacked r.derives r.admits [] r.stops tt r.split
good_have all s t (Sign o ∷ ts) r = good_sign all s t o ts r
good_have all s t (Closing ∷ ts) r = good_closing all s t ts r
good_have all s t (u ∷ ts) r = good_reduce all r.stacked r.derives r.admits (u ∷ ts) r.stops tt r.split

read_one : (all : List Token) (s : List Frame) (u : Token) (t : Tree) (ts : List Token) → Derives 11 (u ∷ []) t → Begun all s (u ∷ ts) → Read all s t ts
read_one all s u t ts d b = record { before = b.before; xs = u ∷ []; l = 11; stacked = b.stacked; derives = d; admits = floor_small s; stops = stops_primary ts; split = b.split }

good_want : (all : List Token) (s : List Frame) (ts : List Token) → Begun all s ts → Good all (want s ts)
good_want all s [] b = tt
good_want all s (Number n ∷ ts) b = read_one all s (Number n) (Integer n) ts (integer n) b
good_want all s (Name x ∷ Equals ∷ ts) b = good_if all (nat_le (floor s) 0) (Want (Matched x ∷ s) ts) Stuck
    (λ le. record { before = b.before ++ Name x ∷ Equals ∷ []; stacked = on_match b.stacked (le_is (floor s) 0 le); split = b.split ∙ simp append_assoc })
    (λ gt. tt)
good_want all s (Name x ∷ []) b = read_one all s (Name x) (Variable x) [] (variable x) b
good_want all s (Name x ∷ u ∷ ts) b = read_one all s (Name x) (Variable x) (u ∷ ts) (variable x) b
good_want all s (Opening ∷ ts) b = record { before = b.before ++ Opening ∷ []; stacked = on_bracket b.stacked; split = b.split ∙ simp append_assoc }
good_want all s (u ∷ ts) b = tt

pub good_step : (all : List Token) (st : State) → Good all st → Good all (step st)
good_step all (Want s ts) g = good_want all s ts g
good_step all (Have s t ts) g = good_have all s t ts g
good_step all (Done t ts) g = g
good_step all Stuck g = tt
