-- What derives is read.
use Rattle.std.proofs.Common.{◌≡◌, ℕ, ◌<◌, ◌≤◌, true, false, List, [], ◌∷◌, ◌++◌, refl, arith, append_assoc}
use Rattle.std.specs.Prelude.{nat_le}
use Rattle.std.proofs.lemmas.Bool.Decides.{nat_tests}
use Rattle.ex_model.specs.declared.ast.Operator.{Operator}
use Rattle.ex_model.specs.declared.ast.Operator.TheVariants.{Add, Subtract, Multiply}
use Rattle.ex_model.specs.Tokens.{Token, Name, Sign, Equals, Closing}
use Rattle.ex_model.specs.Tree.{Tree, Variable, Match, Binary, Named}
use Rattle.ex_model.specs.Grammar.{level, left, right, named, Derives, integer, variable, parentheses, binary, match, tighter}
use Rattle.ex_source.specs.Machine.{Frame, Operand, Matched, Bracket, State, Want, Have, floor, have, want, step, Reaches, here, there}

pub and_on : {a b c : State} → Reaches a b → Reaches b c → Reaches a c
and_on here q = q
and_on (there p) q = there (and_on p q)

-- one step that comes to the end
pub last : {a b : State} → step a ≡ b → Reaches a b
last {a} {b} e = there (rw e here)

-- an expression of this level is complete before these tokens
abbrev pub Stops : ℕ → List Token → Type 0
Stops l (Sign o ∷ ts) = left o ≤ l
Stops l ts = Unit {0}

abbrev pub NoEquals : List Token → Type 0
NoEquals (Equals ∷ ts) = ⊥
NoEquals ts = Unit {0}

-- where it is complete, it is so as part of a tighter level
pub stops_tighter : (l m : ℕ) (ts : List Token) → l ≤ m → Stops l ts → Stops m ts
stops_tighter l m [] h s = s
stops_tighter l m (Sign o ∷ ts) h s = omega arith
stops_tighter l m (t ∷ ts) h s = tt

pub is_le : (a b : ℕ) → a ≤ b → nat_le a b ≡ true
is_le a b h = grind (arith, nat_tests)

pub is_gt : (a b : ℕ) → b < a → nat_le a b ≡ false
is_gt a b h = grind (arith, nat_tests)

-- operators stand between matches and primaries
pub level_low : (o : Operator) → 0 < level o
level_low Add = omega arith
level_low Subtract = omega arith
level_low Multiply = omega arith

pub level_high : (o : Operator) → level o < 11
level_high Add = omega arith
level_high Subtract = omega arith
level_high Multiply = omega arith

-- what was begun is complete before these tokens
ends_binary : (s : List Frame) (o : Operator) (a b : Tree) (rest : List Token) → Stops (level o) rest → have (Operand o a ∷ s) b rest ≡ Have s (Binary o a b) rest
ends_binary s o a b [] h = refl
ends_binary s o a b (Sign m ∷ ts) h = rw (is_gt (right o) (level m) (omega arith)) refl
ends_binary s o a b (t ∷ ts) h = refl

ends_match : (s : List Frame) (x : List ℕ) (t : Tree) (rest : List Token) → Stops 0 rest → have (Matched x ∷ s) t rest ≡ Have s (Match (Named x) t) rest
ends_match s x t [] h = refl
ends_match s x t (Sign m ∷ ts) h = absurd (omega (arith, level_low m))
ends_match s x t (u ∷ ts) h = refl

reads_name : (s : List Frame) (x : List ℕ) (rest : List Token) → NoEquals rest → want s (Name x ∷ rest) ≡ Have s (Variable x) rest
reads_name s x [] h = refl
reads_name s x (Equals ∷ ts) h = absurd h
reads_name s x (t ∷ ts) h = refl

-- the machine reads what derives, and stops right after it
pub complete : {l : ℕ} {ts : List Token} {t : Tree} → Derives l ts t → (s : List Frame) (rest : List Token) → floor s ≤ l → Stops l rest → NoEquals rest → Reaches (Want s (ts ++ rest)) (Have s t rest)
complete (integer n) s rest f h e = there here
complete (variable x) s rest f h e = last (reads_name s x rest e)
complete (parentheses {ts = ts} d) s rest f h e =
    there (rw append_assoc (and_on (complete d (Bracket ∷ s) (Closing ∷ rest) (omega arith) tt tt) (there here)))
complete (binary {o} {xs} {ys} {a} {b} x y) s rest f h e =
    rw (append_assoc xs (Sign o ∷ ys) rest)
    (and_on (complete x s (Sign o ∷ (ys ++ rest)) f (omega arith) tt)
    (there (rw (is_le (floor s) (level o) f)
    (and_on (complete y (Operand o a ∷ s) rest (omega arith) (stops_tighter (level o) (right o) rest (omega arith) h) e)
    (last (ends_binary s o a b rest h))))))
complete (match {ys = ys} {t = t} (named x) d) s rest f h e =
    there (rw (is_le (floor s) 0 f) (and_on (complete d (Matched x ∷ s) rest (omega arith) h e) (last (ends_match s x t rest h))))
complete (tighter {l} {m} le d) s rest f h e = complete d s rest (omega arith) (stops_tighter l m rest le h) e
