-- Operators and their levels, and where an expression is complete.
use Rattle.std.proofs.Common.{◌≡◌, ℕ, ◌<◌, ◌≤◌, Bool, true, false, List, ◌∷◌, Option, Some, None, refl, sym, ap, ◌∙◌, arith, subst}
use Rattle.std.specs.Prelude.{nat_le, not, ◌&&◌}
use Rattle.std.proofs.lemmas.Bool.Decides.{nat_tests}
use Rattle.ex_grammar.specs.declared.operators.Operator.{Operator}
use Rattle.ex_grammar.specs.declared.operators.Operator.TheVariants as O
use Rattle.ex_grammar.specs.declared.operators.Infix.{Infix}
use Rattle.ex_grammar.specs.declared.operators.Infix.TheVariants as I
use Rattle.ex_grammar.specs.declared.operators.Prefix.{Prefix}
use Rattle.ex_grammar.specs.declared.operators.Prefix.TheVariants.{Negate, Keep, Not, StrictNot}
use Rattle.ex_grammar.specs.Tokens.{Token}
use Rattle.ex_grammar.specs.Operators.{level, left, right, row_of, infix_of, infix_token, prefix_of, prefix_token}
use Rattle.ex_grammar.specs.Trees.{Tree}
use Rattle.ex_grammar.specs.Grammar.{End, Closed, else_may_follow, is_negation, may_precede}
use Rattle.ex_parser.specs.declared.follow.Next.TheVariants as N
use Rattle.ex_parser.specs.Follow.{follow, first_infix}
use Rattle.ex_parser.specs.Machine.{Frame, Operand, Prefixed, Value, floor, have, have_by, ends, may_take, is_member}
use Rattle.ex_parser.proofs.Fronts.{Calm}

pub is_le : (a b : ℕ) → a ≤ b → nat_le a b ≡ true
is_le a b h = grind (arith, nat_tests)

pub is_gt : (a b : ℕ) → b < a → nat_le a b ≡ false
is_gt a b h = grind (arith, nat_tests)

pub le_is : (a b : ℕ) → nat_le a b ≡ true → a ≤ b
le_is a b h = grind (arith, nat_tests)

pub gt_is : (a b : ℕ) → nat_le a b ≡ false → b < a
gt_is a b h = grind (arith, nat_tests)

-- the tokens of operators
pub infix_back : (o : Operator) → infix_of (infix_token (I.Operator o)) ≡ Some (I.Operator o)
infix_back O.Or = refl
infix_back O.StrictOr = refl
infix_back O.And = refl
infix_back O.StrictAnd = refl
infix_back O.Equal = refl
infix_back O.NotEqual = refl
infix_back O.StrictEqual = refl
infix_back O.StrictNotEqual = refl
infix_back O.Less = refl
infix_back O.Greater = refl
infix_back O.LessOrEqual = refl
infix_back O.GreaterOrEqual = refl
infix_back O.Member = refl
infix_back O.Join = refl
infix_back O.Concat = refl
infix_back O.Add = refl
infix_back O.Subtract = refl
infix_back O.Multiply = refl

pub prefix_back : (o : Prefix) → prefix_of (prefix_token o) ≡ Some o
prefix_back Negate = refl
prefix_back Keep = refl
prefix_back Not = refl
prefix_back StrictNot = refl

-- the levels of an operator and of its sides
pub level_low : (o : Operator) → 1 ≤ level o
level_low O.Or = omega arith
level_low O.StrictOr = omega arith
level_low O.And = omega arith
level_low O.StrictAnd = omega arith
level_low O.Equal = omega arith
level_low O.NotEqual = omega arith
level_low O.StrictEqual = omega arith
level_low O.StrictNotEqual = omega arith
level_low O.Less = omega arith
level_low O.Greater = omega arith
level_low O.LessOrEqual = omega arith
level_low O.GreaterOrEqual = omega arith
level_low O.Member = omega arith
level_low O.Join = omega arith
level_low O.Concat = omega arith
level_low O.Add = omega arith
level_low O.Subtract = omega arith
level_low O.Multiply = omega arith

pub level_high : (o : Operator) → level o ≤ 9
level_high O.Or = omega arith
level_high O.StrictOr = omega arith
level_high O.And = omega arith
level_high O.StrictAnd = omega arith
level_high O.Equal = omega arith
level_high O.NotEqual = omega arith
level_high O.StrictEqual = omega arith
level_high O.StrictNotEqual = omega arith
level_high O.Less = omega arith
level_high O.Greater = omega arith
level_high O.LessOrEqual = omega arith
level_high O.GreaterOrEqual = omega arith
level_high O.Member = omega arith
level_high O.Join = omega arith
level_high O.Concat = omega arith
level_high O.Add = omega arith
level_high O.Subtract = omega arith
level_high O.Multiply = omega arith

pub level_le_left : (o : Operator) → level o ≤ left o
level_le_left O.Or = omega arith
level_le_left O.StrictOr = omega arith
level_le_left O.And = omega arith
level_le_left O.StrictAnd = omega arith
level_le_left O.Equal = omega arith
level_le_left O.NotEqual = omega arith
level_le_left O.StrictEqual = omega arith
level_le_left O.StrictNotEqual = omega arith
level_le_left O.Less = omega arith
level_le_left O.Greater = omega arith
level_le_left O.LessOrEqual = omega arith
level_le_left O.GreaterOrEqual = omega arith
level_le_left O.Member = omega arith
level_le_left O.Join = omega arith
level_le_left O.Concat = omega arith
level_le_left O.Add = omega arith
level_le_left O.Subtract = omega arith
level_le_left O.Multiply = omega arith

pub level_le_right : (o : Operator) → level o ≤ right o
level_le_right O.Or = omega arith
level_le_right O.StrictOr = omega arith
level_le_right O.And = omega arith
level_le_right O.StrictAnd = omega arith
level_le_right O.Equal = omega arith
level_le_right O.NotEqual = omega arith
level_le_right O.StrictEqual = omega arith
level_le_right O.StrictNotEqual = omega arith
level_le_right O.Less = omega arith
level_le_right O.Greater = omega arith
level_le_right O.LessOrEqual = omega arith
level_le_right O.GreaterOrEqual = omega arith
level_le_right O.Member = omega arith
level_le_right O.Join = omega arith
level_le_right O.Concat = omega arith
level_le_right O.Add = omega arith
level_le_right O.Subtract = omega arith
level_le_right O.Multiply = omega arith

pub right_high : (o : Operator) → right o ≤ 10
right_high O.Or = omega arith
right_high O.StrictOr = omega arith
right_high O.And = omega arith
right_high O.StrictAnd = omega arith
right_high O.Equal = omega arith
right_high O.NotEqual = omega arith
right_high O.StrictEqual = omega arith
right_high O.StrictNotEqual = omega arith
right_high O.Less = omega arith
right_high O.Greater = omega arith
right_high O.LessOrEqual = omega arith
right_high O.GreaterOrEqual = omega arith
right_high O.Member = omega arith
right_high O.Join = omega arith
right_high O.Concat = omega arith
right_high O.Add = omega arith
right_high O.Subtract = omega arith
right_high O.Multiply = omega arith

pub left_high : (o : Operator) → left o ≤ 10
left_high O.Or = omega arith
left_high O.StrictOr = omega arith
left_high O.And = omega arith
left_high O.StrictAnd = omega arith
left_high O.Equal = omega arith
left_high O.NotEqual = omega arith
left_high O.StrictEqual = omega arith
left_high O.StrictNotEqual = omega arith
left_high O.Less = omega arith
left_high O.Greater = omega arith
left_high O.LessOrEqual = omega arith
left_high O.GreaterOrEqual = omega arith
left_high O.Member = omega arith
left_high O.Join = omega arith
left_high O.Concat = omega arith
left_high O.Add = omega arith
left_high O.Subtract = omega arith
left_high O.Multiply = omega arith

pub join_left : (o : Operator) → left o ≤ 7 → level o < 7
join_left O.Or h = omega arith
join_left O.StrictOr h = omega arith
join_left O.And h = omega arith
join_left O.StrictAnd h = omega arith
join_left O.Equal h = omega arith
join_left O.NotEqual h = omega arith
join_left O.StrictEqual h = omega arith
join_left O.StrictNotEqual h = omega arith
join_left O.Less h = omega arith
join_left O.Greater h = omega arith
join_left O.LessOrEqual h = omega arith
join_left O.GreaterOrEqual h = omega arith
join_left O.Member h = omega arith
join_left O.Join h = omega arith
join_left O.Concat h = omega arith
join_left O.Add h = omega arith
join_left O.Subtract h = omega arith
join_left O.Multiply h = omega arith

pub pipe_apart : (o : Operator) → 5 ≤ level o → 5 < right o
pipe_apart O.Or h = omega arith
pipe_apart O.StrictOr h = omega arith
pipe_apart O.And h = omega arith
pipe_apart O.StrictAnd h = omega arith
pipe_apart O.Equal h = omega arith
pipe_apart O.NotEqual h = omega arith
pipe_apart O.StrictEqual h = omega arith
pipe_apart O.StrictNotEqual h = omega arith
pipe_apart O.Less h = omega arith
pipe_apart O.Greater h = omega arith
pipe_apart O.LessOrEqual h = omega arith
pipe_apart O.GreaterOrEqual h = omega arith
pipe_apart O.Member h = omega arith
pipe_apart O.Join h = omega arith
pipe_apart O.Concat h = omega arith
pipe_apart O.Add h = omega arith
pipe_apart O.Subtract h = omega arith
pipe_apart O.Multiply h = omega arith

-- operators of one level group to one side
pub apart : (o m : Operator) → left m ≤ level o → level m < right o
apart O.Or m h = omega (arith, level_le_left m)
apart O.StrictOr m h = omega (arith, level_le_left m)
apart O.And m h = omega (arith, level_le_left m)
apart O.StrictAnd m h = omega (arith, level_le_left m)
apart O.Equal m h = omega (arith, level_le_left m)
apart O.NotEqual m h = omega (arith, level_le_left m)
apart O.StrictEqual m h = omega (arith, level_le_left m)
apart O.StrictNotEqual m h = omega (arith, level_le_left m)
apart O.Less m h = omega (arith, level_le_left m)
apart O.Greater m h = omega (arith, level_le_left m)
apart O.LessOrEqual m h = omega (arith, level_le_left m)
apart O.GreaterOrEqual m h = omega (arith, level_le_left m)
apart O.Member m h = omega (arith, level_le_left m)
apart O.Join m h = join_left m h
apart O.Concat m h = join_left m h
apart O.Add m h = omega (arith, level_le_left m)
apart O.Subtract m h = omega (arith, level_le_left m)
apart O.Multiply m h = omega (arith, level_le_left m)

-- an operator stands between operands of its level
abbrev pub infix_level : Infix → ℕ
infix_level i = (row_of i).level

pub infix_high : (i : Infix) → infix_level i ≤ 9
infix_high I.Match = omega arith
infix_high I.Pipe = omega arith
infix_high (I.Operator o) = level_high o

-- an expression of this level and end is complete before an operator, or where none stands
abbrev pub StopsBy : Option Infix → ℕ → End → Type 0
StopsBy None l e = Unit {0}
StopsBy (Some (I.Operator o)) l e = (left o ≤ l) × (e ≡ Closed)
StopsBy (Some I.Pipe) l e = (5 ≤ l) × (e ≡ Closed)
StopsBy (Some I.Match) l e = ⊥

-- and before these tokens
pub record Stops (l : ℕ) (e : End) (ts : List Token) : Type 0 where
  pub before : StopsBy (first_infix ts) l e
  pub may_else : (follow ts).next ≡ N.CommaElse → else_may_follow e ≡ true

stops_by_tighter : (i : Option Infix) (l m : ℕ) (e : End) → l ≤ m → StopsBy i l e → StopsBy i m e
stops_by_tighter None l m e le h = tt
stops_by_tighter (Some (I.Operator o)) l m e le h = (omega (arith, h.0), h.1)
stops_by_tighter (Some I.Pipe) l m e le h = (omega (arith, h.0), h.1)
stops_by_tighter (Some I.Match) l m e le h = h

pub stops_tighter : (l m : ℕ) (e : End) (ts : List Token) → l ≤ m → Stops l e ts → Stops m e ts
stops_tighter l m e ts le h = record { before = stops_by_tighter (first_infix ts) l m e le h.before; may_else = h.may_else }

pub calm_stops : (l : ℕ) (e : End) (ts : List Token) → Calm ts → Stops l e ts
calm_stops l e ts c = record { before = subst (λ i. StopsBy i l e) (sym c.quiet) tt; may_else = λ h. absurd (c.no_else h) }

-- where no operator takes what was read, what was begun last does
not_taken_by : (i : Option Infix) (s : List Frame) (v : Value) (rest : List Token) → ((j : Infix) → i ≡ Some j → infix_level j < floor s) → have_by i s v rest ≡ ends s v rest
not_taken_by None s v rest h = refl
not_taken_by (Some j) s v rest h = rw (is_gt (floor s) (infix_level j) (h j refl)) refl

pub not_taken : (s : List Frame) (v : Value) (rest : List Token) → ((j : Infix) → first_infix rest ≡ Some j → infix_level j < floor s) → have s v rest ≡ ends s v rest
not_taken s v rest h = not_taken_by (first_infix rest) s v rest h

pub quiet_ends : (s : List Frame) (v : Value) (rest : List Token) → first_infix rest ≡ None → have s v rest ≡ ends s v rest
quiet_ends s v rest q = not_taken s v rest (λ j e. absurd (off j (sym q ∙ e)))
  where
    off : (j : Infix) → None ≡ Some j → ⊥
    off j e = cc

operand_stops : (o : Operator) (e : End) (i : Option Infix) → StopsBy i (level o) e → (j : Infix) → i ≡ Some j → infix_level j < right o
operand_stops o e None h j q = absurd (cc)
operand_stops o e (Some (I.Operator m)) h j q = subst (λ k. infix_level k < right o) (inner q) (apart o m h.0)
  where
    inner : Some (I.Operator m) ≡ Some j → I.Operator m ≡ j
    inner e = cc
operand_stops o e (Some I.Pipe) h j q = subst (λ k. infix_level k < right o) (inner q) (pipe_apart o h.0)
  where
    inner : Some I.Pipe ≡ Some j → I.Pipe ≡ j
    inner e = cc
operand_stops o e (Some I.Match) h j q = absurd h

pub operand_ends : (o : Operator) (a : Tree) (e : End) (s : List Frame) (v : Value) (rest : List Token) → Stops (level o) e rest → have (Operand o a ∷ s) v rest ≡ ends (Operand o a ∷ s) v rest
operand_ends o a e s v rest h = not_taken (Operand o a ∷ s) v rest (operand_stops o e (first_infix rest) h.before)

pub prefix_ends : (o : Prefix) (s : List Frame) (v : Value) (rest : List Token) → have (Prefixed o ∷ s) v rest ≡ ends (Prefixed o ∷ s) v rest
prefix_ends o s v rest = not_taken (Prefixed o ∷ s) v rest (λ j e. omega (arith, infix_high j))

-- after what isn't closed, and after a match, no operator stands
open_quiet_by : (i : Option Infix) (l : ℕ) (e : End) → (e ≡ Closed → ⊥) → StopsBy i l e → i ≡ None
open_quiet_by None l e n h = refl
open_quiet_by (Some (I.Operator o)) l e n h = absurd (n h.1)
open_quiet_by (Some I.Pipe) l e n h = absurd (n h.1)
open_quiet_by (Some I.Match) l e n h = absurd h

pub open_quiet : (l : ℕ) (e : End) (ts : List Token) → (e ≡ Closed → ⊥) → Stops l e ts → first_infix ts ≡ None
open_quiet l e ts n h = open_quiet_by (first_infix ts) l e n h.before

match_quiet_by : (i : Option Infix) (e : End) → StopsBy i 0 e → i ≡ None
match_quiet_by None e h = refl
match_quiet_by (Some (I.Operator o)) e h = absurd (omega (arith, h.0, level_low o, level_le_left o))
match_quiet_by (Some I.Pipe) e h = absurd (omega (arith, h.0))
match_quiet_by (Some I.Match) e h = absurd h

pub match_quiet : (e : End) (ts : List Token) → Stops 0 e ts → first_infix ts ≡ None
match_quiet e ts h = match_quiet_by (first_infix ts) e h.before

-- an operator may take what may stand before it
pub may_be_taken : (o : Operator) (v : Value) (xs : List Token) (a : Tree) → left o ≤ v.level → v.negates ≡ is_negation xs a → may_precede xs a o ≡ true → may_take o v ≡ true
may_be_taken o v xs a le n m = rw (is_le (left o) v.level le) (rest o m)
  where
    member : (b c : Bool) → b ≡ c → not c ≡ true → not (b && true) ≡ true
    member true c e m = absurd (let f : not true ≡ true = ap not e ∙ m in cc)
    member false c e m = refl

    other : (b : Bool) → not (b && false) ≡ true
    other true = refl
    other false = refl

    rest : (o : Operator) → may_precede xs a o ≡ true → not (v.negates && is_member o) ≡ true
    rest O.Member m = member v.negates (is_negation xs a) n m
    rest o m = other v.negates
