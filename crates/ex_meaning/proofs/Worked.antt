-- Worked cells: what each shows, its steps counted by hand, and what it binds.
use Rattle.std.proofs.Common.{◌≡◌, ℕ, pos, List, [], ◌∷◌, codes, refl}
use Rattle.std.specs.Prelude.{negsuc}
use Rattle.ex_grammar.specs.declared.token.WordValue.TheVariants as W
use Rattle.ex_grammar.specs.declared.operators.Operator.TheVariants as O
use Rattle.ex_grammar.specs.declared.operators.Prefix.TheVariants as F
use Rattle.ex_grammar.specs.Patterns as P
use Rattle.ex_grammar.specs.Patterns.{Pattern, Patterns, NoPattern}
use Rattle.ex_grammar.specs.Trees.{Tree, Integer, Atom, WordIs, Text, Variable, Tuple, Items, ItemsThen, Call, Match, Apply, Prefixed, If, IfElse, Case, Cond, For, Trees, NoTree, OneMore, NoHole, Hole, NoClause, Clause, NoChoice, Choice, NoPart, Generator, Filter}
use Rattle.ex_terms.specs.declared.values.Value.{Value}
use Rattle.ex_terms.specs.declared.values.Value.TheVariants as V
use Rattle.ex_faults.specs.declared.fault.Fault.{Fault}
use Rattle.ex_faults.specs.declared.fault.Fault.TheVariants as Y
use Rattle.ex_prims.specs.Answers.{list, tuple, nil}
use Rattle.ex_meaning.specs.Bound.{Bindings}
use Rattle.ex_meaning.specs.Means.{IsValue, IsFault, meaning}

-- expressions, patterns, integers
abbrev one : Tree → Trees
one t = OneMore t NoTree

abbrev two : Tree → Tree → Trees
two t u = OneMore t (one u)

abbrev one_pattern : Pattern → Patterns
one_pattern p = P.OneMore p NoPattern

abbrev two_patterns : Pattern → Pattern → Patterns
two_patterns p q = P.OneMore p (one_pattern q)

abbrev name : List ℕ → Pattern
name x = P.Named x

abbrev x : List ℕ
x = codes "x"

abbrev y : List ℕ
y = codes "y"

abbrev z : List ℕ
z = codes "z"

abbrev number : ℕ → Value
number n = V.Int (pos n)

-- over no bindings and with the steps of a cell, expressions show a value in so many steps, and bind these names
abbrev Shows : Trees → Value → ℕ → Bindings → Type 0
Shows ts v n made = meaning ts [] 200000 ≡ record { printed = []; outcome = IsValue v; steps = n; made = made }

-- they show a fault in so many steps, after they printed this
abbrev Faults : Trees → Fault → ℕ → List ℕ → Type 0
Faults ts f n printed = meaning ts [] 200000 ≡ record { printed = printed; outcome = IsFault f; steps = n; made = [] }

-- `1 + 2`: three nodes, and the sizes of 1, 2 and 3; with a step less there are too few
abbrev sum : Trees
sum = one (Apply O.Add (Integer 1) (Integer 2))

pub sum-shows : Shows sum (number 3) 6 []
sum-shows = refl

sum-within_five : meaning sum [] 5 ≡ record { printed = []; outcome = IsFault Y.TooManySteps; steps = 5; made = [] }
sum-within_five = refl

-- no step at all
none-left : meaning (one (Integer 1)) [] 0 ≡ record { printed = []; outcome = IsFault Y.TooManySteps; steps = 0; made = [] }
none-left = refl

-- nothing is `nil`
nothing : Shows NoTree nil 0 []
nothing = refl

-- `x = 1`: two nodes and the pattern's
match : Shows (one (Match (name x) (Integer 1))) (number 1) 3 ((x, number 1) ∷ [])
match = refl

-- `x = 1`, then `x = 2`: the later binding stands in the place of the earlier
match-again : Shows (two (Match (name x) (Integer 1)) (Match (name x) (Integer 2))) (number 2) 6 ((x, number 2) ∷ [])
match-again = refl

-- `x` without a binding, and with one from before
unbound : Faults (one (Variable x)) (Y.UnboundVariable x) 1 []
unbound = refl

from-before : meaning (two (Match (name y) (Variable x)) (Variable y)) ((x, number 7) ∷ []) 10 ≡ record { printed = []; outcome = IsValue (number 7); steps = 4; made = (y, number 7) ∷ [] }
from-before = refl

-- `[a: 1]`: the list, the tuple, the atom and the integer, and the sizes 3 and 4
key : Shows (one (Items (one (Tuple (two (Atom (codes "a")) (Integer 1)))))) (list (tuple (V.Atom (codes "a") ∷ number 1 ∷ []) ∷ [])) 11 []
key = refl

-- `{x, x} = {1, 1}`, and with 2
same-twice : Shows (one (Match (P.Tuple (two_patterns (name x) (name x))) (Tuple (two (Integer 1) (Integer 1))))) (tuple (number 1 ∷ number 1 ∷ [])) 10 ((x, number 1) ∷ [])
same-twice = refl

not-the-same : Faults (one (Match (P.Tuple (two_patterns (name x) (name x))) (Tuple (two (Integer 1) (Integer 2))))) (Y.NoMatch (tuple (number 1 ∷ number 2 ∷ []))) 10 []
not-the-same = refl

-- `{_, _} = {1, 2}` binds nothing
underscores : Shows (one (Match (P.Tuple (two_patterns (name (codes "_")) (name (codes "_")))) (Tuple (two (Integer 1) (Integer 2))))) (tuple (number 1 ∷ number 2 ∷ [])) 10 []
underscores = refl

-- `{x, x} = {1}` has another number of items, which is seen before them
too-few-items : Faults (one (Match (P.Tuple (two_patterns (name x) (name x))) (Tuple (one (Integer 1))))) (Y.NoMatch (tuple (number 1 ∷ []))) 6 []
too-few-items = refl

-- `^x = 1` without a binding, and where x is 1: then the sizes of both are taken too
pin-unbound : Faults (one (Match (P.Pinned x) (Integer 1))) (Y.UnboundVariable x) 3 []
pin-unbound = refl

pin-same : meaning (one (Match (P.Pinned x) (Integer 1))) ((x, number 1) ∷ []) 5 ≡ record { printed = []; outcome = IsValue (number 1); steps = 5; made = [] }
pin-same = refl

-- `-1 = -1`: the operator, the integer and two sizes, and one step for the pattern
negative : Shows (one (Match (P.Negative 1) (Prefixed F.Negate (Integer 1)))) (V.Int (negsuc 0)) 6 []
negative = refl

-- `"ab" = 1`: a text pattern takes the size of the value
text-pattern : Faults (one (Match (P.Text (codes "ab")) (Integer 1))) (Y.NoMatch (number 1)) 4 []
text-pattern = refl

-- `[x | y] = [1, 2]`
head-and-rest : Shows (one (Match (P.ItemsThen (one_pattern (name x)) (name y)) (Items (two (Integer 1) (Integer 2))))) (list (number 1 ∷ number 2 ∷ [])) 10 ((x, number 1) ∷ (y, list (number 2 ∷ [])) ∷ [])
head-and-rest = refl

-- `[1 | [2]]` and `[1 | 2]`
list-then : Shows (one (ItemsThen (one (Integer 1)) (Items (one (Integer 2))))) (list (number 1 ∷ number 2 ∷ [])) 9 []
list-then = refl

list-then_wrong : Faults (one (ItemsThen (one (Integer 1)) (Integer 2))) (Y.BadArgument (codes "|") 2) 3 []
list-then_wrong = refl

-- `true && (y = 1)`, then `y`: what the right operand binds doesn't leave it
right-scoped : Faults (two (Apply O.And (WordIs W.True) (Match (name y) (Integer 1))) (Variable y)) (Y.UnboundVariable y) 6 []
right-scoped = refl

-- `(y = 1) || z`, then `y`: what the left one binds does, and the right one isn't evaluated
left-leaves : Shows (two (Apply O.Or (Match (name y) (Integer 1)) (Variable z)) (Variable y)) (number 1) 5 ((y, number 1) ∷ [])
left-leaves = refl

-- `true && nil || {:a, -3}`
mixed : Shows (one (Apply O.Or (Apply O.And (WordIs W.True) (WordIs W.Nil)) (Tuple (two (Atom (codes "a")) (Prefixed F.Negate (Integer 3)))))) (tuple (V.Atom (codes "a") ∷ V.Int (negsuc 2) ∷ [])) 13 []
mixed = refl

-- `true and 5`, `false and x`, `1 and 2`, `false or 3`
strict-and : Shows (one (Apply O.StrictAnd (WordIs W.True) (Integer 5))) (number 5) 3 []
strict-and = refl

strict-and_skips : Shows (one (Apply O.StrictAnd (WordIs W.False) (Variable x))) (V.Atom (codes "false")) 2 []
strict-and_skips = refl

strict-and_wrong : Faults (one (Apply O.StrictAnd (Integer 1) (Integer 2))) (Y.NotABoolean (number 1)) 2 []
strict-and_wrong = refl

strict-or : Shows (one (Apply O.StrictOr (WordIs W.False) (Integer 3))) (number 3) 3 []
strict-or = refl

-- `if (y = 1), do: (z = 2)`: the condition's binding leaves, the body's doesn't
if-binds : Shows (one (If (Match (name y) (Integer 1)) (one (Match (name z) (Integer 2))))) (number 2) 7 ((y, number 1) ∷ [])
if-binds = refl

-- `if nil, do: 1`, and with `else: 2`
if-not : Shows (one (If (WordIs W.Nil) (one (Integer 1)))) nil 2 []
if-not = refl

if-else : Shows (one (IfElse (WordIs W.Nil) (one (Integer 1)) (one (Integer 2)))) (number 2) 3 []
if-else = refl

-- `case {1, 2} do {x, y} -> x + y end`
case : Shows (one (Case (Tuple (two (Integer 1) (Integer 2))) (Clause (P.Tuple (two_patterns (name x) (name y))) (one (Apply O.Add (Variable x) (Variable y))) NoClause))) (number 3) 16 []
case = refl

-- `case (z = 3) do 1 -> 2` and `x -> x end`: the subject's binding leaves
case-second : Shows (one (Case (Match (name z) (Integer 3)) (Clause (P.Integer 1) (one (Integer 2)) (Clause (name x) (one (Variable x)) NoClause)))) (number 3) 7 ((z, number 3) ∷ [])
case-second = refl

no-case : Faults (one (Case (Integer 3) (Clause (P.Integer 1) (one (Integer 2)) NoClause))) (Y.NoCase (number 3)) 3 []
no-case = refl

-- `cond do (x = nil) -> 1` and `true -> x end`: later bodies see what earlier conditions bound, and it doesn't leave
cond : Shows (one (Cond (Choice (Match (name x) (WordIs W.Nil)) (one (Integer 1)) (Choice (WordIs W.True) (one (Variable x)) NoChoice)))) nil 6 []
cond = refl

no-cond : Faults (one (Cond (Choice (WordIs W.Nil) (one (Integer 1)) NoChoice))) Y.NoCond 2 []
no-cond = refl

-- `for x <- [1, 2, 3], rem(x, 2) == 1, do: x * x`
for-squares : Shows (one (For (name x) (Items (OneMore (Integer 1) (two (Integer 2) (Integer 3)))) (Filter (Apply O.Equal (Call (codes "rem") (two (Variable x) (Integer 2))) (Integer 1)) NoPart) (one (Apply O.Multiply (Variable x) (Variable x))))) (list (number 1 ∷ number 9 ∷ [])) 60 []
for-squares = refl

-- `for x <- [1, 2], z = x, y <- [1, 2], do: (z = z + y)`: each item begins anew
for-anew : Shows (one (For (name x) (Items (two (Integer 1) (Integer 2))) (Filter (Match (name z) (Variable x)) (Generator (name y) (Items (two (Integer 1) (Integer 2))) NoPart)) (one (Match (name z) (Apply O.Add (Variable z) (Variable y)))))) (list (number 2 ∷ number 3 ∷ number 3 ∷ number 4 ∷ [])) 68 []
for-anew = refl

-- `for {:ok, x} <- [{:ok, 1}, 2], do: x`: an item that the pattern doesn't take is skipped
for-skips : Shows (one (For (P.Tuple (two_patterns (P.Atom (codes "ok")) (name x))) (Items (two (Tuple (two (Atom (codes "ok")) (Integer 1))) (Integer 2))) NoPart (one (Variable x)))) (list (number 1 ∷ [])) 21 []
for-skips = refl

for-wrong : Faults (one (For (name x) (Integer 5) NoPart (one (Variable x)))) (Y.BadArgument (codes "for") 1) 2 []
for-wrong = refl

-- `"n = #{:b}!"`: the nodes and the size of the text
text-holes : Shows (one (Text (codes "n = ") (Hole (Atom (codes "b")) (codes "!") NoHole))) (V.Str (codes "n = b!")) 3 []
text-holes = refl

-- `"#{ {1} }#{x}"`: a value without a text is refused when it is put in
no-text : Faults (one (Text [] (Hole (Tuple (one (Integer 1))) [] (Hole (Variable x) [] NoHole)))) (Y.NoText (tuple (number 1 ∷ []))) 5 []
no-text = refl

-- `Enum.sum([1, 2, 3]) |> max(10)`
pipe : Shows (one (Call (codes "max") (two (Call (codes "Enum.sum") (one (Items (OneMore (Integer 1) (two (Integer 2) (Integer 3)))))) (Integer 10)))) (number 10) 19 []
pipe = refl

unknown-call : Faults (one (Call (codes "foo") (one (Integer 1)))) (Y.UnknownFunction (codes "foo") 1) 2 []
unknown-call = refl

-- `IO.puts("a")`, then `1 = 2`: what was printed stays
printed-before : Faults (two (Call (codes "IO.puts") (one (Text (codes "a") NoHole))) (Match (P.Integer 1) (Integer 2))) (Y.NoMatch (number 2)) 7 (codes "a\n")
printed-before = refl

-- `IO.puts({1})` prints nothing
puts-nothing : Faults (one (Call (codes "IO.puts") (one (Tuple (one (Integer 1)))))) (Y.NoText (tuple (number 1 ∷ []))) 5 []
puts-nothing = refl
