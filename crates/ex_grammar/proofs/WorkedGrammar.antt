-- Worked tokens and their trees.
use Rattle.std.proofs.Common.{◌≡◌, ℕ, ◌≤◌, [], ◌∷◌, codes, refl, lit≤, true, false}
use Rattle.ex_grammar.specs.declared.token.Sign.TheVariants as S
use Rattle.ex_grammar.specs.declared.token.Keyword.TheVariants as K
use Rattle.ex_grammar.specs.declared.operators.Operator.TheVariants.{Add, Member, Join}
use Rattle.ex_grammar.specs.declared.operators.Prefix.TheVariants.{Not, Negate}
use Rattle.ex_grammar.specs.Tokens.{Number, Name, Called, Alias, Key, Word, Mark, TextBegins, HoleBegins, HoleEnds, TextEnds, Separator}
use Rattle.ex_grammar.specs.Patterns as P
use Rattle.ex_grammar.specs.Trees.{Integer, Atom, Text, Variable, Tuple, Items, Call, Apply, Prefixed, If, IfElse, Case, For, NoTree, OneMore, NoHole, Hole, NoClause, Clause, NoPart, Filter}
use Rattle.ex_grammar.specs.Grammar.{Derives, Closed, Open, OpenIf, integer, variable, text, list, call, if_do, if_do_else, case_block, for_do, apply, pipe, tighter, plain_call, alias_call, last_item, last_key, items_alone, items_keys, no_hole, hole, last_one, without, with, last_clause, no_part, filter, may_precede, DeriveSource, expressions, no_expression}

int : (l n : ℕ) → l ≤ 11 → Derives l Closed (Number n ∷ []) (Integer n)
int l n le = tighter le integer

var : (l : ℕ) → l ≤ 11 → Derives l Closed (Name (codes "x") ∷ []) (Variable (codes "x"))
var l le = tighter le (variable refl)

-- `1 ++ 2 ++ 3` is `1 ++ (2 ++ 3)`
join-groups_right : Derives 0 Closed (Number 1 ∷ Mark S.PlusPlus ∷ Number 2 ∷ Mark S.PlusPlus ∷ Number 3 ∷ []) (Apply Join (Integer 1) (Apply Join (Integer 2) (Integer 3)))
join-groups_right = tighter (lit≤ tt) (apply {o = Join} {xs = Number 1 ∷ []} (int 8 1 (lit≤ tt)) refl (apply {o = Join} {xs = Number 2 ∷ []} (int 8 2 (lit≤ tt)) refl (int 7 3 (lit≤ tt))))

-- `if x, do: 1 + 2` reaches to the end
do-reaches : Derives 0 OpenIf (Word K.If ∷ Name (codes "x") ∷ Mark S.Comma ∷ Key (codes "do") ∷ Number 1 ∷ Mark S.Plus ∷ Number 2 ∷ []) (If (Variable (codes "x")) (OneMore (Apply Add (Integer 1) (Integer 2)) NoTree))
do-reaches = tighter (lit≤ tt) (if_do {cs = Name (codes "x") ∷ []} (var 0 (lit≤ tt)) (tighter (lit≤ tt) (apply {o = Add} {xs = Number 1 ∷ []} (int 8 1 (lit≤ tt)) refl (int 9 2 (lit≤ tt)))))

-- `if x, do: if x, do: 1, else: 2`: the `else:` is the inner one's
else-is_inner : Derives 11 OpenIf (Word K.If ∷ Name (codes "x") ∷ Mark S.Comma ∷ Key (codes "do") ∷ Word K.If ∷ Name (codes "x") ∷ Mark S.Comma ∷ Key (codes "do") ∷ Number 1 ∷ Mark S.Comma ∷ Key (codes "else") ∷ Number 2 ∷ [])
    (If (Variable (codes "x")) (OneMore (IfElse (Variable (codes "x")) (OneMore (Integer 1) NoTree) (OneMore (Integer 2) NoTree)) NoTree))
else-is_inner = if_do {cs = Name (codes "x") ∷ []} (var 0 (lit≤ tt)) (tighter (lit≤ tt) (if_do_else {cs = Name (codes "x") ∷ []} {ts = Number 1 ∷ []} (var 0 (lit≤ tt)) (int 0 1 (lit≤ tt)) refl (int 0 2 (lit≤ tt))))

-- `[1, a: 2]` is `[1, {:a, 2}]`; `f(1, a: 2)` is `f(1, [{:a, 2}])`
list-keys : Derives 11 Closed (Mark S.OpenBracket ∷ Number 1 ∷ Mark S.Comma ∷ Key (codes "a") ∷ Number 2 ∷ Mark S.CloseBracket ∷ []) (Items (OneMore (Integer 1) (OneMore (Tuple (OneMore (Atom (codes "a")) (OneMore (Integer 2) NoTree))) NoTree)))
list-keys = list {ts = Number 1 ∷ Mark S.Comma ∷ Key (codes "a") ∷ Number 2 ∷ []} (items_keys {ts = Number 1 ∷ []} (last_item (int 0 1 (lit≤ tt))) (last_key refl (int 0 2 (lit≤ tt))))

call-keys : Derives 11 Closed (Called (codes "f") ∷ Mark S.OpenParen ∷ Number 1 ∷ Mark S.Comma ∷ Key (codes "a") ∷ Number 2 ∷ Mark S.CloseParen ∷ [])
    (Call (codes "f") (OneMore (Integer 1) (OneMore (Items (OneMore (Tuple (OneMore (Atom (codes "a")) (OneMore (Integer 2) NoTree))) NoTree)) NoTree)))
call-keys = call (plain_call {ts = Number 1 ∷ Mark S.Comma ∷ Key (codes "a") ∷ Number 2 ∷ []} refl (items_keys {ts = Number 1 ∷ []} (last_item (int 0 1 (lit≤ tt))) (last_key refl (int 0 2 (lit≤ tt)))))

-- `x |> A.f(1)` is `A.f(x, 1)`
pipe-call : Derives 5 Closed (Name (codes "x") ∷ Mark S.Pipe ∷ Alias (codes "A") ∷ Mark S.Dot ∷ Called (codes "f") ∷ Mark S.OpenParen ∷ Number 1 ∷ Mark S.CloseParen ∷ []) (Call (codes "A.f") (OneMore (Variable (codes "x")) (OneMore (Integer 1) NoTree)))
pipe-call = pipe {xs = Name (codes "x") ∷ []} (var 5 (lit≤ tt)) (alias_call {ts = Number 1 ∷ []} refl (items_alone (last_item (int 0 1 (lit≤ tt)))))

-- `"a#{x}"`
text-hole : Derives 11 Closed (TextBegins (codes "a") ∷ HoleBegins ∷ Name (codes "x") ∷ HoleEnds [] ∷ TextEnds ∷ []) (Text (codes "a") (Hole (Variable (codes "x")) [] NoHole))
text-hole = text {ts = HoleBegins ∷ Name (codes "x") ∷ HoleEnds [] ∷ []} (hole {ts = Name (codes "x") ∷ []} (var 0 (lit≤ tt)) no_hole)

-- `-x in [x]` derives; `!x` may not stand before `in`, and `(!x)` may
negated-in : may_precede (Mark S.Bang ∷ Name (codes "x") ∷ []) (Prefixed Not (Variable (codes "x"))) Member ≡ false
negated-in = refl

parens-in : may_precede (Mark S.OpenParen ∷ Mark S.Bang ∷ Name (codes "x") ∷ Mark S.CloseParen ∷ []) (Prefixed Not (Variable (codes "x"))) Member ≡ true
parens-in = refl

minus-not_in : may_precede (Mark S.Minus ∷ Mark S.Bang ∷ Name (codes "x") ∷ []) (Prefixed Negate (Prefixed Not (Variable (codes "x")))) Member ≡ true
minus-not_in = refl

-- `case x do` / `{_, ^x} -> 1` / `end`
case-tuple : Derives 11 Closed (Word K.Case ∷ Name (codes "x") ∷ Word K.Do ∷ Separator ∷ Mark S.OpenBrace ∷ Name (codes "_") ∷ Mark S.Comma ∷ Mark S.Caret ∷ Name (codes "x") ∷ Mark S.CloseBrace ∷ Mark S.RightArrow ∷ Number 1 ∷ Separator ∷ Word K.End ∷ [])
    (Case (Variable (codes "x")) (Clause (P.Tuple (P.OneMore (P.Named (codes "_")) (P.OneMore (P.Pinned (codes "x")) P.NoPattern))) (OneMore (Integer 1) NoTree) NoClause))
case-tuple = case_block {cs = Name (codes "x") ∷ []} {ts = Mark S.OpenBrace ∷ Name (codes "_") ∷ Mark S.Comma ∷ Mark S.Caret ∷ Name (codes "x") ∷ Mark S.CloseBrace ∷ Mark S.RightArrow ∷ Number 1 ∷ []} (var 0 (lit≤ tt)) with
    (last_clause {ps = Mark S.OpenBrace ∷ Name (codes "_") ∷ Mark S.Comma ∷ Mark S.Caret ∷ Name (codes "x") ∷ Mark S.CloseBrace ∷ []} (P.tuple {ts = Name (codes "_") ∷ Mark S.Comma ∷ Mark S.Caret ∷ Name (codes "x") ∷ []} (P.more_patterns {ts = Name (codes "_") ∷ []} P.name (P.last_pattern P.pinned))) without (last_one (int 0 1 (lit≤ tt)))) with

-- `for x <- x, x, do: 1`
for-filter : Derives 11 Open (Word K.For ∷ Name (codes "x") ∷ Mark S.LeftArrow ∷ Name (codes "x") ∷ Mark S.Comma ∷ Name (codes "x") ∷ Mark S.Comma ∷ Key (codes "do") ∷ Number 1 ∷ [])
    (For (P.Named (codes "x")) (Variable (codes "x")) (Filter (Variable (codes "x")) NoPart) (OneMore (Integer 1) NoTree))
for-filter = for_do {ps = Name (codes "x") ∷ []} {gs = Name (codes "x") ∷ []} {rs = Mark S.Comma ∷ Name (codes "x") ∷ []} P.name (var 0 (lit≤ tt)) (filter {fs = Name (codes "x") ∷ []} (var 0 (lit≤ tt)) no_part) (int 0 1 (lit≤ tt))

-- the empty source, and `; 1;`
source-empty : DeriveSource [] NoTree
source-empty = no_expression without

source-separated : DeriveSource (Separator ∷ Number 1 ∷ Separator ∷ []) (OneMore (Integer 1) NoTree)
source-separated = expressions {ts = Number 1 ∷ []} with (last_one (int 0 1 (lit≤ tt))) with
