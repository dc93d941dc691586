-- Steps of the machine after an expression.
use Rattle.std.proofs.Common.{◌≡◌, ℕ, ◌≤◌, Bool, true, false, List, [], ◌∷◌, ◌++◌, Some, refl, sym, ap, ◌∙◌, arith, subst}
use Rattle.std.specs.Prelude.{option_map}
use Rattle.ex_grammar.specs.declared.token.Sign.TheVariants as S
use Rattle.ex_grammar.specs.declared.token.Keyword.{Keyword}
use Rattle.ex_grammar.specs.declared.token.Keyword.TheVariants as K
use Rattle.ex_grammar.specs.declared.token.WordValue.{WordValue}
use Rattle.ex_grammar.specs.declared.token.WordValue.TheVariants as W
use Rattle.ex_grammar.specs.declared.operators.Operator.{Operator}
use Rattle.ex_grammar.specs.declared.operators.Infix.TheVariants as I
use Rattle.ex_grammar.specs.Tokens as T
use Rattle.ex_grammar.specs.Tokens.{Token, Mark, Word, Key, Called, Alias, TextBegins, HoleBegins, HoleEnds, TextEnds, Separator}
use Rattle.ex_grammar.specs.Operators.{level, infix_token, primary_level, pipe_level}
use Rattle.ex_grammar.specs.Patterns as P
use Rattle.ex_grammar.specs.Patterns.{Pattern, Patterns, NoPattern, word_value}
use Rattle.ex_grammar.specs.Trees as E
use Rattle.ex_grammar.specs.Trees.{Tree, Trees, NoTree, OneMore, Holes, NoHole, Clauses, NoClause, Choices, NoChoice, Parts, NoPart, joined}
use Rattle.ex_grammar.specs.Grammar as D
use Rattle.ex_grammar.specs.Grammar.{End, Closed, Open, OpenIf, reaching, else_may_follow, DerivesCall, MaySeparate, without, with, do_key, else_key, is_block_key, is_underscore, is_negation, arguments, pair}
use Rattle.ex_parser.specs.declared.follow.Next.{Next}
use Rattle.ex_parser.specs.declared.follow.Next.TheVariants as N
use Rattle.ex_parser.specs.Follow.{follow, after_separator, Begun, call_head}
use Rattle.ex_parser.specs.Machine.{name_tree, do_if, Value, made, plain, onto, Head, Block, Then, Otherwise, InClause, InChoice, Frame, Operand, Matched, Parens, Condition, DoIf, DoElse, Body, Subject, FirstPattern, FirstCondition, ForPattern, ForSource, Part, PartSource, DoFor, Want, Have, floor, called, in_parens, one, for_tree, block_tree, may_take, step, Reaches, here, there}
use Rattle.ex_parser.proofs.Fronts.{Begins, begins_after_separator, Calm}
use Rattle.ex_parser.proofs.Levels.{StopsBy, is_le, infix_back, Stops, quiet_ends, operand_ends, open_quiet, match_quiet}
use Rattle.ex_parser.proofs.Reach.{tree_goes}

-- a tree was read from these tokens
pub record Comes (s : List Frame) (ts rest : List Token) (l : ℕ) (t : Tree) : Type 0 where
  pub v : Value
  pub reaches : Reaches (Want s (ts ++ rest)) (Have s v rest)
  pub tree : v.tree ≡ Some t
  pub high : l ≤ v.level
  pub negates : v.negates ≡ is_negation ts t

-- the value is this tree, whole
pub record IsTree (v : Value) (l : ℕ) (t : Tree) : Type 0 where
  pub tree : v.tree ≡ Some t
  pub level : v.level ≡ l
  pub negates : v.negates ≡ false

pub made_tree : (t : Tree) (l : ℕ) → IsTree (made t l) l t
made_tree t l = record { tree = refl; level = refl; negates = refl }

pub comes_by : (s : List Frame) (ts rest : List Token) (l : ℕ) (t : Tree) (v : Value) → IsTree v l t → is_negation ts t ≡ false → Reaches (Want s (ts ++ rest)) (Have s v rest) → Comes s ts rest l t
comes_by s ts rest l t v i n r = record { v = v; reaches = r; tree = i.tree; high = subst (λ m. l ≤ m) (sym i.level) (le_self l); negates = i.negates ∙ sym n }
  where
    le_self : (n : ℕ) → n ≤ n
    le_self n = omega arith

pub word_comes : (k : Keyword) (w : WordValue) (s : List Frame) (rest : List Token) → word_value k ≡ Some w → Comes s (Word k ∷ []) rest primary_level (E.WordIs w)
word_comes K.True w s rest e = comes_by s (Word K.True ∷ []) rest primary_level (E.WordIs w) (plain (Some (E.WordIs W.True)) (Some (P.WordIs W.True))) (record { tree = ap (option_map E.WordIs) e; level = refl; negates = refl }) refl (there here)
word_comes K.False w s rest e = comes_by s (Word K.False ∷ []) rest primary_level (E.WordIs w) (plain (Some (E.WordIs W.False)) (Some (P.WordIs W.False))) (record { tree = ap (option_map E.WordIs) e; level = refl; negates = refl }) refl (there here)
word_comes K.Nil w s rest e = comes_by s (Word K.Nil ∷ []) rest primary_level (E.WordIs w) (plain (Some (E.WordIs W.Nil)) (Some (P.WordIs W.Nil))) (record { tree = ap (option_map E.WordIs) e; level = refl; negates = refl }) refl (there here)
word_comes k w s rest e = absurd (cc)

pub variable_comes : (x : List ℕ) (s : List Frame) (rest : List Token) → is_underscore x ≡ false → Comes s (T.Name x ∷ []) rest primary_level (E.Variable x)
variable_comes x s rest u = comes_by s (T.Name x ∷ []) rest primary_level (E.Variable x) (plain (name_tree (is_underscore x) x) (Some (P.Named x))) (record { tree = rw u refl; level = refl; negates = refl }) refl (there here)

-- parentheses
pub parens_shut : (s : List Frame) (v : Value) (rest : List Token) → step (Have (Parens ∷ s) v (Mark S.CloseParen ∷ rest)) ≡ Have s (in_parens v) rest
parens_shut s v rest = refl

-- an operator takes its left side
pub operator_takes : (o : Operator) (s : List Frame) (v : Value) (a : Tree) (ts : List Token) → v.tree ≡ Some a → floor s ≤ level o → may_take o v ≡ true → step (Have s v (infix_token (I.Operator o) ∷ ts)) ≡ Want (Operand o a ∷ s) ts
operator_takes o s v a ts e f m = rw (infix_back o, is_le (floor s) (level o) f, e, m) refl

pub operand_done : (o : Operator) (a b : Tree) (e : End) (s : List Frame) (v : Value) (rest : List Token) → Stops (level o) e rest → v.tree ≡ Some b → step (Have (Operand o a ∷ s) v rest) ≡ Have s (made (E.Apply o a b) (level o)) rest
operand_done o a b e s v rest h t = operand_ends o a e s v rest h ∙ tree_goes v.tree b (λ b. Have s (made (E.Apply o a b) (level o)) rest) t

pub pipe_takes : (s : List Frame) (v : Value) (a : Tree) (b : Begun) (ts : List Token) → v.tree ≡ Some a → floor s ≤ 5 → 5 ≤ v.level → call_head ts ≡ Some b → step (Have s v (Mark S.Pipe ∷ ts)) ≡ called b pipe_level (OneMore a NoTree) s
pipe_takes s v a b ts e f l h = rw (is_le (floor s) 5 f, e, is_le 5 v.level l, h) refl

pub match_takes : (s : List Frame) (v : Value) (p : Pattern) (ts : List Token) → v.pattern ≡ Some p → floor s ≤ 0 → step (Have s v (Mark S.Equals ∷ ts)) ≡ Want (Matched p ∷ s) ts
match_takes s v p ts e f = rw (is_le (floor s) 0 f, e) refl

pub match_done : (p : Pattern) (t : Tree) (e : End) (s : List Frame) (v : Value) (rest : List Token) → Stops 0 e rest → v.tree ≡ Some t → step (Have (Matched p ∷ s) v rest) ≡ Have s (made (E.Match p t) 0) rest
match_done p t e s v rest h q = quiet_ends (Matched p ∷ s) v rest (match_quiet e rest h) ∙ tree_goes v.tree t (λ t. Have s (made (E.Match p t) 0) rest) q

-- the `do:` forms
pub condition_does : (s : List Frame) (v : Value) (c : Tree) (ts : List Token) → v.tree ≡ Some c → step (Have (Condition ∷ s) v (Mark S.Comma ∷ Key do_key ∷ ts)) ≡ Want (DoIf c ∷ s) ts
condition_does s v c ts e = rw e refl

pub condition_begins : (s : List Frame) (v : Value) (c : Tree) (ts : List Token) → v.tree ≡ Some c → step (Have (Condition ∷ s) v (Word K.Do ∷ ts)) ≡ Want (Body (Then c) NoTree ∷ s) (after_separator ts)
condition_begins s v c ts e = rw e refl

do_if_by : (n : Next) (after : List Token) (c a : Tree) (s : List Frame) (ts : List Token) → (n ≡ N.CommaElse → ⊥) → do_if n after c a s ts ≡ Have s (made (E.If c (one a)) primary_level) ts
do_if_by N.CommaElse after c a s ts h = absurd (h refl)
do_if_by n after c a s ts h = refl

no_else : (n : Next) (e : End) → (n ≡ N.CommaElse → else_may_follow e ≡ true) → else_may_follow e ≡ false → n ≡ N.CommaElse → ⊥
no_else n e h f q = off (else_may_follow e) (h q) f
  where
    off : (b : Bool) → b ≡ true → b ≡ false → ⊥
    off b x y = let z : true ≡ false = sym x ∙ y in cc

open_if : OpenIf ≡ Closed → ⊥
open_if e = cc

pub reaching_open : (e : End) → reaching e ≡ Closed → ⊥
reaching_open Closed e = cc
reaching_open Open e = cc
reaching_open OpenIf e = cc

pub do_if_done : (c a : Tree) (s : List Frame) (v : Value) (rest : List Token) → Stops primary_level OpenIf rest → v.tree ≡ Some a → step (Have (DoIf c ∷ s) v rest) ≡ Have s (made (E.If c (one a)) primary_level) rest
do_if_done c a s v rest h e =
    quiet_ends (DoIf c ∷ s) v rest (open_quiet primary_level OpenIf rest open_if h)
    ∙ (tree_goes v.tree a (λ a. do_if (follow rest).next (follow rest).rest c a s rest) e
    ∙ do_if_by (follow rest).next (follow rest).rest c a s rest (no_else (follow rest).next OpenIf h.may_else refl))

pub do_if_elses : (c a : Tree) (s : List Frame) (v : Value) (ts : List Token) → v.tree ≡ Some a → step (Have (DoIf c ∷ s) v (Mark S.Comma ∷ Key else_key ∷ ts)) ≡ Want (DoElse c a ∷ s) ts
do_if_elses c a s v ts e = rw e refl

pub do_else_done : (c a b : Tree) (e : End) (s : List Frame) (v : Value) (rest : List Token) → Stops primary_level (reaching e) rest → v.tree ≡ Some b → step (Have (DoElse c a ∷ s) v rest) ≡ Have s (made (E.IfElse c (one a) (one b)) primary_level) rest
do_else_done c a b e s v rest h q =
    quiet_ends (DoElse c a ∷ s) v rest (open_quiet primary_level (reaching e) rest (reaching_open e) h)
    ∙ tree_goes v.tree b (λ b. Have s (made (E.IfElse c (one a) (one b)) primary_level) rest) q

pub do_for_done : (h : Head) (a : Tree) (e : End) (s : List Frame) (v : Value) (rest : List Token) → Stops primary_level (reaching e) rest → v.tree ≡ Some a → step (Have (DoFor h ∷ s) v rest) ≡ Have s (made (for_tree h (one a)) primary_level) rest
do_for_done g a e s v rest h q =
    quiet_ends (DoFor g ∷ s) v rest (open_quiet primary_level (reaching e) rest (reaching_open e) h)
    ∙ tree_goes v.tree a (λ a. Have s (made (for_tree g (one a)) primary_level) rest) q

-- where what reaches to the end is complete, its last part is
reached : (e : End) → else_may_follow (reaching e) ≡ true → else_may_follow e ≡ true
reached Closed h = refl
reached Open h = refl
reached OpenIf h = h

pub inside : (l : ℕ) (e : End) (rest : List Token) → Stops l (reaching e) rest → Stops 0 e rest
inside l e rest h = record {
  before = subst (λ i. StopsBy i 0 e) (sym (open_quiet l (reaching e) rest (reaching_open e) h)) tt;
  may_else = λ q. reached e (h.may_else q);
}

pub inside_if : (l : ℕ) (e : End) (rest : List Token) → Stops l OpenIf rest → Stops 0 e rest
inside_if l e rest h = record {
  before = subst (λ i. StopsBy i 0 e) (sym (open_quiet l OpenIf rest open_if h)) tt;
  may_else = λ q. absurd (no_else (follow rest).next OpenIf h.may_else refl q);
}

pub else_stops : (e : End) (ts : List Token) → else_may_follow e ≡ true → Stops 0 e (Mark S.Comma ∷ Key else_key ∷ ts)
else_stops e ts m = record { before = tt; may_else = λ q. m }

-- bodies
pub data IsLast : Keyword → Type 0 where
  at_end : IsLast K.End
  at_else : IsLast K.Else

pub body_goes : (b : Block) (xs : Trees) (s : List Frame) (v : Value) (t : Tree) (ts : List Token) → Begins ts → v.tree ≡ Some t → step (Have (Body b xs ∷ s) v (Separator ∷ ts)) ≡ Want (Body b (OneMore t xs) ∷ s) ts
body_goes b xs s v t ts begins e = rw (begins_after_separator ts begins, e) refl

pub body_ends : {sep : List Token} → MaySeparate sep → (b : Block) (xs : Trees) (s : List Frame) (v : Value) (t : Tree) (ts : List Token) → v.tree ≡ Some t → step (Have (Body b xs ∷ s) v (sep ++ Word K.End ∷ ts)) ≡ Have s (made (block_tree b (onto xs (one t))) primary_level) ts
body_ends without b xs s v t ts e = rw e refl
body_ends with b xs s v t ts e = rw e refl

pub body_elses : {sep : List Token} → MaySeparate sep → (c : Tree) (xs : Trees) (s : List Frame) (v : Value) (t : Tree) (ts : List Token) → v.tree ≡ Some t → step (Have (Body (Then c) xs ∷ s) v (sep ++ Word K.Else ∷ ts)) ≡ Want (Body (Otherwise c (onto xs (one t))) NoTree ∷ s) (after_separator ts)
body_elses without c xs s v t ts e = rw e refl
body_elses with c xs s v t ts e = rw e refl

pub last_calm : {sep : List Token} {k : Keyword} → MaySeparate sep → IsLast k → (ts : List Token) → Calm (sep ++ Word k ∷ ts)
last_calm without at_end ts = record { quiet = refl; no_else = λ e. cc }
last_calm without at_else ts = record { quiet = refl; no_else = λ e. cc }
last_calm with at_end ts = record { quiet = refl; no_else = λ e. cc }
last_calm with at_else ts = record { quiet = refl; no_else = λ e. cc }

-- clauses
pub subject_begins : (s : List Frame) (v : Value) (c : Tree) (ts : List Token) → v.tree ≡ Some c → step (Have (Subject ∷ s) v (Word K.Do ∷ ts)) ≡ Want (FirstPattern c ∷ s) (after_separator ts)
subject_begins s v c ts e = rw e refl

pub first_clause : (c : Tree) (s : List Frame) (v : Value) (p : Pattern) (ts : List Token) → v.pattern ≡ Some p → step (Have (FirstPattern c ∷ s) v (Mark S.RightArrow ∷ ts)) ≡ Want (Body (InClause c NoClause p) NoTree ∷ s) (after_separator ts)
first_clause c s v p ts e = rw e refl

pub clause_goes : (c : Tree) (ks : Clauses) (p : Pattern) (x : Tree) (xs : Trees) (s : List Frame) (v : Value) (q : Pattern) (ts : List Token) → v.pattern ≡ Some q
    → step (Have (Body (InClause c ks p) (OneMore x xs) ∷ s) v (Mark S.RightArrow ∷ ts)) ≡ Want (Body (InClause c (E.Clause p (onto (OneMore x xs) NoTree) ks) q) NoTree ∷ s) (after_separator ts)
clause_goes c ks p x xs s v q ts e = rw e refl

pub first_choice : (s : List Frame) (v : Value) (c : Tree) (ts : List Token) → v.tree ≡ Some c → step (Have (FirstCondition ∷ s) v (Mark S.RightArrow ∷ ts)) ≡ Want (Body (InChoice NoChoice c) NoTree ∷ s) (after_separator ts)
first_choice s v c ts e = rw e refl

pub choice_goes : (ks : Choices) (c x : Tree) (xs : Trees) (s : List Frame) (v : Value) (d : Tree) (ts : List Token) → v.tree ≡ Some d
    → step (Have (Body (InChoice ks c) (OneMore x xs) ∷ s) v (Mark S.RightArrow ∷ ts)) ≡ Want (Body (InChoice (E.Choice c (onto (OneMore x xs) NoTree) ks) d) NoTree ∷ s) (after_separator ts)
choice_goes ks c x xs s v d ts e = rw e refl

-- the parts of a `for`
pub for_begins : (s : List Frame) (v : Value) (p : Pattern) (ts : List Token) → v.pattern ≡ Some p → step (Have (ForPattern ∷ s) v (Mark S.LeftArrow ∷ ts)) ≡ Want (ForSource p ∷ s) ts
for_begins s v p ts e = rw e refl

pub part_begins : (h : Head) (s : List Frame) (v : Value) (p : Pattern) (ts : List Token) → v.pattern ≡ Some p → step (Have (Part h ∷ s) v (Mark S.LeftArrow ∷ ts)) ≡ Want (PartSource h p ∷ s) ts
part_begins h s v p ts e = rw e refl

-- calls
pub call_wanted : {ts : List Token} {x : List ℕ} {xs : Trees} → DerivesCall ts x xs → (s : List Frame) (rest : List Token) (b : Begun) → call_head (ts ++ rest) ≡ Some b → step (Want s (ts ++ rest)) ≡ called b primary_level NoTree s
call_wanted (D.plain_call u d) s rest b e = rw e refl
call_wanted (D.alias_call u d) s rest b e = rw e refl

pub call_negates : {ts : List Token} {x : List ℕ} {xs : Trees} → DerivesCall ts x xs → (ys : Trees) → is_negation ts (E.Call x ys) ≡ false
call_negates (D.plain_call u d) ys = refl
call_negates (D.alias_call u d) ys = refl
