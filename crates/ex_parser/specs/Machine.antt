-- Reading one expression, as a machine: a stack of what is begun, and the tokens that are left.
use Rattle.std.specs.Prelude.{◌≡◌, ◌⊎◌, ℕ, Bool, true, false, not, ◌&&◌, List, [], ◌∷◌, nat_le, Option, Some, None, option_map}
use Rattle.ex_grammar.specs.declared.token.Sign.{Sign}
use Rattle.ex_grammar.specs.declared.token.Sign.TheVariants as S
use Rattle.ex_grammar.specs.declared.token.Keyword.{Keyword}
use Rattle.ex_grammar.specs.declared.token.Keyword.TheVariants as K
use Rattle.ex_grammar.specs.declared.token.WordValue.TheVariants as W
use Rattle.ex_grammar.specs.declared.operators.Operator.{Operator}
use Rattle.ex_grammar.specs.declared.operators.Operator.TheVariants.{Member}
use Rattle.ex_grammar.specs.declared.operators.Infix.{Infix}
use Rattle.ex_grammar.specs.declared.operators.Infix.TheVariants as I
use Rattle.ex_grammar.specs.declared.operators.Prefix.{Prefix}
use Rattle.ex_grammar.specs.declared.operators.Prefix.TheVariants.{Negate, Keep, Not, StrictNot}
use Rattle.ex_grammar.specs.Tokens as T
use Rattle.ex_grammar.specs.Tokens.{Token, Mark, Word, Key, TextBegins}
use Rattle.ex_grammar.specs.Operators.{match_level, pipe_level, unary_level, primary_level, level, left, right, row_of, prefix_of}
use Rattle.ex_grammar.specs.Patterns as P
use Rattle.ex_grammar.specs.Patterns.{Pattern, Patterns, NoPattern}
use Rattle.ex_grammar.specs.Trees as E
use Rattle.ex_grammar.specs.Trees.{Tree, Trees, NoTree, OneMore, Holes, NoHole, Clauses, NoClause, Choices, NoChoice, Parts, NoPart, Generator, Filter}
use Rattle.ex_grammar.specs.Grammar.{is_underscore, pair}
use Rattle.ex_parser.specs.declared.follow.Bracket.{Bracket}
use Rattle.ex_parser.specs.declared.follow.Bracket.TheVariants.{Paren, Square, Brace}
use Rattle.ex_parser.specs.declared.follow.Next.{Next}
use Rattle.ex_parser.specs.declared.follow.Next.TheVariants as N
use Rattle.ex_parser.specs.declared.follow.TextGoes.{TextGoes}
use Rattle.ex_parser.specs.declared.follow.TextGoes.TheVariants as G
use Rattle.ex_parser.specs.Follow.{follow, first_infix, tail, text_goes, hole_says, own_key, first_key, Begun, call_head}

-- what was read: a tree, a pattern, or both; the level at which it stands; whether it is a unary with `!` or `not` in no parentheses
pub record Value : Type 0 where
  pub tree : Option Tree
  pub pattern : Option Pattern
  pub level : ℕ
  pub negates : Bool

abbrev pub value : Option Tree → Option Pattern → ℕ → Bool → Value
value t p l n = record { tree = t; pattern = p; level = l; negates = n }

-- an expression that is no pattern, and one that may be both
abbrev pub made : Tree → ℕ → Value
made t l = value (Some t) None l false

abbrev pub plain : Option Tree → Option Pattern → Value
plain t p = value t p primary_level false

-- lists so far, with the last item first, and what they are with more after them
abbrev pub onto : Trees → Trees → Trees
onto NoTree us = us
onto (OneMore t ts) us = onto ts (OneMore t us)

abbrev pub onto_patterns : Patterns → Patterns → Patterns
onto_patterns NoPattern qs = qs
onto_patterns (P.OneMore p ps) qs = onto_patterns ps (P.OneMore p qs)

abbrev pub onto_holes : Holes → Holes → Holes
onto_holes NoHole hs = hs
onto_holes (E.Hole t bytes gs) hs = onto_holes gs (E.Hole t bytes hs)

abbrev pub onto_clauses : Clauses → Clauses → Clauses
onto_clauses NoClause ks = ks
onto_clauses (E.Clause p xs js) ks = onto_clauses js (E.Clause p xs ks)

abbrev pub onto_choices : Choices → Choices → Choices
onto_choices NoChoice ks = ks
onto_choices (E.Choice c xs js) ks = onto_choices js (E.Choice c xs ks)

abbrev pub onto_parts : Parts → Parts → Parts
onto_parts NoPart qs = qs
onto_parts (Generator p g ps) qs = onto_parts ps (Generator p g qs)
onto_parts (Filter f ps) qs = onto_parts ps (Filter f qs)

-- the items of a bracket so far, as trees and as patterns
pub record Listed : Type 0 where
  pub trees : Option Trees
  pub patterns : Option Patterns

abbrev pub listed : Option Trees → Option Patterns → Listed
listed ts ps = record { trees = ts; patterns = ps }

-- what the items between brackets make; a call has its name and its level
pub data Enclosure : Type 0 where
  InTuple : Enclosure
  InList : Enclosure
  InCall : List ℕ → ℕ → Enclosure

-- the first generator of a `for`, and its further parts so far
pub record Head : Type 0 where
  pub pattern : Pattern
  pub source : Tree
  pub parts : Parts

abbrev pub head : Pattern → Tree → Parts → Head
head p g parts = record { pattern = p; source = g; parts = parts }

-- what a body belongs to
pub data Block : Type 0 where
  Then : Tree → Block
  Otherwise : Tree → Trees → Block
  InClause : Tree → Clauses → Pattern → Block
  InChoice : Choices → Tree → Block
  InFor : Head → Block

-- what is begun and waits for an expression or a pattern
pub data Frame : Type 0 where
  Operand : Operator → Tree → Frame
  Matched : Pattern → Frame
  Prefixed : Prefix → Frame
  Parens : Frame
  Items : Enclosure → Listed → Frame
  Keyed : Enclosure → Trees → Trees → List ℕ → Frame
  Tail : Listed → Frame
  InHole : List ℕ → Holes → Frame
  Condition : Frame
  DoIf : Tree → Frame
  DoElse : Tree → Tree → Frame
  Body : Block → Trees → Frame
  Subject : Frame
  FirstPattern : Tree → Frame
  FirstCondition : Frame
  ForPattern : Frame
  ForSource : Pattern → Frame
  Part : Head → Frame
  PartSource : Head → Pattern → Frame
  DoFor : Head → Frame

-- an expression or a pattern is wanted, or was read; or the machine is at its end
pub data State : Type 0 where
  Want : List Frame → List Token → State
  Have : List Frame → Value → List Token → State
  Done : Tree → List Token → State
  Stuck : State

-- go on with the tree or the pattern that was read, if it is one
abbrev pub with_tree : Option Tree → (Tree → State) → State
with_tree None go = Stuck
with_tree (Some t) go = go t

abbrev pub with_pattern : Option Pattern → (Pattern → State) → State
with_pattern None go = Stuck
with_pattern (Some p) go = go p

-- the loosest level at which an operator takes what was read
abbrev pub floor : List Frame → ℕ
floor (Operand o a ∷ s) = right o
floor (Prefixed p ∷ s) = unary_level
floor s = match_level

-- the bracket that closes, and the level of what brackets and items make
abbrev pub bracket_of : Enclosure → Bracket
bracket_of InTuple = Brace
bracket_of InList = Square
bracket_of (InCall x l) = Paren

abbrev pub level_of : Enclosure → ℕ
level_of InTuple = primary_level
level_of InList = primary_level
level_of (InCall x l) = l

abbrev pub same_bracket : Bracket → Bracket → Bool
same_bracket Paren Paren = true
same_bracket Square Square = true
same_bracket Brace Brace = true
same_bracket a b = false

abbrev pub closes : Next → Bracket → Bool
closes (N.Close a) b = same_bracket a b
closes n b = false

-- what brackets and items make, as a tree and as a pattern
abbrev pub enclosed : Enclosure → Trees → Tree
enclosed InTuple xs = E.Tuple xs
enclosed InList xs = E.Items xs
enclosed (InCall x l) xs = E.Call x xs

abbrev pub enclosed_pattern : Enclosure → Patterns → Option Pattern
enclosed_pattern InTuple ps = Some (P.Tuple ps)
enclosed_pattern InList ps = Some (P.Items ps)
enclosed_pattern (InCall x l) ps = None

abbrev pub closed_tree : Enclosure → Option Trees → Option Tree
closed_tree e None = None
closed_tree e (Some xs) = Some (enclosed e (onto xs NoTree))

abbrev pub closed_pattern : Enclosure → Option Patterns → Option Pattern
closed_pattern e None = None
closed_pattern e (Some ps) = enclosed_pattern e (onto_patterns ps NoPattern)

-- all items between brackets are there
abbrev pub shut : Enclosure → Listed → List Frame → List Token → State
shut e l s ts = Have s (value (closed_tree e l.trees) (closed_pattern e l.patterns) (level_of e) false) ts

-- what stands between brackets begins, which may be nothing
abbrev pub open_by : Bool → Enclosure → Listed → List Frame → List Token → List Token → State
open_by true e l s ts after = shut e l s after
open_by false e l s ts after = Want (Items e l ∷ s) ts

abbrev pub opened : Enclosure → Listed → List Frame → List Token → State
opened e l s ts = open_by (closes (follow ts).next (bracket_of e)) e l s ts (follow ts).rest

-- a call begins
abbrev pub called : Begun → ℕ → Trees → List Frame → State
called b l xs s = opened (InCall b.name l) (listed (Some xs) None) s b.rest

-- the tree of a name
abbrev pub name_tree : Bool → List ℕ → Option Tree
name_tree true x = None
name_tree false x = Some (E.Variable x)

abbrev pub first_keys : Enclosure → Option Trees → List ℕ → List Frame → List Token → State
first_keys InTuple xs x s ts = Stuck
first_keys e None x s ts = Stuck
first_keys e (Some xs) x s ts = Want (Keyed e xs NoTree x ∷ s) ts

abbrev pub want_own_key : Option (List ℕ) → List Frame → List Token → State
want_own_key None s ts = Stuck
want_own_key (Some x) (Items e l ∷ s) ts = first_keys e l.trees x s ts
want_own_key (Some x) s ts = Stuck

abbrev pub want_cond : Next → List Token → List Frame → State
want_cond N.Do ts s = Want (FirstCondition ∷ s) ts
want_cond n ts s = Stuck

abbrev pub want_word : Keyword → List Frame → List Token → State
want_word K.True s ts = Have s (plain (Some (E.WordIs W.True)) (Some (P.WordIs W.True))) ts
want_word K.False s ts = Have s (plain (Some (E.WordIs W.False)) (Some (P.WordIs W.False))) ts
want_word K.Nil s ts = Have s (plain (Some (E.WordIs W.Nil)) (Some (P.WordIs W.Nil))) ts
want_word K.If s ts = Want (Condition ∷ s) ts
want_word K.Case s ts = Want (Subject ∷ s) ts
want_word K.For s ts = Want (ForPattern ∷ s) ts
want_word K.Cond s ts = want_cond (follow ts).next (follow ts).rest s
want_word k s ts = Stuck

abbrev pub want_pinned : List Frame → List Token → State
want_pinned s (T.Name x ∷ ts) = Have s (plain None (Some (P.Pinned x))) ts
want_pinned s ts = Stuck

-- a tuple or a list begins
abbrev pub bracketed : Enclosure → List Frame → List Token → State
bracketed e s ts = opened e (listed (Some NoTree) (Some NoPattern)) s ts

abbrev pub want_sign : Sign → List Frame → List Token → State
want_sign S.OpenParen s ts = Want (Parens ∷ s) ts
want_sign S.OpenBrace s ts = bracketed InTuple s ts
want_sign S.OpenBracket s ts = bracketed InList s ts
want_sign S.Caret s ts = want_pinned s ts
want_sign m s ts = Stuck

abbrev pub want_text : TextGoes → List ℕ → List Frame → List Token → State
want_text G.Ends bytes s ts = Have s (plain (Some (E.Text bytes NoHole)) (Some (P.Text bytes))) (tail ts)
want_text G.Hole bytes s ts = Want (InHole bytes NoHole ∷ s) (tail ts)
want_text G.Other bytes s ts = Stuck

-- the first token of an expression or a pattern, which is no operator and begins no call
abbrev pub first : Token → List Frame → List Token → State
first (T.Number n) s ts = Have s (plain (Some (E.Integer n)) (Some (P.Integer n))) ts
first (T.Atom x) s ts = Have s (plain (Some (E.Atom x)) (Some (P.Atom x))) ts
first (T.Name x) s ts = Have s (plain (name_tree (is_underscore x) x) (Some (P.Named x))) ts
first (Key x) s ts = want_own_key (own_key x) s ts
first (Word k) s ts = want_word k s ts
first (Mark m) s ts = want_sign m s ts
first (TextBegins bytes) s ts = want_text (text_goes ts) bytes s ts
first t s ts = Stuck

abbrev pub want_called : Option Begun → Token → List Frame → List Token → State
want_called (Some b) t s ts = called b primary_level NoTree s
want_called None t s ts = first t s ts

abbrev pub want_by : Option Prefix → Token → List Frame → List Token → State
want_by (Some p) t s ts = Want (Prefixed p ∷ s) ts
want_by None t s ts = want_called (call_head (t ∷ ts)) t s ts

abbrev pub want : List Frame → List Token → State
want s [] = Stuck
want s (t ∷ ts) = want_by (prefix_of t) t s ts

-- an operator takes what was read as its left side
abbrev pub is_member : Operator → Bool
is_member Member = true
is_member o = false

abbrev pub may_take : Operator → Value → Bool
may_take o v = nat_le (left o) v.level && not (v.negates && is_member o)

abbrev pub take_operand : Bool → Operator → Tree → List Frame → List Token → State
take_operand true o a s ts = Want (Operand o a ∷ s) ts
take_operand false o a s ts = Stuck

abbrev pub take_pipe : Option Begun → Tree → List Frame → State
take_pipe None a s = Stuck
take_pipe (Some b) a s = called b pipe_level (OneMore a NoTree) s

abbrev pub take_call : Bool → Tree → List Frame → List Token → State
take_call true a s ts = take_pipe (call_head ts) a s
take_call false a s ts = Stuck

abbrev pub take : Infix → List Frame → Value → List Token → State
take (I.Operator o) s v ts = with_tree v.tree (λ a. take_operand (may_take o v) o a s ts)
take I.Match s v ts = with_pattern v.pattern (λ p. Want (Matched p ∷ s) ts)
take I.Pipe s v ts = with_tree v.tree (λ a. take_call (nat_le pipe_level v.level) a s ts)

-- whether a pattern is an integer that isn't below 0
abbrev pub is_number : Pattern → Bool
is_number (P.Integer n) = true
is_number p = false

-- an operator stands before what was read; `-` before an integer is a pattern too
abbrev pub negative : Prefix → Option Pattern → Option Pattern
negative Negate (Some (P.Integer n)) = Some (P.Negative n)
negative p q = None

abbrev pub prefixed : Prefix → Option Tree → Option Tree
prefixed p t = option_map (E.Prefixed p) t

abbrev pub negates : Prefix → Bool
negates Negate = false
negates Keep = false
negates Not = true
negates StrictNot = true

-- the items with one more
abbrev pub and_tree : Option Trees → Option Tree → Option Trees
and_tree (Some ts) (Some t) = Some (OneMore t ts)
and_tree ts t = None

abbrev pub and_pattern : Option Patterns → Option Pattern → Option Patterns
and_pattern (Some ps) (Some p) = Some (P.OneMore p ps)
and_pattern ps p = None

abbrev pub more_items : Listed → Value → Listed
more_items l v = listed (and_tree l.trees v.tree) (and_pattern l.patterns v.pattern)

-- what follows an item, the value of a key, and what stands after `|`
abbrev pub bar : Enclosure → Listed → List Frame → List Token → State
bar InList l s ts = Want (Tail l ∷ s) ts
bar e l s ts = Stuck

abbrev pub shut_by : Bool → Enclosure → Listed → List Frame → List Token → State
shut_by true e l s ts = shut e l s ts
shut_by false e l s ts = Stuck

abbrev pub item : Next → List Token → Enclosure → Listed → List Frame → State
item N.Comma ts e l s = Want (Items e l ∷ s) ts
item N.Bar ts e l s = bar e l s ts
item (N.Close b) ts e l s = shut_by (same_bracket b (bracket_of e)) e l s ts
item n ts e l s = Stuck

-- the tree of a list and of a call with keys
abbrev pub with_keys : Enclosure → Trees → Trees → Tree
with_keys (InCall x l) xs ks = E.Call x (onto xs (OneMore (E.Items (onto ks NoTree)) NoTree))
with_keys e xs ks = enclosed e (onto xs (onto ks NoTree))

abbrev pub next_key : Option (List ℕ) → Enclosure → Trees → Trees → List Frame → List Token → State
next_key None e xs ks s ts = Stuck
next_key (Some x) e xs ks s ts = Want (Keyed e xs ks x ∷ s) (tail ts)

abbrev pub shut_keys : Bool → Enclosure → Trees → Trees → List Frame → List Token → State
shut_keys true e xs ks s ts = Have s (made (with_keys e xs ks) (level_of e)) ts
shut_keys false e xs ks s ts = Stuck

abbrev pub keyed : Next → List Token → Enclosure → Trees → Trees → List Frame → State
keyed N.Comma ts e xs ks s = next_key (first_key ts) e xs ks s ts
keyed (N.Close b) ts e xs ks s = shut_keys (same_bracket b (bracket_of e)) e xs ks s ts
keyed n ts e xs ks s = Stuck

abbrev pub then_tree : Option Trees → Option Tree → Option Tree
then_tree (Some ts) (Some t) = Some (E.ItemsThen (onto ts NoTree) t)
then_tree ts t = None

abbrev pub then_pattern : Option Patterns → Option Pattern → Option Pattern
then_pattern (Some ps) (Some p) = Some (P.ItemsThen (onto_patterns ps NoPattern) p)
then_pattern ps p = None

abbrev pub tail_end : Next → List Token → Listed → Value → List Frame → State
tail_end (N.Close Square) ts l v s = Have s (plain (then_tree l.trees v.tree) (then_pattern l.patterns v.pattern)) ts
tail_end n ts l v s = Stuck

-- what stands in a `#{` ends
abbrev pub hole_goes : TextGoes → List ℕ → Holes → List Frame → List Token → State
hole_goes G.Hole bytes hs s ts = Want (InHole bytes hs ∷ s) (tail ts)
hole_goes G.Ends bytes hs s ts = Have s (made (E.Text bytes (onto_holes hs NoHole)) primary_level) (tail ts)
hole_goes G.Other bytes hs s ts = Stuck

abbrev pub hole : Option (List ℕ) → List ℕ → Holes → Tree → List Frame → List Token → State
hole None bytes hs t s ts = Stuck
hole (Some more) bytes hs t s ts = hole_goes (text_goes (tail ts)) bytes (E.Hole t more hs) s (tail ts)

-- parentheses close
abbrev pub in_parens : Value → Value
in_parens v = value v.tree None primary_level false

abbrev pub parens : Next → List Token → Value → List Frame → State
parens (N.Close Paren) ts v s = Have s (in_parens v) ts
parens n ts v s = Stuck

-- the parts of blocks
abbrev pub condition : Next → List Token → Tree → List Frame → State
condition N.Do ts c s = Want (Body (Then c) NoTree ∷ s) ts
condition N.CommaDo ts c s = Want (DoIf c ∷ s) ts
condition n ts c s = Stuck

abbrev pub one : Tree → Trees
one t = OneMore t NoTree

abbrev pub do_if : Next → List Token → Tree → Tree → List Frame → List Token → State
do_if N.CommaElse after c a s ts = Want (DoElse c a ∷ s) after
do_if n after c a s ts = Have s (made (E.If c (one a)) primary_level) ts

abbrev pub subject : Next → List Token → Tree → List Frame → State
subject N.Do ts c s = Want (FirstPattern c ∷ s) ts
subject n ts c s = Stuck

abbrev pub first_pattern : Next → List Token → Tree → Pattern → List Frame → State
first_pattern N.RightArrow ts c p s = Want (Body (InClause c NoClause p) NoTree ∷ s) ts
first_pattern n ts c p s = Stuck

abbrev pub first_condition : Next → List Token → Tree → List Frame → State
first_condition N.RightArrow ts c s = Want (Body (InChoice NoChoice c) NoTree ∷ s) ts
first_condition n ts c s = Stuck

abbrev pub for_pattern : Next → List Token → Pattern → List Frame → State
for_pattern N.LeftArrow ts p s = Want (ForSource p ∷ s) ts
for_pattern n ts p s = Stuck

abbrev pub after_part : Next → List Token → Head → List Frame → State
after_part N.Comma ts h s = Want (Part h ∷ s) ts
after_part N.CommaDo ts h s = Want (DoFor h ∷ s) ts
after_part N.Do ts h s = Want (Body (InFor h) NoTree ∷ s) ts
after_part n ts h s = Stuck

abbrev pub and_filter : Head → Tree → Head
and_filter h f = head h.pattern h.source (Filter f h.parts)

abbrev pub and_generator : Head → Pattern → Tree → Head
and_generator h p g = head h.pattern h.source (Generator p g h.parts)

abbrev pub part : Next → List Token → Head → Value → List Frame → State
part N.LeftArrow ts h v s = with_pattern v.pattern (λ p. Want (PartSource h p ∷ s) ts)
part n ts h v s = with_tree v.tree (λ f. after_part n ts (and_filter h f) s)

abbrev pub for_tree : Head → Trees → Tree
for_tree h xs = E.For h.pattern h.source (onto_parts h.parts NoPart) xs

-- the tree of a block with its last body
abbrev pub block_tree : Block → Trees → Tree
block_tree (Then c) xs = E.If c xs
block_tree (Otherwise c ys) xs = E.IfElse c ys xs
block_tree (InClause c ks p) xs = E.Case c (onto_clauses ks (E.Clause p xs NoClause))
block_tree (InChoice ks c) xs = E.Cond (onto_choices ks (E.Choice c xs NoChoice))
block_tree (InFor h) xs = for_tree h xs

abbrev pub else_body : Block → Trees → List Frame → List Token → State
else_body (Then c) xs s ts = Want (Body (Otherwise c xs) NoTree ∷ s) ts
else_body b xs s ts = Stuck

abbrev pub next_clause : Block → Trees → Value → List Frame → List Token → State
next_clause b NoTree v s ts = Stuck
next_clause (InClause c ks p) xs v s ts = with_pattern v.pattern (λ q. Want (Body (InClause c (E.Clause p (onto xs NoTree) ks) q) NoTree ∷ s) ts)
next_clause (InChoice ks c) xs v s ts = with_tree v.tree (λ d. Want (Body (InChoice (E.Choice c (onto xs NoTree) ks) d) NoTree ∷ s) ts)
next_clause b xs v s ts = Stuck

abbrev pub body : Next → List Token → Block → Trees → Value → List Frame → State
body N.Separator ts b xs v s = with_tree v.tree (λ t. Want (Body b (OneMore t xs) ∷ s) ts)
body N.RightArrow ts b xs v s = next_clause b xs v s ts
body N.Else ts b xs v s = with_tree v.tree (λ t. else_body b (onto xs (one t)) s ts)
body N.End ts b xs v s = with_tree v.tree (λ t. Have s (made (block_tree b (onto xs (one t))) primary_level) ts)
body n ts b xs v s = Stuck

-- what was begun last takes what was read, or goes on by what stands after it
abbrev pub end_by : Frame → List Frame → Value → List Token → Next → List Token → State
end_by (Operand o a) s v ts n after = with_tree v.tree (λ b. Have s (made (E.Apply o a b) (level o)) ts)
end_by (Matched p) s v ts n after = with_tree v.tree (λ t. Have s (made (E.Match p t) match_level) ts)
end_by (Prefixed o) s v ts n after = Have s (value (prefixed o v.tree) (negative o v.pattern) unary_level (negates o)) ts
end_by Parens s v ts n after = parens n after v s
end_by (Items e l) s v ts n after = item n after e (more_items l v) s
end_by (Keyed e xs ks x) s v ts n after = with_tree v.tree (λ t. keyed n after e xs (OneMore (pair x t) ks) s)
end_by (Tail l) s v ts n after = tail_end n after l v s
end_by (InHole bytes hs) s v ts n after = with_tree v.tree (λ t. hole (hole_says ts) bytes hs t s ts)
end_by Condition s v ts n after = with_tree v.tree (λ c. condition n after c s)
end_by (DoIf c) s v ts n after = with_tree v.tree (λ a. do_if n after c a s ts)
end_by (DoElse c a) s v ts n after = with_tree v.tree (λ b. Have s (made (E.IfElse c (one a) (one b)) primary_level) ts)
end_by (Body b xs) s v ts n after = body n after b xs v s
end_by Subject s v ts n after = with_tree v.tree (λ c. subject n after c s)
end_by (FirstPattern c) s v ts n after = with_pattern v.pattern (λ p. first_pattern n after c p s)
end_by FirstCondition s v ts n after = with_tree v.tree (λ c. first_condition n after c s)
end_by ForPattern s v ts n after = with_pattern v.pattern (λ p. for_pattern n after p s)
end_by (ForSource p) s v ts n after = with_tree v.tree (λ g. after_part n after (head p g NoPart) s)
end_by (Part h) s v ts n after = part n after h v s
end_by (PartSource h p) s v ts n after = with_tree v.tree (λ g. after_part n after (and_generator h p g) s)
end_by (DoFor h) s v ts n after = with_tree v.tree (λ a. Have s (made (for_tree h (one a)) primary_level) ts)

abbrev pub ends : List Frame → Value → List Token → State
ends [] v ts = with_tree v.tree (λ t. Done t ts)
ends (f ∷ s) v ts = end_by f s v ts (follow ts).next (follow ts).rest

abbrev pub take_or_end : Bool → Infix → List Frame → Value → List Token → State
take_or_end true i s v ts = take i s v (tail ts)
take_or_end false i s v ts = ends s v ts

abbrev pub have_by : Option Infix → List Frame → Value → List Token → State
have_by None s v ts = ends s v ts
have_by (Some i) s v ts = take_or_end (nat_le (floor s) (row_of i).level) i s v ts

-- what follows what was read
abbrev pub have : List Frame → Value → List Token → State
have s v ts = have_by (first_infix ts) s v ts

abbrev pub step : State → State
step (Want s ts) = want s ts
step (Have s v ts) = have s v ts
step (Done t ts) = Done t ts
step Stuck = Stuck

-- whether the machine is at its end
abbrev pub is_over : State → Bool
is_over (Done t ts) = true
is_over Stuck = true
is_over a = false

-- the machine comes from one state to another
pub data Reaches : State → State → Type 0 where
  here : {a : State} → Reaches a a
  there : {a b : State} → Reaches (step a) b → Reaches a b

-- an expression ends at the end of the tokens, or before a separator; the rest stands after that
abbrev pub EndsAt : List Token → List Token → Type 0
EndsAt [] rest = rest ≡ []
EndsAt (T.Separator ∷ ts) rest = rest ≡ ts
EndsAt (t ∷ ts) rest = ⊥

-- another token stands there
abbrev pub GoesOff : List Token → Type 0
GoesOff [] = ⊥
GoesOff (T.Separator ∷ ts) = ⊥
GoesOff (t ∷ ts) = Unit {0}

-- no expression can be read here, or one that ends before another token than a separator
abbrev pub IsNoWhole : List Token → Type 0
IsNoWhole from = Reaches (Want [] from) Stuck ⊎ ((t : Tree) × (off : List Token) × Reaches (Want [] from) (Done t off) × GoesOff off)
