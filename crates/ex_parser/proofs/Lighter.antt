-- Each step of the machine takes a token or a frame.
use Rattle.std.proofs.Common.{◌≡◌, ℕ, ◌+◌, ◌*◌, ◌<◌, ◌≤◌, Bool, true, false, List, [], ◌∷◌, length, Option, Some, None, arith}
use Rattle.std.specs.Prelude.{nat_le}
use Rattle.ex_grammar.specs.declared.token.Sign.{Sign}
use Rattle.ex_grammar.specs.declared.token.Sign.TheVariants as S
use Rattle.ex_grammar.specs.declared.token.Keyword.{Keyword}
use Rattle.ex_grammar.specs.declared.token.Keyword.TheVariants as K
use Rattle.ex_grammar.specs.declared.operators.Operator.{Operator}
use Rattle.ex_grammar.specs.declared.operators.Infix.{Infix}
use Rattle.ex_grammar.specs.declared.operators.Infix.TheVariants as I
use Rattle.ex_grammar.specs.declared.operators.Prefix.{Prefix}
use Rattle.ex_grammar.specs.Tokens as T
use Rattle.ex_grammar.specs.Tokens.{Token, Mark, Word, Key, Called, Alias, TextBegins, HoleEnds, Separator}
use Rattle.ex_grammar.specs.Operators.{prefix_of, primary_level, pipe_level, row_of}
use Rattle.ex_grammar.specs.Patterns.{Pattern}
use Rattle.ex_grammar.specs.Trees.{Tree, Trees, NoTree, OneMore, Holes, NoPart}
use Rattle.ex_grammar.specs.Grammar.{is_underscore, pair}
use Rattle.ex_parser.specs.declared.follow.Bracket.TheVariants.{Paren, Square}
use Rattle.ex_parser.specs.declared.follow.Next.{Next}
use Rattle.ex_parser.specs.declared.follow.Next.TheVariants as N
use Rattle.ex_parser.specs.declared.follow.TextGoes.{TextGoes}
use Rattle.ex_parser.specs.declared.follow.TextGoes.TheVariants as G
use Rattle.ex_parser.specs.Follow as F
use Rattle.ex_parser.specs.Follow.{Follows, follow, after_separator, comma_by, block_key, first_infix, tail, text_goes, hole_says, own_key, first_key, Begun, call_head, call_by, opens}
use Rattle.ex_parser.specs.Machine as M
use Rattle.ex_parser.specs.Machine.{Frame, State, Want, Have, Done, Stuck, Value, Listed, Enclosure, InTuple, InList, InCall, Head, Block, with_tree, with_pattern, step, is_over}

-- the tokens that are left, each twice, and what is begun
abbrev pub weight : State → ℕ
weight (Want s ts) = 1 + 2 * length ts + length s
weight (Have s v ts) = 1 + 2 * length ts + length s
weight (Done t ts) = 0
weight Stuck = 0

-- what follows takes a token, unless it is something else
abbrev Takes : Next → ℕ → ℕ → Type 0
Takes N.Other k n = k ≤ n
Takes m k n = k < n

within : (m : Next) (k n : ℕ) → Takes m k n → k ≤ n
within N.Other k n h = h
within m k n h = omega arith

shorter : (ts : List Token) → length (after_separator ts) ≤ length ts
shorter [] = omega arith
shorter (Separator ∷ ts) = omega arith
shorter (t ∷ ts) = omega arith

tail_shorter : (ts : List Token) → length (tail ts) ≤ length ts
tail_shorter [] = omega arith
tail_shorter (t ∷ ts) = omega arith

takes_all : (m : Next) (k n : ℕ) → k < n → Takes m k n
takes_all N.Other k n h = omega arith
takes_all m k n h = h

comma_takes : (o : Option Next) (t : Token) (ts : List Token) (n : ℕ) → length (t ∷ ts) < n → length (comma_by o (t ∷ ts) ts).rest < n
comma_takes None t ts n h = h
comma_takes (Some m) t ts n h = omega arith

follow_comma_takes : (ts : List Token) (n : ℕ) → length ts < n → length (F.follow_comma ts).rest < n
follow_comma_takes [] n h = h
follow_comma_takes (Key x ∷ ts) n h = comma_takes (block_key x) (Key x) ts n h
follow_comma_takes (t ∷ ts) n h = h

follow_sign_takes : (s : Sign) (ts : List Token) (n : ℕ) → length ts < n → length (F.follow_sign s ts).rest < n
follow_sign_takes S.Comma ts n h = follow_comma_takes ts n h
follow_sign_takes S.RightArrow ts n h = omega (arith, shorter ts)
follow_sign_takes s ts n h = h

follow_word_takes : (k : Keyword) (ts : List Token) (n : ℕ) → length ts < n → length (F.follow_word k ts).rest < n
follow_word_takes K.Do ts n h = omega (arith, shorter ts)
follow_word_takes K.Else ts n h = omega (arith, shorter ts)
follow_word_takes k ts n h = h

separator_takes : (k : Keyword) (t : Token) (ts : List Token) (n : ℕ) → length (t ∷ ts) < n → length (F.separator_before k (t ∷ ts) ts).rest < n
separator_takes K.Else t ts n h = omega (arith, shorter ts)
separator_takes K.End t ts n h = omega arith
separator_takes k t ts n h = h

follow_separator_takes : (ts : List Token) (n : ℕ) → length ts < n → length (F.follow_separator ts).rest < n
follow_separator_takes [] n h = h
follow_separator_takes (Word k ∷ ts) n h = separator_takes k (Word k) ts n h
follow_separator_takes (t ∷ ts) n h = h

some_taken : (t : Token) (ts : List Token) → length (follow (t ∷ ts)).rest < length (t ∷ ts)
some_taken (Mark s) ts = follow_sign_takes s ts (length (Mark s ∷ ts)) (omega arith)
some_taken (Word k) ts = follow_word_takes k ts (length (Word k ∷ ts)) (omega arith)
some_taken (HoleEnds bytes) ts = omega arith
some_taken Separator ts = follow_separator_takes ts (length (Separator ∷ ts)) (omega arith)
some_taken t ts = omega arith

follow_takes : (ts : List Token) → Takes (follow ts).next (length (follow ts).rest) (length ts)
follow_takes [] = omega arith
follow_takes (t ∷ ts) = takes_all (follow (t ∷ ts)).next (length (follow (t ∷ ts)).rest) (length (t ∷ ts)) (some_taken t ts)

-- a call takes its name and its `(`
abbrev IsWithin : ℕ → Option Begun → Type 0
IsWithin n None = Unit {0}
IsWithin n (Some b) = length b.rest ≤ n

call_within : (u : Bool) (x : List ℕ) (ts : List Token) (n : ℕ) → length ts ≤ n → IsWithin n (call_by u x ts)
call_within true x ts n h = tt
call_within false x ts n h = h

opens_within : (u : Bool) (x : List ℕ) (ts : List Token) (n : ℕ) → length ts ≤ n → IsWithin n (opens u x ts)
opens_within u x [] n h = tt
opens_within u x (Mark S.OpenParen ∷ ts) n h = call_within u x ts n (omega arith)
opens_within u x (t ∷ ts) n h = tt

dot_within : (a : List ℕ) (ts : List Token) (n : ℕ) → length ts ≤ n → IsWithin n (F.after_dot a ts)
dot_within a [] n h = tt
dot_within a (Called x ∷ ts) n h = opens_within (is_underscore x) _ ts n (omega arith)
dot_within a (t ∷ ts) n h = tt

alias_within : (a : List ℕ) (ts : List Token) (n : ℕ) → length ts ≤ n → IsWithin n (F.after_alias a ts)
alias_within a [] n h = tt
alias_within a (Mark S.Dot ∷ ts) n h = dot_within a ts n (omega arith)
alias_within a (t ∷ ts) n h = tt

head_within : (t : Token) (ts : List Token) → IsWithin (length ts) (call_head (t ∷ ts))
head_within (Called x) ts = opens_within (is_underscore x) x ts (length ts) (omega arith)
head_within (Alias a) ts = alias_within a ts (length ts) (omega arith)
head_within t ts = tt

any_head_within : (ts : List Token) → IsWithin (length ts) (call_head ts)
any_head_within [] = tt
any_head_within (t ∷ ts) = widen (call_head (t ∷ ts)) (head_within t ts)
  where
    widen : (o : Option Begun) → IsWithin (length ts) o → IsWithin (length (t ∷ ts)) o
    widen None h = tt
    widen (Some b) h = omega arith

-- a tree and a pattern, where one was read
tree_falls : (o : Option Tree) (go : Tree → State) (n : ℕ) → 0 < n → ((t : Tree) → weight (go t) < n) → weight (with_tree o go) < n
tree_falls None go n h f = h
tree_falls (Some t) go n h f = f t

pattern_falls : (o : Option Pattern) (go : Pattern → State) (n : ℕ) → 0 < n → ((p : Pattern) → weight (go p) < n) → weight (with_pattern o go) < n
pattern_falls None go n h f = h
pattern_falls (Some p) go n h f = f p

-- brackets open
open_falls : (b : Bool) (e : Enclosure) (l : Listed) (s : List Frame) (ts after : List Token) (n : ℕ) → length after ≤ length ts → 2 + 2 * length ts + length s < n → weight (M.open_by b e l s ts after) < n
open_falls true e l s ts after n h k = omega arith
open_falls false e l s ts after n h k = omega arith

opened_falls : (e : Enclosure) (l : Listed) (s : List Frame) (ts : List Token) (n : ℕ) → 2 + 2 * length ts + length s < n → weight (M.opened e l s ts) < n
opened_falls e l s ts n h = open_falls _ e l s ts (follow ts).rest n (within (follow ts).next (length (follow ts).rest) (length ts) (follow_takes ts)) h

-- the first token
keys_falls : (e : Enclosure) (o : Option Trees) (x : List ℕ) (s : List Frame) (ts : List Token) (n : ℕ) → 2 + 2 * length ts + length s < n → weight (M.first_keys e o x s ts) < n
keys_falls InTuple o x s ts n h = omega arith
keys_falls InList None x s ts n h = omega arith
keys_falls InList (Some xs) x s ts n h = omega arith
keys_falls (InCall y l) None x s ts n h = omega arith
keys_falls (InCall y l) (Some xs) x s ts n h = omega arith

own_key_falls : (o : Option (List ℕ)) (s : List Frame) (ts : List Token) (n : ℕ) → 2 + 2 * length ts + length s < n → weight (M.want_own_key o s ts) < n
own_key_falls None s ts n h = omega arith
own_key_falls (Some x) [] ts n h = omega arith
own_key_falls (Some x) (M.Items e l ∷ s) ts n h = keys_falls e l.trees x s ts n (omega arith)
own_key_falls (Some x) (f ∷ s) ts n h = omega arith

cond_falls : (m : Next) (ts : List Token) (s : List Frame) (n : ℕ) → 2 + 2 * length ts + length s < n → weight (M.want_cond m ts s) < n
cond_falls N.Do ts s n h = omega arith
cond_falls m ts s n h = omega arith

word_falls : (k : Keyword) (s : List Frame) (ts : List Token) (n : ℕ) → 2 + 2 * length ts + length s < n → weight (M.want_word k s ts) < n
word_falls K.True s ts n h = omega arith
word_falls K.False s ts n h = omega arith
word_falls K.Nil s ts n h = omega arith
word_falls K.If s ts n h = omega arith
word_falls K.Case s ts n h = omega arith
word_falls K.For s ts n h = omega arith
word_falls K.Cond s ts n h = cond_falls (follow ts).next (follow ts).rest s n (omega (arith, within (follow ts).next (length (follow ts).rest) (length ts) (follow_takes ts)))
word_falls k s ts n h = omega arith

pinned_falls : (s : List Frame) (ts : List Token) (n : ℕ) → 2 + 2 * length ts + length s < n → weight (M.want_pinned s ts) < n
pinned_falls s [] n h = omega arith
pinned_falls s (T.Name x ∷ ts) n h = omega arith
pinned_falls s (t ∷ ts) n h = omega arith

sign_falls : (m : Sign) (s : List Frame) (ts : List Token) (n : ℕ) → 2 + 2 * length ts + length s < n → weight (M.want_sign m s ts) < n
sign_falls S.OpenParen s ts n h = omega arith
sign_falls S.OpenBrace s ts n h = opened_falls InTuple _ s ts n h
sign_falls S.OpenBracket s ts n h = opened_falls InList _ s ts n h
sign_falls S.Caret s ts n h = pinned_falls s ts n h
sign_falls m s ts n h = omega arith

text_falls : (g : TextGoes) (bytes : List ℕ) (s : List Frame) (ts : List Token) (n : ℕ) → 2 + 2 * length ts + length s < n → weight (M.want_text g bytes s ts) < n
text_falls G.Ends bytes s ts n h = omega (arith, tail_shorter ts)
text_falls G.Hole bytes s ts n h = omega (arith, tail_shorter ts)
text_falls G.Other bytes s ts n h = omega arith

first_falls : (t : Token) (s : List Frame) (ts : List Token) (n : ℕ) → 2 + 2 * length ts + length s < n → weight (M.first t s ts) < n
first_falls (T.Number m) s ts n h = omega arith
first_falls (T.Atom x) s ts n h = omega arith
first_falls (T.Name x) s ts n h = omega arith
first_falls (Key x) s ts n h = own_key_falls (own_key x) s ts n h
first_falls (Word k) s ts n h = word_falls k s ts n h
first_falls (Mark m) s ts n h = sign_falls m s ts n h
first_falls (TextBegins bytes) s ts n h = text_falls (text_goes ts) bytes s ts n h
first_falls t s ts n h = omega arith

called_falls : (o : Option Begun) (t : Token) (s : List Frame) (ts : List Token) (n : ℕ) → IsWithin (length ts) o → 2 + 2 * length ts + length s < n → weight (M.want_called o t s ts) < n
called_falls (Some b) t s ts n w h = opened_falls (InCall b.name primary_level) (M.listed (Some NoTree) None) s b.rest n (omega arith)
called_falls None t s ts n w h = first_falls t s ts n h

want_by_falls : (o : Option Prefix) (t : Token) (s : List Frame) (ts : List Token) (n : ℕ) → 2 + 2 * length ts + length s < n → weight (M.want_by o t s ts) < n
want_by_falls (Some p) t s ts n h = omega arith
want_by_falls None t s ts n h = called_falls (call_head (t ∷ ts)) t s ts n (head_within t ts) h

want_falls : (s : List Frame) (ts : List Token) → weight (M.want s ts) < 1 + 2 * length ts + length s
want_falls s [] = omega arith
want_falls s (t ∷ ts) = want_by_falls (prefix_of t) t s ts (1 + 2 * length (t ∷ ts) + length s) (omega arith)

-- an operator
operand_falls : (b : Bool) (o : Operator) (a : Tree) (s : List Frame) (ts : List Token) (n : ℕ) → 2 + 2 * length ts + length s < n → weight (M.take_operand b o a s ts) < n
operand_falls true o a s ts n h = omega arith
operand_falls false o a s ts n h = omega arith

pipe_falls : (o : Option Begun) (a : Tree) (s : List Frame) (k n : ℕ) → IsWithin k o → 2 + 2 * k + length s < n → weight (M.take_pipe o a s) < n
pipe_falls None a s k n w h = omega arith
pipe_falls (Some b) a s k n w h = opened_falls (InCall b.name pipe_level) (M.listed (Some (OneMore a NoTree)) None) s b.rest n (omega arith)

take_call_falls : (b : Bool) (a : Tree) (s : List Frame) (ts : List Token) (n : ℕ) → 2 + 2 * length ts + length s < n → weight (M.take_call b a s ts) < n
take_call_falls true a s ts n h = pipe_falls (call_head ts) a s (length ts) n (any_head_within ts) h
take_call_falls false a s ts n h = omega arith

take_falls : (i : Infix) (s : List Frame) (v : Value) (ts : List Token) (n : ℕ) → 2 + 2 * length ts + length s < n → weight (M.take i s v ts) < n
take_falls (I.Operator o) s v ts n h = tree_falls v.tree _ n (omega arith) (λ a. operand_falls (M.may_take o v) o a s ts n h)
take_falls I.Match s v ts n h = pattern_falls v.pattern _ n (omega arith) (λ p. omega arith)
take_falls I.Pipe s v ts n h = tree_falls v.tree _ n (omega arith) (λ a. take_call_falls (nat_le pipe_level v.level) a s ts n h)

-- what was begun ends, or goes on: a frame goes, and one comes only where a token goes
bar_falls : (e : Enclosure) (l : Listed) (s : List Frame) (ts : List Token) (k : ℕ) → length ts < k → weight (M.bar e l s ts) < 2 + 2 * k + length s
bar_falls InTuple l s ts k h = omega arith
bar_falls InList l s ts k h = omega arith
bar_falls (InCall x y) l s ts k h = omega arith

shut_falls : (b : Bool) (e : Enclosure) (l : Listed) (s : List Frame) (ts : List Token) (k : ℕ) → length ts ≤ k → weight (M.shut_by b e l s ts) < 2 + 2 * k + length s
shut_falls true e l s ts k h = omega arith
shut_falls false e l s ts k h = omega arith

item_falls : (m : Next) (ts : List Token) (e : Enclosure) (l : Listed) (s : List Frame) (k : ℕ) → Takes m (length ts) k → weight (M.item m ts e l s) < 2 + 2 * k + length s
item_falls N.Comma ts e l s k h = omega arith
item_falls N.Bar ts e l s k h = bar_falls e l s ts k h
item_falls (N.Close b) ts e l s k h = shut_falls _ e l s ts k (omega arith)
item_falls m ts e l s k h = omega arith

next_key_falls : (o : Option (List ℕ)) (e : Enclosure) (xs ks : Trees) (s : List Frame) (ts : List Token) (k : ℕ) → length ts < k → weight (M.next_key o e xs ks s ts) < 2 + 2 * k + length s
next_key_falls None e xs ks s ts k h = omega arith
next_key_falls (Some x) e xs ks s ts k h = omega (arith, tail_shorter ts)

shut_keys_falls : (b : Bool) (e : Enclosure) (xs ks : Trees) (s : List Frame) (ts : List Token) (k : ℕ) → length ts ≤ k → weight (M.shut_keys b e xs ks s ts) < 2 + 2 * k + length s
shut_keys_falls true e xs ks s ts k h = omega arith
shut_keys_falls false e xs ks s ts k h = omega arith

keyed_falls : (m : Next) (ts : List Token) (e : Enclosure) (xs ks : Trees) (s : List Frame) (k : ℕ) → Takes m (length ts) k → weight (M.keyed m ts e xs ks s) < 2 + 2 * k + length s
keyed_falls N.Comma ts e xs ks s k h = next_key_falls (first_key ts) e xs ks s ts k h
keyed_falls (N.Close b) ts e xs ks s k h = shut_keys_falls _ e xs ks s ts k (omega arith)
keyed_falls m ts e xs ks s k h = omega arith

tail_end_falls : (m : Next) (ts : List Token) (l : Listed) (v : Value) (s : List Frame) (k : ℕ) → Takes m (length ts) k → weight (M.tail_end m ts l v s) < 2 + 2 * k + length s
tail_end_falls (N.Close Square) ts l v s k h = omega arith
tail_end_falls m ts l v s k h = omega arith

hole_goes_falls : (g : TextGoes) (bytes : List ℕ) (hs : Holes) (s : List Frame) (ts : List Token) (k : ℕ) → length ts < k → weight (M.hole_goes g bytes hs s ts) < 2 + 2 * k + length s
hole_goes_falls G.Hole bytes hs s ts k h = omega (arith, tail_shorter ts)
hole_goes_falls G.Ends bytes hs s ts k h = omega (arith, tail_shorter ts)
hole_goes_falls G.Other bytes hs s ts k h = omega arith

hole_falls : (bytes : List ℕ) (hs : Holes) (t : Tree) (s : List Frame) (ts : List Token) → weight (M.hole (hole_says ts) bytes hs t s ts) < 2 + 2 * length ts + length s
hole_falls bytes hs t s [] = omega arith
hole_falls bytes hs t s (HoleEnds more ∷ ts) = hole_goes_falls (text_goes ts) bytes _ s ts (length (HoleEnds more ∷ ts)) (omega arith)
hole_falls bytes hs t s (u ∷ ts) = omega arith

parens_falls : (m : Next) (ts : List Token) (v : Value) (s : List Frame) (k : ℕ) → Takes m (length ts) k → weight (M.parens m ts v s) < 2 + 2 * k + length s
parens_falls (N.Close Paren) ts v s k h = omega arith
parens_falls m ts v s k h = omega arith

condition_falls : (m : Next) (ts : List Token) (c : Tree) (s : List Frame) (k : ℕ) → Takes m (length ts) k → weight (M.condition m ts c s) < 2 + 2 * k + length s
condition_falls N.Do ts c s k h = omega arith
condition_falls N.CommaDo ts c s k h = omega arith
condition_falls m ts c s k h = omega arith

do_if_falls : (m : Next) (after : List Token) (c a : Tree) (s : List Frame) (ts : List Token) → Takes m (length after) (length ts) → weight (M.do_if m after c a s ts) < 2 + 2 * length ts + length s
do_if_falls N.CommaElse after c a s ts h = omega arith
do_if_falls m after c a s ts h = omega arith

subject_falls : (m : Next) (ts : List Token) (c : Tree) (s : List Frame) (k : ℕ) → Takes m (length ts) k → weight (M.subject m ts c s) < 2 + 2 * k + length s
subject_falls N.Do ts c s k h = omega arith
subject_falls m ts c s k h = omega arith

first_pattern_falls : (m : Next) (ts : List Token) (c : Tree) (p : Pattern) (s : List Frame) (k : ℕ) → Takes m (length ts) k → weight (M.first_pattern m ts c p s) < 2 + 2 * k + length s
first_pattern_falls N.RightArrow ts c p s k h = omega arith
first_pattern_falls m ts c p s k h = omega arith

first_condition_falls : (m : Next) (ts : List Token) (c : Tree) (s : List Frame) (k : ℕ) → Takes m (length ts) k → weight (M.first_condition m ts c s) < 2 + 2 * k + length s
first_condition_falls N.RightArrow ts c s k h = omega arith
first_condition_falls m ts c s k h = omega arith

for_pattern_falls : (m : Next) (ts : List Token) (p : Pattern) (s : List Frame) (k : ℕ) → Takes m (length ts) k → weight (M.for_pattern m ts p s) < 2 + 2 * k + length s
for_pattern_falls N.LeftArrow ts p s k h = omega arith
for_pattern_falls m ts p s k h = omega arith

after_part_falls : (m : Next) (ts : List Token) (hd : Head) (s : List Frame) (k : ℕ) → Takes m (length ts) k → weight (M.after_part m ts hd s) < 2 + 2 * k + length s
after_part_falls N.Comma ts hd s k h = omega arith
after_part_falls N.CommaDo ts hd s k h = omega arith
after_part_falls N.Do ts hd s k h = omega arith
after_part_falls m ts hd s k h = omega arith

part_falls : (m : Next) (ts : List Token) (hd : Head) (v : Value) (s : List Frame) (k : ℕ) → Takes m (length ts) k → weight (M.part m ts hd v s) < 2 + 2 * k + length s
part_falls N.LeftArrow ts hd v s k h = pattern_falls v.pattern _ _ (omega arith) (λ p. omega arith)
part_falls m ts hd v s k h = tree_falls v.tree _ _ (omega arith) (λ f. after_part_falls m ts (M.and_filter hd f) s k h)

else_body_falls : (b : Block) (xs : Trees) (s : List Frame) (ts : List Token) (k : ℕ) → length ts < k → weight (M.else_body b xs s ts) < 2 + 2 * k + length s
else_body_falls (M.Then c) xs s ts k h = omega arith
else_body_falls b xs s ts k h = omega arith

next_clause_falls : (b : Block) (xs : Trees) (v : Value) (s : List Frame) (ts : List Token) (k : ℕ) → length ts < k → weight (M.next_clause b xs v s ts) < 2 + 2 * k + length s
next_clause_falls b NoTree v s ts k h = omega arith
next_clause_falls (M.InClause c ks p) (OneMore x xs) v s ts k h = pattern_falls v.pattern _ _ (omega arith) (λ q. omega arith)
next_clause_falls (M.InChoice ks c) (OneMore x xs) v s ts k h = tree_falls v.tree _ _ (omega arith) (λ d. omega arith)
next_clause_falls (M.Then c) (OneMore x xs) v s ts k h = omega arith
next_clause_falls (M.Otherwise c ys) (OneMore x xs) v s ts k h = omega arith
next_clause_falls (M.InFor hd) (OneMore x xs) v s ts k h = omega arith

body_falls : (m : Next) (ts : List Token) (b : Block) (xs : Trees) (v : Value) (s : List Frame) (k : ℕ) → Takes m (length ts) k → weight (M.body m ts b xs v s) < 2 + 2 * k + length s
body_falls N.Separator ts b xs v s k h = tree_falls v.tree _ _ (omega arith) (λ t. omega arith)
body_falls N.RightArrow ts b xs v s k h = next_clause_falls b xs v s ts k h
body_falls N.Else ts b xs v s k h = tree_falls v.tree _ _ (omega arith) (λ t. else_body_falls b _ s ts k h)
body_falls N.End ts b xs v s k h = tree_falls v.tree _ _ (omega arith) (λ t. omega arith)
body_falls m ts b xs v s k h = omega arith

end_falls : (f : Frame) (s : List Frame) (v : Value) (ts : List Token) (m : Next) (after : List Token) → Takes m (length after) (length ts) → weight (M.end_by f s v ts m after) < 2 + 2 * length ts + length s
end_falls (M.Operand o a) s v ts m after h = tree_falls v.tree _ _ (omega arith) (λ b. omega arith)
end_falls (M.Matched p) s v ts m after h = tree_falls v.tree _ _ (omega arith) (λ t. omega arith)
end_falls (M.Prefixed o) s v ts m after h = omega arith
end_falls M.Parens s v ts m after h = parens_falls m after v s (length ts) h
end_falls (M.Items e l) s v ts m after h = item_falls m after e _ s (length ts) h
end_falls (M.Keyed e xs ks x) s v ts m after h = tree_falls v.tree _ _ (omega arith) (λ t. keyed_falls m after e xs (OneMore (pair x t) ks) s (length ts) h)
end_falls (M.Tail l) s v ts m after h = tail_end_falls m after l v s (length ts) h
end_falls (M.InHole bytes hs) s v ts m after h = tree_falls v.tree _ _ (omega arith) (λ t. hole_falls bytes hs t s ts)
end_falls M.Condition s v ts m after h = tree_falls v.tree _ _ (omega arith) (λ c. condition_falls m after c s (length ts) h)
end_falls (M.DoIf c) s v ts m after h = tree_falls v.tree _ _ (omega arith) (λ a. do_if_falls m after c a s ts h)
end_falls (M.DoElse c a) s v ts m after h = tree_falls v.tree _ _ (omega arith) (λ b. omega arith)
end_falls (M.Body b xs) s v ts m after h = body_falls m after b xs v s (length ts) h
end_falls M.Subject s v ts m after h = tree_falls v.tree _ _ (omega arith) (λ c. subject_falls m after c s (length ts) h)
end_falls (M.FirstPattern c) s v ts m after h = pattern_falls v.pattern _ _ (omega arith) (λ p. first_pattern_falls m after c p s (length ts) h)
end_falls M.FirstCondition s v ts m after h = tree_falls v.tree _ _ (omega arith) (λ c. first_condition_falls m after c s (length ts) h)
end_falls M.ForPattern s v ts m after h = pattern_falls v.pattern _ _ (omega arith) (λ p. for_pattern_falls m after p s (length ts) h)
end_falls (M.ForSource p) s v ts m after h = tree_falls v.tree _ _ (omega arith) (λ g. after_part_falls m after (M.head p g NoPart) s (length ts) h)
end_falls (M.Part hd) s v ts m after h = part_falls m after hd v s (length ts) h
end_falls (M.PartSource hd p) s v ts m after h = tree_falls v.tree _ _ (omega arith) (λ g. after_part_falls m after (M.and_generator hd p g) s (length ts) h)
end_falls (M.DoFor hd) s v ts m after h = tree_falls v.tree _ _ (omega arith) (λ a. omega arith)

ends_falls : (s : List Frame) (v : Value) (ts : List Token) → weight (M.ends s v ts) < 1 + 2 * length ts + length s
ends_falls [] v ts = tree_falls v.tree _ _ (omega arith) (λ t. omega arith)
ends_falls (f ∷ s) v ts = omega (arith, end_falls f s v ts (follow ts).next (follow ts).rest (follow_takes ts))

have_by_falls : (b : Bool) (i : Infix) (s : List Frame) (v : Value) (t : Token) (ts : List Token) → weight (M.take_or_end b i s v (t ∷ ts)) < 1 + 2 * length (t ∷ ts) + length s
have_by_falls true i s v t ts = take_falls i s v ts _ (omega arith)
have_by_falls false i s v t ts = ends_falls s v (t ∷ ts)

have_falls : (s : List Frame) (v : Value) (ts : List Token) → weight (M.have s v ts) < 1 + 2 * length ts + length s
have_falls s v [] = ends_falls s v []
have_falls s v (t ∷ ts) = of (F.first_infix (t ∷ ts))
  where
    of : (o : Option Infix) → weight (M.have_by o s v (t ∷ ts)) < 1 + 2 * length (t ∷ ts) + length s
    of None = ends_falls s v (t ∷ ts)
    of (Some i) = have_by_falls (nat_le (M.floor s) (row_of i).level) i s v t ts

-- each step makes a state that isn't over lighter
pub lighter : (st : State) → is_over st ≡ false → weight (step st) < weight st
lighter (Want s ts) h = want_falls s ts
lighter (Have s v ts) h = have_falls s v ts
lighter (Done t ts) h = absurd (cc)
lighter Stuck h = absurd (cc)
