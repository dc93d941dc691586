-- What stands first in what derives, and what may stand after it.
use Rattle.std.proofs.Common.{◌≡◌, ℕ, Bool, true, false, List, [], ◌∷◌, ◌++◌, Some, None, refl, sym, ap, ◌∙◌}
use Rattle.std.specs.Prelude.{if◌then◌else◌, ◌||◌}
use Rattle.std.specs.Str.{bytes_eq}
use Rattle.ex_grammar.specs.declared.token.Sign.{Sign}
use Rattle.ex_grammar.specs.declared.token.Sign.TheVariants as S
use Rattle.ex_grammar.specs.declared.token.Keyword.{Keyword}
use Rattle.ex_grammar.specs.declared.token.Keyword.TheVariants as K
use Rattle.ex_grammar.specs.declared.token.WordValue.{WordValue}
use Rattle.ex_grammar.specs.declared.operators.Prefix.{Prefix}
use Rattle.ex_grammar.specs.declared.operators.Prefix.TheVariants.{Negate, Keep, Not, StrictNot}
use Rattle.ex_grammar.specs.Tokens as T
use Rattle.ex_grammar.specs.Tokens.{Token, Mark, Word, Key, Called, Alias, TextBegins, HoleBegins, HoleEnds, TextEnds, Separator}
use Rattle.ex_grammar.specs.Operators.{prefix_token}
use Rattle.ex_grammar.specs.Patterns as P
use Rattle.ex_grammar.specs.Patterns.{Pattern, IsPattern, word_value}
use Rattle.ex_grammar.specs.Trees.{Tree, Trees, OneMore, Clauses, Choices}
use Rattle.ex_grammar.specs.Grammar as D
use Rattle.ex_grammar.specs.Grammar.{End, Derives, DerivesCall, DeriveItems, DeriveAll, DeriveClauses, DeriveChoices, do_key, else_key, is_block_key}
use Rattle.ex_parser.specs.declared.follow.Next.TheVariants as N
use Rattle.ex_parser.specs.declared.follow.Bracket.{Bracket}
use Rattle.ex_parser.specs.Follow.{follow, after_separator, first_infix, block_key}
use Rattle.ex_parser.specs.Machine.{closes}

-- a word that may begin an expression
abbrev pub word_begins : Keyword → Bool
word_begins K.Do = false
word_begins K.End = false
word_begins K.Else = false
word_begins k = true

abbrev pub sign_begins : Sign → Bool
sign_begins S.OpenParen = true
sign_begins S.OpenBracket = true
sign_begins S.OpenBrace = true
sign_begins S.Caret = true
sign_begins S.Minus = true
sign_begins S.Plus = true
sign_begins S.Bang = true
sign_begins s = false

-- a token that may begin an expression or a pattern
abbrev pub may_begin : Token → Bool
may_begin (T.Number n) = true
may_begin (T.Name x) = true
may_begin (Called x) = true
may_begin (Alias x) = true
may_begin (T.Atom x) = true
may_begin (Word k) = word_begins k
may_begin (Mark s) = sign_begins s
may_begin (TextBegins bytes) = true
may_begin t = false

abbrev pub Begins : List Token → Type 0
Begins [] = ⊥
Begins (t ∷ ts) = may_begin t ≡ true

pub begins_more : (ts us : List Token) → Begins ts → Begins (ts ++ us)
begins_more [] us b = absurd b
begins_more (t ∷ ts) us b = b

value_begins : (k : Keyword) (w : WordValue) → word_value k ≡ Some w → word_begins k ≡ true
value_begins K.Do w e = cc
value_begins K.End w e = cc
value_begins K.Else w e = cc
value_begins k w e = refl

pub pattern_begins : {ts : List Token} {p : Pattern} → IsPattern ts p → Begins ts
pattern_begins P.integer = refl
pattern_begins P.negative = refl
pattern_begins P.atom = refl
pattern_begins (P.word {k} {w} e) = value_begins k w e
pattern_begins P.text = refl
pattern_begins P.name = refl
pattern_begins P.pinned = refl
pattern_begins (P.tuple d) = refl
pattern_begins (P.items d) = refl
pattern_begins (P.items_then d e) = refl

prefix_begins : (o : Prefix) → may_begin (prefix_token o) ≡ true
prefix_begins Negate = refl
prefix_begins Keep = refl
prefix_begins Not = refl
prefix_begins StrictNot = refl

call_begins : {ts : List Token} {x : List ℕ} {xs : Trees} → DerivesCall ts x xs → Begins ts
call_begins (D.plain_call u d) = refl
call_begins (D.alias_call u d) = refl

pub derives_begin : {l : ℕ} {e : End} {ts : List Token} {t : Tree} → Derives l e ts t → Begins ts
derives_begin D.integer = refl
derives_begin D.atom = refl
derives_begin (D.word {k} {w} e) = value_begins k w e
derives_begin (D.variable u) = refl
derives_begin (D.text d) = refl
derives_begin (D.parentheses d) = refl
derives_begin (D.tuple d) = refl
derives_begin (D.list d) = refl
derives_begin (D.list_then d e) = refl
derives_begin (D.call d) = call_begins d
derives_begin (D.if_block c d) = refl
derives_begin (D.if_else_block c d e) = refl
derives_begin (D.if_do c d) = refl
derives_begin (D.if_do_else c d m e) = refl
derives_begin (D.case_block c m d n) = refl
derives_begin (D.cond_block m d n) = refl
derives_begin (D.for_block p g r d) = refl
derives_begin (D.for_do p g r d) = refl
derives_begin (D.prefixed {o} d) = prefix_begins o
derives_begin (D.apply {xs = xs} {ys = ys} d m e) = begins_more xs _ (derives_begin d)
derives_begin (D.pipe {xs = xs} {ys = ys} d e) = begins_more xs _ (derives_begin d)
derives_begin (D.match {xs = xs} p e) = begins_more xs _ (pattern_begins p)
derives_begin (D.tighter le d) = derives_begin d

pub all_begin : {ts : List Token} {xs : Trees} → DeriveAll ts xs → Begins ts
all_begin (D.last_one d) = derives_begin d
all_begin (D.one_more {ts = ts} d e) = begins_more ts _ (derives_begin d)

pub items_begin : {ts : List Token} {x : Tree} {xs : Trees} → DeriveItems ts (OneMore x xs) → Begins ts
items_begin (D.last_item d) = derives_begin d
items_begin (D.more_items {ts = ts} d e) = begins_more ts _ (derives_begin d)

pub clauses_begin : {ts : List Token} {ks : Clauses} → DeriveClauses ts ks → Begins ts
clauses_begin (D.last_clause {ps = ps} p m d) = begins_more ps _ (pattern_begins p)
clauses_begin (D.more_clauses {ps = ps} p m d e) = begins_more ps _ (pattern_begins p)

pub choices_begin : {ts : List Token} {ks : Choices} → DeriveChoices ts ks → Begins ts
choices_begin (D.last_choice {cs = cs} c m d) = begins_more cs _ (derives_begin c)
choices_begin (D.more_choices {cs = cs} c m d e) = begins_more cs _ (derives_begin c)

pub patterns_begin : {ts : List Token} {p : Pattern} {ps : P.Patterns} → P.ArePatterns ts (P.OneMore p ps) → Begins ts
patterns_begin (P.last_pattern d) = pattern_begins d
patterns_begin (P.more_patterns {ts = ts} d e) = begins_more ts _ (pattern_begins d)

-- what begins so is no separator, no key and closes nothing
pub begins_here : (ts : List Token) → Begins ts → after_separator ts ≡ ts
begins_here [] b = absurd b
begins_here (Separator ∷ ts) b = cc
begins_here (t ∷ ts) b = refl

pub begins_after_comma : (ts : List Token) → Begins ts → follow (Mark S.Comma ∷ ts) ≡ record { next = N.Comma; rest = ts }
begins_after_comma [] b = absurd b
begins_after_comma (Key x ∷ ts) b = cc
begins_after_comma (t ∷ ts) b = refl

pub begins_after_separator : (ts : List Token) → Begins ts → follow (Separator ∷ ts) ≡ record { next = N.Separator; rest = ts }
begins_after_separator [] b = absurd b
begins_after_separator (Word K.Do ∷ ts) b = refl
begins_after_separator (Word K.End ∷ ts) b = cc
begins_after_separator (Word K.Else ∷ ts) b = cc
begins_after_separator (Word k ∷ ts) b = refl
begins_after_separator (t ∷ ts) b = refl

sign_open : (s : Sign) (ts : List Token) (a : Bracket) → sign_begins s ≡ true → closes (follow (Mark s ∷ ts)).next a ≡ false
sign_open S.OpenParen ts a b = refl
sign_open S.OpenBracket ts a b = refl
sign_open S.OpenBrace ts a b = refl
sign_open S.Caret ts a b = refl
sign_open S.Minus ts a b = refl
sign_open S.Plus ts a b = refl
sign_open S.Bang ts a b = refl
sign_open s ts a b = cc

word_open : (k : Keyword) (ts : List Token) (a : Bracket) → closes (follow (Word k ∷ ts)).next a ≡ false
word_open K.Do ts a = refl
word_open K.Else ts a = refl
word_open K.End ts a = refl
word_open k ts a = refl

pub begins_open : (ts : List Token) (a : Bracket) → Begins ts → closes (follow ts).next a ≡ false
begins_open [] a b = absurd b
begins_open (Mark s ∷ ts) a b = sign_open s ts a b
begins_open (Word k ∷ ts) a b = word_open k ts a
begins_open (Separator ∷ ts) a b = cc
begins_open (HoleEnds bytes ∷ ts) a b = cc
begins_open (t ∷ ts) a b = refl

-- a key that is that of no block
no_block : (x : List ℕ) (a b : Bool) → a || b ≡ false → (if a then Some N.CommaDo else (if b then Some N.CommaElse else None)) ≡ None
no_block x true b e = cc
no_block x false true e = cc
no_block x false false e = refl

pub own_is_no_block : (x : List ℕ) → is_block_key x ≡ false → block_key x ≡ None
own_is_no_block x e = no_block x (bytes_eq x do_key) (bytes_eq x else_key) e

pub own_after_comma : (x : List ℕ) (ts : List Token) → is_block_key x ≡ false → follow (Mark S.Comma ∷ Key x ∷ ts) ≡ record { next = N.Comma; rest = Key x ∷ ts }
own_after_comma x ts e = rw (own_is_no_block x e) refl

-- no operator stands first, and no `, else:`
pub record Calm (ts : List Token) : Type 0 where
  pub quiet : first_infix ts ≡ None
  pub no_else : (follow ts).next ≡ N.CommaElse → ⊥

pub calm_comma : (ts : List Token) → Begins ts → Calm (Mark S.Comma ∷ ts)
calm_comma ts b = record { quiet = refl; no_else = λ e. off (sym (ap (λ f. f.next) (begins_after_comma ts b)) ∙ e) }
  where
    off : N.Comma ≡ N.CommaElse → ⊥
    off e = cc

pub calm_key : (x : List ℕ) (ts : List Token) → is_block_key x ≡ false → Calm (Mark S.Comma ∷ Key x ∷ ts)
calm_key x ts k = record { quiet = refl; no_else = λ e. off (sym (ap (λ f. f.next) (own_after_comma x ts k)) ∙ e) }
  where
    off : N.Comma ≡ N.CommaElse → ⊥
    off e = cc

separator_word : (k : Keyword) (ts : List Token) → (follow (Separator ∷ Word k ∷ ts)).next ≡ N.CommaElse → ⊥
separator_word K.Else ts e = cc
separator_word K.End ts e = cc
separator_word k ts e = cc

pub calm_separator : (ts : List Token) → Calm (Separator ∷ ts)
calm_separator [] = record { quiet = refl; no_else = λ e. cc }
calm_separator (Word k ∷ ts) = record { quiet = refl; no_else = λ e. separator_word k ts e }
calm_separator (t ∷ ts) = record { quiet = refl; no_else = λ e. cc }
