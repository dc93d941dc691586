-- What stands at the front of the tokens.
use Rattle.std.specs.Prelude.{ℕ, Bool, true, false, if◌then◌else◌, List, [], ◌∷◌, ◌++◌, Option, Some, None}
use Rattle.std.specs.Str.{bytes_eq}
use Rattle.ex_grammar.specs.declared.token.Sign.{Sign}
use Rattle.ex_grammar.specs.declared.token.Sign.TheVariants as S
use Rattle.ex_grammar.specs.declared.token.Keyword.{Keyword}
use Rattle.ex_grammar.specs.declared.token.Keyword.TheVariants as K
use Rattle.ex_grammar.specs.declared.operators.Infix.{Infix}
use Rattle.ex_grammar.specs.Tokens.{Token, Mark, Word, Key, Called, Alias, HoleBegins, HoleEnds, TextEnds, Separator}
use Rattle.ex_grammar.specs.Operators.{infix_of}
use Rattle.ex_grammar.specs.Grammar.{is_underscore, do_key, else_key}
use Rattle.ex_parser.specs.declared.follow.Next.{Next}
use Rattle.ex_parser.specs.declared.follow.Next.TheVariants as N
use Rattle.ex_parser.specs.declared.follow.Bracket.TheVariants.{Paren, Square, Brace}
use Rattle.ex_parser.specs.declared.follow.BlockEnd.{BlockEnd}
use Rattle.ex_parser.specs.declared.follow.BlockEnd.TheVariants as B
use Rattle.ex_parser.specs.declared.follow.TextGoes.{TextGoes}
use Rattle.ex_parser.specs.declared.follow.TextGoes.TheVariants as G

-- what stands after an expression, where that is no operator, and the tokens after it
pub record Follows : Type 0 where
  pub next : Next
  pub rest : List Token

abbrev pub follows : Next → List Token → Follows
follows n ts = record { next = n; rest = ts }

-- without the separator that stands first
abbrev pub after_separator : List Token → List Token
after_separator (Separator ∷ ts) = ts
after_separator ts = ts

-- whether a separator stands first
abbrev pub is_separator : Token → Bool
is_separator Separator = true
is_separator t = false

abbrev pub separator_first : List Token → Bool
separator_first [] = false
separator_first (t ∷ ts) = is_separator t

-- what a comma makes with a key
abbrev pub block_key : List ℕ → Option Next
block_key x = if bytes_eq x do_key then Some N.CommaDo else (if bytes_eq x else_key then Some N.CommaElse else None)

abbrev pub token_block_key : Token → Option Next
token_block_key (Key x) = block_key x
token_block_key t = None

abbrev pub block_key_first : List Token → Option Next
block_key_first [] = None
block_key_first (t ∷ ts) = token_block_key t

abbrev pub comma_by : Option Next → List Token → List Token → Follows
comma_by None all ts = follows N.Comma all
comma_by (Some n) all ts = follows n ts

abbrev pub follow_comma : List Token → Follows
follow_comma (Key x ∷ ts) = comma_by (block_key x) (Key x ∷ ts) ts
follow_comma ts = follows N.Comma ts

abbrev pub follow_sign : Sign → List Token → Follows
follow_sign S.Comma ts = follow_comma ts
follow_sign S.RightArrow ts = follows N.RightArrow (after_separator ts)
follow_sign S.LeftArrow ts = follows N.LeftArrow ts
follow_sign S.Bar ts = follows N.Bar ts
follow_sign S.CloseParen ts = follows (N.Close Paren) ts
follow_sign S.CloseBracket ts = follows (N.Close Square) ts
follow_sign S.CloseBrace ts = follows (N.Close Brace) ts
follow_sign s ts = follows N.Other ts

abbrev pub follow_word : Keyword → List Token → Follows
follow_word K.Do ts = follows N.Do (after_separator ts)
follow_word K.Else ts = follows N.Else (after_separator ts)
follow_word K.End ts = follows N.End ts
follow_word k ts = follows N.Other ts

-- which word that ends a body stands first
abbrev pub block_end : Token → BlockEnd
block_end (Word K.Else) = B.Else
block_end (Word K.End) = B.End
block_end t = B.Neither

abbrev pub block_end_first : List Token → BlockEnd
block_end_first [] = B.Neither
block_end_first (t ∷ ts) = block_end t

abbrev pub separator_before : Keyword → List Token → List Token → Follows
separator_before K.Else all ts = follows N.Else (after_separator ts)
separator_before K.End all ts = follows N.End ts
separator_before k all ts = follows N.Separator all

abbrev pub follow_separator : List Token → Follows
follow_separator (Word k ∷ ts) = separator_before k (Word k ∷ ts) ts
follow_separator ts = follows N.Separator ts

abbrev pub follow : List Token → Follows
follow [] = follows N.Other []
follow (Mark s ∷ ts) = follow_sign s ts
follow (Word k ∷ ts) = follow_word k ts
follow (HoleEnds bytes ∷ ts) = follows N.HoleEnds ts
follow (Separator ∷ ts) = follow_separator ts
follow (t ∷ ts) = follows N.Other ts

-- the operator between two operands that stands first
abbrev pub first_infix : List Token → Option Infix
first_infix [] = None
first_infix (t ∷ ts) = infix_of t

-- the tokens without their first
abbrev pub tail : List Token → List Token
tail [] = []
tail (t ∷ ts) = ts

-- how a text goes on
abbrev pub token_text_goes : Token → TextGoes
token_text_goes HoleBegins = G.Hole
token_text_goes TextEnds = G.Ends
token_text_goes t = G.Other

abbrev pub text_goes : List Token → TextGoes
text_goes (HoleBegins ∷ ts) = G.Hole
text_goes (TextEnds ∷ ts) = G.Ends
text_goes ts = G.Other

-- what the text says after the `}` that stands first
abbrev pub token_says : Token → Option (List ℕ)
token_says (HoleEnds bytes) = Some bytes
token_says t = None

abbrev pub hole_says : List Token → Option (List ℕ)
hole_says (HoleEnds bytes ∷ ts) = Some bytes
hole_says ts = None

-- the key that stands first, where it isn't that of a block
abbrev pub own_key_by : Option Next → List ℕ → Option (List ℕ)
own_key_by None x = Some x
own_key_by (Some n) x = None

abbrev pub own_key : List ℕ → Option (List ℕ)
own_key x = own_key_by (block_key x) x

abbrev pub token_key : Token → Option (List ℕ)
token_key (Key x) = own_key x
token_key t = None

abbrev pub first_key : List Token → Option (List ℕ)
first_key (Key x ∷ ts) = own_key x
first_key ts = None

-- the name of a call that stands first, and what stands after its `(`
pub record Begun : Type 0 where
  pub name : List ℕ
  pub rest : List Token

abbrev pub is_paren : Token → Bool
is_paren (Mark S.OpenParen) = true
is_paren t = false

abbrev pub paren_first : List Token → Bool
paren_first [] = false
paren_first (t ∷ ts) = is_paren t

abbrev pub is_dot : Token → Bool
is_dot (Mark S.Dot) = true
is_dot t = false

abbrev pub dot_first : List Token → Bool
dot_first [] = false
dot_first (t ∷ ts) = is_dot t

abbrev pub call_by : Bool → List ℕ → List Token → Option Begun
call_by true name ts = None
call_by false name ts = Some (record { name = name; rest = ts })

abbrev pub opens : Bool → List ℕ → List Token → Option Begun
opens underscore name (Mark S.OpenParen ∷ ts) = call_by underscore name ts
opens underscore name ts = None

abbrev pub after_dot : List ℕ → List Token → Option Begun
after_dot a (Called x ∷ ts) = opens (is_underscore x) (a ++ 46 ∷ x) ts
after_dot a ts = None

abbrev pub after_alias : List ℕ → List Token → Option Begun
after_alias a (Mark S.Dot ∷ ts) = after_dot a ts
after_alias a ts = None

abbrev pub call_head : List Token → Option Begun
call_head (Called x ∷ ts) = opens (is_underscore x) x ts
call_head (Alias a ∷ ts) = after_alias a ts
call_head ts = None
