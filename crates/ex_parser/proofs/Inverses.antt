-- Which tokens stand where what follows is known.
use Rattle.std.proofs.Common.{◌≡◌, ℕ, Bool, true, false, List, [], ◌∷◌, ◌++◌, Some, None, refl, ap, subst}
use Rattle.std.specs.Prelude.{if◌then◌else◌}
use Rattle.std.specs.Str.{bytes_eq}
use Rattle.std.proofs.lemmas.Slice.Eq.{bytes_eq-Decides}
use Rattle.ex_grammar.specs.declared.token.Sign.{Sign}
use Rattle.ex_grammar.specs.declared.token.Sign.TheVariants as S
use Rattle.ex_grammar.specs.declared.token.Keyword.{Keyword}
use Rattle.ex_grammar.specs.declared.token.Keyword.TheVariants as K
use Rattle.ex_grammar.specs.declared.operators.Operator.TheVariants as O
use Rattle.ex_grammar.specs.declared.operators.Infix.{Infix}
use Rattle.ex_grammar.specs.declared.operators.Infix.TheVariants as I
use Rattle.ex_grammar.specs.declared.operators.Prefix.{Prefix}
use Rattle.ex_grammar.specs.declared.operators.Prefix.TheVariants.{Negate, Keep, Not, StrictNot}
use Rattle.ex_grammar.specs.Tokens.{Token, Mark, Word, Key, Called, Alias, HoleBegins, HoleEnds, TextEnds, Separator}
use Rattle.ex_grammar.specs.Operators.{infix_of, infix_token, prefix_of, prefix_token}
use Rattle.ex_grammar.specs.Grammar.{MaySeparate, without, with, do_key, else_key, is_block_key, is_underscore}
use Rattle.ex_parser.specs.declared.follow.Next.{Next}
use Rattle.ex_parser.specs.declared.follow.Next.TheVariants as N
use Rattle.ex_parser.specs.declared.follow.Bracket.{Bracket}
use Rattle.ex_parser.specs.declared.follow.Bracket.TheVariants.{Paren, Square, Brace}
use Rattle.ex_parser.specs.declared.follow.TextGoes.{TextGoes}
use Rattle.ex_parser.specs.declared.follow.TextGoes.TheVariants as G
use Rattle.ex_parser.specs.Follow.{Follows, follow, follow_comma, follow_separator, follow_sign, follow_word, separator_before, comma_by, after_separator, first_infix, tail, text_goes, hole_says, own_key, own_key_by, first_key, Begun, call_head, opens, call_by, after_dot, after_alias}

-- operators
some_is : (a b : Infix) → Some a ≡ Some b → a ≡ b
some_is a b e = cc

prefix_is : (a b : Prefix) → Some a ≡ Some b → a ≡ b
prefix_is a b e = cc

infix_inverse_sign : (m : Sign) (i : Infix) → infix_of (Mark m) ≡ Some i → Mark m ≡ infix_token i
infix_inverse_sign S.Equals i e = ap infix_token (some_is (I.Match) i e)
infix_inverse_sign S.OrOr i e = ap infix_token (some_is (I.Operator O.Or) i e)
infix_inverse_sign S.AndAnd i e = ap infix_token (some_is (I.Operator O.And) i e)
infix_inverse_sign S.EqualEqual i e = ap infix_token (some_is (I.Operator O.Equal) i e)
infix_inverse_sign S.BangEqual i e = ap infix_token (some_is (I.Operator O.NotEqual) i e)
infix_inverse_sign S.TripleEqual i e = ap infix_token (some_is (I.Operator O.StrictEqual) i e)
infix_inverse_sign S.BangEqualEqual i e = ap infix_token (some_is (I.Operator O.StrictNotEqual) i e)
infix_inverse_sign S.Less i e = ap infix_token (some_is (I.Operator O.Less) i e)
infix_inverse_sign S.Greater i e = ap infix_token (some_is (I.Operator O.Greater) i e)
infix_inverse_sign S.LessEqual i e = ap infix_token (some_is (I.Operator O.LessOrEqual) i e)
infix_inverse_sign S.GreaterEqual i e = ap infix_token (some_is (I.Operator O.GreaterOrEqual) i e)
infix_inverse_sign S.Pipe i e = ap infix_token (some_is (I.Pipe) i e)
infix_inverse_sign S.PlusPlus i e = ap infix_token (some_is (I.Operator O.Join) i e)
infix_inverse_sign S.LessGreater i e = ap infix_token (some_is (I.Operator O.Concat) i e)
infix_inverse_sign S.Plus i e = ap infix_token (some_is (I.Operator O.Add) i e)
infix_inverse_sign S.Minus i e = ap infix_token (some_is (I.Operator O.Subtract) i e)
infix_inverse_sign S.Star i e = ap infix_token (some_is (I.Operator O.Multiply) i e)
infix_inverse_sign m i e = absurd (cc)

infix_inverse_word : (k : Keyword) (i : Infix) → infix_of (Word k) ≡ Some i → Word k ≡ infix_token i
infix_inverse_word K.Or i e = ap infix_token (some_is (I.Operator O.StrictOr) i e)
infix_inverse_word K.And i e = ap infix_token (some_is (I.Operator O.StrictAnd) i e)
infix_inverse_word K.In i e = ap infix_token (some_is (I.Operator O.Member) i e)
infix_inverse_word k i e = absurd (cc)

pub infix_inverse : (t : Token) (i : Infix) → infix_of t ≡ Some i → t ≡ infix_token i
infix_inverse (Mark m) i e = infix_inverse_sign m i e
infix_inverse (Word k) i e = infix_inverse_word k i e
infix_inverse t i e = absurd (cc)

pub first_infix_is : (ts : List Token) (i : Infix) → first_infix ts ≡ Some i → ts ≡ infix_token i ∷ tail ts
first_infix_is [] i e = absurd (cc)
first_infix_is (t ∷ ts) i e = ap (λ u. u ∷ ts) (infix_inverse t i e)

prefix_inverse_sign : (m : Sign) (o : Prefix) → prefix_of (Mark m) ≡ Some o → Mark m ≡ prefix_token o
prefix_inverse_sign S.Minus o e = ap prefix_token (prefix_is Negate o e)
prefix_inverse_sign S.Plus o e = ap prefix_token (prefix_is Keep o e)
prefix_inverse_sign S.Bang o e = ap prefix_token (prefix_is Not o e)
prefix_inverse_sign m o e = absurd (cc)

prefix_inverse_word : (k : Keyword) (o : Prefix) → prefix_of (Word k) ≡ Some o → Word k ≡ prefix_token o
prefix_inverse_word K.Not o e = ap prefix_token (prefix_is StrictNot o e)
prefix_inverse_word k o e = absurd (cc)

pub prefix_inverse : (t : Token) (o : Prefix) → prefix_of t ≡ Some o → t ≡ prefix_token o
prefix_inverse (Mark m) o e = prefix_inverse_sign m o e
prefix_inverse (Word k) o e = prefix_inverse_word k o e
prefix_inverse t o e = absurd (cc)

-- the sign of a closing bracket
abbrev pub close_sign : Bracket → Token
close_sign Paren = Mark S.CloseParen
close_sign Square = Mark S.CloseBracket
close_sign Brace = Mark S.CloseBrace

-- the tokens that stand where this follows
abbrev pub FollowIs : Next → List Token → List Token → Type 0
FollowIs N.Comma ts us = ts ≡ Mark S.Comma ∷ us
FollowIs N.CommaDo ts us = ts ≡ Mark S.Comma ∷ Key do_key ∷ us
FollowIs N.CommaElse ts us = ts ≡ Mark S.Comma ∷ Key else_key ∷ us
FollowIs N.Bar ts us = ts ≡ Mark S.Bar ∷ us
FollowIs N.RightArrow ts us = (sep : List Token) × MaySeparate sep × (ts ≡ Mark S.RightArrow ∷ (sep ++ us))
FollowIs N.LeftArrow ts us = ts ≡ Mark S.LeftArrow ∷ us
FollowIs (N.Close b) ts us = ts ≡ close_sign b ∷ us
FollowIs N.HoleEnds ts us = Unit {0}
FollowIs N.Do ts us = (sep : List Token) × MaySeparate sep × (ts ≡ Word K.Do ∷ (sep ++ us))
FollowIs N.Else ts us = (sep : List Token) × (sep' : List Token) × MaySeparate sep × MaySeparate sep' × (ts ≡ sep ++ Word K.Else ∷ (sep' ++ us))
FollowIs N.End ts us = (sep : List Token) × MaySeparate sep × (ts ≡ sep ++ Word K.End ∷ us)
FollowIs N.Separator ts us = ts ≡ Separator ∷ us
FollowIs N.Other ts us = Unit {0}

-- a separator may have stood there
pub separated : (ts : List Token) → (sep : List Token) × MaySeparate sep × (ts ≡ sep ++ after_separator ts)
separated [] = ([], without, refl)
separated (Separator ∷ ts) = (Separator ∷ [], with, refl)
separated (t ∷ ts) = ([], without, refl)

abbrev Is : Follows → List Token → Type 0
Is f ts = FollowIs f.next ts f.rest

same_bytes : (x y : List ℕ) → bytes_eq x y ≡ true → x ≡ y
same_bytes x y e = (bytes_eq-Decides x y).0 e

comma_key : (x : List ℕ) (ts : List Token) (a b : Bool) → bytes_eq x do_key ≡ a → bytes_eq x else_key ≡ b → Is (comma_by (if a then Some N.CommaDo else (if b then Some N.CommaElse else None)) (Key x ∷ ts) ts) (Mark S.Comma ∷ Key x ∷ ts)
comma_key x ts true b e f = ap (λ y. Mark S.Comma ∷ Key y ∷ ts) (same_bytes x do_key e)
comma_key x ts false true e f = ap (λ y. Mark S.Comma ∷ Key y ∷ ts) (same_bytes x else_key f)
comma_key x ts false false e f = refl

follow_comma_is : (ts : List Token) → Is (follow_comma ts) (Mark S.Comma ∷ ts)
follow_comma_is [] = refl
follow_comma_is (Key x ∷ ts) = comma_key x ts (bytes_eq x do_key) (bytes_eq x else_key) refl refl
follow_comma_is (t ∷ ts) = refl

follow_sign_is : (m : Sign) (ts : List Token) → Is (follow_sign m ts) (Mark m ∷ ts)
follow_sign_is S.Comma ts = follow_comma_is ts
follow_sign_is S.RightArrow ts = let s = separated ts in (s.0, s.1, ap (λ v. Mark S.RightArrow ∷ v) s.2)
follow_sign_is S.LeftArrow ts = refl
follow_sign_is S.Bar ts = refl
follow_sign_is S.CloseParen ts = refl
follow_sign_is S.CloseBracket ts = refl
follow_sign_is S.CloseBrace ts = refl
follow_sign_is m ts = tt

follow_word_is : (k : Keyword) (ts : List Token) → Is (follow_word k ts) (Word k ∷ ts)
follow_word_is K.Do ts = let s = separated ts in (s.0, s.1, ap (λ v. Word K.Do ∷ v) s.2)
follow_word_is K.Else ts = let s = separated ts in ([], s.0, without, s.1, ap (λ v. Word K.Else ∷ v) s.2)
follow_word_is K.End ts = ([], without, refl)
follow_word_is k ts = tt

separator_before_is : (k : Keyword) (ts : List Token) → Is (separator_before k (Word k ∷ ts) ts) (Separator ∷ Word k ∷ ts)
separator_before_is K.Else ts = let s = separated ts in (Separator ∷ [], s.0, with, s.1, ap (λ v. Separator ∷ Word K.Else ∷ v) s.2)
separator_before_is K.End ts = (Separator ∷ [], with, refl)
separator_before_is k ts = refl

follow_separator_is : (ts : List Token) → Is (follow_separator ts) (Separator ∷ ts)
follow_separator_is [] = refl
follow_separator_is (Word k ∷ ts) = separator_before_is k ts
follow_separator_is (t ∷ ts) = refl

pub follow_is : (ts : List Token) → FollowIs (follow ts).next ts (follow ts).rest
follow_is [] = tt
follow_is (Mark m ∷ ts) = follow_sign_is m ts
follow_is (Word k ∷ ts) = follow_word_is k ts
follow_is (HoleEnds bytes ∷ ts) = tt
follow_is (Separator ∷ ts) = follow_separator_is ts
follow_is (t ∷ ts) = tt

-- texts
abbrev pub TextIs : TextGoes → List Token → Type 0
TextIs G.Hole ts = ts ≡ HoleBegins ∷ tail ts
TextIs G.Ends ts = ts ≡ TextEnds ∷ tail ts
TextIs G.Other ts = Unit {0}

pub text_is : (ts : List Token) → TextIs (text_goes ts) ts
text_is [] = tt
text_is (HoleBegins ∷ ts) = refl
text_is (TextEnds ∷ ts) = refl
text_is (t ∷ ts) = tt

bytes_some : (x y : List ℕ) → Some x ≡ Some y → x ≡ y
bytes_some x y e = cc

pub hole_says_is : (ts : List Token) (bytes : List ℕ) → hole_says ts ≡ Some bytes → ts ≡ HoleEnds bytes ∷ tail ts
hole_says_is [] bytes e = absurd (cc)
hole_says_is (HoleEnds more ∷ ts) bytes e = ap (λ v. HoleEnds v ∷ ts) (bytes_some more bytes e)
hole_says_is (t ∷ ts) bytes e = absurd (cc)

-- keys
own_by : (x y : List ℕ) (a b : Bool) → bytes_eq x do_key ≡ a → bytes_eq x else_key ≡ b → own_key_by (if a then Some N.CommaDo else (if b then Some N.CommaElse else None)) x ≡ Some y → (is_block_key x ≡ false) × (x ≡ y)
own_by x y true b e f g = absurd (cc)
own_by x y false true e f g = absurd (cc)
own_by x y false false e f g = (rw (e, f) refl, bytes_some x y g)

pub own_is : (x y : List ℕ) → own_key x ≡ Some y → (is_block_key x ≡ false) × (x ≡ y)
own_is x y e = own_by x y (bytes_eq x do_key) (bytes_eq x else_key) refl refl e

pub first_key_is : (ts : List Token) (y : List ℕ) → first_key ts ≡ Some y → (is_block_key y ≡ false) × (ts ≡ Key y ∷ tail ts)
first_key_is [] y e = absurd (cc)
first_key_is (Key x ∷ ts) y e = let k = own_is x y e in (subst (λ z. is_block_key z ≡ false) k.1 k.0, ap (λ z. Key z ∷ ts) k.1)
first_key_is (t ∷ ts) y e = absurd (cc)

-- the tokens with which a call begins
pub data CallStart : List Token → List ℕ → Type 0 where
  plain_start : {x : List ℕ} → is_underscore x ≡ false → CallStart (Called x ∷ Mark S.OpenParen ∷ []) x
  alias_start : {a x : List ℕ} → is_underscore x ≡ false → CallStart (Alias a ∷ Mark S.Dot ∷ Called x ∷ Mark S.OpenParen ∷ []) (a ++ 46 ∷ x)

begun_is : (x : List ℕ) (ts : List Token) (b : Begun) (P : List ℕ → List Token → Type 0) → Some (record { name = x; rest = ts }) ≡ Some b → P x ts → P b.name b.rest
begun_is x ts b P e p = let f : record { name = x; rest = ts } ≡ b = cc in subst (λ (c : Begun). P c.name c.rest) f p

pub record HeadIs (ts : List Token) (name : List ℕ) (rest : List Token) : Type 0 where
  pub start : List Token
  pub begins : CallStart start name
  pub split : ts ≡ start ++ rest

plain_by : (x : List ℕ) (ts : List Token) (u : Bool) (b : Begun) → is_underscore x ≡ u → call_by u x ts ≡ Some b → HeadIs (Called x ∷ Mark S.OpenParen ∷ ts) b.name b.rest
plain_by x ts true b u e = absurd (cc)
plain_by x ts false b u e = begun_is x ts b (λ n r. HeadIs (Called x ∷ Mark S.OpenParen ∷ ts) n r) e (record { start = Called x ∷ Mark S.OpenParen ∷ []; begins = plain_start u; split = refl })

alias_by : (a x : List ℕ) (ts : List Token) (u : Bool) (b : Begun) → is_underscore x ≡ u → call_by u (a ++ 46 ∷ x) ts ≡ Some b → HeadIs (Alias a ∷ Mark S.Dot ∷ Called x ∷ Mark S.OpenParen ∷ ts) b.name b.rest
alias_by a x ts true b u e = absurd (cc)
alias_by a x ts false b u e = begun_is (a ++ 46 ∷ x) ts b (λ n r. HeadIs (Alias a ∷ Mark S.Dot ∷ Called x ∷ Mark S.OpenParen ∷ ts) n r) e (record { start = Alias a ∷ Mark S.Dot ∷ Called x ∷ Mark S.OpenParen ∷ []; begins = alias_start u; split = refl })

plain_sign : (x : List ℕ) (m : Sign) (ts : List Token) (b : Begun) → opens (is_underscore x) x (Mark m ∷ ts) ≡ Some b → HeadIs (Called x ∷ Mark m ∷ ts) b.name b.rest
plain_sign x S.OpenParen ts b e = plain_by x ts (is_underscore x) b refl e
plain_sign x m ts b e = absurd (cc)

plain_opens : (x : List ℕ) (ts : List Token) (b : Begun) → opens (is_underscore x) x ts ≡ Some b → HeadIs (Called x ∷ ts) b.name b.rest
plain_opens x [] b e = absurd (cc)
plain_opens x (Mark m ∷ ts) b e = plain_sign x m ts b e
plain_opens x (t ∷ ts) b e = absurd (cc)

alias_sign : (a x : List ℕ) (m : Sign) (ts : List Token) (b : Begun) → opens (is_underscore x) (a ++ 46 ∷ x) (Mark m ∷ ts) ≡ Some b → HeadIs (Alias a ∷ Mark S.Dot ∷ Called x ∷ Mark m ∷ ts) b.name b.rest
alias_sign a x S.OpenParen ts b e = alias_by a x ts (is_underscore x) b refl e
alias_sign a x m ts b e = absurd (cc)

alias_opens : (a x : List ℕ) (ts : List Token) (b : Begun) → opens (is_underscore x) (a ++ 46 ∷ x) ts ≡ Some b → HeadIs (Alias a ∷ Mark S.Dot ∷ Called x ∷ ts) b.name b.rest
alias_opens a x [] b e = absurd (cc)
alias_opens a x (Mark m ∷ ts) b e = alias_sign a x m ts b e
alias_opens a x (t ∷ ts) b e = absurd (cc)

after_dot_is : (a : List ℕ) (ts : List Token) (b : Begun) → after_dot a ts ≡ Some b → HeadIs (Alias a ∷ Mark S.Dot ∷ ts) b.name b.rest
after_dot_is a [] b e = absurd (cc)
after_dot_is a (Called x ∷ ts) b e = alias_opens a x ts b e
after_dot_is a (t ∷ ts) b e = absurd (cc)

after_alias_sign : (a : List ℕ) (m : Sign) (ts : List Token) (b : Begun) → after_alias a (Mark m ∷ ts) ≡ Some b → HeadIs (Alias a ∷ Mark m ∷ ts) b.name b.rest
after_alias_sign a S.Dot ts b e = after_dot_is a ts b e
after_alias_sign a m ts b e = absurd (cc)

after_alias_is : (a : List ℕ) (ts : List Token) (b : Begun) → after_alias a ts ≡ Some b → HeadIs (Alias a ∷ ts) b.name b.rest
after_alias_is a [] b e = absurd (cc)
after_alias_is a (Mark m ∷ ts) b e = after_alias_sign a m ts b e
after_alias_is a (t ∷ ts) b e = absurd (cc)

pub call_head_is : (ts : List Token) (b : Begun) → call_head ts ≡ Some b → HeadIs ts b.name b.rest
call_head_is [] b e = absurd (cc)
call_head_is (Called x ∷ ts) b e = plain_opens x ts b e
call_head_is (Alias a ∷ ts) b e = after_alias_is a ts b e
call_head_is (t ∷ ts) b e = absurd (cc)
