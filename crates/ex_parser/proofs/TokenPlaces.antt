-- Tokens of the code at places.
use Rattle.std.proofs.Common.{◌≡◌, ℕ, zero, suc, ◌+◌, ◌≤◌, Bool, true, false, List, [], ◌∷◌, length, drop, Some, None, refl, sym, ap, ◌∙◌, arith, subst}
use Rattle.ex_grammar.specs.declared.token.Token.{Token as CodeToken}
use Rattle.ex_grammar.specs.declared.token.TokenKind.{TokenKind}
use Rattle.ex_grammar.specs.declared.token.TokenKind.TheVariants as C
use Rattle.ex_grammar.specs.declared.token.Sign.TheVariants as S
use Rattle.ex_grammar.specs.declared.token.Keyword.TheVariants as K
use Rattle.ex_grammar.specs.declared.token.Sign.{Sign}
use Rattle.ex_grammar.specs.declared.token.Keyword.{Keyword}
use Rattle.ex_grammar.specs.Coded.{IsToken, is_sign, is_word}
use Rattle.ex_grammar.specs.Tokens.{Token, Mark, Word, Key, Separator}
use Rattle.ex_parser.specs.declared.follow.Next.{Next}
use Rattle.ex_parser.specs.declared.follow.Next.TheVariants as N
use Rattle.ex_parser.specs.declared.follow.BlockEnd.TheVariants as B
use Rattle.ex_parser.specs.Follow.{follows, follow_comma, follow_separator, after_separator, is_separator, separator_first, token_block_key, block_key_first, block_end, block_end_first, is_paren, paren_first, is_dot, dot_first, opens, after_alias, after_dot}
use Rattle.ex_parser.specs.Shown.{token_of, tokens_of, FollowShows, CallShows}

pub of_drop_nil : (xs : List CodeToken) (at : ℕ) → length xs ≤ at → drop at (tokens_of xs) ≡ []
of_drop_nil [] zero h = refl
of_drop_nil [] (suc at) h = refl
of_drop_nil (x ∷ xs) zero h = absurd (omega arith)
of_drop_nil (x ∷ xs) (suc at) h = of_drop_nil xs at (omega arith)

pub of_drop : (xs : List CodeToken) (at : ℕ) (x : CodeToken) (ys : List CodeToken) → drop at xs ≡ x ∷ ys → drop at (tokens_of xs) ≡ token_of x.kind ∷ drop (at + 1) (tokens_of xs)
of_drop [] zero x ys h = absurd (cc)
of_drop [] (suc at) x ys h = absurd (cc)
of_drop (y ∷ xs) zero x ys h = let s : y ≡ x = cc in ap (λ v. token_of v.kind ∷ tokens_of xs) s
of_drop (y ∷ xs) (suc at) x ys h = let f : suc at + 1 ≡ suc (at + 1) = omega arith in rw f (of_drop xs at x ys h)

-- the tokens after the first
tail_of : (ts us : List Token) (t : Token) → ts ≡ t ∷ us → (P : List Token → Type 0) → P (t ∷ us) → P ts
tail_of ts us t e P p = subst P (sym e) p

pub drop_next : (all : List Token) (at : ℕ) (t : Token) (us : List Token) → drop at all ≡ t ∷ us → drop (at + 1) all ≡ us
drop_next [] zero t us e = absurd (cc)
drop_next [] (suc at) t us e = absurd (cc)
drop_next (u ∷ all) zero t us e = cc
drop_next (u ∷ all) (suc at) t us e = let f : suc at + 1 ≡ suc (at + 1) = omega arith in rw f (drop_next all at t us e)

separator_is : (t : Token) → is_separator t ≡ true → t ≡ Separator
separator_is Separator h = refl
separator_is t h = absurd (cc)

separator_before : (ts : List Token) → separator_first ts ≡ true → (us : List Token) × (ts ≡ Separator ∷ us) × (after_separator ts ≡ us)
separator_before [] h = absurd (cc)
separator_before (t ∷ ts) h = let e = separator_is t h in (ts, ap (λ v. v ∷ ts) e, ap (λ v. after_separator (v ∷ ts)) e)

pub skip_separator : (all : List Token) (at : ℕ) → separator_first (drop at all) ≡ true → drop (at + 1) all ≡ after_separator (drop at all)
skip_separator all at h = let s = separator_before (drop at all) h in drop_next all at Separator s.0 s.1 ∙ sym s.2

not_separator : (t : Token) (ts : List Token) → is_separator t ≡ false → after_separator (t ∷ ts) ≡ t ∷ ts
not_separator Separator ts h = absurd (cc)
not_separator t ts h = refl

pub keep_separator : (ts : List Token) → separator_first ts ≡ false → after_separator ts ≡ ts
keep_separator [] h = refl
keep_separator (t ∷ ts) h = not_separator t ts h

-- a comma before the key of a block
comma_key : (t : Token) (us : List Token) (n : Next) → token_block_key t ≡ Some n → follow_comma (t ∷ us) ≡ follows n us
comma_key (Key x) us n h = rw h refl
comma_key t us n h = absurd (cc)

pub comma_some : (all : List Token) (at : ℕ) (n : Next) → block_key_first (drop at all) ≡ Some n → FollowShows all (record { next = n; after = at + 1 }) (follow_comma (drop at all))
comma_some all at n h = of (drop at all) refl h
  where
    of : (ts : List Token) → drop at all ≡ ts → block_key_first ts ≡ Some n → FollowShows all (record { next = n; after = at + 1 }) (follow_comma ts)
    of [] e h = absurd (cc)
    of (t ∷ us) e h = rw (comma_key t us n h) (refl, drop_next all at t us e)

comma_no_key : (t : Token) (us : List Token) → token_block_key t ≡ None → follow_comma (t ∷ us) ≡ follows N.Comma (t ∷ us)
comma_no_key (Key x) us h = rw h refl
comma_no_key t us h = refl

pub comma_none : (ts : List Token) → block_key_first ts ≡ None → follow_comma ts ≡ follows N.Comma ts
comma_none [] h = refl
comma_none (t ∷ us) h = comma_no_key t us h

-- a separator before the end of a body
else_word : (t : Token) → block_end t ≡ B.Else → t ≡ Word K.Else
else_word (Word K.Else) h = refl
else_word t h = absurd (cc)

end_word : (t : Token) → block_end t ≡ B.End → t ≡ Word K.End
end_word (Word K.End) h = refl
end_word t h = absurd (cc)

pub separator_else : (all : List Token) (at after : ℕ) → block_end_first (drop at all) ≡ B.Else → drop after all ≡ after_separator (drop (at + 1) all) → FollowShows all (record { next = N.Else; after = after }) (follow_separator (drop at all))
separator_else all at after h d = of (drop at all) refl h
  where
    of : (ts : List Token) → drop at all ≡ ts → block_end_first ts ≡ B.Else → FollowShows all (record { next = N.Else; after = after }) (follow_separator ts)
    of [] e h = absurd (cc)
    of (t ∷ us) e h = rw (else_word t h) (refl, d ∙ ap after_separator (drop_next all at t us e))

pub separator_end : (all : List Token) (at : ℕ) → block_end_first (drop at all) ≡ B.End → FollowShows all (record { next = N.End; after = at + 1 }) (follow_separator (drop at all))
separator_end all at h = of (drop at all) refl h
  where
    of : (ts : List Token) → drop at all ≡ ts → block_end_first ts ≡ B.End → FollowShows all (record { next = N.End; after = at + 1 }) (follow_separator ts)
    of [] e h = absurd (cc)
    of (t ∷ us) e h = rw (end_word t h) (refl, drop_next all at t us e)

-- a `(` after a name
paren_is : (t : Token) → is_paren t ≡ true → t ≡ Mark S.OpenParen
paren_is (Mark S.OpenParen) h = refl
paren_is t h = absurd (cc)

pub opens_paren : (all : List Token) (at : ℕ) (x : List ℕ) → paren_first (drop at all) ≡ true → CallShows all (Some (x, at + 1)) (opens false x (drop at all))
opens_paren all at x h = of (drop at all) refl h
  where
    of : (ts : List Token) → drop at all ≡ ts → paren_first ts ≡ true → CallShows all (Some (x, at + 1)) (opens false x ts)
    of [] e h = absurd (cc)
    of (t ∷ us) e h = rw (paren_is t h) (refl, drop_next all at t us e)

pub opens_underscore : (all ts : List Token) (x : List ℕ) → paren_first ts ≡ true → CallShows all None (opens true x ts)
opens_underscore all [] x h = absurd (cc)
opens_underscore all (t ∷ us) x h = rw (paren_is t h) tt

not_paren : (t : Token) (us : List Token) (u : Bool) (x : List ℕ) → is_paren t ≡ false → opens u x (t ∷ us) ≡ None
not_paren (Mark S.OpenParen) us u x h = absurd (cc)
not_paren t us u x h = refl

pub opens_nothing : (all ts : List Token) (u : Bool) (x : List ℕ) → paren_first ts ≡ false → CallShows all None (opens u x ts)
opens_nothing all [] u x h = tt
opens_nothing all (t ∷ us) u x h = rw (not_paren t us u x h) tt

dot_is : (t : Token) → is_dot t ≡ true → t ≡ Mark S.Dot
dot_is (Mark S.Dot) h = refl
dot_is t h = absurd (cc)

pub alias_dot : (all : List Token) (at : ℕ) (a : List ℕ) → dot_first (drop at all) ≡ true → after_alias a (drop at all) ≡ after_dot a (drop (at + 1) all)
alias_dot all at a h = of (drop at all) refl h
  where
    of : (ts : List Token) → drop at all ≡ ts → dot_first ts ≡ true → after_alias a ts ≡ after_dot a (drop (at + 1) all)
    of [] e h = absurd (cc)
    of (t ∷ us) e h = rw (dot_is t h) (ap (after_dot a) (sym (drop_next all at t us e)))

not_dot : (t : Token) (us : List Token) (a : List ℕ) → is_dot t ≡ false → after_alias a (t ∷ us) ≡ None
not_dot (Mark S.Dot) us a h = absurd (cc)
not_dot t us a h = refl

pub alias_nothing : (all ts : List Token) (a : List ℕ) → dot_first ts ≡ false → CallShows all None (after_alias a ts)
alias_nothing all [] a h = tt
alias_nothing all (t ∷ us) a h = rw (not_dot t us a h) tt

-- signs and words
pub sign_token : (k : TokenKind) (s : Sign) → k ≡ C.Sign s → IsToken k (token_of k)
sign_token k s e = subst (λ k. IsToken k (token_of k)) (sym e) is_sign

pub word_token : (k : TokenKind) (w : Keyword) → k ≡ C.Word w → IsToken k (token_of k)
word_token k w e = subst (λ k. IsToken k (token_of k)) (sym e) is_word
