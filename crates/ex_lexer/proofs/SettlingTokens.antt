-- Tokens, a part at a time.
use Rattle.std.proofs.Common.{◌≡◌, ℕ, ◌||◌, Bool, true, false, if◌then◌else◌, List, [], ◌∷◌, ◌++◌, Option, Some, None, refl, sym, ap, ◌∙◌, subst, append_assoc}
use Rattle.std.proofs.lemmas.List.{append-nil}
use Rattle.ex_grammar.specs.declared.token.Token.{Token as CodeToken}
use Rattle.ex_grammar.specs.declared.token.TokenKind.{TokenKind}
use Rattle.ex_grammar.specs.declared.token.TokenKind.TheVariants as C
use Rattle.ex_grammar.specs.Tokens.{Token, Placed, Separator}
use Rattle.ex_grammar.specs.Lexing.{Piece, Whole, Part, part}
use Rattle.ex_grammar.specs.Newlines.{Gap, Nothing, Newlines, Semicolons, with_newline, with_semicolon, drops_after, drops_before, separators, placed, tokens_after}
use Rattle.ex_grammar.specs.Coded.{IsToken, is_separator, IsPlaced, ArePlaced}
use Rattle.ex_lexer.specs.declared.front.Part.TheVariants as P
use Rattle.ex_lexer.specs.Parts.{IsPart, is_blank, is_comment, is_newline, is_semicolon, is_whole}
use Rattle.ex_lexer.specs.Settled.{separator_at, IsSettled, Adds}

pub are_more : (xs : List CodeToken) (ts : List Placed) (x : CodeToken) (t : Placed) → ArePlaced xs ts → IsPlaced x t → ArePlaced (xs ++ x ∷ []) (ts ++ t ∷ [])
are_more [] [] x t h i = (i, tt)
are_more [] (u ∷ ts) x t h i = absurd h
are_more (y ∷ xs) [] x t h i = absurd h
are_more (y ∷ xs) (u ∷ ts) x t h i = (h.0, are_more xs ts x t h.1 i)

-- the separators where there is one, and where there is none
abbrev pair_or : ℕ × ℕ → Option (ℕ × ℕ) → ℕ × ℕ
pair_or p None = p
pair_or p (Some q) = q

abbrev gap_place : ℕ → ℕ → Option (ℕ × ℕ)
gap_place from to = Some (from, to)

abbrev gap_if : Bool → ℕ → ℕ → Option (ℕ × ℕ)
gap_if b f t = if b then None else gap_place f t

some_gap : (from to f t : ℕ) → gap_place f t ≡ gap_place from to → placed Separator f t ∷ [] ≡ placed Separator from to ∷ []
some_gap from to f t h = ap (λ p. placed Separator (pair_or (f, t) p).0 (pair_or (f, t) p).1 ∷ []) h

newline_gap : (b : Bool) (from to f t : ℕ) → gap_if b f t ≡ gap_place from to → (if b then [] else placed Separator f t ∷ []) ≡ placed Separator from to ∷ []
newline_gap true from to f t h = cc
newline_gap false from to f t h = some_gap from to f t h

pub separators_some : (before after : Option Token) (gap : Gap) (from to : ℕ) → separator_at gap (drops_after before || drops_before after) ≡ Some (from, to) → separators before gap after ≡ placed Separator from to ∷ []
separators_some before after Nothing from to h = cc
separators_some before after (Newlines f t) from to h = newline_gap (drops_after before || drops_before after) from to f t h
separators_some before after (Semicolons f t) from to h = some_gap from to f t h

pub separators_none : (before after : Option Token) (gap : Gap) → separator_at gap (drops_after before || drops_before after) ≡ None → separators before gap after ≡ []
separators_none before after Nothing h = refl
separators_none before after (Newlines f t) h = of (drops_after before || drops_before after) h
  where
    of : (b : Bool) → gap_if b f t ≡ None → (if b then [] else placed Separator f t ∷ []) ≡ []
    of true h = refl
    of false h = cc
separators_none before after (Semicolons f t) h = cc

tests_same : (gap : Gap) (before after : Option Token) (a b : Bool) (r : Option (ℕ × ℕ)) → a ≡ drops_after before → b ≡ drops_before after → r ≡ separator_at gap (a || b) → separator_at gap (drops_after before || drops_before after) ≡ r
tests_same gap before after a b r e f g = ap (λ v. separator_at gap (v || drops_before after)) (sym e) ∙ (ap (λ v. separator_at gap (a || v)) (sym f) ∙ sym g)

pub separated : (xs xs' : List CodeToken) (x : CodeToken) (made : List Placed) (before after : Option Token) (gap : Gap) (a b : Bool) (r : Option (ℕ × ℕ)) (from to : ℕ) → IsSettled xs a made before → b ≡ drops_before after
    → r ≡ separator_at gap (a || b) → r ≡ Some (from, to) → xs' ≡ xs ++ x ∷ [] → x.kind ≡ C.Separator → x.from ≡ from → x.to ≡ to → ArePlaced xs' (made ++ separators before gap after)
separated xs xs' x made before after gap a b r from to s f g one p k i j =
    let e : separators before gap after ≡ placed Separator from to ∷ [] = separators_some before after gap from to (tests_same gap before after a b r s.same f g ∙ one) in
    rw (p, e) (are_more xs made x (placed Separator from to) s.shown (subst (λ v. IsToken v Separator) (sym k) is_separator, i, j))

pub not_separated : (xs : List CodeToken) (made : List Placed) (before after : Option Token) (gap : Gap) (a b : Bool) (r : Option (ℕ × ℕ)) → IsSettled xs a made before → b ≡ drops_before after
    → r ≡ separator_at gap (a || b) → r ≡ None → ArePlaced xs (made ++ separators before gap after)
not_separated xs made before after gap a b r s f g one = rw (separators_none before after gap (tests_same gap before after a b r s.same f g ∙ one), append-nil made) s.shown

-- a token more
pub put_adds : (xs xs' : List CodeToken) (x : CodeToken) (t : Token) (from to : ℕ) (made : List Placed) (before : Option Token) (gap : Gap) (drops : Bool)
    → ArePlaced xs (made ++ separators before gap (Some t)) → IsPlaced x (placed t from to) → xs' ≡ xs ++ x ∷ [] → drops ≡ drops_after (Some t) → Adds made before gap (part (Whole t) from to ∷ []) xs' drops Nothing
put_adds xs xs' x t from to made before gap drops h i e f = record {
  made' = (made ++ separators before gap (Some t)) ++ placed t from to ∷ [];
  before' = Some t;
  settled = record { shown = rw e (are_more xs (made ++ separators before gap (Some t)) x (placed t from to) h i); same = f };
  goes = λ ps. simp append_assoc;
}

-- a part that is no token
pub blank_adds : (xs : List CodeToken) (p : Piece) (from to : ℕ) (made : List Placed) (before : Option Token) (gap : Gap) (drops : Bool) → IsPart P.Blank p → IsSettled xs drops made before → Adds made before gap (part p from to ∷ []) xs drops gap
blank_adds xs p from to made before gap drops is_blank s = record { made' = made; before' = before; settled = s; goes = λ qs. refl }
blank_adds xs p from to made before gap drops is_comment s = record { made' = made; before' = before; settled = s; goes = λ qs. refl }

pub newline_adds : (xs : List CodeToken) (p : Piece) (from to : ℕ) (made : List Placed) (before : Option Token) (gap after : Gap) (drops : Bool) → IsPart P.Newline p → after ≡ with_newline gap from to → IsSettled xs drops made before → Adds made before gap (part p from to ∷ []) xs drops after
newline_adds xs p from to made before gap after drops is_newline e s = record { made' = made; before' = before; settled = s; goes = λ qs. ap (λ g. made ++ tokens_after before g qs) (sym e) }

pub semicolon_adds : (xs : List CodeToken) (p : Piece) (from to : ℕ) (made : List Placed) (before : Option Token) (gap after : Gap) (drops : Bool) → IsPart P.Semicolon p → after ≡ with_semicolon gap from to → IsSettled xs drops made before → Adds made before gap (part p from to ∷ []) xs drops after
semicolon_adds xs p from to made before gap after drops is_semicolon e s = record { made' = made; before' = before; settled = s; goes = λ qs. ap (λ g. made ++ tokens_after before g qs) (sym e) }

pub whole_adds : (xs : List CodeToken) (kind : TokenKind) (p : Piece) (from to : ℕ) (made : List Placed) (before : Option Token) (gap after : Gap) (drops : Bool) → IsPart (P.Whole kind) p → ((t : Token) → IsToken kind t → Adds made before gap (part (Whole t) from to ∷ []) xs drops after) → Adds made before gap (part p from to ∷ []) xs drops after
whole_adds xs kind p from to made before gap after drops (is_whole {t} h) f = f t h

-- parts one after another
pub adds_twice : {made : List Placed} {before : Option Token} {gap mid after : Gap} {ps qs : List Part} {xs ys : List CodeToken} {a b : Bool} (x : Adds made before gap ps xs a mid) → Adds x.made' x.before' mid qs ys b after → Adds made before gap (ps ++ qs) ys b after
adds_twice {made} {before} {gap} {ps} {qs} x y = record {
  made' = y.made';
  before' = y.before';
  settled = y.settled;
  goes = λ rs. ap (λ v. made ++ tokens_after before gap v) (append_assoc ps qs rs) ∙ (x.goes (qs ++ rs) ∙ y.goes rs);
}
