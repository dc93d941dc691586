-- Tokens, a piece at a time.
use Rattle.std.proofs.Common.{◌≡◌, ℕ, ◌<◌, ◌≤◌, ◌||◌, not, Bool, true, false, if◌then◌else◌, List, [], ◌∷◌, ◌++◌, length, take, drop, get_or, Option, Some, None, refl, sym, ap, ◌∙◌, arith, subst, append_assoc, length-append, length-drop, lit<, ◌==◌}
use Rattle.std.proofs.lemmas.List.{append-nil}
use Rattle.std.proofs.Math.Seq.{get_or-append_seam}
use Rattle.std.proofs.lemmas.Bool.Decides.{nat_tests}
use Rattle.std.specs.List.{list_all}
use Rattle.std.specs.Str.{IsUtf8, IsCharBoundary}
use Rattle.std.proofs.lemmas.Str.{IsCharBoundary-after_ascii}
use Rattle.ex_model.specs.declared.ast.Operator.TheVariants.{Add, Subtract, Multiply}
use Rattle.ex_model.specs.Tokens.{Token, Separator, is_word_byte}
use Rattle.ex_model.specs.Lexing.{Piece, Whole, Writes, space, tab, comment, feed, return_feed, semicolon, number, name, plus, minus, times, equals, opening, closing, goes_on, is_in_line, NotFirst, Pieces, none}
use Rattle.ex_model.specs.Newlines.{Gap, Nothing, Newlines, Semicolons, drops_after, drops_before, separators, tokens_after, Lexes}
use Rattle.ex_source.specs.declared.lexeme.Lexeme.{Lexeme}
use Rattle.ex_source.specs.declared.lexeme.Lexeme.TheVariants as X
use Rattle.ex_source.specs.declared.lexeme.Mark.{Mark}
use Rattle.ex_source.specs.declared.lexeme.Mark.TheVariants as M
use Rattle.ex_source.specs.Lexemes.{IsLexeme, is_integer, is_name, is_mark, is_separator, AreLexemes, mark_token}
use Rattle.ex_source.specs.Settled.{separates, lexeme_drops_after, lexeme_drops_before, Adds, HasTokens, HasNoTokens}
use Rattle.ex_source.specs.Front.{front}
use Rattle.ex_source.proofs.Fronts.{word_boundary}
use Rattle.ex_source.proofs.Pieces.{front_sound, pieces_on, pieces_at, no_pieces, pieces_end, take_drop, passes_whole, digits_words, name_words}

pub are_more : (xs : List Lexeme) (ts : List Token) (x : Lexeme) (t : Token) → AreLexemes xs ts → IsLexeme x t → AreLexemes (xs ++ x ∷ []) (ts ++ t ∷ [])
are_more [] [] x t h i = (i, tt)
are_more [] (u ∷ ts) x t h i = absurd h
are_more (y ∷ xs) [] x t h i = absurd h
are_more (y ∷ xs) (u ∷ ts) x t h i = (h.0, are_more xs ts x t h.1 i)

pub after_same : {x : Lexeme} {t : Token} → IsLexeme x t → lexeme_drops_after x ≡ drops_after (Some t)
after_same (is_integer lt) = refl
after_same is_name = refl
after_same (is_mark {m}) = of m
  where
    of : (m : Mark) → lexeme_drops_after (X.Mark m) ≡ drops_after (Some (mark_token m))
    of (M.Sign o) = refl
    of M.Equals = refl
    of M.Opening = refl
    of M.Closing = refl
after_same is_separator = refl

pub before_same : {x : Lexeme} {t : Token} → IsLexeme x t → lexeme_drops_before x ≡ drops_before (Some t)
before_same (is_integer lt) = refl
before_same is_name = refl
before_same (is_mark {m}) = of m
  where
    of : (m : Mark) → lexeme_drops_before (X.Mark m) ≡ drops_before (Some (mark_token m))
    of (M.Sign Add) = refl
    of (M.Sign Subtract) = refl
    of (M.Sign Multiply) = refl
    of M.Equals = refl
    of M.Opening = refl
    of M.Closing = refl
before_same is_separator = refl

-- the separators where there is one, and where there is none
pub separators_one : (before after : Option Token) (gap : Gap) → separates (drops_after before || drops_before after) gap ≡ true → separators before gap after ≡ Separator ∷ []
separators_one before after Nothing h = cc
separators_one before after Newlines h = of (drops_after before || drops_before after) h
  where
    of : (b : Bool) → not b ≡ true → (if b then [] else Separator ∷ []) ≡ Separator ∷ []
    of true h = cc
    of false h = refl
separators_one before after Semicolons h = refl

pub separators_none : (before after : Option Token) (gap : Gap) → separates (drops_after before || drops_before after) gap ≡ false → separators before gap after ≡ []
separators_none before after Nothing h = refl
separators_none before after Newlines h = of (drops_after before || drops_before after) h
  where
    of : (b : Bool) → not b ≡ false → (if b then [] else Separator ∷ []) ≡ []
    of true h = refl
    of false h = cc
separators_none before after Semicolons h = cc

pub separated : (xs xs' : List Lexeme) (made : List Token) (before after : Option Token) (gap : Gap) (a b r : Bool) → AreLexemes xs made → a ≡ drops_after before → b ≡ drops_before after
    → r ≡ separates (a || b) gap → r ≡ true → xs' ≡ xs ++ X.Separator ∷ [] → AreLexemes xs' (made ++ separators before gap after)
separated xs xs' made before after gap a b r h e f g one p =
    let k : separates (drops_after before || drops_before after) gap ≡ true = ap (λ v. separates (v || drops_before after) gap) (sym e) ∙ (ap (λ v. separates (a || v) gap) (sym f) ∙ (sym g ∙ one)) in
    rw (p, separators_one before after gap k) (are_more xs made X.Separator Separator h is_separator)

pub not_separated : (xs : List Lexeme) (made : List Token) (before after : Option Token) (gap : Gap) (a b r : Bool) → AreLexemes xs made → a ≡ drops_after before → b ≡ drops_before after
    → r ≡ separates (a || b) gap → r ≡ false → AreLexemes xs (made ++ separators before gap after)
not_separated xs made before after gap a b r h e f g one =
    let k : separates (drops_after before || drops_before after) gap ≡ false = ap (λ v. separates (v || drops_before after) gap) (sym e) ∙ (ap (λ v. separates (a || v) gap) (sym f) ∙ (sym g ∙ one)) in
    rw (separators_none before after gap k, append-nil made) h

-- a token more
pub put_adds : (xs xs' : List Lexeme) (x : Lexeme) (t : Token) (made : List Token) (before : Option Token) (gap : Gap) (drops : Bool)
    → AreLexemes xs (made ++ separators before gap (Some t)) → IsLexeme x t → xs' ≡ xs ++ x ∷ [] → drops ≡ lexeme_drops_after x → Adds made before gap (Whole t) xs' drops Nothing
put_adds xs xs' x t made before gap drops h i e f = record {
  made' = (made ++ separators before gap (Some t)) ++ t ∷ [];
  before' = Some t;
  shown = rw e (are_more xs (made ++ separators before gap (Some t)) x t h i);
  same = f ∙ after_same i;
  goes = λ ps. simp append_assoc;
}

-- what the source's tokens are, where this part of it is left
pub record Rests (rest : List ℕ) (made : List Token) (before : Option Token) (gap : Gap) (ts : List Token) : Type 0 where
  pub pieces : List Piece
  pub cut : Pieces rest pieces
  pub are : ts ≡ made ++ tokens_after before gap pieces

-- the loop: the tokens so far and those of the rest are the source's
pub record Lexed (source rest : List ℕ) (xs : List Lexeme) (drops : Bool) (gap : Gap) : Type 0 where
  pub made : List Token
  pub before : Option Token
  pub shown : AreLexemes xs made
  pub same : drops ≡ drops_after before
  pub forth : (ts : List Token) → Lexes source ts → Rests rest made before gap ts
  pub back : (ts : List Token) → Rests rest made before gap ts → Lexes source ts

pub lexed_start : (source : List ℕ) → Lexed source source [] false Nothing
lexed_start source = record {
  made = [];
  before = None;
  shown = tt;
  same = refl;
  forth = λ ts l. record { pieces = l.pieces; cut = l.cut; are = l.tokens_are };
  back = λ ts r. record { pieces = r.pieces; cut = r.cut; tokens_are = r.are };
}

pub lexed_turn : (source rest rest' : List ℕ) (xs xs' : List Lexeme) (drops drops' : Bool) (gap gap' : Gap) (p : Piece) (n : ℕ) (l : Lexed source rest xs drops gap) → front rest ≡ Some (p, n) → rest' ≡ drop n rest
    → Adds l.made l.before gap p xs' drops' gap' → Lexed source rest' xs' drops' gap'
lexed_turn source rest rest' xs xs' drops drops' gap gap' p n l f e a = record {
  made = a.made';
  before = a.before';
  shown = a.shown;
  same = a.same;
  forth = λ ts k. forth ts (l.forth ts k);
  back = λ ts r. l.back ts (record { pieces = p ∷ r.pieces; cut = pieces_at p n f (subst (λ v. Pieces v r.pieces) e r.cut); are = r.are ∙ sym (a.goes r.pieces) });
}
  where
    forth : (ts : List Token) → Rests rest l.made l.before gap ts → Rests rest' a.made' a.before' gap' ts
    forth ts r =
        let k = pieces_on p n r.cut f in
        record { pieces = k.0; cut = subst (λ v. Pieces v k.0) (sym e) k.2; are = r.are ∙ (ap (λ v. l.made ++ tokens_after l.before gap v) k.1 ∙ a.goes k.0) }

pub lexed_none : (source rest : List ℕ) (xs : List Lexeme) (drops : Bool) (gap : Gap) → Lexed source rest xs drops gap → 0 < length rest → front rest ≡ None → HasNoTokens source
lexed_none source rest xs drops gap l some f = λ ts k. no_pieces (l.forth ts k).cut some f

pub lexed_end : (source : List ℕ) (xs xs' : List Lexeme) (drops : Bool) (gap : Gap) (l : Lexed source [] xs drops gap) → AreLexemes xs' (l.made ++ separators l.before gap None) → HasTokens source xs'
lexed_end source xs xs' drops gap l h = record {
  tokens = l.made ++ separators l.before gap None;
  shown = h;
  lexes = l.back (l.made ++ separators l.before gap None) (record { pieces = []; cut = none; are = refl });
  only = λ ts k. let r = l.forth ts k in r.are ∙ ap (λ v. l.made ++ tokens_after l.before gap v) (pieces_end r.cut);
}

-- a text may be cut after the piece at its front
module _ (rest : List ℕ) where
  at_byte : (b : ℕ) → b < 128 → IsUtf8 (b ∷ rest) → IsCharBoundary (b ∷ rest) 1
  at_byte b lt utf8 = IsCharBoundary-after_ascii (b ∷ rest) 0 utf8 (omega arith) lt

  at_word : (xs : List ℕ) → list_all is_word_byte xs ≡ true → NotFirst is_word_byte rest → IsUtf8 (xs ++ rest) → IsCharBoundary (xs ++ rest) (length xs)
  at_word xs h n utf8 = word_boundary (xs ++ rest) (length xs) (sym (passes_whole is_word_byte xs rest h n)) utf8

  at_line : (xs : List ℕ) → NotFirst is_in_line rest → IsCharBoundary (xs ++ rest) (length xs)
  at_line xs n = (omega (arith, length-append xs rest), λ h k. absurd (of rest n h k))
    where
      of : (rest : List ℕ) → NotFirst is_in_line rest → length xs < length (xs ++ rest) → 128 ≤ get_or (xs ++ rest) (length xs) 0 → ⊥
      of [] n h k = omega (arith, length-append xs [])
      of (c ∷ more) n h k = let e : get_or (xs ++ c ∷ more) (length xs) 0 ≡ c = get_or-append_seam xs c more 0 in let f : c ≡ 10 = feed_is c n in omega arith
        where
          feed_is : (c : ℕ) → is_in_line c ≡ false → c ≡ 10
          feed_is c h = grind (arith, nat_tests)

  piece_boundary : {xs : List ℕ} {p : Piece} → Writes xs p → NotFirst (goes_on p) rest → IsUtf8 (xs ++ rest) → IsCharBoundary (xs ++ rest) (length xs)
  piece_boundary space n u = at_byte 32 (lit< tt) u
  piece_boundary tab n u = at_byte 9 (lit< tt) u
  piece_boundary (comment {text} h) n u = at_line (35 ∷ text) n
  piece_boundary feed n u = at_byte 10 (lit< tt) u
  piece_boundary return_feed n u = IsCharBoundary-after_ascii (13 ∷ 10 ∷ rest) 1 u (omega arith) (lit< tt)
  piece_boundary semicolon n u = at_byte 59 (lit< tt) u
  piece_boundary (number {d} {ds} h lt) n u = at_word (d ∷ ds) (digits_words d ds h) n u
  piece_boundary (name {x} h k) n u = at_word x (name_words x h) n u
  piece_boundary plus n u = at_byte 43 (lit< tt) u
  piece_boundary minus n u = at_byte 45 (lit< tt) u
  piece_boundary times n u = at_byte 42 (lit< tt) u
  piece_boundary equals n u = at_byte 61 (lit< tt) u
  piece_boundary opening n u = at_byte 40 (lit< tt) u
  piece_boundary closing n u = at_byte 41 (lit< tt) u

pub front_boundary : (all : List ℕ) (p : Piece) (n : ℕ) → front all ≡ Some (p, n) → IsUtf8 all → IsCharBoundary all n
front_boundary all p n e u =
    let f = front_sound all p n e in
    let len : length (take n all) ≡ n = length_take n all f.within in
    let k = piece_boundary (drop n all) f.writes f.ends (subst IsUtf8 (sym (take_drop n all)) u) in
    subst (λ v. IsCharBoundary v n) (take_drop n all) (subst (λ v. IsCharBoundary (take n all ++ drop n all) v) len k)
  where
    length_take : (n : ℕ) (xs : List ℕ) → n ≤ length xs → length (take n xs) ≡ n
    length_take n xs h = omega (arith, length-append (take n xs) (drop n xs), length-drop n xs, ap length (take_drop n xs))

pub is_some : (xs : List ℕ) → false ≡ (length xs == 0) → 0 < length xs
is_some [] h = let e : false ≡ true = h in cc
is_some (x ∷ xs) h = omega arith

pub is_none : (xs : List ℕ) → true ≡ (length xs == 0) → xs ≡ []
is_none [] h = refl
is_none (x ∷ xs) h = absurd (grind (arith, nat_tests))

-- the loop's last step, where nothing is left
pub lexed_out : (source rest : List ℕ) (xs xs' : List Lexeme) (drops : Bool) (gap : Gap) → Lexed source rest xs drops gap → rest ≡ []
    → ((made : List Token) (before after : Option Token) → AreLexemes xs made → drops ≡ drops_after before → false ≡ drops_before after → AreLexemes xs' (made ++ separators before gap after)) → HasTokens source xs'
lexed_out source rest xs xs' drops gap l e f =
    let k = subst (λ v. Lexed source v xs drops gap) e l in
    lexed_end source xs xs' drops gap k (f k.made k.before None k.shown k.same refl)
