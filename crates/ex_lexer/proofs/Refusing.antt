-- A source that is refused, and the machine.
use Rattle.std.proofs.Common.{◌≡◌, ℕ, ◌+◌, ◌<◌, ◌^◌, ◌==◌, Bool, true, false, if◌then◌else◌, List, [], ◌∷◌, ◌++◌, length, take, get_or, Option, Some, None, refl, sym, ap, ◌∙◌, arith, subst, length-append, lit<}
use Rattle.std.proofs.lemmas.Str.{IsUtf8-drop, IsCharBoundary-before_ascii}
use Rattle.std.specs.List.{prefix_len}
use Rattle.std.specs.Str.{chars, IsUtf8}
use Rattle.std.specs.Str.Parse.{digits_value}
use Rattle.ex_grammar.specs.declared.token.Sign.{Sign}
use Rattle.ex_grammar.specs.declared.token.Sign.TheVariants.{CloseBrace}
use Rattle.ex_grammar.specs.declared.token.LexErrorKind.{LexErrorKind}
use Rattle.ex_grammar.specs.declared.token.LexErrorKind.TheVariants.{BadChar, BadNumber, TooWide, OpenText}
use Rattle.ex_grammar.specs.Tokens.{Token, Atom, Mark, TextBegins, HoleEnds, signs}
use Rattle.ex_grammar.specs.Texts.{first_is, Says}
use Rattle.ex_grammar.specs.Names.{is_digit, is_capital, is_alias_byte, begins_name, Digits}
use Rattle.ex_grammar.specs.Lexing as L
use Rattle.ex_grammar.specs.Lexing.{Piece, Whole, Part, part, braces_by, braces, sign_in, Stands, Cut, TextGoes}
use Rattle.ex_grammar.specs.Refusals as R
use Rattle.ex_grammar.specs.Refusals.{NoPiece, NoEscape, begins_text, begins_quoted_atom, BreaksOff, Refused, TextRefused}
use Rattle.ex_lexer.specs.declared.texts.Stop.{Stop}
use Rattle.ex_lexer.specs.declared.texts.Stop.TheVariants.{Hole, End, Escape}
use Rattle.ex_lexer.specs.declared.front.Class.{Class}
use Rattle.ex_lexer.specs.declared.front.Class.TheVariants as C
use Rattle.ex_lexer.specs.Runs.{Run, run, stopped, longer, escape_at, name_len}
use Rattle.ex_lexer.specs.Front.{Front, Takes, Fails, front, front_by, class_of, fitting, quoted_by, signed_by, atom_by, key_or_word}
use Rattle.ex_lexer.specs.Machine.{Holes, Refuses, stop_by, text_step, piece_step, ends_hole, step, Fault, Gives, over, refused}
use Rattle.ex_lexer.proofs.Bools.{not_true, same, large, chosen, if_true, if_false}
use Rattle.ex_lexer.proofs.Bytes.{drop_front}
use Rattle.ex_lexer.proofs.TextRuns.{stops_escape as escape_run}
use Rattle.ex_lexer.proofs.Fronts.{front_complete, says_run, hole_stops, ne, capital_class, first_digit, number_front, number_ends, letter_ends}
use Rattle.ex_lexer.proofs.Sounds.{Stood, Answers, front_found, escape_found, utf8_after, begins_is, nil_run}
use Rattle.ex_lexer.proofs.Cuts.{cut_gives, text_at, comes_to_hole, moved, not_quote, stands_some}

-- a step that refuses
fails_at : (hs : Holes) (at b : ℕ) (bytes : List ℕ) (n : ℕ) (k : LexErrorKind) → front (b ∷ bytes) ≡ Fails n k → (b == 34) ≡ false → (b == 125) ≡ false → Gives hs at (b ∷ bytes) (Fault (at + n) k)
fails_at hs at b bytes n k h q e = refused (if_false _ _ _ q ∙ (if_false _ _ _ (no_hole hs) ∙ ap (λ f. piece_step f hs at) h))
  where
    no_hole : (hs : Holes) → ends_hole b hs ≡ false
    no_hole [] = refl
    no_hole (h ∷ hs) = rw e refl

at_zero : {hs : Holes} {at : ℕ} {s : List ℕ} {k : LexErrorKind} → Gives hs at s (Fault (at + 0) k) → Gives hs at s (Fault at k)
at_zero {hs} {at} {s} {k} g = let e : at + 0 ≡ at = omega arith in subst (λ n. Gives hs at s (Fault n k)) e g

-- numbers
number_fails : (hs : Holes) (at : ℕ) (text ds rest : List ℕ) (k : LexErrorKind) → Digits text ds → front (text ++ rest) ≡ Fails 0 k → Gives hs at (text ++ rest) (Fault at k)
number_fails hs at text ds rest k d h = of text (first_digit d) h
  where
    of : (text : List ℕ) → (b : ℕ) × (t : List ℕ) × (text ≡ b ∷ t) × (is_digit b ≡ true) → front (text ++ rest) ≡ Fails 0 k → Gives hs at (text ++ rest) (Fault at k)
    of text f h = subst (λ v. Gives hs at (v ++ rest) (Fault at k)) (sym f.2) (at_zero (fails_at hs at f.0 (f.1 ++ rest) 0 k (ap (λ v. front (v ++ rest)) (sym f.2) ∙ h) (ne is_digit f.0 34 f.3 refl) (ne is_digit f.0 125 f.3 refl)))

-- why a front fails that is no number and no quoted atom
abbrev IsBadChar : Front → Type 0
IsBadChar (Takes p n) = Unit {0}
IsBadChar (Fails n k) = (n ≡ 0) × (k ≡ BadChar)

bad_if : (t : Bool) (f g : Front) → IsBadChar f → IsBadChar g → IsBadChar (if t then f else g)
bad_if true f g h k = h
bad_if false f g h k = k

bad_named : (o : Option ℕ) (x rest : List ℕ) (n : ℕ) → IsBadChar (key_or_word o x rest n)
bad_named None x rest n = tt
bad_named (Some m) x rest n = tt

bad_signed : (o : Option (List ℕ × Sign)) → IsBadChar (signed_by o)
bad_signed None = (refl, refl)
bad_signed (Some r) = tt

bad_here : IsBadChar (Fails 0 BadChar)
bad_here = (refl, refl)

bad_atom : (bytes : List ℕ) → begins_text bytes ≡ false → IsBadChar (atom_by bytes)
bad_atom bytes h = subst IsBadChar (sym (if_false _ _ _ (sym (begins_is bytes) ∙ h))) (bad_if (first_is is_capital bytes) (Takes (Whole (Atom (take (prefix_len is_alias_byte bytes) bytes))) (1 + prefix_len is_alias_byte bytes)) _ tt (bad_if (first_is begins_name (chars bytes)) (Takes (Whole (Atom (take (name_len bytes) bytes))) (1 + name_len bytes)) (Fails 0 BadChar) tt bad_here))

bad_front : (b : ℕ) (bytes : List ℕ) → is_digit b ≡ false → begins_quoted_atom (b ∷ bytes) ≡ false → IsBadChar (front (b ∷ bytes))
bad_front b bytes d q =
    chosen (b == 32) (λ e. at 32 (same b 32 e) tt) (λ e32.
    chosen (b == 9) (λ e. at 9 (same b 9 e) tt) (λ e9.
    chosen (b == 35) (λ e. at 35 (same b 35 e) tt) (λ e35.
    chosen (b == 10) (λ e. at 10 (same b 10 e) tt) (λ e10.
    chosen (b == 13) (λ e. at 13 (same b 13 e) (bad_if (first_is (λ c. c == 10) bytes) (Takes L.Newline 2) (Fails 0 BadChar) tt bad_here)) (λ e13.
    chosen (b == 59) (λ e. at 59 (same b 59 e) tt) (λ e59.
    chosen (b == 58) (λ e. at 58 (same b 58 e) (bad_atom bytes (sym (if_and e) ∙ q))) (λ e58.
    chosen (is_capital b) (λ e. by C.Capital (capital_class b _ e) tt) (λ ec.
    chosen (first_is begins_name (chars (b ∷ bytes))) (λ e. by C.Name (rw (e32, e9, e35, e10, e13, e59, e58, d, ec, e) refl) (bad_named _ _ _ _)) (λ en.
    by C.Other (rw (e32, e9, e35, e10, e13, e59, e58, d, ec, en) refl) (bad_signed (sign_in signs (b ∷ bytes))))))))))))
  where
    if_and : (b == 58) ≡ true → begins_quoted_atom (b ∷ bytes) ≡ begins_text bytes
    if_and e = rw e refl

    at : (k : ℕ) → b ≡ k → IsBadChar (front (k ∷ bytes)) → IsBadChar (front (b ∷ bytes))
    at k e a = subst (λ v. IsBadChar (front (v ∷ bytes))) (sym e) a

    by : (c : Class) → class_of b (first_is begins_name (chars (b ∷ bytes))) ≡ c → IsBadChar (front_by c (b ∷ bytes) bytes) → IsBadChar (front (b ∷ bytes))
    by c e a = subst (λ v. IsBadChar (front_by v (b ∷ bytes) bytes)) (sym e) a

-- a character that begins nothing fails at the front
bad_fails : (b : ℕ) (bytes : List ℕ) → IsUtf8 (b ∷ bytes) → NoPiece (b ∷ bytes) → is_digit b ≡ false → begins_text (b ∷ bytes) ≡ false → begins_quoted_atom (b ∷ bytes) ≡ false → front (b ∷ bytes) ≡ Fails 0 BadChar
bad_fails b bytes u none d t q = of (front (b ∷ bytes)) refl (front_found b bytes u t) (bad_front b bytes d q)
  where
    of : (f : Front) → front (b ∷ bytes) ≡ f → Answers (b ∷ bytes) f → IsBadChar f → front (b ∷ bytes) ≡ Fails 0 BadChar
    of (Takes p n) e s h = absurd (none s.text s.rest p s.parts s.stands)
    of (Fails n k) e s h = e ∙ (ap (λ m. Fails m k) h.0 ∙ ap (Fails 0) h.1)

not_brace : (b : ℕ) (bytes : List ℕ) → NoPiece (b ∷ bytes) → (b == 125) ≡ false
not_brace b bytes none = not_true _ (λ e. none (125 ∷ []) bytes (Whole (Mark CloseBrace)) (ap (λ v. v ∷ bytes) (same b 125 e)) (L.sign refl))

-- quoted atoms
atom_stops : (text rest bytes : List ℕ) (s : Stop) → Says text rest bytes → run 0 rest ≡ stopped s → (run 0 (text ++ rest)).stop ≡ s
atom_stops text rest bytes s w h = ap (λ r. r.stop) (says_run w ∙ ap (longer (length text) bytes) h)

atom_fails : (hs : Holes) (at : ℕ) (text rest bytes : List ℕ) (s : Stop) (n : ℕ) (k : LexErrorKind) → Says text rest bytes → run 0 rest ≡ stopped s → ((r : Run) → quoted_by r s ≡ Fails n k) → Gives hs at (58 ∷ 34 ∷ (text ++ rest)) (Fault (at + n) k)
atom_fails hs at text rest bytes s n k w h f = fails_at hs at 58 (34 ∷ (text ++ rest)) n k (ap (quoted_by (run 0 (text ++ rest))) (atom_stops text rest bytes s w h) ∙ f (run 0 (text ++ rest))) refl refl

-- why a text breaks off
breaks_stop : {rest : List ℕ} {k : LexErrorKind} → BreaksOff rest k → (s : Stop) × (run 0 rest ≡ stopped s) × ((r : Run) → quoted_by r s ≡ Fails 1 k) × ((hs : Holes) (o at n : ℕ) (ps : List Part) → stop_by s hs o at n ps ≡ Refuses o k)
breaks_stop R.open_text = (End, nil_run, λ r. refl, λ hs o at n ps. refl)
breaks_stop (R.bad_escape {rest} none) = (Escape, escape_run rest (none_at rest none), λ r. refl, λ hs o at n ps. refl)
  where
    none_at : (rest : List ℕ) → NoEscape rest → escape_at rest ≡ None
    none_at rest none = of (escape_at rest) refl
      where
        of : (o : Option (ℕ × List ℕ)) → escape_at rest ≡ o → escape_at rest ≡ None
        of None e = e
        of (Some p) e = let f = escape_found rest p.0 p.1 e in absurd (none f.letters f.rest p.1 f.parts f.is)

-- what is left is a text too
pub after_ascii : (text rest : List ℕ) (b : ℕ) → b < 128 → IsUtf8 (text ++ b ∷ rest) → IsUtf8 (b ∷ rest)
after_ascii text rest b lt u =
    let w : length text < length (text ++ b ∷ rest) = omega (arith, length-append text (b ∷ rest)) in
    let e : get_or (text ++ b ∷ rest) (length text) 0 ≡ b = seam text in
    let l : get_or (text ++ b ∷ rest) (length text) 0 < 128 = omega arith in
    subst IsUtf8 (drop_front text (b ∷ rest)) (IsUtf8-drop (text ++ b ∷ rest) (length text) u (IsCharBoundary-before_ascii (text ++ b ∷ rest) (length text) w l))
  where
    seam : (xs : List ℕ) → get_or (xs ++ b ∷ rest) (length xs) 0 ≡ b
    seam [] = refl
    seam (x ∷ xs) = seam xs

pub utf8_inside : (b : ℕ) (text inner : List ℕ) → b < 128 → IsUtf8 (b ∷ (text ++ 35 ∷ 123 ∷ inner)) → IsUtf8 inner
utf8_inside b text inner lt u = utf8_after 123 inner (lit< tt) (utf8_after 35 (123 ∷ inner) (lit< tt) (after_ascii (b ∷ text) (123 ∷ inner) 35 (lit< tt) u))

pub piece_utf8 : {text after : List ℕ} {p : Piece} → Stands text p after → IsUtf8 (text ++ after) → IsUtf8 after
piece_utf8 {text} {after} {p} w u = of text (stands_some w) w u
  where
    of : (text : List ℕ) → (b : ℕ) × (t : List ℕ) × (text ≡ b ∷ t) → Stands text p after → IsUtf8 (text ++ after) → IsUtf8 after
    of text f w u = go_on f.0 f.1 (subst (λ v. Stands v p after) f.2 w) (subst (λ v. IsUtf8 (v ++ after)) f.2 u)
      where
        go_on : (b : ℕ) (t : List ℕ) → Stands (b ∷ t) p after → IsUtf8 ((b ∷ t) ++ after) → IsUtf8 after
        go_on b t w u =
            let h : front ((b ∷ t) ++ after) ≡ Takes p (length (b ∷ t)) = front_complete w in
            let s : Stood ((b ∷ t) ++ after) p (length (b ∷ t)) = subst (Answers ((b ∷ t) ++ after)) h (front_found b (t ++ after) u (not_quote b (t ++ after) p (length (b ∷ t)) h)) in
            subst IsUtf8 (drop_front (b ∷ t) after) (IsUtf8-drop ((b ∷ t) ++ after) (length (b ∷ t)) u (s.boundary u))

mutual
  pub cut_utf8 : {at end : ℕ} {s r : List ℕ} {ps : List Part} → Cut at s ps end r → IsUtf8 s → IsUtf8 r
  cut_utf8 L.nothing u = u
  cut_utf8 (L.piece w c) u = cut_utf8 c (piece_utf8 w u)
  cut_utf8 (L.text {text} w t c) u = cut_utf8 c (text_utf8 t 34 text (lit< tt) u)

  pub text_utf8 : {pos end : ℕ} {after r : List ℕ} {ps : List Part} → TextGoes pos after ps end r → (b : ℕ) (text : List ℕ) → b < 128 → IsUtf8 (b ∷ (text ++ after)) → IsUtf8 r
  text_utf8 (L.ends {rest}) b text lt u = utf8_after 34 rest (lit< tt) (after_ascii (b ∷ text) rest 34 (lit< tt) u)
  text_utf8 (L.hole {inner} {text = text1} {after = after1} c h w t) b text lt u = text_utf8 t 125 text1 (lit< tt) (cut_utf8 c (utf8_inside b text inner lt u))

-- what is refused is refused by the machine
mutual
  pub refused_gives : {at at' : ℕ} {s : List ℕ} {k : LexErrorKind} → Refused at s at' k → (hs : Holes) → IsUtf8 s → Gives hs at s (Fault at' k)
  refused_gives {at} (R.bad_number {text} {ds} rest d l n) hs u = number_fails hs at text ds rest BadNumber d (number_front rest d (letter_ends rest l n) ∙ if_true _ _ _ l)
  refused_gives {at} (R.too_wide {text} {ds} rest d e w) hs u =
      let f = number_ends rest e in
      number_fails hs at text ds rest TooWide d (number_front rest d f.1 ∙ (if_false _ _ _ f.0 ∙ ap (λ t. fitting t (digits_value 10 ds) (length text)) (large (digits_value 10 ds) (2 ^ 127) w)))
  refused_gives {at} (R.bad_char {b} {rest} none d t q) hs u = at_zero (fails_at hs at b rest 0 BadChar (bad_fails b rest u none d t q) t (not_brace b rest none))
  refused_gives {at} (R.atom_hole {text} {bytes} {rest} w) hs u = at_zero (atom_fails hs at text (35 ∷ 123 ∷ rest) bytes Hole 0 BadChar w (hole_stops rest) (λ r. refl))
  refused_gives {at} {k} (R.atom_breaks {text} {bytes} {rest} w b) hs u = let s = breaks_stop b in atom_fails hs at text rest bytes s.0 1 k w s.1 s.2
  refused_gives {at} {at'} {k} (R.in_text {text} {bytes} {rest} w t) hs u = text_refused_gives t hs hs at 34 text bytes TextBegins (lit< tt) refl w refl u

  text_refused_gives : {opening pos at' : ℕ} {after : List ℕ} {k : LexErrorKind} → TextRefused opening pos after at' k → (hs hs0 : Holes) (at0 b : ℕ) (text bytes : List ℕ) (token : List ℕ → Token) → b < 128 → pos ≡ at0 + (1 + length text)
      → Says text after bytes → step hs0 at0 b (text ++ after) ≡ text_step token hs opening at0 (run 0 (text ++ after)) → IsUtf8 (b ∷ (text ++ after)) → Gives hs0 at0 (b ∷ (text ++ after)) (Fault at' k)
  text_refused_gives {opening} {after} {k} (R.breaks x) hs hs0 at0 b text bytes token lt e w q u =
      let s = breaks_stop x in refused (text_at hs hs0 opening at0 b text after bytes token s.0 w s.1 q ∙ s.3 hs opening (at0 + (1 + length text)) (1 + length text) (part (Whole (token bytes)) at0 (at0 + (1 + length text)) ∷ []))
  text_refused_gives {opening} {pos} {at'} {k} (R.in_hole {at' = mid} {n} {inner} {rest} {ps} c h r) hs hs0 at0 b text bytes token lt e w q u =
      let i = utf8_inside b text inner lt u in
      let g = cut_gives c ((opening, 0) ∷ hs) ((opening, n) ∷ hs) (n, h, refl) (Fault at' k) (refused_gives r ((opening, n) ∷ hs) (cut_utf8 c i)) in
      comes_to_hole hs hs0 opening at0 b text inner bytes token (Fault at' k) w q (moved ((at0 + (1 + length text)) + 2) (ap (λ m. m + 2) e) g)
  text_refused_gives {opening} {pos} (R.open_hole {at' = mid} {n} {inner} {ps} c h) hs hs0 at0 b text bytes token lt e w q u =
      let g = cut_gives c ((opening, 0) ∷ hs) ((opening, n) ∷ hs) (n, h, refl) (Fault opening OpenText) over in
      comes_to_hole hs hs0 opening at0 b text inner bytes token (Fault opening OpenText) w q (moved ((at0 + (1 + length text)) + 2) (ap (λ m. m + 2) e) g)
  text_refused_gives {opening} {pos} {at'} {k} (R.after_hole {at' = mid} {inner} {text = text1} {bytes = bytes1} {rest} {ps} c h w1 t) hs hs0 at0 b text bytes token lt e w q u =
      let i = cut_utf8 c (utf8_inside b text inner lt u) in
      let ended : Gives ((opening, 0) ∷ hs) mid (125 ∷ (text1 ++ rest)) (Fault at' k) = text_refused_gives t hs ((opening, 0) ∷ hs) mid 125 text1 bytes1 HoleEnds (lit< tt) refl w1 refl i in
      let g = cut_gives c ((opening, 0) ∷ hs) ((opening, 0) ∷ hs) (0, h, refl) (Fault at' k) ended in
      comes_to_hole hs hs0 opening at0 b text inner bytes token (Fault at' k) w q (moved ((at0 + (1 + length text)) + 2) (ap (λ m. m + 2) e) g)
