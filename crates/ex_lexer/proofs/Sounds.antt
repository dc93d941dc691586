-- What is found at a front is written there.
use Rattle.std.proofs.Common.{◌≡◌, ◌⊎◌, inl, inr, ℕ, zero, suc, ◌+◌, ◌<◌, ◌≤◌, ◌^◌, ◌==◌, ◌&&◌, ◌||◌, nat_lt, Bool, true, false, not, if◌then◌else◌, List, [], ◌∷◌, ◌++◌, length, take, drop, get_or, Option, Some, None, refl, sym, ap, ◌∙◌, arith, subst, append_assoc, length-append, lit<}
use Rattle.std.proofs.lemmas.Bool.Decides.{nat_tests}
use Rattle.std.proofs.lemmas.List.Sums.{prefix_len-le-length}
use Rattle.std.proofs.lemmas.Str.{chars-encodes, IsCharBoundary-after_ascii, IsUtf8-drop}
use Rattle.std.proofs.Math.Utf8.{scalar, scalars}
use Rattle.std.specs.List.{prefix_len, list_all}
use Rattle.std.specs.Str.{chars, IsUtf8, IsCharBoundary, encode_utf8_all}
use Rattle.std.specs.Str.Parse.{digits_value}
use Rattle.ex_grammar.specs.declared.token.Sign.{Sign}
use Rattle.ex_grammar.specs.declared.token.Keyword.{Keyword}
use Rattle.ex_grammar.specs.declared.token.LexErrorKind.{LexErrorKind}
use Rattle.ex_grammar.specs.declared.token.LexErrorKind.TheVariants.{BadChar, BadNumber, TooWide, BadEscape, OpenText}
use Rattle.ex_grammar.specs.Tokens.{Number, Name, Called, Alias, Key, Atom, Word, Mark, signs, keyword_of}
use Rattle.ex_grammar.specs.Texts.{escapes, escape_in, are_hexdigits, hex_value, IsEscape, short, coded, first_is, is_plain, Says, nothing, plain, escape}
use Rattle.ex_grammar.specs.Names as N
use Rattle.ex_grammar.specs.Names.{is_digit, is_capital, is_alias_byte, is_letter, begins_name, is_in_name, is_mark, NotFirst, mark_follows, IsName, bare, marked, IsAlias, alias, Digits, NumberEnds, digit_second}
use Rattle.ex_grammar.specs.Refusals.{NoPiece, NoEscape, begins_text, begins_quoted_atom, BreaksOff, open_text, bad_escape, Refused, bad_number, too_wide, bad_char, atom_hole, atom_breaks}
use Rattle.ex_grammar.specs.Lexing as L
use Rattle.ex_grammar.specs.Lexing.{Piece, Blank, Comment, Newline, Semicolon, Whole, is_in_line, begins_with, sign_in, IsNewline, IsKeyBlank, key_space, key_tab, key_newline, blank_follows, key_follows, Stands}
use Rattle.ex_lexer.specs.declared.texts.Stop.{Stop}
use Rattle.ex_lexer.specs.declared.texts.Stop.TheVariants.{Quote, Hole, End, Escape}
use Rattle.ex_lexer.specs.declared.front.Class.{Class}
use Rattle.ex_lexer.specs.declared.front.Class.TheVariants as C
use Rattle.ex_lexer.specs.Runs.{stopped, longer, run, escape_at, short_escape, coded_escape, coded_if, is_coded, skipped_by, escaped, digits_at, another, word_len, name_len, marked_len}
use Rattle.ex_lexer.specs.Front.{Front, Takes, Fails, class_of, front, front_by, number_by, digit_by, alias_by, name_by, named_by, key_or_word, word_by, key_len, blank_len, atom_by, after_first, quoted_by, signed_by, return_by, fitting}
use Rattle.ex_lexer.proofs.Bools.{and_left, and_right, not_both, same, less, not_less, chosen, if_true, if_false}
use Rattle.ex_lexer.proofs.Bytes.{take_front, drop_front, take_drop, length_take, first_not, after_prefix, prefix_all}
use Rattle.ex_lexer.proofs.TextRuns.{skips}
use Rattle.ex_lexer.proofs.NameRuns.{WordAt, word_at, name_boundary}
use Rattle.ex_lexer.proofs.Fronts.{front_complete, found_name, begins_in, key_some, escape_complete, blanked, digit_class, capital_class, capital_alias, quote_stops, hole_stops}

-- the bytes at a front write a piece
pub record Stood (all : List ℕ) (p : Piece) (n : ℕ) : Type 0 where
  pub text : List ℕ
  pub rest : List ℕ
  pub parts : all ≡ text ++ rest
  pub len : n ≡ length text
  pub stands : Stands text p rest
  pub some : 0 < length text
  pub boundary : IsUtf8 all → IsCharBoundary all n

-- after a byte of ASCII
pub ends_ascii : (text rest : List ℕ) (b : ℕ) → b < 128 → IsUtf8 ((text ++ b ∷ []) ++ rest) → IsCharBoundary ((text ++ b ∷ []) ++ rest) (length (text ++ b ∷ []))
ends_ascii text rest b lt u =
    let all = (text ++ b ∷ []) ++ rest in
    let a : all ≡ text ++ b ∷ rest = append_assoc text (b ∷ []) rest in
    let e : get_or all (length text) 0 ≡ b = ap (λ w. get_or w (length text) 0) a ∙ at text in
    let l : length text + 1 ≡ length (text ++ b ∷ []) = omega (arith, length-append text (b ∷ [])) in
    let w : length text < length all = omega (arith, ap length a, length-append text (b ∷ rest)) in
    subst (IsCharBoundary all) l (IsCharBoundary-after_ascii all (length text) u w (omega arith))
  where
    at : (xs : List ℕ) → get_or (xs ++ b ∷ rest) (length xs) 0 ≡ b
    at [] = refl
    at (x ∷ xs) = at xs

-- texts of ASCII alone
pub all_ascii : List ℕ → Bool
all_ascii xs = list_all (λ b. nat_lt b 128) xs

pub ascii_boundary : (text rest : List ℕ) → 0 < length text → list_all (λ b. nat_lt b 128) text ≡ true → IsUtf8 (text ++ rest) → IsCharBoundary (text ++ rest) (length text)
ascii_boundary [] rest h k u = absurd (omega arith)
ascii_boundary (b ∷ text) rest h k u =
    let w = last b text k in
    subst (λ v. IsUtf8 (v ++ rest) → IsCharBoundary (v ++ rest) (length v)) (sym w.2.0) (ends_ascii w.0 rest w.1 w.2.1) u
  where
    last : (b : ℕ) (text : List ℕ) → list_all (λ c. nat_lt c 128) (b ∷ text) ≡ true → (front : List ℕ) × (c : ℕ) × ((b ∷ text ≡ front ++ c ∷ []) × (c < 128))
    last b [] k = ([], b, (refl, less b 128 (and_left (nat_lt b 128) _ k)))
    last b (c ∷ text) k = let r = last c text (and_right (nat_lt b 128) _ k) in (b ∷ r.0, r.1, (ap (λ v. b ∷ v) r.2.0, r.2.1))

-- a place one byte further on
pub boundary_after : (b : ℕ) (bytes : List ℕ) (n : ℕ) → IsCharBoundary bytes n → IsCharBoundary (b ∷ bytes) (1 + n)
boundary_after b bytes n h =
    let e : 1 + n ≡ suc n = omega arith in
    subst (IsCharBoundary (b ∷ bytes)) (sym e) (omega (arith, h.0), λ lt high. h.1 (omega arith) high)

pub utf8_after : (b : ℕ) (bytes : List ℕ) → b < 128 → IsUtf8 (b ∷ bytes) → IsUtf8 bytes
utf8_after b bytes lt u = IsUtf8-drop (b ∷ bytes) 1 u (IsCharBoundary-after_ascii (b ∷ bytes) 0 u (omega arith) lt)

-- signs
begins : (text bytes : List ℕ) → begins_with text bytes ≡ true → bytes ≡ text ++ drop (length text) bytes
begins [] bytes h = refl
begins (c ∷ text) [] h = cc
begins (c ∷ text) (b ∷ bytes) h = ap (λ v. v ∷ bytes) (same b c (and_left (b == c) _ h)) ∙ ap (λ v. c ∷ v) (begins text bytes (and_right (b == c) _ h))

abbrev good_row : List ℕ × Sign → Bool
good_row row = nat_lt 0 (length row.0) && list_all (λ b. nat_lt b 128) row.0

abbrev pub row_or : List ℕ × Sign → Option (List ℕ × Sign) → List ℕ × Sign
row_or row None = row
row_or row (Some v) = v

-- the row that is found is one of the table, and the bytes begin with it
pub sign_found : (rows : List (List ℕ × Sign)) (bytes : List ℕ) (r : List ℕ × Sign) → list_all good_row rows ≡ true → sign_in rows bytes ≡ Some r → (good_row r ≡ true) × (begins_with r.0 bytes ≡ true)
sign_found [] bytes r g h = cc
sign_found (row ∷ rows) bytes r g h = chosen (begins_with row.0 bytes)
    (λ e. let i : row ≡ r = ap (row_or row) (sym (if_true _ _ _ e) ∙ h) in (subst (λ v. good_row v ≡ true) i (and_left (good_row row) _ g), subst (λ v. begins_with v.0 bytes ≡ true) i e))
    (λ e. sign_found rows bytes r (and_right (good_row row) _ g) (sym (if_false _ _ _ e) ∙ h))

pub sign_stood : (all text : List ℕ) (s : Sign) → sign_in signs all ≡ Some (text, s) → Stood all (Whole (Mark s)) (length text)
sign_stood all text s h =
    let f = sign_found signs all (text, s) refl h in
    let some = less 0 (length text) (and_left (nat_lt 0 (length text)) _ f.0) in
    let e = begins text all f.1 in
    record {
      text = text;
      rest = drop (length text) all;
      parts = e;
      len = refl;
      stands = L.sign (ap (sign_in signs) (sym e) ∙ h);
      some = some;
      boundary = λ u. subst (λ v. IsCharBoundary v (length text)) (sym e) (ascii_boundary text (drop (length text) all) some (and_right (nat_lt 0 (length text)) _ f.0) (subst IsUtf8 e u));
    }

-- digits
pub record DigitsFound (all : List ℕ) : Type 0 where
  pub text : List ℕ
  pub rest : List ℕ
  pub ds : List ℕ
  pub parts : all ≡ text ++ rest
  pub at : digits_at all ≡ (length text, ds)
  pub digits : Digits text ds
  pub no_digit : first_is is_digit rest ≡ false
  pub no_second : digit_second rest ≡ false
  pub ascii : list_all (λ b. nat_lt b 128) text ≡ true
  pub some : 0 < length text

pub digit_ascii : (b : ℕ) → is_digit b ≡ true → nat_lt b 128 ≡ true
digit_ascii b h = grind (arith, nat_tests)

pair_len : (d n m : ℕ) (ds : List ℕ) → 1 + n ≡ m → another 1 (d ∷ []) (n, ds) ≡ (m, d ∷ ds)
pair_len d n m ds e = ap (λ k. (k, d ∷ ds)) e

one_digit : (b : ℕ) (rest : List ℕ) → is_digit b ≡ true → digits_at rest ≡ (0, []) → first_is is_digit rest ≡ false → digit_second rest ≡ false → DigitsFound (b ∷ rest)
unfolding digits_at
one_digit b rest h z e f = record {
  text = b ∷ [];
  rest = rest;
  ds = b ∷ [];
  parts = refl;
  at = if_true _ _ _ h ∙ (ap (another 1 (b ∷ [])) z ∙ pair_len b 0 1 [] (omega arith));
  digits = N.one h;
  no_digit = e;
  no_second = f;
  ascii = rw (digit_ascii b h) refl;
  some = omega arith;
}

more_digits : (b : ℕ) (bytes : List ℕ) → is_digit b ≡ true → DigitsFound bytes → DigitsFound (b ∷ bytes)
unfolding digits_at
more_digits b bytes h d = record {
  text = b ∷ d.text;
  rest = d.rest;
  ds = b ∷ d.ds;
  parts = ap (λ v. b ∷ v) d.parts;
  at = if_true _ _ _ h ∙ (ap (another 1 (b ∷ [])) d.at ∙ pair_len b (length d.text) (length (b ∷ d.text)) d.ds (omega arith));
  digits = N.more h d.digits;
  no_digit = d.no_digit;
  no_second = d.no_second;
  ascii = rw (digit_ascii b h, d.ascii) refl;
  some = omega arith;
}

spaced_digits : (b c : ℕ) (bytes : List ℕ) → is_digit b ≡ true → (c == 95) ≡ true → first_is is_digit bytes ≡ true → DigitsFound bytes → DigitsFound (b ∷ c ∷ bytes)
unfolding digits_at
spaced_digits b c bytes h e f d = subst (λ v. DigitsFound (b ∷ v ∷ bytes)) (sym (same c 95 e)) (record {
  text = b ∷ 95 ∷ d.text;
  rest = d.rest;
  ds = b ∷ d.ds;
  parts = ap (λ v. b ∷ 95 ∷ v) d.parts;
  at =
      let k : digits_at (95 ∷ bytes) ≡ (1 + length d.text, d.ds) = if_true _ _ _ f ∙ ap (another 1 []) d.at in
      if_true _ _ _ h ∙ (ap (another 1 (b ∷ [])) k ∙ pair_len b (1 + length d.text) (length (b ∷ 95 ∷ d.text)) d.ds (omega arith));
  digits = N.spaced h d.digits;
  no_digit = d.no_digit;
  no_second = d.no_second;
  ascii = rw (digit_ascii b h, d.ascii) refl;
  some = omega arith;
})

none_at : (c : ℕ) (bytes : List ℕ) → is_digit c ≡ false → (c == 95 && first_is is_digit bytes) ≡ false → digits_at (c ∷ bytes) ≡ (0, [])
unfolding digits_at
none_at c bytes e f = if_false _ _ _ e ∙ if_false _ _ _ f

and_false : (t : Bool) → (t && false) ≡ false
and_false true = refl
and_false false = refl

pub digits_found : (b : ℕ) (bytes : List ℕ) → is_digit b ≡ true → DigitsFound (b ∷ bytes)
unfolding digits_at
digits_found b [] h = one_digit b [] h refl refl refl
digits_found b (c ∷ []) h = chosen (is_digit c) (λ e. more_digits b (c ∷ []) h (digits_found c [] e)) (λ e. one_digit b (c ∷ []) h (none_at c [] e (and_false (c == 95))) e (and_false (c == 95)))
digits_found b (c ∷ d ∷ bytes) h =
    chosen (is_digit c) (λ e. more_digits b (c ∷ d ∷ bytes) h (digits_found c (d ∷ bytes) e)) (λ e. chosen (c == 95 && is_digit d)
    (λ f. spaced_digits b c (d ∷ bytes) h (and_left (c == 95) _ f) (and_right (c == 95) _ f) (digits_found d bytes (and_right (c == 95) _ f)))
    (λ f. one_digit b (c ∷ d ∷ bytes) h (none_at c (d ∷ bytes) e f) e f))

-- what is found at a front: a piece that is written there, or a refusal
abbrev pub Answers : List ℕ → Front → Type 0
Answers all (Takes p n) = Stood all p n
Answers all (Fails n k) = (at : ℕ) → Refused at all (at + n) k

not_piece : {all : List ℕ} {n : ℕ} {k : LexErrorKind} → front all ≡ Fails n k → NoPiece all
not_piece {all} {n} {k} h = λ text rest p e s. fails (sym (front_complete s) ∙ (ap front (sym e) ∙ h))
  where
    is_takes : Front → Bool
    is_takes (Takes p m) = true
    is_takes (Fails m l) = false

    fails : {p : Piece} {m : ℕ} → Takes p m ≡ Fails n k → ⊥
    fails {p} {m} e = not_both true refl (sym (ap is_takes (sym e)))

at_zero : {all : List ℕ} {k : LexErrorKind} (at : ℕ) → Refused at all at k → Refused at all (at + 0) k
at_zero {all} {k} at r = let e : at + 0 ≡ at = omega arith in subst (λ n. Refused at all n k) (sym e) r

quoted_is : (b : ℕ) (bytes : List ℕ) → (b == 58) ≡ false → begins_quoted_atom (b ∷ bytes) ≡ false
quoted_is b bytes h = rw h refl

-- a character that begins nothing
bad : (b : ℕ) (bytes : List ℕ) → front (b ∷ bytes) ≡ Fails 0 BadChar → is_digit b ≡ false → (b == 34) ≡ false → begins_quoted_atom (b ∷ bytes) ≡ false → (at : ℕ) → Refused at (b ∷ bytes) (at + 0) BadChar
bad b bytes h d q a at = at_zero at (bad_char (not_piece h) d q a)

-- numbers
number_answers : (all : List ℕ) → DigitsFound all → Answers all (digit_by all)
number_answers all d =
    let e : digit_by all ≡ number_by (length d.text) d.ds d.rest = ap (λ p. number_by p.0 p.1 (drop p.0 all)) d.at ∙ (ap (λ w. number_by (length d.text) d.ds (drop (length d.text) w)) d.parts ∙ ap (number_by (length d.text) d.ds) (drop_front d.text d.rest)) in
    subst (Answers all) (sym e) (chosen (first_is is_letter (chars d.rest)) (λ l. subst (Answers all) (sym (if_true _ _ _ l)) (bad_by l)) (λ l. subst (Answers all) (sym (if_false _ _ _ l)) (fit l)))
  where
    bad_by : first_is is_letter (chars d.rest) ≡ true → (at : ℕ) → Refused at all (at + 0) BadNumber
    bad_by l at = at_zero at (subst (λ v. Refused at v at BadNumber) (sym d.parts) (bad_number d.rest d.digits l d.no_second))

    ends : first_is is_letter (chars d.rest) ≡ false → NumberEnds d.rest
    ends l = (first_not is_digit d.rest d.no_digit, first_not is_letter (chars d.rest) l)

    fit : first_is is_letter (chars d.rest) ≡ false → Answers all (fitting (nat_lt (digits_value 10 d.ds) (2 ^ 127)) (digits_value 10 d.ds) (length d.text))
    fit l = chosen (nat_lt (digits_value 10 d.ds) (2 ^ 127)) (λ f. subst (λ t. Answers all (fitting t (digits_value 10 d.ds) (length d.text))) (sym f) (stood f)) (λ f. subst (λ t. Answers all (fitting t (digits_value 10 d.ds) (length d.text))) (sym f) (wide f))
      where
        stood : nat_lt (digits_value 10 d.ds) (2 ^ 127) ≡ true → Stood all (Whole (Number (digits_value 10 d.ds))) (length d.text)
        stood f = record {
          text = d.text;
          rest = d.rest;
          parts = d.parts;
          len = refl;
          stands = L.integer d.digits (ends l) (less (digits_value 10 d.ds) (2 ^ 127) f);
          some = d.some;
          boundary = λ u. subst (λ v. IsCharBoundary v (length d.text)) (sym d.parts) (ascii_boundary d.text d.rest d.some d.ascii (subst IsUtf8 d.parts u));
        }

        wide : nat_lt (digits_value 10 d.ds) (2 ^ 127) ≡ false → (at : ℕ) → Refused at all (at + 0) TooWide
        wide f at = at_zero at (subst (λ v. Refused at v at TooWide) (sym d.parts) (too_wide d.rest d.digits (ends l) (not_less (digits_value 10 d.ds) (2 ^ 127) f)))

-- names
pub record NameStood (all : List ℕ) : Type 0 where
  pub x : List ℕ
  pub rest : List ℕ
  pub parts : all ≡ x ++ rest
  pub len : name_len all ≡ length x
  pub name : IsName x rest

some_name : {x rest : List ℕ} → IsName x rest → 0 < length x
some_name h = let f = found_name h in omega (arith, ap length f.is)

pub name_stood : (all : List ℕ) → IsUtf8 all → first_is begins_name (chars all) ≡ true → NameStood all
name_stood all u h = of w.xs w.ys w.parts w.all w.stops w.bytes w.good_front w.good w.len (ap (first_is begins_name) (sym w.parts) ∙ h)
  where
    w : WordAt all
    w = word_at all u

    of : (xs ys : List ℕ) → chars all ≡ xs ++ ys → list_all is_in_name xs ≡ true → NotFirst is_in_name ys → all ≡ encode_utf8_all xs ++ encode_utf8_all ys → scalars xs ≡ true → scalars ys ≡ true → word_len all ≡ length (encode_utf8_all xs)
        → first_is begins_name (xs ++ ys) ≡ true → NameStood all
    of [] [] p a n b g g' l f = cc
    of [] (y ∷ ys) p a n b g g' l f = absurd (not_both (is_in_name y) (begins_in y f) n)
    of (c ∷ cs) ys p a n b g g' l f =
        let x = encode_utf8_all (c ∷ cs) in
        let r = encode_utf8_all ys in
        let d : drop (word_len all) all ≡ r = ap (λ m. drop m all) l ∙ (ap (drop (length x)) b ∙ drop_front x r) in
        let k : NotFirst is_in_name (chars r) = subst (NotFirst is_in_name) (sym (chars-encodes ys g')) n in
        let alls = and_right (is_in_name c) _ a in
        chosen (mark_follows r) (λ m. with_mark x r d m k alls (first_mark r m)) (λ m. record {
          x = x;
          rest = r;
          parts = b;
          len = ap (λ v. marked_len (word_len all) v) d ∙ (if_false _ _ _ m ∙ l);
          name = bare c cs g f alls k m;
        })
      where
        first_mark : (r : List ℕ) → mark_follows r ≡ true → (m : ℕ) × (more : List ℕ) × ((r ≡ m ∷ more) × (is_mark m ≡ true) × NotFirst (λ e. e == 61) more)
        first_mark [] h = cc
        first_mark (m ∷ more) h = (m, more, (refl, and_left (is_mark m) _ h, first_not (λ e. e == 61) more (not_is _ (and_right (is_mark m) _ h))))
          where
            not_is : (t : Bool) → not t ≡ true → t ≡ false
            not_is true h = cc
            not_is false h = refl

        with_mark : (x r : List ℕ) → drop (word_len all) all ≡ r → mark_follows r ≡ true → NotFirst is_in_name (chars r) → list_all is_in_name cs ≡ true → (m : ℕ) × (more : List ℕ) × ((r ≡ m ∷ more) × (is_mark m ≡ true) × NotFirst (λ e. e == 61) more) → NameStood all
        with_mark x r d m k alls q = record {
          x = encode_utf8_all (c ∷ cs) ++ q.0 ∷ [];
          rest = q.1;
          parts = b ∙ (ap (λ v. encode_utf8_all (c ∷ cs) ++ v) (sym d' ∙ (d ∙ q.2.0)) ∙ sym (append_assoc (encode_utf8_all (c ∷ cs)) (q.0 ∷ []) q.1));
          len = ap (λ v. marked_len (word_len all) v) d ∙ (if_true _ _ _ m ∙ (ap (λ v. v + 1) l ∙ omega (arith, length-append (encode_utf8_all (c ∷ cs)) (q.0 ∷ []))));
          name = marked c cs q.0 g f alls q.2.1 q.2.2;
        }
          where
            d' : drop (word_len all) all ≡ encode_utf8_all ys
            d' = ap (λ m. drop m all) l ∙ (ap (drop (length (encode_utf8_all (c ∷ cs)))) b ∙ drop_front (encode_utf8_all (c ∷ cs)) (encode_utf8_all ys))

name_text : {x rest : List ℕ} (all : List ℕ) (p : Piece) → all ≡ x ++ rest → 0 < length x → Stands x p rest → (IsUtf8 all → IsCharBoundary all (length x)) → Stood all p (length x)
name_text {x} {rest} all p e some s b = record { text = x; rest = rest; parts = e; len = refl; stands = s; some = some; boundary = b }

-- what follows a name that is a key
pub record KeyAt (rest : List ℕ) : Type 0 where
  pub blank : List ℕ
  pub more : List ℕ
  pub front : List ℕ
  pub last : ℕ
  pub parts : rest ≡ 58 ∷ (blank ++ more)
  pub is : IsKeyBlank blank
  pub ends : blank ≡ front ++ last ∷ []
  pub ascii : last < 128

one_blank : (b : ℕ) (bytes : List ℕ) → b < 128 → IsKeyBlank (b ∷ []) → KeyAt (58 ∷ b ∷ bytes)
one_blank b bytes lt k = record { blank = b ∷ []; more = bytes; front = []; last = b; parts = refl; is = k; ends = refl; ascii = lt }

return_blank : (bytes : List ℕ) → (key_len (58 ∷ 13 ∷ bytes) ≡ None) ⊎ KeyAt (58 ∷ 13 ∷ bytes)
return_blank [] = inl refl
return_blank (d ∷ bytes) = chosen (d == 10)
    (λ e. inr (subst (λ v. KeyAt (58 ∷ 13 ∷ v ∷ bytes)) (sym (same d 10 e)) (record { blank = 13 ∷ 10 ∷ []; more = bytes; front = 13 ∷ []; last = 10; parts = refl; is = key_newline L.return_feed; ends = refl; ascii = lit< tt })))
    (λ e. inl (rw e refl))

blank_shape : (c : ℕ) (bytes : List ℕ) → (key_len (58 ∷ c ∷ bytes) ≡ None) ⊎ KeyAt (58 ∷ c ∷ bytes)
blank_shape c bytes =
    chosen (c == 32) (λ e. inr (subst (λ v. KeyAt (58 ∷ v ∷ bytes)) (sym (same c 32 e)) (one_blank 32 bytes (lit< tt) key_space))) (λ e32.
    chosen (c == 9) (λ e. inr (subst (λ v. KeyAt (58 ∷ v ∷ bytes)) (sym (same c 9 e)) (one_blank 9 bytes (lit< tt) key_tab))) (λ e9.
    chosen (c == 10) (λ e. inr (subst (λ v. KeyAt (58 ∷ v ∷ bytes)) (sym (same c 10 e)) (one_blank 10 bytes (lit< tt) (key_newline L.feed)))) (λ e10.
    chosen (c == 13) (λ e. subst (λ v. (key_len (58 ∷ v ∷ bytes) ≡ None) ⊎ KeyAt (58 ∷ v ∷ bytes)) (sym (same c 13 e)) (return_blank bytes)) (λ e13. inl (rw (e32, e9, e10, e13) refl)))))

key_shape : (rest : List ℕ) → (key_len rest ≡ None) ⊎ KeyAt rest
key_shape [] = inl refl
key_shape (b ∷ []) = inl (of (b == 58))
  where
    of : (t : Bool) → (if t then blank_len [] else None) ≡ None
    of true = refl
    of false = refl
key_shape (b ∷ c ∷ bytes) = chosen (b == 58) (λ e. subst (λ v. (key_len (v ∷ c ∷ bytes) ≡ None) ⊎ KeyAt (v ∷ c ∷ bytes)) (sym (same b 58 e)) (blank_shape c bytes)) (λ e. inl (if_false _ _ _ e))

no_key : (rest : List ℕ) → key_len rest ≡ None → key_follows rest ≡ false
no_key [] h = refl
no_key (b ∷ rest) h = of (b == 58) h
  where
    blank : (bytes : List ℕ) → blank_len bytes ≡ None → blank_follows bytes ≡ false
    blank [] k = refl
    blank (c ∷ bytes) k = by (c == 32) (c == 9) (c == 10) (c == 13 && first_is (λ d. d == 10) bytes) k
      where
        by : (p q r s : Bool) → blanked p q r s ≡ None → (p || (q || (r || s))) ≡ false
        by true q r s k = cc
        by false true r s k = cc
        by false false true s k = cc
        by false false false true k = cc
        by false false false false k = refl

    of : (t : Bool) → (if t then blank_len rest else None) ≡ None → (t && blank_follows rest) ≡ false
    of false k = refl
    of true k = blank rest k

named_answers : (all x rest : List ℕ) → all ≡ x ++ rest → IsName x rest → (IsUtf8 all → IsCharBoundary all (length x)) → Answers all (named_by x rest (length x))
named_answers all x rest e h b = key (key_shape rest)
  where
    some : 0 < length x
    some = some_name h

    key : (key_len rest ≡ None) ⊎ KeyAt rest → Answers all (named_by x rest (length x))
    key (inr k) =
        let y = x ++ 58 ∷ k.blank in
        let s : Stands y (Whole (Key x)) k.more = L.key (subst (IsName x) k.parts h) k.is in
        let p : all ≡ y ++ k.more = e ∙ (ap (λ v. x ++ v) k.parts ∙ sym (append_assoc x (58 ∷ k.blank) k.more)) in
        let l : length x + (1 + length k.blank) ≡ length y = omega (arith, length-append x (58 ∷ k.blank)) in
        let f : key_len rest ≡ Some (1 + length k.blank) = ap key_len k.parts ∙ key_some k.more k.is in
        let q : y ≡ (x ++ 58 ∷ k.front) ++ k.last ∷ [] = ap (λ v. x ++ 58 ∷ v) k.ends ∙ sym (append_assoc x (58 ∷ k.front) (k.last ∷ [])) in
        let edge : IsUtf8 (y ++ k.more) → IsCharBoundary (y ++ k.more) (length y) = subst (λ v. IsUtf8 (v ++ k.more) → IsCharBoundary (v ++ k.more) (length v)) (sym q) (ends_ascii (x ++ 58 ∷ k.front) k.more k.last k.ascii) in
        let stood : Stood all (Whole (Key x)) (length y) = name_text all (Whole (Key x)) p (omega (arith, length-append x (58 ∷ k.blank))) s (λ u. subst (λ v. IsCharBoundary v (length y)) (sym p) (edge (subst IsUtf8 p u))) in
        subst (λ o. Answers all (key_or_word o x rest (length x))) (sym f) (subst (Stood all (Whole (Key x))) (sym l) stood)
    key (inl k) = subst (λ o. Answers all (key_or_word o x rest (length x))) (sym k) (word (keyword_of x) refl)
      where
        word : (o : Option Keyword) → keyword_of x ≡ o → Answers all (Takes (Whole (word_by o x (first_is (λ c. c == 40) rest))) (length x))
        word (Some w) f = name_text all (Whole (Word w)) e some (L.word h (no_key rest k) f) b
        word None f = chosen (first_is (λ c. c == 40) rest) (λ g. subst (λ t. Answers all (Takes (Whole (word_by None x t)) (length x))) (sym g) (call rest e h g)) (λ g. subst (λ t. Answers all (Takes (Whole (word_by None x t)) (length x))) (sym g) (name_text all (Whole (Name x)) e some (L.name h (no_key rest k) f (first_not (λ c. c == 40) rest g)) b))
          where
            call : (rest : List ℕ) → all ≡ x ++ rest → IsName x rest → first_is (λ c. c == 40) rest ≡ true → Stood all (Whole (Called x)) (length x)
            call [] e h g = cc
            call (c ∷ rest) e h g =
                let i = same c 40 g in
                name_text all (Whole (Called x)) (e ∙ ap (λ v. x ++ v ∷ rest) i) (some_name h) (L.called (subst (λ v. IsName x (v ∷ rest)) i h) f) b

name_answers : (all : List ℕ) → IsUtf8 all → NameStood all → Answers all (name_by all)
name_answers all u s =
    let t : take (name_len all) all ≡ s.x = ap (λ n. take n all) s.len ∙ (ap (take (length s.x)) s.parts ∙ take_front s.x s.rest) in
    let d : drop (name_len all) all ≡ s.rest = ap (λ n. drop n all) s.len ∙ (ap (drop (length s.x)) s.parts ∙ drop_front s.x s.rest) in
    let e : name_by all ≡ named_by s.x s.rest (length s.x) = ap (λ w. named_by w (drop (name_len all) all) (name_len all)) t ∙ (ap (λ w. named_by s.x w (name_len all)) d ∙ ap (named_by s.x s.rest) s.len) in
    subst (Answers all) (sym e) (named_answers all s.x s.rest s.parts s.name (λ v. subst (IsCharBoundary all) s.len (name_boundary all v)))

-- aliases
alias_is : (b : ℕ) (bytes : List ℕ) → is_capital b ≡ true → (prefix_len is_alias_byte (b ∷ bytes) ≡ suc (prefix_len is_alias_byte bytes)) × IsAlias (b ∷ take (prefix_len is_alias_byte bytes) bytes) (drop (prefix_len is_alias_byte bytes) bytes)
alias_is b bytes h =
    let e : 1 + prefix_len is_alias_byte bytes ≡ suc (prefix_len is_alias_byte bytes) = omega arith in
    (if_true _ _ _ (capital_alias b h) ∙ e, alias h (prefix_all is_alias_byte bytes) (after_prefix is_alias_byte bytes))

pub alias_ascii : (n : ℕ) (xs : List ℕ) → list_all is_alias_byte xs ≡ true → list_all (λ b. nat_lt b 128) xs ≡ true
alias_ascii n [] h = refl
alias_ascii n (b ∷ xs) h = rw (low b (and_left (is_alias_byte b) _ h), alias_ascii n xs (and_right (is_alias_byte b) _ h)) refl
  where
    low : (b : ℕ) → is_alias_byte b ≡ true → nat_lt b 128 ≡ true
    low b h = grind (arith, nat_tests)

record AliasAt (all : List ℕ) : Type 0 where
  pub x : List ℕ
  pub rest : List ℕ
  pub parts : all ≡ x ++ rest
  pub is : IsAlias x rest
  pub len : prefix_len is_alias_byte all ≡ length x
  pub taken : take (prefix_len is_alias_byte all) all ≡ x
  pub some : 0 < length x
  pub ascii : list_all (λ b. nat_lt b 128) x ≡ true

alias_at : (b : ℕ) (bytes : List ℕ) → is_capital b ≡ true → AliasAt (b ∷ bytes)
alias_at b bytes h =
    let a = alias_is b bytes h in
    let n = prefix_len is_alias_byte bytes in
    let x = b ∷ take n bytes in
    record {
      x = x;
      rest = drop n bytes;
      parts = ap (λ v. b ∷ v) (sym (take_drop n bytes));
      is = a.1;
      len = a.0 ∙ ap suc (sym (length_take n bytes (prefix_len-le-length is_alias_byte bytes)));
      taken = ap (λ m. take m (b ∷ bytes)) a.0;
      some = omega arith;
      ascii = alias_ascii 0 x (rw (capital_alias b h, prefix_all is_alias_byte bytes) refl);
    }

alias_answers : (all : List ℕ) → AliasAt all → Answers all (alias_by all)
alias_answers all a =
    let e : alias_by all ≡ Takes (Whole (Alias a.x)) (length a.x) = ap (λ v. Takes (Whole (Alias v)) (prefix_len is_alias_byte all)) a.taken ∙ ap (Takes (Whole (Alias a.x))) a.len in
    subst (Answers all) (sym e) (name_text all (Whole (Alias a.x)) a.parts a.some (L.alias a.is) (λ u. subst (λ v. IsCharBoundary v (length a.x)) (sym a.parts) (ascii_boundary a.x a.rest a.some a.ascii (subst IsUtf8 a.parts u))))

-- what stands where the characters of a text end
abbrev pub StopsAt : Stop → List ℕ → Type 0
StopsAt Quote rest = (more : List ℕ) × (rest ≡ 34 ∷ more)
StopsAt Hole rest = (more : List ℕ) × (rest ≡ 35 ∷ 123 ∷ more)
StopsAt End rest = rest ≡ []
StopsAt Escape rest = (more : List ℕ) × (rest ≡ 92 ∷ more) × NoEscape more

-- texts: what is read is written so
pub record RunFound (xs : List ℕ) : Type 0 where
  pub text : List ℕ
  pub rest : List ℕ
  pub parts : xs ≡ text ++ rest
  pub says : Says text rest (run 0 xs).bytes
  pub len : (run 0 xs).len ≡ length text
  pub stops : StopsAt (run 0 xs).stop rest

-- an escape is written so
pub record EscapeFound (bytes : List ℕ) (n : ℕ) (says : List ℕ) : Type 0 where
  pub letters : List ℕ
  pub rest : List ℕ
  pub parts : bytes ≡ letters ++ rest
  pub len : n ≡ length letters
  pub is : IsEscape letters says

fst_of : Option (ℕ × List ℕ) → ℕ
fst_of None = 0
fst_of (Some e) = e.0

snd_of : Option (ℕ × List ℕ) → List ℕ
snd_of None = []
snd_of (Some e) = e.1

pub escape_found : (bytes : List ℕ) (n : ℕ) (says : List ℕ) → escape_at bytes ≡ Some (n, says) → EscapeFound bytes n says
unfolding fst_of snd_of
escape_found [] n says h = cc
escape_found (b ∷ bytes) n says h = chosen (b == 117) (λ e. subst (λ v. EscapeFound (v ∷ bytes) n says) (sym (same b 117 e)) (code bytes (sym (if_true _ _ _ e) ∙ h))) (λ e. letter (escape_in escapes b) refl (sym (if_false _ _ _ e) ∙ h))
  where
    letter : (o : Option ℕ) → escape_in escapes b ≡ o → short_escape o ≡ Some (n, says) → EscapeFound (b ∷ bytes) n says
    letter None f k = cc
    letter (Some c) f k = record { letters = b ∷ []; rest = bytes; parts = refl; len = sym (ap fst_of k); is = subst (IsEscape (b ∷ [])) (ap snd_of k) (short f) }

    code : (ys : List ℕ) → coded_escape ys ≡ Some (n, says) → EscapeFound (117 ∷ ys) n says
    code [] k = cc
    code (p ∷ []) k = cc
    code (p ∷ q ∷ []) k = cc
    code (p ∷ q ∷ r ∷ []) k = cc
    code (p ∷ q ∷ r ∷ s ∷ rest) k = all (are_hexdigits p q r s && is_coded (hex_value p q r s)) refl k
      where
        both : (t : Bool) → (t && true) ≡ true → t ≡ true
        both true h = refl
        both false h = cc

        all : (t : Bool) → (are_hexdigits p q r s && is_coded (hex_value p q r s)) ≡ t → coded_if t (hex_value p q r s) ≡ Some (n, says) → EscapeFound (117 ∷ p ∷ q ∷ r ∷ s ∷ rest) n says
        all false f k = cc
        all true f k = record {
          letters = 117 ∷ p ∷ q ∷ r ∷ s ∷ [];
          rest = rest;
          parts = refl;
          len = sym (ap fst_of k);
          is = subst (IsEscape (117 ∷ p ∷ q ∷ r ∷ s ∷ [])) (ap snd_of k) (coded (and_left (are_hexdigits p q r s) _ f) (both (scalar (hex_value p q r s)) (and_right (are_hexdigits p q r s) _ f)));
        }

no_escape : (bytes : List ℕ) → escape_at bytes ≡ None → NoEscape bytes
no_escape bytes h = λ letters rest says e i. none (sym (escape_complete rest i) ∙ (ap escape_at (sym e) ∙ h))
  where
    is_some : Option (ℕ × List ℕ) → Bool
    is_some None = false
    is_some (Some e) = true

    none : {e : ℕ × List ℕ} → Some e ≡ None → ⊥
    none {e} k = not_both true refl (sym (ap is_some (sym k)))

by_run : (xs text rest bytes : List ℕ) (n : ℕ) (s : Stop) → xs ≡ text ++ rest → Says text rest bytes → run 0 xs ≡ record { len = n; bytes = bytes; stop = s } → n ≡ length text → StopsAt s rest → RunFound xs
by_run xs text rest bytes n s e w h l k = record {
  text = text;
  rest = rest;
  parts = e;
  says = subst (Says text rest) (sym (ap (λ r. r.bytes) h)) w;
  len = ap (λ r. r.len) h ∙ l;
  stops = subst (λ v. StopsAt v rest) (sym (ap (λ r. r.stop) h)) k;
}

slash_run : (bytes : List ℕ) → run 0 (92 ∷ bytes) ≡ escaped (escape_at bytes) (run (skipped_by (escape_at bytes)) bytes)
unfolding run
slash_run bytes = refl

pub nil_run : run 0 [] ≡ stopped End
unfolding run
nil_run = refl

plain_more : (b : ℕ) (bytes : List ℕ) → is_plain b bytes ≡ true → run 0 (b ∷ bytes) ≡ longer 1 (b ∷ []) (run 0 bytes)
unfolding run
plain_more b bytes h = if_true _ _ _ h

-- `#{` stands first
hole_shape : (b : ℕ) (bytes : List ℕ) → is_plain b bytes ≡ false → (b == 34) ≡ false → (b == 92) ≡ false → (more : List ℕ) × (b ∷ bytes ≡ 35 ∷ 123 ∷ more)
hole_shape b bytes h e f = chosen (b == 35) (λ g. of bytes (chosen (first_is (λ c. c == 123) bytes) (λ k. k) (λ k. absurd (let v : true ≡ false = rw (e, f, g, k) at h in cc))) (same b 35 g)) (λ g. absurd (let v : true ≡ false = rw (e, f, g) at h in cc))
  where
    of : (bytes : List ℕ) → first_is (λ c. c == 123) bytes ≡ true → b ≡ 35 → (more : List ℕ) × (b ∷ bytes ≡ 35 ∷ 123 ∷ more)
    of [] k i = cc
    of (c ∷ more) k i = (more, ap (λ v. v ∷ c ∷ more) i ∙ ap (λ v. 35 ∷ v ∷ more) (same c 123 k))

run_found_by : (n : ℕ) (xs : List ℕ) → length xs ≤ n → RunFound xs
run_found_by n [] h = by_run [] [] [] [] 0 End refl nothing nil_run refl refl
run_found_by zero (b ∷ bytes) h = absurd (omega arith)
run_found_by (suc n) (b ∷ bytes) h =
    chosen (is_plain b bytes) (λ e. goes_plain e (run_found_by n bytes (omega arith))) (λ e. chosen (b == 34) (λ f. at_quote (same b 34 f)) (λ f. chosen (b == 92) (λ g. at_slash (same b 92 g) (escape_at bytes) refl (λ more l. run_found_by n more l)) (λ g. at_hole e f g)))
  where
    goes_plain : is_plain b bytes ≡ true → RunFound bytes → RunFound (b ∷ bytes)
    goes_plain e r =
        by_run (b ∷ bytes) (b ∷ r.text) r.rest (b ∷ (run 0 bytes).bytes) (1 + (run 0 bytes).len) (run 0 bytes).stop (ap (λ v. b ∷ v) r.parts) (plain (ap (is_plain b) (sym r.parts) ∙ e) r.says) (plain_more b bytes e) (ap (λ k. 1 + k) r.len ∙ omega arith) r.stops

    at_quote : b ≡ 34 → RunFound (b ∷ bytes)
    at_quote e = subst (λ v. RunFound (v ∷ bytes)) (sym e) (by_run (34 ∷ bytes) [] (34 ∷ bytes) [] 0 Quote refl nothing (quote_stops bytes) refl (bytes, refl))

    at_hole : is_plain b bytes ≡ false → (b == 34) ≡ false → (b == 92) ≡ false → RunFound (b ∷ bytes)
    at_hole e f g = let k = hole_shape b bytes e f g in subst RunFound (sym k.1) (by_run (35 ∷ 123 ∷ k.0) [] (35 ∷ 123 ∷ k.0) [] 0 Hole refl nothing (hole_stops k.0) refl (k.0, refl))

    at_slash : b ≡ 92 → (o : Option (ℕ × List ℕ)) → escape_at bytes ≡ o → ((more : List ℕ) → length more ≤ n → RunFound more) → RunFound (b ∷ bytes)
    at_slash e None f rec = subst (λ v. RunFound (v ∷ bytes)) (sym e) (by_run (92 ∷ bytes) [] (92 ∷ bytes) [] 0 Escape refl nothing (slash_run bytes ∙ ap (λ o. escaped o (run (skipped_by o) bytes)) f) refl (bytes, refl, no_escape bytes f))
    at_slash e (Some p) f rec = subst (λ v. RunFound (v ∷ bytes)) (sym e) (found (escape_found bytes p.0 p.1 f))
      where
        found : EscapeFound bytes p.0 p.1 → RunFound (92 ∷ bytes)
        found x =
            let r = rec x.rest (omega (arith, ap length x.parts, length-append x.letters x.rest)) in
            let w : length x.letters ≤ length bytes = omega (arith, ap length x.parts, length-append x.letters x.rest) in
            let d : drop p.0 bytes ≡ x.rest = ap (λ m. drop m bytes) x.len ∙ (ap (drop (length x.letters)) x.parts ∙ drop_front x.letters x.rest) in
            let k : run p.0 bytes ≡ longer p.0 [] (run 0 x.rest) = skips p.0 bytes (omega (arith, x.len)) ∙ ap (λ v. longer p.0 [] (run 0 v)) d in
            by_run (92 ∷ bytes) (92 ∷ (x.letters ++ r.text)) r.rest (p.1 ++ (run 0 x.rest).bytes) (1 + (p.0 + (run 0 x.rest).len)) (run 0 x.rest).stop
            (ap (λ v. 92 ∷ v) (x.parts ∙ (ap (λ v. x.letters ++ v) r.parts ∙ sym (append_assoc x.letters r.text r.rest))))
            (escape x.is r.says)
            (slash_run bytes ∙ (ap (λ o. escaped o (run (skipped_by o) bytes)) f ∙ ap (longer 1 p.1) k))
            (omega (arith, x.len, r.len, length-append x.letters r.text))
            r.stops

pub run_found : (xs : List ℕ) → RunFound xs
run_found xs = run_found_by (length xs) xs (omega arith)

-- atoms
pub begins_is : (bytes : List ℕ) → begins_text bytes ≡ first_is (λ b. b == 34) bytes
begins_is [] = refl
begins_is (b ∷ bytes) = refl

quoted_answers : (text : List ℕ) → RunFound text → Answers (58 ∷ 34 ∷ text) (quoted_by (run 0 text) (run 0 text).stop)
quoted_answers text r = of (run 0 text).stop r.stops
  where
    all : List ℕ
    all = 58 ∷ 34 ∷ text

    of : (s : Stop) → StopsAt s r.rest → Answers (58 ∷ 34 ∷ text) (quoted_by (run 0 text) s)
    of Quote k =
        let y = 58 ∷ 34 ∷ (r.text ++ 34 ∷ []) in
        let p : 58 ∷ 34 ∷ text ≡ y ++ k.0 = ap (λ v. 58 ∷ 34 ∷ v) (r.parts ∙ (ap (λ v. r.text ++ v) k.1 ∙ sym (append_assoc r.text (34 ∷ []) k.0))) in
        let l : length y ≡ 2 + ((run 0 text).len + 1) = omega (arith, r.len, length-append r.text (34 ∷ [])) in
        subst (Stood (58 ∷ 34 ∷ text) (Whole (Atom (run 0 text).bytes))) l (name_text (58 ∷ 34 ∷ text) (Whole (Atom (run 0 text).bytes)) p (omega arith) (L.atom_text (subst (λ v. Says r.text v (run 0 text).bytes) k.1 r.says))
        (λ u. subst (λ v. IsCharBoundary v (length y)) (sym p) (ends_ascii (58 ∷ 34 ∷ r.text) k.0 34 (lit< tt) (subst IsUtf8 p u))))
    of Hole k = λ at. at_zero at (subst (λ v. Refused at (58 ∷ 34 ∷ v) at BadChar) (sym (r.parts ∙ ap (λ v. r.text ++ v) k.1)) (atom_hole (subst (λ v. Says r.text v (run 0 text).bytes) k.1 r.says)))
    of End k = λ at. subst (λ v. Refused at (58 ∷ 34 ∷ v) (at + 1) OpenText) (sym r.parts) (atom_breaks r.says (subst (λ v. BreaksOff v OpenText) (sym k) open_text))
    of Escape k = λ at. subst (λ v. Refused at (58 ∷ 34 ∷ v) (at + 1) BadEscape) (sym r.parts) (atom_breaks r.says (subst (λ v. BreaksOff v BadEscape) (sym k.1) (bad_escape k.2)))

stood_after : (all x : List ℕ) (n : ℕ) (p : Piece) (rest : List ℕ) → all ≡ x ++ rest → Stands (58 ∷ x) p rest → n ≡ length x → (IsUtf8 all → IsCharBoundary all (length x)) → Stood (58 ∷ all) p (1 + n)
stood_after all x n p rest e s l b =
    let k : length (58 ∷ x) ≡ 1 + n = omega (arith, l) in
    let f : 1 + length x ≡ length (58 ∷ x) = omega arith in
    subst (Stood (58 ∷ all) p) k (name_text (58 ∷ all) p (ap (λ v. 58 ∷ v) e) (omega arith) s (λ u. subst (IsCharBoundary (58 ∷ all)) f (boundary_after 58 all (length x) (b (utf8_after 58 all (lit< tt) u)))))

atom_answers : (bytes : List ℕ) → IsUtf8 bytes → Answers (58 ∷ bytes) (atom_by bytes)
atom_answers bytes u =
    chosen (first_is (λ b. b == 34) bytes) (λ e. subst (Answers (58 ∷ bytes)) (sym (if_true _ _ _ e)) (quote bytes e)) (λ e.
    subst (Answers (58 ∷ bytes)) (sym (if_false _ _ _ e)) (chosen (first_is is_capital bytes) (λ f. subst (Answers (58 ∷ bytes)) (sym (if_true _ _ _ f)) (capital bytes f)) (λ f.
    subst (Answers (58 ∷ bytes)) (sym (if_false _ _ _ f)) (chosen (first_is begins_name (chars bytes)) (λ g. subst (Answers (58 ∷ bytes)) (sym (if_true _ _ _ g)) (named (name_stood bytes u g))) (λ g.
    subst (Answers (58 ∷ bytes)) (sym (if_false _ _ _ g)) (λ at. bad 58 bytes (if_false _ _ _ e ∙ (if_false _ _ _ f ∙ if_false _ _ _ g)) refl refl (begins_is bytes ∙ e) at))))))
  where
    quote : (bytes : List ℕ) → first_is (λ b. b == 34) bytes ≡ true → Answers (58 ∷ bytes) (quoted_by (run 0 (after_first bytes)) (run 0 (after_first bytes)).stop)
    quote [] e = cc
    quote (b ∷ text) e = subst (λ v. Answers (58 ∷ v ∷ text) (quoted_by (run 0 text) (run 0 text).stop)) (sym (same b 34 e)) (quoted_answers text (run_found text))

    capital : (bytes : List ℕ) → first_is is_capital bytes ≡ true → Stood (58 ∷ bytes) (Whole (Atom (take (prefix_len is_alias_byte bytes) bytes))) (1 + prefix_len is_alias_byte bytes)
    capital [] e = cc
    capital (b ∷ more) e =
        let a = alias_at b more e in
        subst (λ v. Stood (58 ∷ b ∷ more) (Whole (Atom v)) (1 + prefix_len is_alias_byte (b ∷ more))) (sym a.taken)
        (stood_after (b ∷ more) a.x (prefix_len is_alias_byte (b ∷ more)) (Whole (Atom a.x)) a.rest a.parts (L.atom_alias a.is) a.len (λ v. subst (λ w. IsCharBoundary w (length a.x)) (sym a.parts) (ascii_boundary a.x a.rest a.some a.ascii (subst IsUtf8 a.parts v))))

    named : NameStood bytes → Stood (58 ∷ bytes) (Whole (Atom (take (name_len bytes) bytes))) (1 + name_len bytes)
    named s =
        let t : take (name_len bytes) bytes ≡ s.x = ap (λ n. take n bytes) s.len ∙ (ap (take (length s.x)) s.parts ∙ take_front s.x s.rest) in
        subst (λ v. Stood (58 ∷ bytes) (Whole (Atom v)) (1 + name_len bytes)) (sym t) (stood_after bytes s.x (name_len bytes) (Whole (Atom s.x)) s.rest s.parts (L.atom_name s.name) s.len (λ v. subst (IsCharBoundary bytes) s.len (name_boundary bytes v)))

-- what stands at a front that no `"` begins
one_byte : (k : ℕ) (bytes : List ℕ) (p : Piece) → k < 128 → Stands (k ∷ []) p bytes → Stood (k ∷ bytes) p 1
one_byte k bytes p lt s = name_text (k ∷ bytes) p refl (omega arith) s (λ u. ends_ascii [] bytes k lt u)

comment_answers : (bytes : List ℕ) → Answers (35 ∷ bytes) (Takes Comment (prefix_len is_in_line (35 ∷ bytes)))
comment_answers bytes =
    let n = prefix_len is_in_line bytes in
    let x = 35 ∷ take n bytes in
    let w = prefix_len-le-length is_in_line bytes in
    let e : length x ≡ 1 + n = omega (arith, length_take n bytes w) in
    let p : 35 ∷ bytes ≡ x ++ drop n bytes = ap (λ v. 35 ∷ v) (sym (take_drop n bytes)) in
    subst (Stood (35 ∷ bytes) Comment) e (name_text (35 ∷ bytes) Comment p (omega arith) (L.comment (prefix_all is_in_line bytes) (after_prefix is_in_line bytes)) (λ u. subst (λ v. IsCharBoundary v (length x)) (sym p) (line_edge x (drop n bytes) (after_prefix is_in_line bytes))))
  where
    feed_is : (c : ℕ) → is_in_line c ≡ false → c ≡ 10
    feed_is c h = grind (arith, nat_tests)

    line_edge : (xs rest : List ℕ) → NotFirst is_in_line rest → IsCharBoundary (xs ++ rest) (length xs)
    line_edge xs rest n = (omega (arith, length-append xs rest), λ h k. absurd (of rest n h k))
      where
        seam : (xs : List ℕ) (c : ℕ) (more : List ℕ) → get_or (xs ++ c ∷ more) (length xs) 0 ≡ c
        seam [] c more = refl
        seam (x ∷ xs) c more = seam xs c more

        of : (rest : List ℕ) → NotFirst is_in_line rest → length xs < length (xs ++ rest) → 128 ≤ get_or (xs ++ rest) (length xs) 0 → ⊥
        of [] n h k = omega (arith, length-append xs [])
        of (c ∷ more) n h k = let e = seam xs c more in let f = feed_is c n in omega arith

return_answers : (bytes : List ℕ) → Answers (13 ∷ bytes) (return_by bytes)
return_answers [] = λ at. bad 13 [] refl refl refl refl at
return_answers (c ∷ bytes) = chosen (c == 10)
    (λ e. subst (λ v. Answers (13 ∷ v ∷ bytes) (return_by (v ∷ bytes))) (sym (same c 10 e)) (name_text (13 ∷ 10 ∷ bytes) Newline refl (omega arith) (L.newline L.return_feed) (λ u. ends_ascii (13 ∷ []) bytes 10 (lit< tt) u)))
    (λ e. subst (Answers (13 ∷ c ∷ bytes)) (sym (if_false _ _ _ e)) (λ at. bad 13 (c ∷ bytes) (if_false _ _ _ e) refl refl refl at))

other_answers : (b : ℕ) (bytes : List ℕ) → front (b ∷ bytes) ≡ signed_by (sign_in signs (b ∷ bytes)) → is_digit b ≡ false → (b == 34) ≡ false → (b == 58) ≡ false → (o : Option (List ℕ × Sign)) → sign_in signs (b ∷ bytes) ≡ o → Answers (b ∷ bytes) (signed_by o)
other_answers b bytes e d q c None h = λ at. bad b bytes (e ∙ ap signed_by h) d q (quoted_is b bytes c) at
other_answers b bytes e d q c (Some r) h = sign_stood (b ∷ bytes) r.0 r.1 h

pub front_found : (b : ℕ) (bytes : List ℕ) → IsUtf8 (b ∷ bytes) → (b == 34) ≡ false → Answers (b ∷ bytes) (front (b ∷ bytes))
front_found b bytes u q =
    chosen (b == 32) (λ e. at 32 (same b 32 e) (one_byte 32 bytes Blank (lit< tt) L.space)) (λ e32.
    chosen (b == 9) (λ e. at 9 (same b 9 e) (one_byte 9 bytes Blank (lit< tt) L.tab)) (λ e9.
    chosen (b == 35) (λ e. at 35 (same b 35 e) (comment_answers bytes)) (λ e35.
    chosen (b == 10) (λ e. at 10 (same b 10 e) (one_byte 10 bytes Newline (lit< tt) (L.newline L.feed))) (λ e10.
    chosen (b == 13) (λ e. at 13 (same b 13 e) (return_answers bytes)) (λ e13.
    chosen (b == 59) (λ e. at 59 (same b 59 e) (one_byte 59 bytes Semicolon (lit< tt) L.semicolon)) (λ e59.
    chosen (b == 58) (λ e. at 58 (same b 58 e) (atom_answers bytes (utf8_after 58 bytes (lit< tt) (subst (λ v. IsUtf8 (v ∷ bytes)) (same b 58 e) u)))) (λ e58.
    chosen (is_digit b) (λ e. by C.Digit (digit_class b _ e) (number_answers (b ∷ bytes) (digits_found b bytes e))) (λ ed.
    chosen (is_capital b) (λ e. by C.Capital (capital_class b _ e) (alias_answers (b ∷ bytes) (alias_at b bytes e))) (λ ec.
    chosen (first_is begins_name (chars (b ∷ bytes))) (λ e. by C.Name (rw (e32, e9, e35, e10, e13, e59, e58, ed, ec, e) refl) (name_answers (b ∷ bytes) u (name_stood (b ∷ bytes) u e))) (λ en.
    let k : class_of b (first_is begins_name (chars (b ∷ bytes))) ≡ C.Other = rw (e32, e9, e35, e10, e13, e59, e58, ed, ec, en) refl in
    by C.Other k (other_answers b bytes (ap (λ c. front_by c (b ∷ bytes) bytes) k) ed q e58 (sign_in signs (b ∷ bytes)) refl)))))))))))
  where
    at : (k : ℕ) → b ≡ k → Answers (k ∷ bytes) (front (k ∷ bytes)) → Answers (b ∷ bytes) (front (b ∷ bytes))
    at k e a = subst (λ v. Answers (v ∷ bytes) (front (v ∷ bytes))) (sym e) a

    by : (c : Class) → class_of b (first_is begins_name (chars (b ∷ bytes))) ≡ c → Answers (b ∷ bytes) (front_by c (b ∷ bytes) bytes) → Answers (b ∷ bytes) (front (b ∷ bytes))
    by c e a = subst (λ v. Answers (b ∷ bytes) (front_by v (b ∷ bytes) bytes)) (sym e) a
