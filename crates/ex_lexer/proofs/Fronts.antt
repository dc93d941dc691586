-- What is written at a front is found there.
use Rattle.std.proofs.Common.{◌≡◌, ℕ, ◌+◌, ◌<◌, ◌≤◌, ◌^◌, ◌==◌, ◌&&◌, ◌||◌, nat_lt, nat_le, Bool, true, false, not, if◌then◌else◌, List, [], ◌∷◌, ◌++◌, length, take, drop, Option, Some, None, refl, sym, ap, ◌∙◌, arith, subst, append_assoc, length-append, lit<}
use Rattle.std.proofs.lemmas.Bool.Decides.{nat_tests}
use Rattle.std.proofs.lemmas.List.{append-nil}
use Rattle.std.proofs.lemmas.Str.{char_from_byte, chars-append, chars-encodes, length-encode, len_utf8_bounds}
use Rattle.std.proofs.Math.Utf8.{scalars}
use Rattle.std.specs.Char.{encode_utf8, is_ascii_alphabetic}
use Rattle.std.specs.List.{prefix_len, list_all}
use Rattle.std.specs.Str.{chars, encode_utf8_all}
use Rattle.std.specs.Str.Parse.{digits_value}
use Rattle.unicode_ident.specs.Ident.{is_xid_start}
use Rattle.unicode_ident.proofs.IdentLemmas.{is_xid_start-ascii, is_xid_continue-ascii, is_xid_start-is_xid_continue}
use Rattle.ex_grammar.specs.declared.token.Sign.{Sign}
use Rattle.ex_grammar.specs.Tokens.{Alias, Key, Atom, Mark, signs}
use Rattle.ex_grammar.specs.Texts.{escapes, escape_in, IsEscape, short, coded, first_is, Says, nothing, plain, escape}
use Rattle.ex_grammar.specs.Names.{is_digit, is_capital, is_alias_byte, is_letter, begins_name, is_in_name, is_mark, NotFirst, mark_follows, IsName, bare, marked, alias, Digits, one, more, spaced, NumberEnds, digit_second}
use Rattle.ex_grammar.specs.Lexing as L
use Rattle.ex_grammar.specs.Lexing.{Piece, Blank, Comment, Newline, Semicolon, Whole, is_in_line, begins_with, sign_in, IsNewline, IsKeyBlank, key_space, key_tab, key_newline, blank_follows, key_follows, Stands}
use Rattle.ex_lexer.specs.declared.texts.Stop.TheVariants.{Quote, Hole}
use Rattle.ex_lexer.specs.declared.front.Class.TheVariants as C
use Rattle.ex_lexer.specs.Runs.{stopped, longer, run, escape_at, skipped_by, escaped, digits_at, another, word_len, word_len_of, name_len, marked_len}
use Rattle.ex_lexer.specs.Front.{Takes, class_of, front, front_by, number_by, digit_by, named_by, key_or_word, word_by, key_len, blank_len, atom_by, quoted_by, signed_by, fitting}
use Rattle.ex_lexer.proofs.Bools.{and_left, and_right, not_both, not_true, same, small, less, chosen, if_true, if_false}
use Rattle.ex_lexer.proofs.Bytes.{take_front, drop_front, not_first, passes_whole}
use Rattle.ex_lexer.proofs.TextRuns.{skips, longer_twice}
use Rattle.ex_lexer.proofs.NameRuns.{word_len_stop}

-- bytes that differ
pub ne : (p : ℕ → Bool) (b k : ℕ) → p b ≡ true → p k ≡ false → (b == k) ≡ false
ne p b k h g = chosen (b == k) (λ e. absurd (not_both (p k) (ap p (sym (same b k e)) ∙ h) g)) (λ e. e)

-- a letter of ASCII, a digit, `_`, or a byte of another character
abbrev pub is_word : ℕ → Bool
is_word b = is_alias_byte b || nat_le 128 b

-- no sign begins so
pub no_sign : (b : ℕ) (bytes : List ℕ) → is_word b ≡ true → sign_in signs (b ∷ bytes) ≡ None
no_sign b bytes h =
    rw (
      ne is_word b 61 h refl,
      ne is_word b 33 h refl,
      ne is_word b 43 h refl,
      ne is_word b 60 h refl,
      ne is_word b 124 h refl,
      ne is_word b 62 h refl,
      ne is_word b 38 h refl,
      ne is_word b 45 h refl,
      ne is_word b 42 h refl,
      ne is_word b 94 h refl,
      ne is_word b 44 h refl,
      ne is_word b 40 h refl,
      ne is_word b 41 h refl,
      ne is_word b 91 h refl,
      ne is_word b 93 h refl,
      ne is_word b 123 h refl,
      ne is_word b 125 h refl,
      ne is_word b 46 h refl,
    ) refl

-- the first character of bytes that begin with one of ASCII
pub chars_ascii : (b : ℕ) (bytes : List ℕ) → b < 128 → chars (b ∷ bytes) ≡ b ∷ chars bytes
unfolding chars
chars_ascii b [] lt = rw (small b 128 lt) refl
chars_ascii b (c ∷ bytes) lt = rw (small b 128 lt) refl

pub not_small : (b : ℕ) → nat_lt b 128 ≡ false → nat_le 128 b ≡ true
not_small b h = grind (arith, nat_tests)

alphabetic_word : (b : ℕ) → is_ascii_alphabetic b ≡ true → is_word b ≡ true
alphabetic_word b h = grind (arith, nat_tests)

-- what begins a name of ASCII
pub name_ascii : (b : ℕ) → b < 128 → begins_name b ≡ true → is_word b ≡ true
name_ascii b lt h = chosen (b == 95) (λ e. rw (same b 95 e) refl) (λ e. alphabetic_word b (sym (is_xid_start-ascii b lt) ∙ of e (and_left (is_letter b) _ h)))
  where
    of : (b == 95) ≡ false → is_letter b ≡ true → is_xid_start b ≡ true
    of e k = (rw e at k)

-- a name begins
pub name_word : (b : ℕ) (bytes : List ℕ) → first_is begins_name (chars (b ∷ bytes)) ≡ true → is_word b ≡ true
name_word b bytes h = chosen (nat_lt b 128) (λ e. name_ascii b (less b 128 e) (sym (ap (first_is begins_name) (chars_ascii b bytes (less b 128 e))) ∙ h)) (λ e. high (is_alias_byte b) (not_small b e))
  where
    high : (t : Bool) → nat_le 128 b ≡ true → (t || nat_le 128 b) ≡ true
    high true k = refl
    high false k = k

digit_word : (b : ℕ) → is_digit b ≡ true → is_word b ≡ true
digit_word b h = grind (arith, nat_tests)

capital_word : (b : ℕ) → is_capital b ≡ true → is_word b ≡ true
capital_word b h = grind (arith, nat_tests)

-- a sign begins with what begins nothing else
pub sign_class : (b : ℕ) (bytes : List ℕ) (r : List ℕ × Sign) → sign_in signs (b ∷ bytes) ≡ Some r → class_of b (first_is begins_name (chars (b ∷ bytes))) ≡ C.Other
sign_class b bytes r h =
    chosen (b == 32) (λ e. literal 32 (same b 32 e) refl) (λ e32. chosen (b == 9) (λ e. literal 9 (same b 9 e) refl) (λ e9.
    chosen (b == 35) (λ e. literal 35 (same b 35 e) refl) (λ e35. chosen (b == 10) (λ e. literal 10 (same b 10 e) refl) (λ e10.
    chosen (b == 13) (λ e. literal 13 (same b 13 e) refl) (λ e13. chosen (b == 59) (λ e. literal 59 (same b 59 e) refl) (λ e59.
    chosen (b == 58) (λ e. literal 58 (same b 58 e) refl) (λ e58. chosen (is_digit b) (λ e. worded (digit_word b e)) (λ ed.
    chosen (is_capital b) (λ e. worded (capital_word b e)) (λ ec. chosen (first_is begins_name (chars (b ∷ bytes))) (λ e. worded (name_word b bytes e)) (λ en.
    rw (e32, e9, e35, e10, e13, e59, e58, ed, ec, en) refl))))))))))
  where
    some : Option (List ℕ × Sign) → Bool
    some None = false
    some (Some p) = true

    none : sign_in signs (b ∷ bytes) ≡ None → ⊥
    none k = not_both (some (sign_in signs (b ∷ bytes))) (ap some h) (ap some k)

    literal : {A : Type 0} (k : ℕ) → b ≡ k → sign_in signs (k ∷ bytes) ≡ None → A
    literal k e f = absurd (none (ap (λ c. sign_in signs (c ∷ bytes)) e ∙ f))

    worded : {A : Type 0} → is_word b ≡ true → A
    worded w = absurd (none (no_sign b bytes w))

-- the bytes of a class
pub digit_class : (b : ℕ) (name : Bool) → is_digit b ≡ true → class_of b name ≡ C.Digit
digit_class b name h = rw (ne is_digit b 32 h refl, ne is_digit b 9 h refl, ne is_digit b 35 h refl, ne is_digit b 10 h refl, ne is_digit b 13 h refl, ne is_digit b 59 h refl, ne is_digit b 58 h refl, h) refl

capital_no_digit : (b : ℕ) → is_capital b ≡ true → is_digit b ≡ false
capital_no_digit b h = grind (arith, nat_tests)

pub capital_class : (b : ℕ) (name : Bool) → is_capital b ≡ true → class_of b name ≡ C.Capital
capital_class b name h = rw (ne is_capital b 32 h refl, ne is_capital b 9 h refl, ne is_capital b 35 h refl, ne is_capital b 10 h refl, ne is_capital b 13 h refl, ne is_capital b 59 h refl, ne is_capital b 58 h refl, capital_no_digit b h, h) refl

pub name_class : (b : ℕ) → is_word b ≡ true → is_digit b ≡ false → is_capital b ≡ false → class_of b true ≡ C.Name
name_class b h d k = rw (ne is_word b 32 h refl, ne is_word b 9 h refl, ne is_word b 35 h refl, ne is_word b 10 h refl, ne is_word b 13 h refl, ne is_word b 59 h refl, ne is_word b 58 h refl, d, k) refl

-- the first byte of a name
pub record NameByte (b : ℕ) : Type 0 where
  pub word : is_word b ≡ true
  pub no_digit : is_digit b ≡ false
  pub no_capital : is_capital b ≡ false

alphabetic_no_digit : (b : ℕ) → is_ascii_alphabetic b ≡ true → is_digit b ≡ false
alphabetic_no_digit b h = grind (arith, nat_tests)

high_no_digit : (b : ℕ) → nat_le 128 b ≡ true → is_digit b ≡ false
high_no_digit b h = grind (arith, nat_tests)

high_no_capital : (b : ℕ) → nat_le 128 b ≡ true → is_capital b ≡ false
high_no_capital b h = grind (arith, nat_tests)

high_word : (b : ℕ) → nat_le 128 b ≡ true → is_word b ≡ true
high_word b h = of (is_alias_byte b)
  where
    of : (t : Bool) → (t || nat_le 128 b) ≡ true
    of true = refl
    of false = h

not_is : (t : Bool) → not t ≡ true → t ≡ false
not_is true h = cc
not_is false h = refl

pub name_byte : (c b : ℕ) (rest bytes : List ℕ) → begins_name c ≡ true → b ∷ bytes ≡ encode_utf8 c ++ rest → NameByte b
name_byte c b rest bytes h e = chosen (nat_lt b 128) low (λ k. let hi = not_small b k in record { word = high_word b hi; no_digit = high_no_digit b hi; no_capital = high_no_capital b hi })
  where
    low : nat_lt b 128 ≡ true → NameByte b
    low k =
        let lt = less b 128 k in
        let is : c ≡ b = char_from_byte (b ∷ bytes) rest c e lt (omega arith) in
        let g : begins_name b ≡ true = ap begins_name (sym is) ∙ h in
        record { word = name_ascii b lt g; no_digit = digit lt g; no_capital = not_is (is_capital b) (and_right (is_letter b) _ g) }
      where
        digit : b < 128 → begins_name b ≡ true → is_digit b ≡ false
        digit lt g = chosen (b == 95) (λ e. rw (same b 95 e) refl) (λ e. alphabetic_no_digit b (sym (is_xid_start-ascii b lt) ∙ of e (and_left (is_letter b) _ g)))
          where
            of : (b == 95) ≡ false → is_letter b ≡ true → is_xid_start b ≡ true
            of e k = (rw e at k)

-- what begins a name may stand in one
pub begins_in : (c : ℕ) → begins_name c ≡ true → is_in_name c ≡ true
begins_in c h = chosen (c == 95) (λ e. ap is_in_name (same c 95 e) ∙ is_xid_continue-ascii 95 (lit< tt)) (λ e. is_xid_start-is_xid_continue c (of e (and_left (is_letter c) _ h)))
  where
    of : (c == 95) ≡ false → is_letter c ≡ true → is_xid_start c ≡ true
    of e k = (rw e at k)

-- a name is found with its length
pub record NameFound (x rest : List ℕ) : Type 0 where
  pub first : first_is begins_name (chars (x ++ rest)) ≡ true
  pub len : name_len (x ++ rest) ≡ length x
  pub byte : ℕ
  pub bytes : List ℕ
  pub is : x ≡ byte ∷ bytes
  pub good : NameByte byte

encoded_chars : (cs rest : List ℕ) → scalars cs ≡ true → chars (encode_utf8_all cs ++ rest) ≡ cs ++ chars rest
encoded_chars cs rest h = chars-append (encode_utf8_all cs) rest (cs, (h, refl)) ∙ ap (λ w. w ++ chars rest) (chars-encodes cs h)

mark_no_name : (m : ℕ) → is_mark m ≡ true → is_in_name m ≡ false
mark_no_name m h = chosen (m == 33) (λ e. ap is_in_name (same m 33 e) ∙ is_xid_continue-ascii 33 (lit< tt)) (λ e. chosen (m == 63) (λ f. ap is_in_name (same m 63 f) ∙ is_xid_continue-ascii 63 (lit< tt)) (λ f. absurd (let k : false ≡ true = rw (e, f) at h in cc)))

mark_small : (m : ℕ) → is_mark m ≡ true → m < 128
mark_small m h = grind (arith, nat_tests)

nonempty : (xs : List ℕ) → (xs ≡ [] → ⊥) → (b : ℕ) × (bytes : List ℕ) × (xs ≡ b ∷ bytes)
nonempty [] h = absurd (h refl)
nonempty (b ∷ bytes) h = (b, bytes, refl)

-- the first byte of a character
first_byte : (c : ℕ) (rest : List ℕ) → (b : ℕ) × (bytes : List ℕ) × (encode_utf8 c ++ rest ≡ b ∷ bytes)
first_byte c rest = nonempty (encode_utf8 c ++ rest) (λ e. let k = length-encode c in let l = len_utf8_bounds c in omega (arith, ap length e, length-append (encode_utf8 c) rest, k, l.0))

marked_none : (n : ℕ) (rest : List ℕ) → mark_follows rest ≡ false → marked_len n rest ≡ n
marked_none n rest h = rw h refl

name_len_by : (all rest : List ℕ) (n k : ℕ) → word_len all ≡ n → drop n all ≡ rest → marked_len n rest ≡ k → name_len all ≡ k
name_len_by all rest n k e f g = ap (λ m. marked_len m (drop m all)) e ∙ (ap (marked_len n) f ∙ g)

pub found_name : {x rest : List ℕ} → IsName x rest → NameFound x rest
found_name (bare c cs {rest} good b all stop m) =
    let x = encode_utf8_all (c ∷ cs) in
    let e : chars (x ++ rest) ≡ (c ∷ cs) ++ chars rest = encoded_chars (c ∷ cs) rest good in
    let f = first_byte c (encode_utf8_all cs) in
    let n : word_len (x ++ rest) ≡ length x = ap word_len_of e ∙ word_len_stop (c ∷ cs) (chars rest) (rw (begins_in c b, all) refl) stop in
    record {
      first = ap (first_is begins_name) e ∙ b;
      len = name_len_by (x ++ rest) rest (length x) (length x) n (drop_front x rest) (marked_none (length x) rest m);
      byte = f.0;
      bytes = f.1;
      is = f.2;
      good = name_byte c f.0 (encode_utf8_all cs) f.1 b (sym f.2);
    }
found_name (marked c cs m {rest} good b all k stop) =
    let y = encode_utf8_all (c ∷ cs) in
    let a : (y ++ m ∷ []) ++ rest ≡ y ++ m ∷ rest = append_assoc y (m ∷ []) rest in
    let e : chars (y ++ m ∷ rest) ≡ (c ∷ cs) ++ chars (m ∷ rest) = encoded_chars (c ∷ cs) (m ∷ rest) good in
    let f = first_byte c (encode_utf8_all cs ++ m ∷ []) in
    let g : y ++ m ∷ [] ≡ f.0 ∷ f.1 = append_assoc (encode_utf8 c) (encode_utf8_all cs) (m ∷ []) ∙ f.2 in
    let s : NotFirst is_in_name (chars (m ∷ rest)) = subst (NotFirst is_in_name) (sym (chars_ascii m rest (mark_small m k))) (mark_no_name m k) in
    let n : word_len (y ++ m ∷ rest) ≡ length y = ap word_len_of e ∙ word_len_stop (c ∷ cs) (chars (m ∷ rest)) (rw (begins_in c b, all) refl) s in
    let l : length y + 1 ≡ length (y ++ m ∷ []) = omega (arith, length-append y (m ∷ [])) in
    record {
      first = ap (λ w. first_is begins_name (chars w)) a ∙ (ap (first_is begins_name) e ∙ b);
      len = ap name_len a ∙ name_len_by (y ++ m ∷ rest) (m ∷ rest) (length y) (length (y ++ m ∷ [])) n (drop_front y (m ∷ rest)) (rw (k, not_first (λ b. b == 61) rest stop) l);
      byte = f.0;
      bytes = f.1;
      is = g;
      good = name_byte c f.0 (encode_utf8_all cs ++ m ∷ []) f.1 b (sym f.2);
    }

-- the name at a front
pub name_front : {x rest : List ℕ} → IsName x rest → front (x ++ rest) ≡ named_by x rest (length x)
name_front {x} {rest} h = of x (found_name h)
  where
    of : (x : List ℕ) → NameFound x rest → front (x ++ rest) ≡ named_by x rest (length x)
    of x f = subst (λ w. NameFound w rest → front (w ++ rest) ≡ named_by w rest (length w)) (sym f.is) at f
      where
        at : NameFound (f.byte ∷ f.bytes) rest → front ((f.byte ∷ f.bytes) ++ rest) ≡ named_by (f.byte ∷ f.bytes) rest (length (f.byte ∷ f.bytes))
        at g =
            let all = (f.byte ∷ f.bytes) ++ rest in
            let k : class_of f.byte (first_is begins_name (chars all)) ≡ C.Name = ap (class_of f.byte) g.first ∙ name_class f.byte f.good.word f.good.no_digit f.good.no_capital in
            ap (λ c. front_by c all (f.bytes ++ rest)) k ∙ (
            ap (λ n. named_by (take n all) (drop n all) n) g.len
            ∙ (ap (λ w. named_by w (drop (length (f.byte ∷ f.bytes)) all) (length (f.byte ∷ f.bytes))) (take_front (f.byte ∷ f.bytes) rest) ∙ ap (λ w. named_by (f.byte ∷ f.bytes) w (length (f.byte ∷ f.bytes))) (drop_front (f.byte ∷ f.bytes) rest)))

abbrev pub blanked : Bool → Bool → Bool → Bool → Option ℕ
blanked p q r s = if p || (q || r) then Some 2 else (if s then Some 3 else None)

pub key_none : (rest : List ℕ) → key_follows rest ≡ false → key_len rest ≡ None
key_none [] h = refl
key_none (b ∷ rest) h = of (b == 58) h
  where
    blank : (bytes : List ℕ) → blank_follows bytes ≡ false → blank_len bytes ≡ None
    blank [] k = refl
    blank (c ∷ bytes) k = by (c == 32) (c == 9) (c == 10) (c == 13 && first_is (λ d. d == 10) bytes) k
      where
        by : (p q r s : Bool) → (p || (q || (r || s))) ≡ false → blanked p q r s ≡ None
        by true q r s k = cc
        by false true r s k = cc
        by false false true s k = cc
        by false false false true k = cc
        by false false false false k = refl

    of : (t : Bool) → (t && blank_follows rest) ≡ false → (if t then blank_len rest else None) ≡ None
    of false k = refl
    of true k = blank rest k

pub key_some : {blank : List ℕ} (rest : List ℕ) → IsKeyBlank blank → key_len (58 ∷ (blank ++ rest)) ≡ Some (1 + length blank)
key_some rest key_space = refl
key_some rest key_tab = refl
key_some rest (key_newline L.feed) = refl
key_some rest (key_newline L.return_feed) = refl

-- what a text says is read
pub escape_complete : {letters says : List ℕ} (rest : List ℕ) → IsEscape letters says → escape_at (letters ++ rest) ≡ Some (length letters, says)
escape_complete rest (short {b} {c} h) = chosen (b == 117) (λ e. absurd (of (escape_in escapes b) (ap (escape_in escapes) (same b 117 e)) h)) (λ e. rw (e, h) refl)
  where
    of : (o : Option ℕ) → o ≡ None → o ≡ Some c → ⊥
    of None e h = cc
    of (Some d) e h = cc
escape_complete rest (coded {a} {b} {c} {d} h k) = rw (h, k) refl

pub says_run : {text rest bytes : List ℕ} → Says text rest bytes → run 0 (text ++ rest) ≡ longer (length text) bytes (run 0 rest)
unfolding run
says_run {rest} nothing = let e : 0 + (run 0 rest).len ≡ (run 0 rest).len = omega arith in sym (ap (λ n. record { len = n; bytes = (run 0 rest).bytes; stop = (run 0 rest).stop }) e)
says_run (plain {b} {text} {rest} {bytes} h s) =
    let e : 1 + length text ≡ length (b ∷ text) = omega arith in
    if_true _ _ _ h ∙ (ap (longer 1 (b ∷ [])) (says_run s) ∙ (longer_twice 1 (length text) (b ∷ []) bytes (run 0 rest) ∙ ap (λ n. longer n (b ∷ bytes) (run 0 rest)) e))
says_run (escape {letters} {says} {text} {rest} {bytes} h s) =
    let a : (letters ++ text) ++ rest ≡ letters ++ (text ++ rest) = append_assoc letters text rest in
    let e : 1 + (length letters + length text) ≡ length (92 ∷ (letters ++ text)) = omega (arith, length-append letters text) in
    let w : length letters ≤ length (letters ++ (text ++ rest)) = omega (arith, length-append letters (text ++ rest)) in
    ap (λ v. run 0 (92 ∷ v)) a ∙ (ap (λ o. escaped o (run (skipped_by o) (letters ++ (text ++ rest)))) (escape_complete (text ++ rest) h)
    ∙ (ap (longer 1 says) (skips (length letters) (letters ++ (text ++ rest)) w ∙ ap (λ v. longer (length letters) [] (run 0 v)) (drop_front letters (text ++ rest)))
    ∙ (ap (λ r. longer 1 says (longer (length letters) [] r)) (says_run s)
    ∙ (ap (longer 1 says) (longer_twice (length letters) (length text) [] bytes (run 0 rest)) ∙ (longer_twice 1 (length letters + length text) says bytes (run 0 rest) ∙ ap (λ n. longer n (says ++ bytes) (run 0 rest)) e)))))

pub quote_stops : (rest : List ℕ) → run 0 (34 ∷ rest) ≡ stopped Quote
unfolding run
quote_stops rest = refl

pub hole_stops : (rest : List ℕ) → run 0 (35 ∷ 123 ∷ rest) ≡ stopped Hole
unfolding run
hole_stops rest = refl

-- digits are found
no_digit_left : (rest : List ℕ) → first_is is_digit rest ≡ false → digit_second rest ≡ false → digits_at rest ≡ (0, [])
unfolding digits_at
no_digit_left [] h k = refl
no_digit_left (b ∷ rest) h k = if_false _ _ _ h ∙ if_false _ _ _ k

digit_small : (b : ℕ) → is_digit b ≡ true → b < 128
digit_small b h = grind (arith, nat_tests)

starts_digit : {text ds : List ℕ} (rest : List ℕ) → Digits text ds → first_is is_digit (text ++ rest) ≡ true
starts_digit rest (one h) = h
starts_digit rest (more h d) = h
starts_digit rest (spaced h d) = h

another_one : (d n m : ℕ) (ds : List ℕ) → 1 + n ≡ m → another 1 (d ∷ []) (n, ds) ≡ (m, d ∷ ds)
another_one d n m ds e = ap (λ k. (k, d ∷ ds)) e

pub digits_complete : {text ds : List ℕ} (rest : List ℕ) → Digits text ds → digits_at rest ≡ (0, []) → digits_at (text ++ rest) ≡ (length text, ds)
unfolding digits_at
digits_complete rest (one {d} h) k = if_true _ _ _ h ∙ (ap (another 1 (d ∷ [])) k ∙ another_one d 0 1 [] (omega arith))
digits_complete rest (more {d} {text} {ds} h e) k = if_true _ _ _ h ∙ (ap (another 1 (d ∷ [])) (digits_complete rest e k) ∙ another_one d (length text) (length (d ∷ text)) ds (omega arith))
digits_complete rest (spaced {d} {text} {ds} h e) k =
    let f : digits_at (95 ∷ (text ++ rest)) ≡ (1 + length text, ds) = if_true _ _ _ (starts_digit rest e) ∙ ap (another 1 []) (digits_complete rest e k) in
    if_true _ _ _ h ∙ (ap (another 1 (d ∷ [])) f ∙ another_one d (1 + length text) (length (d ∷ 95 ∷ text)) ds (omega arith))

-- the first character is the first byte where that is of ASCII
at_first : (p : ℕ → Bool) (b : ℕ) (bytes : List ℕ) → b < 128 → first_is p (chars (b ∷ bytes)) ≡ p b
at_first p b bytes lt = ap (first_is p) (chars_ascii b bytes lt)

no_first : (p : ℕ → Bool) (b : ℕ) (bytes : List ℕ) → b < 128 → NotFirst p (chars (b ∷ bytes)) → p b ≡ false
no_first p b bytes lt h = subst (NotFirst p) (chars_ascii b bytes lt) h

pub number_ends : (rest : List ℕ) → NumberEnds rest → (first_is is_letter (chars rest) ≡ false) × (digits_at rest ≡ (0, []))
number_ends rest h = (not_first is_letter (chars rest) h.1, no_digit_left rest (not_first is_digit rest h.0) (second rest h.1))
  where
    second : (rest : List ℕ) → NotFirst is_letter (chars rest) → digit_second rest ≡ false
    second [] h = refl
    second (b ∷ bytes) h = chosen (b == 95) (λ e. absurd (under b bytes (same b 95 e) h)) (λ e. rw e refl)
      where
        under : (b : ℕ) (bytes : List ℕ) → b ≡ 95 → NotFirst is_letter (chars (b ∷ bytes)) → ⊥
        under b bytes e h = let k : false ≡ true = sym (no_first is_letter 95 bytes (lit< tt) (subst (λ c. NotFirst is_letter (chars (c ∷ bytes))) e h)) ∙ refl in cc

pub letter_ends : (rest : List ℕ) → first_is is_letter (chars rest) ≡ true → digit_second rest ≡ false → digits_at rest ≡ (0, [])
letter_ends rest h k = no_digit_left rest (digit rest h) k
  where
    xid_digit : (b : ℕ) → is_digit b ≡ true → is_ascii_alphabetic b ≡ false
    xid_digit b h = grind (arith, nat_tests)

    digit_letter : (b : ℕ) → is_digit b ≡ true → is_letter b ≡ false
    digit_letter b h = rw (ne is_digit b 95 h refl) (is_xid_start-ascii b (digit_small b h) ∙ xid_digit b h)

    digit : (rest : List ℕ) → first_is is_letter (chars rest) ≡ true → first_is is_digit rest ≡ false
    digit [] h = refl
    digit (b ∷ bytes) h = not_true (is_digit b) (λ e. not_both (is_letter b) (sym (at_first is_letter b bytes (digit_small b e)) ∙ h) (digit_letter b e))

pub first_digit : {text ds : List ℕ} → Digits text ds → (d : ℕ) × (t : List ℕ) × (text ≡ d ∷ t) × (is_digit d ≡ true)
first_digit (one {d} h) = (d, [], refl, h)
first_digit (more {d} {text} h e) = (d, text, refl, h)
first_digit (spaced {d} {text} h e) = (d, 95 ∷ text, refl, h)

-- the number at a front
pub number_front : {text ds : List ℕ} (rest : List ℕ) → Digits text ds → digits_at rest ≡ (0, []) → front (text ++ rest) ≡ number_by (length text) ds rest
number_front {text} {ds} rest d h =
    let f = first_digit d in
    let k : front (text ++ rest) ≡ digit_by (text ++ rest) = digit_front text f.0 f.1 f.2 f.3 in
    k ∙ (ap (λ p. number_by p.0 p.1 (drop p.0 (text ++ rest))) (digits_complete rest d h) ∙ ap (number_by (length text) ds) (drop_front text rest))
  where
    digit_front : (text : List ℕ) (b : ℕ) (t : List ℕ) → text ≡ b ∷ t → is_digit b ≡ true → front (text ++ rest) ≡ digit_by (text ++ rest)
    digit_front text b t e h = subst (λ w. front (w ++ rest) ≡ digit_by (w ++ rest)) (sym e) (ap (λ c. front_by c ((b ∷ t) ++ rest) (t ++ rest)) (digit_class b (first_is begins_name (chars ((b ∷ t) ++ rest))) h))

pub capital_alias : (b : ℕ) → is_capital b ≡ true → is_alias_byte b ≡ true
capital_alias b h = grind (arith, nat_tests)

alias_whole : (b : ℕ) (bytes rest : List ℕ) → is_capital b ≡ true → list_all is_alias_byte bytes ≡ true → NotFirst is_alias_byte rest → prefix_len is_alias_byte ((b ∷ bytes) ++ rest) ≡ length (b ∷ bytes)
alias_whole b bytes rest h k n = passes_whole is_alias_byte (b ∷ bytes) rest (rw (capital_alias b h, k) refl) n

-- the pieces at a front
pub front_complete : {text rest : List ℕ} {p : Piece} → Stands text p rest → front (text ++ rest) ≡ Takes p (length text)
front_complete L.space = refl
front_complete L.tab = refl
front_complete (L.comment {text} {rest} h n) = ap (Takes Comment) (passes_whole is_in_line (35 ∷ text) rest (rw h refl) n)
front_complete (L.newline L.feed) = refl
front_complete (L.newline L.return_feed) = refl
front_complete L.semicolon = refl
front_complete (L.integer {text} {ds} {rest} d n lt) =
    let e = number_ends rest n in
    number_front rest d e.1 ∙ (if_false _ _ _ e.0 ∙ ap (λ t. fitting t (digits_value 10 ds) (length text)) (small (digits_value 10 ds) (2 ^ 127) lt))
front_complete (L.key {x} {blank} {rest} h b) =
    let a : (x ++ 58 ∷ blank) ++ rest ≡ x ++ 58 ∷ (blank ++ rest) = append_assoc x (58 ∷ blank) rest in
    let l : length x + (1 + length blank) ≡ length (x ++ 58 ∷ blank) = omega (arith, length-append x (58 ∷ blank)) in
    ap front a ∙ (name_front h ∙ (ap (λ o. key_or_word o x (58 ∷ (blank ++ rest)) (length x)) (key_some rest b) ∙ ap (Takes (Whole (Key x))) l))
front_complete (L.word {x} {rest} {k} h f e) = name_front h ∙ (ap (λ o. key_or_word o x rest (length x)) (key_none rest f) ∙ ap (λ o. Takes (Whole (word_by o x (first_is (λ b. b == 40) rest))) (length x)) e)
front_complete (L.called {x} {rest} h e) = name_front h ∙ ap (λ o. Takes (Whole (word_by o x true)) (length x)) e
front_complete (L.name {x} {rest} h f e n) =
    name_front h ∙ (ap (λ o. key_or_word o x rest (length x)) (key_none rest f) ∙ (ap (λ o. Takes (Whole (word_by o x (first_is (λ b. b == 40) rest))) (length x)) e ∙ ap (λ t. Takes (Whole (word_by None x t)) (length x)) (not_first (λ b. b == 40) rest n)))
front_complete (L.alias {rest} (alias {b} {bytes} h k n)) =
    let all = (b ∷ bytes) ++ rest in
    ap (λ c. front_by c all (bytes ++ rest)) (capital_class b (first_is begins_name (chars all)) h)
    ∙ (ap (λ m. Takes (Whole (Alias (take m all))) m) (alias_whole b bytes rest h k n) ∙ ap (λ w. Takes (Whole (Alias w)) (length (b ∷ bytes))) (take_front (b ∷ bytes) rest))
front_complete (L.atom_name {x} {rest} h) = of x (found_name h)
  where
    of : (x : List ℕ) → NameFound x rest → atom_by (x ++ rest) ≡ Takes (Whole (Atom x)) (length (58 ∷ x))
    of x f = subst (λ w. NameFound w rest → atom_by (w ++ rest) ≡ Takes (Whole (Atom w)) (length (58 ∷ w))) (sym f.is) at f
      where
        at : NameFound (f.byte ∷ f.bytes) rest → atom_by ((f.byte ∷ f.bytes) ++ rest) ≡ Takes (Whole (Atom (f.byte ∷ f.bytes))) (length (58 ∷ f.byte ∷ f.bytes))
        at g =
            let y = f.byte ∷ f.bytes in
            let l : 1 + length y ≡ length (58 ∷ y) = omega arith in
            if_false _ _ _ (ne is_word f.byte 34 f.good.word refl) ∙ (if_false _ _ _ f.good.no_capital ∙ (if_true _ _ _ g.first
            ∙ (ap (λ n. Takes (Whole (Atom (take n (y ++ rest)))) (1 + n)) g.len ∙ (ap (λ w. Takes (Whole (Atom w)) (1 + length y)) (take_front y rest) ∙ ap (Takes (Whole (Atom y))) l))))
front_complete (L.atom_alias {rest} (alias {b} {bytes} h k n)) =
    let y = b ∷ bytes in
    let l : 1 + length y ≡ length (58 ∷ y) = omega arith in
    if_false _ _ _ (ne is_capital b 34 h refl) ∙ (if_true _ _ _ h ∙ (ap (λ m. Takes (Whole (Atom (take m (y ++ rest)))) (1 + m)) (alias_whole b bytes rest h k n) ∙ (ap (λ w. Takes (Whole (Atom w)) (1 + length y)) (take_front y rest) ∙ ap (Takes (Whole (Atom y))) l)))
front_complete (L.atom_text {text} {bytes} {rest} s) =
    let a : (text ++ 34 ∷ []) ++ rest ≡ text ++ 34 ∷ rest = append_assoc text (34 ∷ []) rest in
    let l : 2 + ((length text + 0) + 1) ≡ length (58 ∷ 34 ∷ (text ++ 34 ∷ [])) = omega (arith, length-append text (34 ∷ [])) in
    ap (λ w. quoted_by (run 0 w) (run 0 w).stop) a ∙ (ap (λ r. quoted_by r r.stop) (says_run s ∙ ap (longer (length text) bytes) (quote_stops rest)) ∙ (ap (λ w. Takes (Whole (Atom w)) (2 + ((length text + 0) + 1))) (append-nil bytes) ∙ ap (Takes (Whole (Atom bytes))) l))
front_complete (L.sign {text} {rest} {s} h) = of (text ++ rest) h
  where
    of : (all : List ℕ) → sign_in signs all ≡ Some (text, s) → front all ≡ Takes (Whole (Mark s)) (length text)
    of [] h = cc
    of (b ∷ bytes) h = ap (λ c. front_by c (b ∷ bytes) bytes) (sign_class b bytes (text, s) h) ∙ ap signed_by h
