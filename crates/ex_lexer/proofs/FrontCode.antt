-- What the code finds at a front.
use Rattle.std.proofs.Common.{◌≡◌, ℕ, zero, suc, ◌+◌, ◌<◌, ◌≤◌, ◌^◌, ◌==◌, ◌&&◌, nat_lt, Bool, true, false, List, [], ◌∷◌, ◌++◌, length, take, drop, Option, Some, None, refl, sym, ap, ◌∙◌, arith, subst, length-append, pos, get_or, ◌||◌, if◌then◌else◌, lit<}
use Rattle.std.proofs.lemmas.Str.{IsCharBoundary-start, IsCharBoundary-after_ascii}
use Rattle.std.proofs.lemmas.List.Sums.{prefix_len-le-length}
use Rattle.std.specs.List.{prefix_len, list_all}
use Rattle.std.specs.Str.{chars, IsUtf8, IsCharBoundary}
use Rattle.std.specs.Str.Parse.{digits_value}
use Rattle.ex_grammar.specs.declared.token.Sign.{Sign}
use Rattle.ex_grammar.specs.declared.token.Keyword.{Keyword}
use Rattle.ex_grammar.specs.declared.token.TokenKind.{TokenKind}
use Rattle.ex_grammar.specs.declared.token.TokenKind.TheVariants as T
use Rattle.ex_grammar.specs.declared.token.LexErrorKind.TheVariants.{BadChar, BadNumber, TooWide, BadEscape, OpenText}
use Rattle.ex_grammar.specs.Tokens.{Number, Alias, Key, Atom, keyword_of}
use Rattle.ex_grammar.specs.Texts.{first_is}
use Rattle.ex_grammar.specs.Names.{is_digit, is_letter, is_alias_byte, is_capital, begins_name}
use Rattle.ex_grammar.specs.Lexing as L
use Rattle.ex_grammar.specs.Lexing.{Whole, sign_in, is_in_line}
use Rattle.ex_grammar.specs.Coded.{IsToken, is_integer, is_name, is_called, is_alias, is_key, is_atom, is_word, is_sign}
use Rattle.ex_lexer.specs.declared.front.Class.{Class}
use Rattle.ex_lexer.specs.declared.front.Class.TheVariants as C
use Rattle.ex_lexer.specs.declared.front.Part.TheVariants as P
use Rattle.ex_lexer.specs.declared.front.Front.{Front as CodeFront}
use Rattle.ex_lexer.specs.declared.front.Front.TheVariants as F
use Rattle.ex_lexer.specs.declared.texts.Stop.{Stop}
use Rattle.ex_lexer.specs.declared.texts.Stop.TheVariants as S
use Rattle.ex_lexer.specs.Runs.{Run, run, digits_at, another, Counts}
use Rattle.ex_lexer.specs.Front.{Takes, return_by, digit_by, alias_by, named_by, key_or_word, key_len, word_by, quoted_by, signed_by, sign_len, fitting, atom_by, class_of, front, front_by}
use Rattle.ex_lexer.specs.Parts.{is_blank, is_comment, is_newline, is_semicolon, is_whole, IsFront, takes, fails}
use Rattle.ex_lexer.proofs.Bools.{and_left, not_both, same, small, large, if_true, if_false, chosen}
use Rattle.ex_lexer.proofs.Bytes.{take_drop, length_take, prefix_all}
use Rattle.ex_lexer.proofs.Sounds.{ascii_boundary, alias_ascii, digit_ascii, run_found}

-- a LF ends a line
pub feed_ends : (b : ℕ) → b ≡ 10 → is_in_line b ≡ false
feed_ends b e = ap is_in_line e

pub found_return : (after : List ℕ) → first_is (λ b. b == 10) after ≡ true → IsFront (F.Takes P.Newline 2) (return_by after)
found_return after h = subst (IsFront (F.Takes P.Newline 2)) (sym (if_true _ _ _ h)) (takes is_newline)

pub failed_return : (after : List ℕ) → first_is (λ b. b == 10) after ≡ false → IsFront (F.Fails 0 BadChar) (return_by after)
failed_return after h = subst (IsFront (F.Fails 0 BadChar)) (sym (if_false _ _ _ h)) fails

pub no_sign_front : (o : Option (List ℕ × Sign)) → None ≡ sign_len o → IsFront (F.Fails 0 BadChar) (signed_by o)
no_sign_front None h = fails
no_sign_front (Some r) h = absurd (cc)

abbrev sign_or : Sign × ℕ → Option (Sign × ℕ) → Sign × ℕ
sign_or p None = p
sign_or p (Some q) = q

pub sign_front : (o : Option (List ℕ × Sign)) (s : Sign) (n : ℕ) → Some (s, n) ≡ sign_len o → IsFront (F.Takes (P.Whole (T.Sign s)) n) (signed_by o)
sign_front None s n h = absurd (cc)
sign_front (Some r) s n h =
    let e : (s, n) ≡ (r.1, length r.0) = ap (sign_or (s, n)) h in
    subst (λ p. IsFront (F.Takes (P.Whole (T.Sign p.0)) p.1) (signed_by (Some r))) (sym e) (takes (is_whole is_sign))

pub atom_front : (atom text : List ℕ) (n : ℕ) → atom ≡ text → IsFront (F.Takes (P.Whole (T.Atom atom)) n) (Takes (Whole (Atom text)) n)
atom_front atom text n e = subst (λ w. IsFront (F.Takes (P.Whole (T.Atom atom)) n) (Takes (Whole (Atom w)) n)) e (takes (is_whole is_atom))

pub word_is : (name : List ℕ) (called : Bool) (w : Keyword) → Some w ≡ keyword_of name → IsToken (T.Word w) (word_by (keyword_of name) name called)
word_is name called w e = subst (λ o. IsToken (T.Word w) (word_by o name called)) e is_word

pub called_is : (x name : List ℕ) (called : Bool) → None ≡ keyword_of name → called ≡ true → x ≡ name → IsToken (T.Called x) (word_by (keyword_of name) name called)
called_is x name called e t h = subst (λ o. IsToken (T.Called x) (word_by o name called)) e (subst (λ v. IsToken (T.Called x) (word_by None name v)) (sym t) (subst (λ v. IsToken (T.Called x) (word_by None v true)) h is_called))

pub name_is : (x name : List ℕ) (called : Bool) → None ≡ keyword_of name → called ≡ false → x ≡ name → IsToken (T.Name x) (word_by (keyword_of name) name called)
name_is x name called e t h = subst (λ o. IsToken (T.Name x) (word_by o name called)) e (subst (λ v. IsToken (T.Name x) (word_by None name v)) (sym t) (subst (λ v. IsToken (T.Name x) (word_by None v false)) h is_name))

pub key_front : (x name after : List ℕ) (more n : ℕ) → Some more ≡ key_len after → x ≡ name → IsFront (F.Takes (P.Whole (T.Key x)) (n + more)) (named_by name after n)
key_front x name after more n e h = subst (λ o. IsFront (F.Takes (P.Whole (T.Key x)) (n + more)) (key_or_word o name after n)) e (subst (λ v. IsFront (F.Takes (P.Whole (T.Key x)) (n + more)) (Takes (Whole (Key v)) (n + more))) h (takes (is_whole is_key)))

pub word_front : (k : TokenKind) (name after : List ℕ) (called : Bool) (n : ℕ) → None ≡ key_len after → called ≡ first_is (λ b. b == 40) after → IsToken k (word_by (keyword_of name) name called) → IsFront (F.Takes (P.Whole k) n) (named_by name after n)
word_front k name after called n e t h = subst (λ o. IsFront (F.Takes (P.Whole k) n) (key_or_word o name after n)) e (subst (λ v. IsFront (F.Takes (P.Whole k) n) (Takes (Whole (word_by (keyword_of name) name v)) n)) t (takes (is_whole h)))

-- cuts after bytes of ASCII
pub ascii_edge : (xs : List ℕ) (n : ℕ) → n ≤ length xs → list_all (λ b. nat_lt b 128) (take n xs) ≡ true → IsUtf8 xs → IsCharBoundary xs n
ascii_edge xs zero w h u = IsCharBoundary-start xs u
ascii_edge xs (suc n) w h u =
    let l = length_take (suc n) xs w in
    let e = take_drop (suc n) xs in
    subst (λ v. IsCharBoundary v (suc n)) e (subst (λ m. IsCharBoundary (take (suc n) xs ++ drop (suc n) xs) m) l (ascii_boundary (take (suc n) xs) (drop (suc n) xs) (omega (arith, l)) h (subst IsUtf8 (sym e) u)))

pub alias_edge : (xs : List ℕ) → IsUtf8 xs → IsCharBoundary xs (prefix_len is_alias_byte xs)
alias_edge xs u = ascii_edge xs (prefix_len is_alias_byte xs) (prefix_len-le-length is_alias_byte xs) (alias_ascii 0 (take (prefix_len is_alias_byte xs) xs) (prefix_all is_alias_byte xs)) u

digits_low : (xs : List ℕ) → ((digits_at xs).0 ≤ length xs) × (list_all (λ b. nat_lt b 128) (take (digits_at xs).0 xs) ≡ true)
unfolding digits_at
digits_low [] = (omega arith, refl)
digits_low (b ∷ xs) = chosen (is_digit b) (λ e. step (digits_at (b ∷ xs)) (b ∷ []) (if_true _ _ _ e) (digit_ascii b e) (digits_low xs)) (λ e. chosen (b == 95 && first_is is_digit xs) (λ f. step (digits_at (b ∷ xs)) [] (if_false _ _ _ e ∙ if_true _ _ _ f) (under (and_left (b == 95) _ f)) (digits_low xs)) (λ f. none (digits_at (b ∷ xs)) (if_false _ _ _ e ∙ if_false _ _ _ f)))
  where
    under : (b == 95) ≡ true → nat_lt b 128 ≡ true
    under e = small b 128 (let k = same b 95 e in omega arith)

    step : (p : ℕ × List ℕ) (ds : List ℕ) → p ≡ another 1 ds (digits_at xs) → nat_lt b 128 ≡ true → ((digits_at xs).0 ≤ length xs) × (list_all (λ c. nat_lt c 128) (take (digits_at xs).0 xs) ≡ true) → (p.0 ≤ length (b ∷ xs)) × (list_all (λ c. nat_lt c 128) (take p.0 (b ∷ xs)) ≡ true)
    step p ds e h low =
        let k : p.0 ≡ suc (digits_at xs).0 = ap (λ q. q.0) e ∙ omega arith in
        (omega (arith, low.0, k), ap (λ m. list_all (λ c. nat_lt c 128) (take m (b ∷ xs))) k ∙ rw (h, low.1) refl)

    none : (p : ℕ × List ℕ) → p ≡ (0, []) → (p.0 ≤ length (b ∷ xs)) × (list_all (λ c. nat_lt c 128) (take p.0 (b ∷ xs)) ≡ true)
    none p e = subst (λ q. (q.0 ≤ length (b ∷ xs)) × (list_all (λ c. nat_lt c 128) (take q.0 (b ∷ xs)) ≡ true)) (sym e) (omega arith, refl)

pub digits_edge : (xs : List ℕ) → IsUtf8 xs → IsCharBoundary xs (digits_at xs).0
digits_edge xs u = let l = digits_low xs in ascii_edge xs (digits_at xs).0 l.0 l.1 u

-- numbers
pub letter_front : (rest after : List ℕ) (n : ℕ) → n ≡ (digits_at rest).0 → after ≡ drop n rest → first_is is_letter (chars after) ≡ true → IsFront (F.Fails 0 BadNumber) (digit_by rest)
letter_front rest after n e f h =
    let g : first_is is_letter (chars (drop (digits_at rest).0 rest)) ≡ true = ap (λ v. first_is is_letter (chars v)) (ap (λ m. drop m rest) (sym e) ∙ sym f) ∙ h in
    subst (IsFront (F.Fails 0 BadNumber)) (sym (if_true _ _ _ g)) fails

fits_front : (rest after : List ℕ) (n : ℕ) → n ≡ (digits_at rest).0 → after ≡ drop n rest → first_is is_letter (chars after) ≡ false → digit_by rest ≡ fitting (nat_lt (digits_value 10 (digits_at rest).1) (2 ^ 127)) (digits_value 10 (digits_at rest).1) (digits_at rest).0
fits_front rest after n e f h =
    let g : first_is is_letter (chars (drop (digits_at rest).0 rest)) ≡ false = ap (λ v. first_is is_letter (chars v)) (ap (λ m. drop m rest) (sym e) ∙ sym f) ∙ h in
    if_false _ _ _ g

pub integer_front : (rest after : List ℕ) (n v : ℕ) → n ≡ (digits_at rest).0 → after ≡ drop n rest → first_is is_letter (chars after) ≡ false → v ≡ digits_value 10 (digits_at rest).1 → v < 2 ^ 127 → IsFront (F.Takes (P.Whole (T.Integer (pos v))) n) (digit_by rest)
integer_front rest after n v e f h g lt =
    let k = fits_front rest after n e f h in
    let t : nat_lt (digits_value 10 (digits_at rest).1) (2 ^ 127) ≡ true = ap (λ m. nat_lt m (2 ^ 127)) (sym g) ∙ small v (2 ^ 127) lt in
    subst (IsFront (F.Takes (P.Whole (T.Integer (pos v))) n)) (sym (k ∙ ap (λ b. fitting b (digits_value 10 (digits_at rest).1) (digits_at rest).0) t))
    (subst (λ m. IsFront (F.Takes (P.Whole (T.Integer (pos v))) n) (Takes (Whole (Number m)) (digits_at rest).0)) g (subst (λ m. IsFront (F.Takes (P.Whole (T.Integer (pos v))) n) (Takes (Whole (Number v)) m)) e (takes (is_whole (is_integer lt)))))

pub wide_front : (rest after : List ℕ) (n : ℕ) → n ≡ (digits_at rest).0 → after ≡ drop n rest → first_is is_letter (chars after) ≡ false → 2 ^ 127 ≤ digits_value 10 (digits_at rest).1 → IsFront (F.Fails 0 TooWide) (digit_by rest)
wide_front rest after n e f h le =
    let k = fits_front rest after n e f h in
    let t = large (digits_value 10 (digits_at rest).1) (2 ^ 127) le in
    subst (IsFront (F.Fails 0 TooWide)) (sym (k ∙ ap (λ b. fitting b (digits_value 10 (digits_at rest).1) (digits_at rest).0) t)) fails

pub counted_wide : (v : Option ℕ) (ds : List ℕ) → Counts v ds → ((n : ℕ) → v ≡ Some n → 2 ^ 127 ≤ n) → 2 ^ 127 ≤ digits_value 10 ds
counted_wide None ds c h = omega arith
counted_wide (Some n) ds c h = let k = h n refl in omega (arith, c)

pub counted_is : (v : Option ℕ) (ds : List ℕ) (n : ℕ) → Counts v ds → v ≡ Some n → n ≡ digits_value 10 ds
counted_is v ds n c e = (rw e at c)

pub wide_some : (v : Option ℕ) (ds : List ℕ) (n : ℕ) → Counts v ds → v ≡ Some n → 2 ^ 127 ≤ n → 2 ^ 127 ≤ digits_value 10 ds
wide_some v ds n c e le = subst (λ m. 2 ^ 127 ≤ m) (counted_is v ds n c e) le

pub wide_none : (v : Option ℕ) (ds : List ℕ) → Counts v ds → v ≡ None → 2 ^ 127 ≤ digits_value 10 ds
wide_none None ds c e = omega arith
wide_none (Some n) ds c e = absurd (cc)

-- aliases
pub alias_front : (alias rest : List ℕ) (n : ℕ) → n ≡ prefix_len is_alias_byte rest → alias ≡ take n rest → IsFront (F.Takes (P.Whole (T.Alias alias)) n) (alias_by rest)
alias_front alias rest n e h = subst (λ m. IsFront (F.Takes (P.Whole (T.Alias alias)) n) (Takes (Whole (Alias (take m rest))) m)) e (subst (λ w. IsFront (F.Takes (P.Whole (T.Alias alias)) n) (Takes (Whole (Alias w)) n)) h (takes (is_whole is_alias)))

-- an atom's text
pub run_within : (text : List ℕ) → (run 0 text).len ≤ length text
run_within text = let r = run_found text in omega (arith, r.len, ap length r.parts, length-append r.text r.rest)

pub quoted_atom : (r : Run) (said : List ℕ) (n : ℕ) (s : Stop) → said ≡ r.bytes → n ≡ r.len → s ≡ r.stop → s ≡ S.Quote → IsFront (F.Takes (P.Whole (T.Atom said)) (2 + (n + 1))) (quoted_by r r.stop)
quoted_atom r said n s e f g h = subst (λ v. IsFront (F.Takes (P.Whole (T.Atom said)) (2 + (n + 1))) (quoted_by r v)) (sym h ∙ g) (subst (λ m. IsFront (F.Takes (P.Whole (T.Atom said)) (2 + (n + 1))) (Takes (Whole (Atom r.bytes)) (2 + (m + 1)))) f (subst (λ w. IsFront (F.Takes (P.Whole (T.Atom said)) (2 + (n + 1))) (Takes (Whole (Atom w)) (2 + (n + 1)))) e (takes (is_whole is_atom))))

pub quoted_hole : (r : Run) (s : Stop) → s ≡ r.stop → s ≡ S.Hole → IsFront (F.Fails 0 BadChar) (quoted_by r r.stop)
quoted_hole r s g h = subst (λ v. IsFront (F.Fails 0 BadChar) (quoted_by r v)) (sym h ∙ g) fails

pub quoted_end : (r : Run) (s : Stop) → s ≡ r.stop → s ≡ S.End → IsFront (F.Fails 1 OpenText) (quoted_by r r.stop)
quoted_end r s g h = subst (λ v. IsFront (F.Fails 1 OpenText) (quoted_by r v)) (sym h ∙ g) fails

pub quoted_escape : (r : Run) (s : Stop) → s ≡ r.stop → s ≡ S.Escape → IsFront (F.Fails 1 BadEscape) (quoted_by r r.stop)
quoted_escape r s g h = subst (λ v. IsFront (F.Fails 1 BadEscape) (quoted_by r v)) (sym h ∙ g) fails

-- the front of the code's bytes
pub front_at : (rest bytes : List ℕ) (c : Class) (name : Bool) → bytes ≡ rest → 1 ≤ length bytes → name ≡ first_is begins_name (chars rest) → c ≡ class_of (get_or bytes 0 0) name → front rest ≡ front_by c rest (drop 1 rest)
front_at rest [] c name e h f g = absurd (omega arith)
front_at rest (b ∷ bytes) c name e h f g = subst (λ v. first_is begins_name (chars v) ≡ name → front v ≡ front_by c v (drop 1 v)) e (λ k. ap (λ x. front_by x (b ∷ bytes) bytes) (ap (class_of b) k ∙ sym g)) (sym f)

pub nothing_at : (rest bytes : List ℕ) → bytes ≡ rest → length bytes < 1 → IsFront (F.Fails 0 BadChar) (front rest)
nothing_at rest [] e h = subst (λ v. IsFront (F.Fails 0 BadChar) (front v)) e fails
nothing_at rest (b ∷ bytes) e h = absurd (omega arith)

pub blank_at : (rest : List ℕ) (c : Class) → c ≡ C.Blank → front rest ≡ front_by c rest (drop 1 rest) → IsFront (F.Takes P.Blank 1) (front rest)
blank_at rest c e f = subst (IsFront (F.Takes P.Blank 1)) (sym (f ∙ ap (λ x. front_by x rest (drop 1 rest)) e)) (takes is_blank)

pub hash_at : (rest : List ℕ) (c : Class) (n : ℕ) → n ≡ prefix_len is_in_line rest → c ≡ C.Hash → front rest ≡ front_by c rest (drop 1 rest) → IsFront (F.Takes P.Blank n) (front rest)
hash_at rest c n h e f = subst (IsFront (F.Takes P.Blank n)) (sym (f ∙ ap (λ x. front_by x rest (drop 1 rest)) e)) (subst (λ m. IsFront (F.Takes P.Blank n) (Takes L.Comment m)) h (takes is_comment))

pub feed_at : (rest : List ℕ) (c : Class) → c ≡ C.Feed → front rest ≡ front_by c rest (drop 1 rest) → IsFront (F.Takes P.Newline 1) (front rest)
feed_at rest c e f = subst (IsFront (F.Takes P.Newline 1)) (sym (f ∙ ap (λ x. front_by x rest (drop 1 rest)) e)) (takes is_newline)

pub semicolon_at : (rest : List ℕ) (c : Class) → c ≡ C.Semicolon → front rest ≡ front_by c rest (drop 1 rest) → IsFront (F.Takes P.Semicolon 1) (front rest)
semicolon_at rest c e f = subst (IsFront (F.Takes P.Semicolon 1)) (sym (f ∙ ap (λ x. front_by x rest (drop 1 rest)) e)) (takes is_semicolon)

-- what a class finds, given what the code found for it
pub class_at : (x : CodeFront) (rest : List ℕ) (c k : Class) → c ≡ k → front rest ≡ front_by c rest (drop 1 rest) → IsFront x (front_by k rest (drop 1 rest)) → IsFront x (front rest)
class_at x rest c k e f h = subst (IsFront x) (sym (f ∙ ap (λ y. front_by y rest (drop 1 rest)) e)) h

-- the byte of a `:`
is_colon : Class → Bool
is_colon C.Colon = true
is_colon c = false

colon_if : (t : Bool) (x y : Class) → is_colon x ≡ false → is_colon y ≡ false → is_colon (if t then x else y) ≡ false
colon_if true x y h k = h
colon_if false x y h k = k

pub colon_byte : (b : ℕ) (name : Bool) → class_of b name ≡ C.Colon → (b == 58) ≡ true
unfolding is_colon
colon_byte b name h = chosen (b == 58) (λ e. e) (λ e. absurd (not_both (is_colon (class_of b name)) (ap is_colon h)
    (colon_if (b == 32 || b == 9) _ _ refl (colon_if (b == 35) _ _ refl (colon_if (b == 10) _ _ refl (colon_if (b == 13) _ _ refl (colon_if (b == 59) _ _ refl
    (ap is_colon (if_false _ _ _ e) ∙ colon_if (is_digit b) _ _ refl (colon_if (is_capital b) _ _ refl (colon_if name _ _ refl refl))))))))))

-- a cut after a first byte of ASCII
pub first_edge : (rest bytes : List ℕ) (b : ℕ) → bytes ≡ rest → 1 ≤ length bytes → (get_or bytes 0 0 == b) ≡ true → b < 128 → IsUtf8 rest → IsCharBoundary rest 1
first_edge rest bytes b e h g lt u = subst (λ v. IsCharBoundary v 1) e (IsCharBoundary-after_ascii bytes 0 (subst IsUtf8 (sym e) u) (omega arith) (let k = same (get_or bytes 0 0) b g in omega arith))

pub quote_edge : (rest bytes : List ℕ) → bytes ≡ rest → first_is (λ b. b == 34) bytes ≡ true → IsUtf8 rest → IsCharBoundary rest 1
quote_edge rest [] e h u = cc
quote_edge rest (b ∷ bytes) e h u = first_edge rest (b ∷ bytes) 34 e (omega arith) h (lit< tt) u

pub no_atom : (rest bytes : List ℕ) → bytes ≡ rest → first_is (λ b. b == 34) bytes ≡ false → first_is is_capital bytes ≡ false → first_is begins_name (chars rest) ≡ false → IsFront (F.Fails 0 BadChar) (atom_by rest)
no_atom rest bytes e h k l =
    let h' : first_is (λ b. b == 34) rest ≡ false = ap (first_is (λ b. b == 34)) (sym e) ∙ h in
    let k' : first_is is_capital rest ≡ false = ap (first_is is_capital) (sym e) ∙ k in
    subst (IsFront (F.Fails 0 BadChar)) (sym (if_false _ _ _ h' ∙ (if_false _ _ _ k' ∙ if_false _ _ _ l))) fails

pub byte_edge : (b : ℕ) (rest : List ℕ) → b < 128 → first_is (λ c. c == b) rest ≡ true → IsUtf8 rest → IsCharBoundary rest 1
byte_edge b [] lt h u = cc
byte_edge b (c ∷ bytes) lt h u = first_edge (c ∷ bytes) (c ∷ bytes) b refl (omega arith) h lt u
