-- The characters of a text, computed.
use Rattle.std.proofs.Common.{◌≡◌, ℕ, zero, suc, ◌+◌, ◌-◌, ◌<◌, ◌≤◌, ◌==◌, ◌&&◌, Bool, true, false, if◌then◌else◌, cond, List, [], ◌∷◌, ◌++◌, length, take, drop, get_or, Option, Some, None, refl, sym, ap, ◌∙◌, arith, subst, append_assoc, length-drop}
use Rattle.std.proofs.lemmas.List.{append-nil}
use Rattle.std.proofs.lemmas.Bool.Decides.{nat_tests}
use Rattle.std.specs.Char.{encode_utf8, is_ascii_hexdigit}
use Rattle.std.specs.Str.{IsUtf8, IsCharBoundary}
use Rattle.std.proofs.lemmas.Str.{IsCharBoundary-after_ascii}
use Rattle.ex_grammar.specs.Texts.{escapes, escape_in, are_hexdigits, hex_value, is_plain}
use Rattle.ex_lexer.specs.declared.texts.Stop.{Stop}
use Rattle.ex_lexer.specs.declared.texts.Stop.TheVariants.{Quote, Hole, End, Escape}
use Rattle.ex_lexer.specs.Runs.{Run, stopped, longer, run, plain_len, escape_at, short_escape, coded_escape, coded_if, is_coded, escaped, skipped_by, Said}
use Rattle.ex_lexer.proofs.Bools.{and_left, and_right, if_true, if_false, chosen, same}

abbrev made : ℕ → List ℕ → Run → Run
made n bytes r = record { len = n; bytes = bytes; stop = r.stop }

longer_zero : (r : Run) → longer 0 [] r ≡ r
longer_zero r = let e : 0 + r.len ≡ r.len = omega arith in ap (λ n. made n r.bytes r) e

pub longer_twice : (m n : ℕ) (s t : List ℕ) (r : Run) → longer m s (longer n t r) ≡ longer (m + n) (s ++ t) r
longer_twice m n s t r =
    let e : m + (n + r.len) ≡ (m + n) + r.len = omega arith in
    ap (λ k. made k (s ++ (t ++ r.bytes)) r) e ∙ ap (λ w. made ((m + n) + r.len) w r) (sym (append_assoc s t r.bytes))

-- what was looked at before
pub skips : (n : ℕ) (xs : List ℕ) → n ≤ length xs → run n xs ≡ longer n [] (run 0 (drop n xs))
unfolding run
skips zero xs h = sym (longer_zero (run 0 xs))
skips (suc n) [] h = absurd (omega arith)
skips (suc n) (b ∷ bytes) h =
    let e : 1 + n ≡ suc n = omega arith in
    ap (longer 1 []) (skips n bytes (omega arith)) ∙ (longer_twice 1 n [] [] (run 0 (drop n bytes)) ∙ ap (λ k. longer k [] (run 0 (drop n bytes))) e)

-- the plain characters at the front
pub plain_run : (xs : List ℕ) → run 0 xs ≡ longer (plain_len xs) (take (plain_len xs) xs) (run 0 (drop (plain_len xs) xs))
unfolding run
plain_run [] = refl
plain_run (b ∷ bytes) = of (is_plain b bytes) refl (plain_run bytes)
  where
    of : (t : Bool) → is_plain b bytes ≡ t → run 0 bytes ≡ longer (plain_len bytes) (take (plain_len bytes) bytes) (run 0 (drop (plain_len bytes) bytes))
        → run 0 (b ∷ bytes) ≡ longer (cond t (1 + plain_len bytes) 0) (take (cond t (1 + plain_len bytes) 0) (b ∷ bytes)) (run 0 (drop (cond t (1 + plain_len bytes) 0) (b ∷ bytes)))
    of true e h =
        let n = plain_len bytes in
        let f : 1 + n ≡ suc n = omega arith in
        if_true _ _ _ e ∙ (ap (longer 1 (b ∷ [])) h ∙ (longer_twice 1 n (b ∷ []) (take n bytes) (run 0 (drop n bytes)) ∙ ap (λ k. longer (1 + n) (take k (b ∷ bytes)) (run 0 (drop k (b ∷ bytes)))) (sym f)))
    of false e h = sym (longer_zero (run 0 (b ∷ bytes)))

plain_within : (xs : List ℕ) → plain_len xs ≤ length xs
plain_within [] = omega arith
plain_within (b ∷ bytes) = of (is_plain b bytes) (plain_within bytes)
  where
    of : (t : Bool) → plain_len bytes ≤ length bytes → cond t (1 + plain_len bytes) 0 ≤ length (b ∷ bytes)
    of true h = omega arith
    of false h = omega arith

-- a byte that isn't plain is of ASCII
not_plain_ascii : (b : ℕ) (bytes : List ℕ) → is_plain b bytes ≡ false → b < 128
not_plain_ascii b bytes h = chosen (b == 34) (λ e. let f = same b 34 e in omega arith) (λ e. chosen (b == 92) (λ f. let g = same b 92 f in omega arith) (λ f. chosen (b == 35) (λ g. let k = same b 35 g in omega arith) (λ g. absurd (let k : true ≡ false = rw (e, f, g) at h in cc))))

not_plain_at : (xs : List ℕ) → plain_len xs < length xs → get_or xs (plain_len xs) 0 < 128
not_plain_at [] h = absurd (omega arith)
not_plain_at (b ∷ bytes) h = of (is_plain b bytes) refl (not_plain_at bytes) h
  where
    of : (t : Bool) → is_plain b bytes ≡ t → (plain_len bytes < length bytes → get_or bytes (plain_len bytes) 0 < 128) → cond t (1 + plain_len bytes) 0 < length (b ∷ bytes) → get_or (b ∷ bytes) (cond t (1 + plain_len bytes) 0) 0 < 128
    of true e f h = let k : 1 + plain_len bytes ≡ suc (plain_len bytes) = omega arith in rw k (f (omega arith))
    of false e f h = not_plain_ascii b bytes e

pub plain_boundary : (xs : List ℕ) → IsUtf8 xs → IsCharBoundary xs (plain_len xs)
plain_boundary xs u = (plain_within xs, λ lt high. absurd (let k = not_plain_at xs lt in omega arith))

pub first_not_plain : (b : ℕ) (bytes : List ℕ) → plain_len (b ∷ bytes) ≡ 0 → is_plain b bytes ≡ false
first_not_plain b bytes h = of (is_plain b bytes) h
  where
    of : (t : Bool) → cond t (1 + plain_len bytes) 0 ≡ 0 → t ≡ false
    of true h = absurd (omega arith)
    of false h = refl

-- plain characters were said
pub said_plain : (old new text : List ℕ) (n : ℕ) → IsUtf8 text → n ≡ plain_len text → 0 < n → new ≡ old ++ take n text → Said old new text n
said_plain old new text n u e some f = record {
  says = take n text;
  added = f;
  goes = subst (λ k. run 0 text ≡ longer k (take k text) (run 0 (drop k text))) (sym e) (plain_run text);
  some = some;
  within = let k = plain_within text in omega arith;
  boundary = subst (λ k. IsCharBoundary text k) (sym e) (plain_boundary text u);
}

pub stops_quote : (b : ℕ) (bytes : List ℕ) → b ≡ 34 → run 0 (b ∷ bytes) ≡ stopped Quote
unfolding run
stops_quote b bytes e = ap (λ c. run 0 (c ∷ bytes)) e

pub stops_hole : (b : ℕ) (bytes : List ℕ) → is_plain b bytes ≡ false → (b ≡ 34 → ⊥) → (b ≡ 92 → ⊥) → run 0 (b ∷ bytes) ≡ stopped Hole
unfolding run
stops_hole b bytes h no_quote no_slash =
    chosen (b == 34) (λ e. absurd (no_quote (same b 34 e))) (λ e. chosen (b == 92) (λ f. absurd (no_slash (same b 92 f))) (λ f. if_false _ _ _ h ∙ (if_false _ _ _ e ∙ if_false _ _ _ f)))

slash_run : (bytes : List ℕ) → run 0 (92 ∷ bytes) ≡ escaped (escape_at bytes) (run (skipped_by (escape_at bytes)) bytes)
unfolding run
slash_run bytes = refl

pub stops_escape : (bytes : List ℕ) → escape_at bytes ≡ None → run 0 (92 ∷ bytes) ≡ stopped Escape
stops_escape bytes e = slash_run bytes ∙ ap (λ o. escaped o (run (skipped_by o) bytes)) e

-- an escape's bytes are of ASCII
pub record AsciiEscape (xs : List ℕ) (n : ℕ) : Type 0 where
  pub some : 0 < n
  pub within : n ≤ length xs
  pub last : get_or (92 ∷ xs) n 0 < 128

short_ascii : (b c : ℕ) → escape_in escapes b ≡ Some c → b < 128
short_ascii b c h = grind (arith, nat_tests)

hex_ascii : (b : ℕ) → is_ascii_hexdigit b ≡ true → b < 128
hex_ascii b h = grind (arith, nat_tests)

pub escape_ascii : (xs : List ℕ) (n : ℕ) (says : List ℕ) → escape_at xs ≡ Some (n, says) → AsciiEscape xs n
escape_ascii [] n says e = cc
escape_ascii (b ∷ bytes) n says e = of (b == 117) refl e
  where
    letter : (o : Option ℕ) → escape_in escapes b ≡ o → short_escape o ≡ Some (n, says) → AsciiEscape (b ∷ bytes) n
    letter None f e = cc
    letter (Some c) f e =
        let k : 1 ≡ n = ap len e in
        subst (AsciiEscape (b ∷ bytes)) k (record { some = omega arith; within = omega arith; last = short_ascii b c f })
      where
        len : Option (ℕ × List ℕ) → ℕ
        len None = 1
        len (Some p) = p.0

    code : (ys : List ℕ) → coded_escape ys ≡ Some (n, says) → AsciiEscape (b ∷ ys) n
    code [] e = cc
    code (p ∷ []) e = cc
    code (p ∷ q ∷ []) e = cc
    code (p ∷ q ∷ r ∷ []) e = cc
    code (p ∷ q ∷ r ∷ s ∷ rest) e = all (are_hexdigits p q r s && is_coded (hex_value p q r s)) refl e
      where
        len : Option (ℕ × List ℕ) → ℕ
        len None = 5
        len (Some p) = p.0

        all : (t : Bool) → (are_hexdigits p q r s && is_coded (hex_value p q r s)) ≡ t → coded_if t (hex_value p q r s) ≡ Some (n, says) → AsciiEscape (b ∷ p ∷ q ∷ r ∷ s ∷ rest) n
        all false f e = cc
        all true f e =
            let k : 5 ≡ n = ap len e in
            let h = and_left (are_hexdigits p q r s) _ f in
            let last = and_right (is_ascii_hexdigit r) _ (and_right (is_ascii_hexdigit q) _ (and_right (is_ascii_hexdigit p) _ h)) in
            subst (AsciiEscape (b ∷ p ∷ q ∷ r ∷ s ∷ rest)) k (record { some = omega arith; within = omega arith; last = hex_ascii s last })

    of : (t : Bool) → (b == 117) ≡ t → (if t then coded_escape bytes else short_escape (escape_in escapes b)) ≡ Some (n, says) → AsciiEscape (b ∷ bytes) n
    of true f e = code bytes e
    of false f e = letter (escape_in escapes b) refl e

-- an escape was said
pub said_escape : (old new bytes : List ℕ) (c n : ℕ) → IsUtf8 (92 ∷ bytes) → escape_at bytes ≡ Some (n, encode_utf8 c) → new ≡ old ++ encode_utf8 c → Said old new (92 ∷ bytes) (1 + n)
said_escape old new bytes c n u e f =
    let a = escape_ascii bytes n (encode_utf8 c) e in
    let k : 1 + n ≡ suc n = omega arith in
    let i : n + 1 ≡ 1 + n = omega arith in
    record {
      says = encode_utf8 c;
      added = f;
      goes = slash_run bytes ∙ (ap (λ o. escaped o (run (skipped_by o) bytes)) e ∙ (ap (longer 1 (encode_utf8 c)) (skips n bytes a.within) ∙ (longer_twice 1 n (encode_utf8 c) [] (run 0 (drop n bytes)) ∙ (ap (λ w. longer (1 + n) w (run 0 (drop n bytes))) (append-nil (encode_utf8 c)) ∙ ap (λ m. longer (1 + n) (encode_utf8 c) (run 0 (drop m (92 ∷ bytes)))) (sym k)))));
      some = omega arith;
      within = let w = a.within in omega arith;
      boundary = subst (IsCharBoundary (92 ∷ bytes)) i (IsCharBoundary-after_ascii (92 ∷ bytes) n u (let w = a.within in omega arith) a.last);
    }

-- where a text doesn't go on
pub none_left : (xs ys : List ℕ) → xs ≡ ys → length xs < 1 → run 0 ys ≡ stopped End
unfolding run
none_left [] ys e h = ap (run 0) (sym e)
none_left (b ∷ bytes) ys e h = absurd (omega arith)

pub quote_at : (xs ys : List ℕ) → xs ≡ ys → 1 ≤ length xs → get_or xs 0 0 ≡ 34 → run 0 ys ≡ stopped Quote
quote_at [] ys e h k = absurd (omega arith)
quote_at (b ∷ bytes) ys e h k = ap (run 0) (sym e) ∙ stops_quote b bytes k

pub hole_at : (xs ys : List ℕ) (n : ℕ) → xs ≡ ys → 1 ≤ length xs → n ≡ plain_len xs → n ≤ 0 → (get_or xs 0 0 ≡ 34 → ⊥) → (get_or xs 0 0 ≡ 92 → ⊥) → run 0 ys ≡ stopped Hole
hole_at [] ys n e h p z k l = absurd (omega arith)
hole_at (b ∷ bytes) ys n e h p z k l = ap (run 0) (sym e) ∙ stops_hole b bytes (first_not_plain b bytes (omega arith)) k l

-- the loop over a text
pub run_start : (text said : List ℕ) → said ≡ [] → run 0 text ≡ longer (length text - length text) said (run 0 text)
run_start text said e = let k : length text - length text ≡ 0 = omega arith in rw (k, e) (sym (longer_zero (run 0 text)))

pub run_turn : (text rest rest' old new : List ℕ) (n : ℕ) → length rest ≤ length text → run 0 text ≡ longer (length text - length rest) old (run 0 rest) → Said old new rest n → rest' ≡ drop n rest
    → run 0 text ≡ longer (length text - length rest') new (run 0 rest')
run_turn text rest rest' old new n w g s e =
    let k : (length text - length rest) + n ≡ length text - length rest' = omega (arith, ap length e, length-drop n rest, s.within) in
    g ∙ (ap (longer (length text - length rest) old) s.goes ∙ (longer_twice (length text - length rest) n old s.says (run 0 (drop n rest)) ∙ (
    ap (λ m. longer m (old ++ s.says) (run 0 (drop n rest))) k ∙ (ap (λ m. longer (length text - length rest') m (run 0 (drop n rest))) (sym s.added) ∙ ap (λ m. longer (length text - length rest') new (run 0 m)) (sym e)))))

-- what the whole text says, where it stops
pub record Stopped (text : List ℕ) (n : ℕ) (bytes : List ℕ) (s : Stop) : Type 0 where
  pub says : bytes ≡ (run 0 text).bytes
  pub takes : n ≡ (run 0 text).len
  pub at : s ≡ (run 0 text).stop

pub run_stops : (text rest said : List ℕ) (s : Stop) → run 0 text ≡ longer (length text - length rest) said (run 0 rest) → run 0 rest ≡ stopped s → Stopped text (length text - length rest) said s
run_stops text rest said s g h =
    let e : longer (length text - length rest) said (stopped s) ≡ run 0 text = ap (longer (length text - length rest) said) (sym h) ∙ sym g in
    record {
      says = sym (append-nil said) ∙ ap (λ r. r.bytes) e;
      takes = let k : length text - length rest ≡ (length text - length rest) + 0 = omega arith in k ∙ ap (λ r. r.len) e;
      at = ap (λ r. r.stop) e;
    }

pub run_ends : (text rest said : List ℕ) → rest ≡ [] → run 0 text ≡ longer (length text - length rest) said (run 0 rest) → Stopped text (length text) said End
run_ends text rest said e g =
    let k : length text - length rest ≡ length text = omega (arith, ap length e) in
    let h : run 0 rest ≡ stopped End = none_left rest rest refl (omega (arith, ap length e)) in
    subst (λ n. Stopped text n said End) k (run_stops text rest said End g h)
