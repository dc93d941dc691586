-- The characters at the front that may stand in a name.
use Rattle.std.proofs.Common.{◌≡◌, ℕ, zero, suc, ◌+◌, ◌<◌, ◌≤◌, Bool, true, false, cond, List, [], ◌∷◌, ◌++◌, length, take, drop, Option, Some, None, refl, sym, ap, ◌∙◌, arith, subst, length-append, get_or}
use Rattle.std.proofs.lemmas.List.{append-nil, take-append-drop, map-id}
use Rattle.std.proofs.lemmas.Iterator.{YieldsList-from_chars}
use Rattle.std.proofs.lemmas.Iterator.Consumers.{YieldsList-turn, YieldsList-end, YieldsList-so_far}
use Rattle.std.proofs.lemmas.Str.{encodes-chars, encodes-append, scalars-chars, IsCharBoundary-at_seam, IsCharBoundary-after_ascii}
use Rattle.std.proofs.lemmas.Bool.Decides.{nat_tests}
use Rattle.std.proofs.Math.Seq.{drop-cons}
use Rattle.std.proofs.Math.Utf8.{scalar, scalars}
use Rattle.std.proofs.iter.TextItems.{spells}
use Rattle.std.specs.Iterator.{Yields}
use Rattle.std.specs.Char.{encode_utf8}
use Rattle.std.specs.List.{list_all}
use Rattle.std.specs.Str.{chars, IsUtf8, IsCharBoundary, encode_utf8_all}
use Rattle.std.specs.Str.Iter.{chars_rest}
use Rattle.std.specs.declared.str.Chars.{Chars}
use Rattle.ex_grammar.specs.Names.{NotFirst, is_in_name, is_mark, mark_follows}
use Rattle.ex_lexer.specs.Runs.{word_len, word_len_of, name_len}
use Rattle.ex_lexer.proofs.Bools.{and_left, and_right}

-- the turn of a `for` over the characters of a text: it has had xs of them, and now has x
pub record CharsTurn (bs xs : List ℕ) (x : ℕ) : Type 0 where
  pub back : List ℕ
  pub parts : chars bs ≡ xs ++ x ∷ back

pub chars_turn : (s : Chars) (bs : List ℕ) → IsUtf8 bs → chars_rest s ≡ bs → (xs : List ℕ) (t : Chars) → Yields spells s xs t
    → (r : Option ℕ) (u : Chars) (x : ℕ) → r ≡ Some x → spells t r u → CharsTurn bs xs x
chars_turn s bs h q xs t y r u x is p =
    let e = YieldsList-from_chars bs h q in
    let turn = YieldsList-turn e xs t y r u x is p in
    let front : xs ≡ take (length xs) (chars bs) = sym (map-id xs) ∙ YieldsList-so_far e xs t y in
    let lt : length xs < length (chars bs) = turn.0 in
    let parts : chars bs ≡ xs ++ x ∷ drop (suc (length xs)) (chars bs) =
    sym (take-append-drop (length xs) (chars bs)) ∙ (
    ap (λ w. w ++ drop (length xs) (chars bs)) (sym front)
    ∙ (ap (λ w. xs ++ w) (drop-cons (chars bs) (length xs) x lt) ∙ ap (λ w. xs ++ w ∷ drop (suc (length xs)) (chars bs)) (sym turn.1))
    ) in
    record { back = drop (suc (length xs)) (chars bs); parts = parts }

pub chars_end : (s : Chars) (bs : List ℕ) → IsUtf8 bs → chars_rest s ≡ bs → (xs : List ℕ) (t : Chars) → Yields spells s xs t
    → (r : Option ℕ) (u : Chars) → r ≡ None → spells t r u → xs ≡ chars bs
chars_end s bs h q xs t y r u is p = sym (map-id xs) ∙ (YieldsList-end (YieldsList-from_chars bs h q) xs t y r u is p).0

pub word_len_stop : (xs ys : List ℕ) → list_all is_in_name xs ≡ true → NotFirst is_in_name ys → word_len_of (xs ++ ys) ≡ length (encode_utf8_all xs)
word_len_stop [] [] h n = refl
word_len_stop [] (y ∷ ys) h n = rw n refl
word_len_stop (x ∷ xs) ys h n = rw (and_left (is_in_name x) _ h) (ap (λ k. length (encode_utf8 x) + k) (word_len_stop xs ys (and_right (is_in_name x) _ h) n) ∙ sym (length-append (encode_utf8 x) (encode_utf8_all xs)))

pub all_more : (xs : List ℕ) (x : ℕ) → list_all is_in_name xs ≡ true → is_in_name x ≡ true → list_all is_in_name (xs ++ x ∷ []) ≡ true
all_more [] x h k = rw k refl
all_more (y ∷ xs) x h k = rw (and_left (is_in_name y) _ h) (all_more xs x (and_right (is_in_name y) _ h) k)

-- the word at the front of a text
pub record WordAt (bs : List ℕ) : Type 0 where
  pub xs : List ℕ
  pub ys : List ℕ
  pub parts : chars bs ≡ xs ++ ys
  pub all : list_all is_in_name xs ≡ true
  pub stops : NotFirst is_in_name ys
  pub bytes : bs ≡ encode_utf8_all xs ++ encode_utf8_all ys
  pub good_front : scalars xs ≡ true
  pub good : scalars ys ≡ true
  pub len : word_len bs ≡ length (encode_utf8_all xs)

-- some characters, and those after them
record SplitAt (cs : List ℕ) : Type 0 where
  pub xs : List ℕ
  pub ys : List ℕ
  pub parts : cs ≡ xs ++ ys
  pub all : list_all is_in_name xs ≡ true
  pub stops : NotFirst is_in_name ys

split_at : (cs : List ℕ) → SplitAt cs
split_at [] = record { xs = []; ys = []; parts = refl; all = refl; stops = tt }
split_at (c ∷ cs) = of (is_in_name c) refl (split_at cs)
  where
    of : (t : Bool) → is_in_name c ≡ t → SplitAt cs → SplitAt (c ∷ cs)
    of true e s = record { xs = c ∷ s.xs; ys = s.ys; parts = ap (λ w. c ∷ w) s.parts; all = rw (e, s.all) refl; stops = s.stops }
    of false e s = record { xs = []; ys = c ∷ cs; parts = refl; all = refl; stops = e }

pub scalars_front : (xs ys : List ℕ) → scalars (xs ++ ys) ≡ true → scalars xs ≡ true
scalars_front [] ys h = refl
scalars_front (x ∷ xs) ys h = rw (and_left (scalar x) _ h) (scalars_front xs ys (and_right (scalar x) _ h))

pub scalars_back : (xs ys : List ℕ) → scalars (xs ++ ys) ≡ true → scalars ys ≡ true
scalars_back [] ys h = h
scalars_back (x ∷ xs) ys h = scalars_back xs ys (and_right (scalar x) _ h)

pub word_at : (bs : List ℕ) → IsUtf8 bs → WordAt bs
word_at bs u =
    let s = split_at (chars bs) in
    let good : scalars (s.xs ++ s.ys) ≡ true = rw s.parts at (scalars-chars bs u) in
    record {
      xs = s.xs;
      ys = s.ys;
      parts = s.parts;
      all = s.all;
      stops = s.stops;
      bytes = sym (encodes-chars bs u) ∙ (ap encode_utf8_all s.parts ∙ encodes-append s.xs s.ys);
      good_front = scalars_front s.xs s.ys good;
      good = scalars_back s.xs s.ys good;
      len = ap word_len_of s.parts ∙ word_len_stop s.xs s.ys s.all s.stops;
    }

pub word_within : (bs : List ℕ) → IsUtf8 bs → word_len bs ≤ length bs
word_within bs u = let w = word_at bs u in omega (arith, w.len, ap length w.bytes, length-append (encode_utf8_all w.xs) (encode_utf8_all w.ys))

pub word_boundary : (bs : List ℕ) → IsUtf8 bs → IsCharBoundary bs (word_len bs)
word_boundary bs u =
    let w = word_at bs u in
    subst (IsCharBoundary bs) (sym w.len) (IsCharBoundary-at_seam bs (encode_utf8_all w.xs) (encode_utf8_all w.ys) w.bytes (w.ys, (w.good, refl)))

-- the loop that counts
pub word_len_early : (bs xs back : List ℕ) (c n : ℕ) → chars bs ≡ xs ++ c ∷ back → list_all is_in_name xs ≡ true → n ≡ length (encode_utf8_all xs) → is_in_name c ≡ false → n ≡ word_len bs
word_len_early bs xs back c n e h f k = f ∙ sym (ap word_len_of e ∙ word_len_stop xs (c ∷ back) h k)

pub word_len_whole : (bs xs : List ℕ) (n : ℕ) → xs ≡ chars bs → list_all is_in_name xs ≡ true → n ≡ length (encode_utf8_all xs) → n ≡ word_len bs
word_len_whole bs xs n e h f = f ∙ sym (ap word_len_of (sym e ∙ sym (append-nil xs)) ∙ word_len_stop xs [] h tt)

pub encodes-push : (xs : List ℕ) (c : ℕ) → length (encode_utf8_all (xs ++ c ∷ [])) ≡ length (encode_utf8_all xs) + length (encode_utf8 c)
encodes-push xs c = omega (arith, ap length (encodes-append xs (c ∷ [])), length-append (encode_utf8_all xs) (encode_utf8_all (c ∷ [])), length-append (encode_utf8 c) [])

pub bytes_fit : (bs xs : List ℕ) (c : ℕ) (back : List ℕ) → IsUtf8 bs → chars bs ≡ xs ++ c ∷ back → length (encode_utf8_all xs) + length (encode_utf8 c) ≤ length bs
bytes_fit bs xs c back h e =
    omega (
      arith,
      ap length (encodes-chars bs h),
      ap (λ w. length (encode_utf8_all w)) e,
      ap length (encodes-append xs (c ∷ back)),
      length-append (encode_utf8_all xs) (encode_utf8_all (c ∷ back)),
      length-append (encode_utf8 c) (encode_utf8_all back),
    )

-- after the mark of a name a text may be cut
mark_ascii : (b : ℕ) → is_mark b ≡ true → b < 128
mark_ascii b h = grind (arith, nat_tests)

mark_at : (xs : List ℕ) (n : ℕ) → mark_follows (drop n xs) ≡ true → (n < length xs) × (get_or xs n 0 < 128)
mark_at [] zero h = cc
mark_at [] (suc n) h = cc
mark_at (x ∷ xs) zero h = (omega arith, mark_ascii x (and_left (is_mark x) _ h))
mark_at (x ∷ xs) (suc n) h = let m = mark_at xs n h in (omega (arith, m.0), m.1)

pub name_boundary_at : (bs : List ℕ) (n : ℕ) → IsUtf8 bs → mark_follows (drop n bs) ≡ true → IsCharBoundary bs (n + 1)
name_boundary_at bs n u h = let m = mark_at bs n h in IsCharBoundary-after_ascii bs n u m.0 m.1

pub name_boundary : (bs : List ℕ) → IsUtf8 bs → IsCharBoundary bs (name_len bs)
name_boundary bs u = of (mark_follows (drop (word_len bs) bs)) refl
  where
    of : (t : Bool) → mark_follows (drop (word_len bs) bs) ≡ t → IsCharBoundary bs (cond t (word_len bs + 1) (word_len bs))
    of true e = name_boundary_at bs (word_len bs) u e
    of false e = word_boundary bs u
