-- The piece at the front, computed and as the relation has it.
use Rattle.std.proofs.Common.{◌≡◌, ◌⊎◌, inl, inr, ℕ, zero, suc, ◌+◌, ◌<◌, ◌≤◌, ◌^◌, ◌==◌, ◌&&◌, ◌||◌, nat_lt, Bool, true, false, if◌then◌else◌, cond, not, List, [], ◌∷◌, ◌++◌, length, take, drop, Option, Some, None, option_map, refl, sym, ap, ◌∙◌, arith, subst}
use Rattle.std.proofs.lemmas.Bool.Decides.{nat_tests}
use Rattle.std.proofs.lemmas.List.Sums.{prefix_len-le-length}
use Rattle.std.specs.List.{prefix_len, list_all}
use Rattle.std.specs.Str.Parse.{digits_value}
use Rattle.ex_model.specs.declared.ast.Operator.TheVariants.{Add, Subtract, Multiply}
use Rattle.ex_model.specs.Tokens.{Token, Number, Name, Sign, Equals, Opening, Closing, is_digit, is_name, is_name_byte, is_small_letter, is_keyword, is_word_byte}
use Rattle.ex_model.specs.Lexing.{Piece, Blank, Comment, Newline, Semicolon, Whole, Writes, space, tab, comment, feed, return_feed, semicolon, number, name, plus, minus, times, equals, opening, closing, goes_on, is_in_line, NotFirst, Pieces, none, next}
use Rattle.ex_source.specs.declared.front.Kind.{Kind}
use Rattle.ex_source.specs.declared.front.Kind.TheVariants as K
use Rattle.ex_source.specs.declared.lexeme.Mark.TheVariants as M
use Rattle.ex_source.specs.Front.{kind_of, front, front_by, first_is, word_token}

-- both of two tests, and each
and_left : (a b : Bool) → (a && b) ≡ true → a ≡ true
and_left true b h = refl
and_left false b h = cc

and_right : (a b : Bool) → (a && b) ≡ true → b ≡ true
and_right true b h = h
and_right false b h = cc

-- all that pass at the front, where no more follow
pub passes_whole : (p : ℕ → Bool) (xs rest : List ℕ) → list_all p xs ≡ true → NotFirst p rest → prefix_len p (xs ++ rest) ≡ length xs
passes_whole p [] [] h n = refl
passes_whole p [] (b ∷ rest) h n = rw n refl
passes_whole p (x ∷ xs) rest h n =
    let first = and_left (p x) (list_all p xs) h in
    rw first (ap (λ k. 1 + k) (passes_whole p xs rest (and_right (p x) (list_all p xs) h) n) ∙ omega arith)

take_front : (xs rest : List ℕ) → take (length xs) (xs ++ rest) ≡ xs
take_front [] rest = refl
take_front (x ∷ xs) rest = ap (λ v. x ∷ v) (take_front xs rest)

not_first : (p : ℕ → Bool) (rest : List ℕ) → NotFirst p rest → first_is p rest ≡ false
not_first p [] h = refl
not_first p (b ∷ rest) h = h

first_not : (p : ℕ → Bool) (rest : List ℕ) → first_is p rest ≡ false → NotFirst p rest
first_not p [] h = tt
first_not p (b ∷ rest) h = h

all_words : (p : ℕ → Bool) (xs : List ℕ) → ((b : ℕ) → p b ≡ true → is_word_byte b ≡ true) → list_all p xs ≡ true → list_all is_word_byte xs ≡ true
all_words p [] f h = refl
all_words p (x ∷ xs) f h = rw (f x (and_left (p x) (list_all p xs) h), all_words p xs f (and_right (p x) (list_all p xs) h)) refl

digit_word : (b : ℕ) → is_digit b ≡ true → is_word_byte b ≡ true
digit_word b h = grind (arith, nat_tests)

name_word : (b : ℕ) → is_name_byte b ≡ true → is_word_byte b ≡ true
name_word b h = rw h refl

letter_name : (b : ℕ) → is_small_letter b ≡ true → is_name_byte b ≡ true
letter_name b h = rw h refl

never : (rest : List ℕ) → NotFirst (λ b. false) rest
never [] = tt
never (b ∷ rest) = refl

drop_front : (xs rest : List ℕ) → drop (length xs) (xs ++ rest) ≡ rest
drop_front [] rest = refl
drop_front (x ∷ xs) rest = drop_front xs rest

pub take_drop : (n : ℕ) (xs : List ℕ) → take n xs ++ drop n xs ≡ xs
take_drop zero xs = refl
take_drop (suc n) [] = refl
take_drop (suc n) (x ∷ xs) = ap (λ v. x ∷ v) (take_drop n xs)

letter_no_digit : (b : ℕ) → is_small_letter b ≡ true → is_digit b ≡ false
letter_no_digit b h = grind (arith, nat_tests)

small : (n k : ℕ) → n < k → nat_lt n k ≡ true
small n k h = grind (arith, nat_tests)

word_kind : (b : ℕ) → is_word_byte b ≡ true → kind_of b ≡ K.Word
word_kind b h = rw h refl

-- a word at the front
front_word : (b : ℕ) (bs rest : List ℕ) (t : Token) → list_all is_word_byte (b ∷ bs) ≡ true → NotFirst is_word_byte rest → word_token (b ∷ bs) ≡ Some t → front ((b ∷ bs) ++ rest) ≡ Some (Whole t, length (b ∷ bs))
front_word b bs rest t h n w =
    let len : prefix_len is_word_byte ((b ∷ bs) ++ rest) ≡ length (b ∷ bs) = passes_whole is_word_byte (b ∷ bs) rest h n in
    let k : kind_of b ≡ K.Word = word_kind b (and_left (is_word_byte b) (list_all is_word_byte bs) h) in
    ap (λ k. front_by k ((b ∷ bs) ++ rest) (bs ++ rest)) k ∙ (ap (λ n. option_map (λ t. (Whole t, n)) (word_token (take n ((b ∷ bs) ++ rest)))) len
    ∙ ap (λ v. option_map (λ t. (Whole t, length (b ∷ bs))) (word_token v)) (take_front (b ∷ bs) rest) ∙ ap (option_map (λ t. (Whole t, length (b ∷ bs)))) w)

pub digits_words : (d : ℕ) (ds : List ℕ) → list_all is_digit (d ∷ ds) ≡ true → list_all is_word_byte (d ∷ ds) ≡ true
digits_words d ds h = all_words is_digit (d ∷ ds) digit_word h

pub name_words : (x : List ℕ) → is_name x ≡ true → list_all is_word_byte x ≡ true
name_words [] h = refl
name_words (b ∷ bs) h =
    let letter = and_left (is_small_letter b) (list_all is_name_byte bs) h in
    all_words is_name_byte (b ∷ bs) name_word (rw (letter_name b letter, and_right (is_small_letter b) (list_all is_name_byte bs) h) refl)

-- what is written at the front is found
pub front_complete : {bytes : List ℕ} {p : Piece} → Writes bytes p → (rest : List ℕ) → NotFirst (goes_on p) rest → front (bytes ++ rest) ≡ Some (p, length bytes)
front_complete space rest n = refl
front_complete tab rest n = refl
front_complete (comment {text} h) rest n = ap (λ k. Some (Comment, k)) (passes_whole is_in_line (35 ∷ text) rest (rw h refl) n)
front_complete feed rest n = refl
front_complete return_feed rest n = refl
front_complete semicolon rest n = refl
front_complete (number {d} {ds} h lt) rest n =
    front_word d ds rest (Number (digits_value 10 (d ∷ ds))) (all_words is_digit (d ∷ ds) digit_word h) n (rw (and_left (is_digit d) (list_all is_digit ds) h, and_right (is_digit d) (list_all is_digit ds) h, small (digits_value 10 (d ∷ ds)) (2 ^ 127) lt) refl)
front_complete (name {x} h k) rest n = named x h k
  where
    named : (x : List ℕ) → is_name x ≡ true → is_keyword x ≡ false → front (x ++ rest) ≡ Some (Whole (Name x), length x)
    named [] h k = cc
    named (b ∷ bs) h k =
        let letter = and_left (is_small_letter b) (list_all is_name_byte bs) h in
        front_word b bs rest (Name (b ∷ bs)) (all_words is_name_byte (b ∷ bs) name_word (rw (letter_name b letter, and_right (is_small_letter b) (list_all is_name_byte bs) h) refl)) n
        (rw (letter_no_digit b letter, h, k) refl)
front_complete plus rest n = rw (not_first (λ b. b == 43) rest n) refl
front_complete minus rest n = rw (not_first (λ b. b == 62) rest n) refl
front_complete times rest n = rw (not_first (λ b. false) rest n) refl
front_complete equals rest n = rw (not_first (λ b. b == 61) rest n) refl
front_complete opening rest n = rw (not_first (λ b. false) rest n) refl
front_complete closing rest n = rw (not_first (λ b. false) rest n) refl

-- what a byte is that begins something
abbrev KindIs : ℕ → Kind → Type 0
KindIs b K.Word = is_word_byte b ≡ true
KindIs b K.Blank = (b ≡ 32) ⊎ (b ≡ 9)
KindIs b K.Hash = b ≡ 35
KindIs b K.Feed = b ≡ 10
KindIs b K.Return = b ≡ 13
KindIs b K.Semicolon = b ≡ 59
KindIs b (K.Mark (M.Sign Add)) = b ≡ 43
KindIs b (K.Mark (M.Sign Subtract)) = b ≡ 45
KindIs b (K.Mark (M.Sign Multiply)) = b ≡ 42
KindIs b (K.Mark M.Equals) = b ≡ 61
KindIs b (K.Mark M.Opening) = b ≡ 40
KindIs b (K.Mark M.Closing) = b ≡ 41
KindIs b K.Other = Unit {0}

if_kind : (b : ℕ) (t : Bool) (x y : Kind) → (t ≡ true → KindIs b x) → KindIs b y → KindIs b (if t then x else y)
if_kind b true x y f g = f refl
if_kind b false x y f g = g

same : (b k : ℕ) → (b == k) ≡ true → b ≡ k
same b k h = grind (arith, nat_tests)

either : (b : ℕ) → (b == 32 || b == 9) ≡ true → (b ≡ 32) ⊎ (b ≡ 9)
either b h = of (b == 32) refl h
  where
    of : (t : Bool) → t ≡ (b == 32) → (t || b == 9) ≡ true → (b ≡ 32) ⊎ (b ≡ 9)
    of true e h = inl (same b 32 (sym e))
    of false e h = inr (same b 9 h)

kind_is : (b : ℕ) → KindIs b (kind_of b)
kind_is b =
    if_kind b _ K.Word _ (λ h. h)
    (if_kind b _ K.Blank _ (either b)
    (if_kind b _ K.Hash _ (same b 35)
    (if_kind b _ K.Feed _ (same b 10)
    (if_kind b _ K.Return _ (same b 13)
    (if_kind b _ K.Semicolon _ (same b 59)
    (if_kind b _ (K.Mark (M.Sign Add)) _ (same b 43)
    (if_kind b _ (K.Mark (M.Sign Subtract)) _ (same b 45)
    (if_kind b _ (K.Mark (M.Sign Multiply)) _ (same b 42)
    (if_kind b _ (K.Mark M.Equals) _ (same b 61)
    (if_kind b _ (K.Mark M.Opening) _ (same b 40)
    (if_kind b (b == 41) (K.Mark M.Closing) K.Other (same b 41) tt)))))))))))

after_prefix : (p : ℕ → Bool) (xs : List ℕ) → NotFirst p (drop (prefix_len p xs) xs)
after_prefix p [] = tt
after_prefix p (x ∷ xs) = of (p x) refl (after_prefix p xs)
  where
    of : (t : Bool) → p x ≡ t → NotFirst p (drop (prefix_len p xs) xs) → NotFirst p (drop (cond t (1 + prefix_len p xs) 0) (x ∷ xs))
    of true e h = let f : 1 + prefix_len p xs ≡ suc (prefix_len p xs) = omega arith in rw f h
    of false e h = e

prefix_all : (p : ℕ → Bool) (xs : List ℕ) → list_all p (take (prefix_len p xs) xs) ≡ true
prefix_all p [] = refl
prefix_all p (x ∷ xs) = of (p x) refl (prefix_all p xs)
  where
    of : (t : Bool) → p x ≡ t → list_all p (take (prefix_len p xs) xs) ≡ true → list_all p (take (cond t (1 + prefix_len p xs) 0) (x ∷ xs)) ≡ true
    of true e h = let f : 1 + prefix_len p xs ≡ suc (prefix_len p xs) = omega arith in rw f (rw (e, h) refl)
    of false e h = refl

-- a word's token is written by the word, and goes on as words do
word_writes : (w : List ℕ) (t : Token) → word_token w ≡ Some t → Writes w (Whole t) × ((rest : List ℕ) → NotFirst is_word_byte rest → NotFirst (goes_on (Whole t)) rest)
word_writes [] t h = cc
word_writes (b ∷ bs) t h = of (is_digit b) refl h
  where
    go_on : (t u : Token) → u ≡ t → ((rest : List ℕ) → NotFirst is_word_byte rest → NotFirst (goes_on (Whole u)) rest) → (rest : List ℕ) → NotFirst is_word_byte rest → NotFirst (goes_on (Whole t)) rest
    go_on t u e f = subst (λ v. (rest : List ℕ) → NotFirst is_word_byte rest → NotFirst (goes_on (Whole v)) rest) e f

    plain : (rest : List ℕ) → NotFirst is_word_byte rest → NotFirst is_word_byte rest
    plain rest h = h

    numbered : (v : Bool) → v ≡ (list_all is_digit (b ∷ bs) && nat_lt (digits_value 10 (b ∷ bs)) (2 ^ 127)) → (if v then Some (Number (digits_value 10 (b ∷ bs))) else None) ≡ Some t
        → Writes (b ∷ bs) (Whole t) × ((rest : List ℕ) → NotFirst is_word_byte rest → NotFirst (goes_on (Whole t)) rest)
    numbered false e k = cc
    numbered true e k =
        let is : Number (digits_value 10 (b ∷ bs)) ≡ t = cc in
        let lt : digits_value 10 (b ∷ bs) < 2 ^ 127 = less (digits_value 10 (b ∷ bs)) (2 ^ 127) (and_right (list_all is_digit (b ∷ bs)) _ (sym e)) in
        (subst (λ v. Writes (b ∷ bs) (Whole v)) is (number {d = b} {ds = bs} (and_left (list_all is_digit (b ∷ bs)) _ (sym e)) lt), go_on t (Number (digits_value 10 (b ∷ bs))) is plain)
      where
        less : (n k : ℕ) → nat_lt n k ≡ true → n < k
        less n k h = grind (arith, nat_tests)

    named : (v : Bool) → v ≡ (is_name (b ∷ bs) && not (is_keyword (b ∷ bs))) → (if v then Some (Name (b ∷ bs)) else None) ≡ Some t
        → Writes (b ∷ bs) (Whole t) × ((rest : List ℕ) → NotFirst is_word_byte rest → NotFirst (goes_on (Whole t)) rest)
    named false e k = cc
    named true e k =
        let is : Name (b ∷ bs) ≡ t = cc in
        (subst (λ v. Writes (b ∷ bs) (Whole v)) is (name (and_left (is_name (b ∷ bs)) _ (sym e)) (not_true _ (and_right (is_name (b ∷ bs)) _ (sym e)))), go_on t (Name (b ∷ bs)) is plain)
      where
        not_true : (v : Bool) → not v ≡ true → v ≡ false
        not_true true h = cc
        not_true false h = refl

    of : (v : Bool) → is_digit b ≡ v → (if v then (if list_all is_digit (b ∷ bs) && nat_lt (digits_value 10 (b ∷ bs)) (2 ^ 127) then Some (Number (digits_value 10 (b ∷ bs))) else None)
        else (if is_name (b ∷ bs) && not (is_keyword (b ∷ bs)) then Some (Name (b ∷ bs)) else None)) ≡ Some t → Writes (b ∷ bs) (Whole t) × ((rest : List ℕ) → NotFirst is_word_byte rest → NotFirst (goes_on (Whole t)) rest)
    of true e k = numbered (list_all is_digit (b ∷ bs) && nat_lt (digits_value 10 (b ∷ bs)) (2 ^ 127)) refl k
    of false e k = named (is_name (b ∷ bs) && not (is_keyword (b ∷ bs))) refl k

abbrev found : Piece → ℕ → Option (Piece × ℕ)
found p n = Some (p, n)

-- what was found is one thing
abbrev piece_in : Option (Piece × ℕ) → Piece
piece_in None = Blank
piece_in (Some f) = f.0

abbrev len_in : Option (Piece × ℕ) → ℕ
len_in None = 0
len_in (Some f) = f.1

one_piece : (p q : Piece) (n m : ℕ) → found p n ≡ found q m → p ≡ q
one_piece p q n m h = ap piece_in h

one_len : (p q : Piece) (n m : ℕ) → found p n ≡ found q m → n ≡ m
one_len p q n m h = ap len_in h

-- the front of the bytes is the piece
pub record Fronts (all : List ℕ) (p : Piece) (n : ℕ) : Type 0 where
  pub writes : Writes (take n all) p
  pub ends : NotFirst (goes_on p) (drop n all)
  pub some : 0 < n
  pub within : n ≤ length all

module _ (b : ℕ) (after : List ℕ) (p : Piece) (n : ℕ) where
  abbrev Goal : Type 0
  Goal = Fronts (b ∷ after) p n

  -- a piece of one byte
  one : (k : ℕ) (q : Piece) → b ≡ k → Writes (k ∷ []) q → found q 1 ≡ found p n → NotFirst (goes_on q) after → Goal
  one k q e w h f =
      let i = one_piece q p 1 n h in
      let j = one_len q p 1 n h in
      record {
        writes = subst (λ v. Writes (take v (b ∷ after)) p) j (subst (λ v. Writes (v ∷ []) p) (sym e) (subst (λ v. Writes (k ∷ []) v) i w));
        ends = subst (λ v. NotFirst (goes_on p) (drop v (b ∷ after))) j (subst (λ v. NotFirst (goes_on v) after) i f);
        some = omega arith;
        within = omega arith;
      }

  sign : (k : ℕ) (t : Token) (v : Bool) → first_is (goes_on (Whole t)) after ≡ v → b ≡ k → Writes (k ∷ []) (Whole t) → (if v then None else found (Whole t) 1) ≡ found p n → Goal
  sign k t true f e w h = cc
  sign k t false f e w h = one k (Whole t) e w h (first_not (goes_on (Whole t)) after f)

  word : (r : Option Token) → word_token (take (prefix_len is_word_byte (b ∷ after)) (b ∷ after)) ≡ r → is_word_byte b ≡ true → option_map (λ t. (Whole t, prefix_len is_word_byte (b ∷ after))) r ≡ found p n → Goal
  word None e w h = cc
  word (Some t) e w h =
      let len = prefix_len is_word_byte (b ∷ after) in
      let i = one_piece (Whole t) p len n h in
      let j = one_len (Whole t) p len n h in
      let k = word_writes (take len (b ∷ after)) t e in
      record {
        writes = subst (λ v. Writes (take v (b ∷ after)) p) j (subst (λ v. Writes (take len (b ∷ after)) v) i k.0);
        ends = subst (λ v. NotFirst (goes_on p) (drop v (b ∷ after))) j (subst (λ v. NotFirst (goes_on v) (drop len (b ∷ after))) i (k.1 (drop len (b ∷ after)) (after_prefix is_word_byte (b ∷ after))));
        some = let s : 0 < len = rw w (omega arith) in omega arith;
        within = let s : len ≤ length (b ∷ after) = prefix_len-le-length is_word_byte (b ∷ after) in omega arith;
      }

  hash : b ≡ 35 → found Comment (prefix_len is_in_line (b ∷ after)) ≡ found p n → Goal
  hash e h =
      let i = one_piece Comment p (prefix_len is_in_line (b ∷ after)) n h in
      let j : 1 + prefix_len is_in_line after ≡ n = ap (λ c. prefix_len is_in_line (c ∷ after)) (sym e) ∙ one_len Comment p (prefix_len is_in_line (b ∷ after)) n h in
      let f : 1 + prefix_len is_in_line after ≡ suc (prefix_len is_in_line after) = omega arith in
      let w : Writes (35 ∷ take (prefix_len is_in_line after) after) Comment = comment (prefix_all is_in_line after) in
      record {
        writes = subst (λ v. Writes (take v (b ∷ after)) p) (sym f ∙ j) (subst (λ v. Writes (v ∷ take (prefix_len is_in_line after) after) p) (sym e) (subst (λ v. Writes (35 ∷ take (prefix_len is_in_line after) after) v) i w));
        ends = subst (λ v. NotFirst (goes_on p) (drop v (b ∷ after))) (sym f ∙ j) (subst (λ v. NotFirst (goes_on v) (drop (prefix_len is_in_line after) after)) i (after_prefix is_in_line after));
        some = omega arith;
        within = let s : prefix_len is_in_line after ≤ length after = prefix_len-le-length is_in_line after in omega arith;
      }

  return : (v : Bool) → first_is (λ c. c == 10) after ≡ v → b ≡ 13 → (if v then found Newline 2 else None) ≡ found p n → Goal
  return false f e h = cc
  return true f e h = two after f
    where
      i : Newline ≡ p
      i = one_piece Newline p 2 n h

      j : 2 ≡ n
      j = one_len Newline p 2 n h

      two : (after : List ℕ) → first_is (λ c. c == 10) after ≡ true → Fronts (b ∷ after) p n
      two [] g = cc
      two (c ∷ rest) g = record {
        writes = subst (λ v. Writes (take v (b ∷ c ∷ rest)) p) j (subst (λ v. Writes (v ∷ c ∷ []) p) (sym e) (subst (λ v. Writes (13 ∷ v ∷ []) p) (sym (same c 10 g)) (subst (λ v. Writes (13 ∷ 10 ∷ []) v) i return_feed)));
        ends = subst (λ v. NotFirst (goes_on p) (drop v (b ∷ c ∷ rest))) j (subst (λ v. NotFirst (goes_on v) rest) i (never rest));
        some = omega (arith, j);
        within = omega (arith, j);
      }

  front_of : (k : Kind) → KindIs b k → front_by k (b ∷ after) after ≡ found p n → Goal
  front_of K.Word i h = word _ refl i h
  front_of K.Blank (inl i) h = one 32 Blank i space h (never after)
  front_of K.Blank (inr i) h = one 9 Blank i tab h (never after)
  front_of K.Hash i h = hash i h
  front_of K.Feed i h = one 10 Newline i feed h (never after)
  front_of K.Return i h = return _ refl i h
  front_of K.Semicolon i h = one 59 Semicolon i semicolon h (never after)
  front_of (K.Mark (M.Sign Add)) i h = sign 43 (Sign Add) _ refl i plus h
  front_of (K.Mark (M.Sign Subtract)) i h = sign 45 (Sign Subtract) _ refl i minus h
  front_of (K.Mark (M.Sign Multiply)) i h = sign 42 (Sign Multiply) _ refl i times h
  front_of (K.Mark M.Equals) i h = sign 61 Equals _ refl i equals h
  front_of (K.Mark M.Opening) i h = sign 40 Opening _ refl i opening h
  front_of (K.Mark M.Closing) i h = sign 41 Closing _ refl i closing h
  front_of K.Other i h = cc

-- what is found at the front is written there
pub front_sound : (all : List ℕ) (p : Piece) (n : ℕ) → front all ≡ Some (p, n) → Fronts all p n
front_sound [] p n h = cc
front_sound (b ∷ after) p n h = front_of b after p n (kind_of b) (kind_is b) h

-- the pieces of a source that isn't at its end
pub pieces_on : {all : List ℕ} {ps : List Piece} (p : Piece) (n : ℕ) → Pieces all ps → front all ≡ Some (p, n) → (qs : List Piece) × (ps ≡ p ∷ qs) × Pieces (drop n all) qs
pieces_on p n none e = cc
pieces_on p n (next {bytes} {rest} {p = q} {ps} w f d) e =
    let g = front_complete w rest f in
    let i = one_piece q p (length bytes) n (sym g ∙ e) in
    let j = one_len q p (length bytes) n (sym g ∙ e) in
    (ps, ap (λ v. v ∷ ps) i, subst (λ v. Pieces v ps) (sym (drop_front bytes rest) ∙ ap (λ k. drop k (bytes ++ rest)) j) d)

pub pieces_at : {all : List ℕ} {qs : List Piece} (p : Piece) (n : ℕ) → front all ≡ Some (p, n) → Pieces (drop n all) qs → Pieces all (p ∷ qs)
pieces_at {all} {qs} p n e d =
    let f = front_sound all p n e in
    subst (λ v. Pieces v (p ∷ qs)) (take_drop n all) (next f.writes f.ends d)

pub no_pieces : {all : List ℕ} {ps : List Piece} → Pieces all ps → 0 < length all → front all ≡ None → ⊥
no_pieces none h e = omega arith
no_pieces (next {bytes} {rest} w f d) h e = let g = front_complete w rest f in cc

pub pieces_end : {ps : List Piece} → Pieces [] ps → ps ≡ []
pieces_end {ps} d = of [] ps d refl
  where
    empty : (bytes rest : List ℕ) → bytes ++ rest ≡ [] → bytes ++ rest ≡ []
    empty bytes rest h = h

    of : (all : List ℕ) (ps : List Piece) → Pieces all ps → all ≡ [] → ps ≡ []
    of all ps none h = refl
    of all ps (next {bytes} {rest} w f d) h =
        let g = front_complete w rest f in
        let k = ap front h in
        cc

-- a source is cut into pieces in one way
pub pieces_one : {all : List ℕ} {ps qs : List Piece} → Pieces all ps → Pieces all qs → ps ≡ qs
pieces_one none d = sym (pieces_end d)
pieces_one (next {bytes} {rest} {p} {ps} w f d) e =
    let k = pieces_on p (length bytes) e (front_complete w rest f) in
    sym (k.1 ∙ ap (λ v. p ∷ v) (sym (pieces_one d (subst (λ v. Pieces v k.0) (drop_front bytes rest) k.2))))
