-- The texts that are open, as the code keeps them.
use Rattle.std.proofs.Common.{◌≡◌, ℕ, zero, suc, ◌+◌, ◌<◌, ◌≤◌, ◌^◌, ◌==◌, ◌&&◌, List, [], ◌∷◌, ◌++◌, length-append, nat_lt, if◌then◌else◌, length, take, drop, Bool, true, false, Option, Some, None, refl, sym, ap, ◌∙◌, arith, subst}
use Rattle.ex_grammar.specs.declared.token.Sign.TheVariants.{OpenBrace, CloseBrace}
use Rattle.ex_grammar.specs.declared.token.LexErrorKind.TheVariants.{BadChar, BadNumber, BadEscape, OpenText}
use Rattle.ex_grammar.specs.Tokens.{Token, Placed, Mark, TextBegins, HoleBegins, HoleEnds, TextEnds}
use Rattle.ex_grammar.specs.Lexing as L
use Rattle.ex_grammar.specs.Lexing.{Piece, Whole, Part, part, braces_by}
use Rattle.ex_grammar.specs.Newlines.{Gap}
use Rattle.ex_lexer.specs.declared.lexer.Hole.{Hole}
use Rattle.ex_lexer.specs.declared.lexer.Step.{Step as CodeStep}
use Rattle.ex_lexer.specs.declared.lexer.Step.TheVariants as C
use Rattle.ex_lexer.specs.declared.settled.Settled.{Settled}
use Rattle.ex_lexer.specs.declared.texts.Stop.{Stop}
use Rattle.ex_lexer.specs.declared.texts.Stop.TheVariants.{Quote, Hole as AtHole, End, Escape}
use Rattle.ex_lexer.specs.Machine.{Holes, stop_by, text_step, braced, holes_after, piece_step, ends_hole, outer, opening_of}
use Rattle.ex_lexer.specs.Runs.{Run, run, digits_at, name_len}
use Rattle.ex_lexer.specs.Front.{Front, Takes, Fails, front, front_by, class_of, quoted_by, after_first, fitting, key_or_word, key_len, signed_by}
use Rattle.ex_lexer.specs.Parts.{IsPart, IsFront, takes, fails}
use Rattle.ex_lexer.specs.declared.front.Class.{Class}
use Rattle.ex_lexer.specs.declared.front.Class.TheVariants as K
use Rattle.ex_lexer.specs.declared.front.Part.{Part as CodePart}
use Rattle.ex_lexer.specs.declared.front.Front.{Front as CodeFront}
use Rattle.ex_lexer.specs.declared.front.Front.TheVariants as F
use Rattle.ex_lexer.proofs.Bools.{if_true, if_false}
use Rattle.ex_lexer.proofs.Sounds.{Answers, front_found}
use Rattle.std.specs.List.{prefix_len}
use Rattle.std.specs.Str.{chars, IsUtf8}
use Rattle.std.specs.Str.Parse.{digits_value}
use Rattle.ex_grammar.specs.declared.token.Sign.{Sign}
use Rattle.ex_grammar.specs.declared.token.LexErrorKind.{LexErrorKind}
use Rattle.ex_grammar.specs.declared.token.Token.{Token as CodeToken}
use Rattle.ex_grammar.specs.Tokens.{Atom, signs}
use Rattle.ex_grammar.specs.Texts.{first_is}
use Rattle.ex_grammar.specs.Names.{is_capital, is_alias_byte, is_letter, begins_name}
use Rattle.ex_grammar.specs.Lexing.{sign_in}
use Rattle.ex_lexer.specs.Settled.{gap_of, Adds}
use Rattle.ex_lexer.specs.Open.{IsHole, AreOuter, IsOpen, IsDone, step_at}
use Rattle.ex_lexer.proofs.SettlingTokens.{adds_twice}

-- a piece opens one brace at most
pub braced_small : (n : ℕ) (p : Piece) → braced n (braces_by p (Some n)) ≤ n + 1
braced_small n (Whole (Mark OpenBrace)) = omega arith
braced_small zero (Whole (Mark CloseBrace)) = omega arith
braced_small (suc n) (Whole (Mark CloseBrace)) = omega arith
braced_small n p = omega arith

pub hole_counted : (at b : ℕ) (x : Hole) (h : ℕ × ℕ) (p : Piece) → IsHole at x h → b ≡ braced x.braces (braces_by p (Some x.braces)) → IsHole (at + 1) (record { opening = x.opening; braces = b }) (h.0, braced h.1 (braces_by p (Some h.1)))
hole_counted at b x h p i e = record {
  opening = i.opening;
  braces = e ∙ ap (λ n. braced n (braces_by p (Some n))) i.braces;
  small = let q = braced_small h.1 p in let s = i.small in omega arith;
}

outer_more : (at : ℕ) (xs : List Hole) (hs : Holes) → AreOuter at xs hs → AreOuter (at + 1) xs hs
outer_more at xs [] h = h
outer_more at xs (k ∷ hs) h = (h.0, h.1, h.2, record { opening = h.3.opening; braces = h.3.braces; small = let q = h.3.small in omega arith }, outer_more at h.0 hs h.4)

pub counted_none : (at : ℕ) (inner : Option Hole) (xs : List Hole) (holes : Holes) (p : Piece) → inner ≡ None → IsOpen at inner xs holes → IsOpen (at + 1) inner xs (holes_after p holes)
counted_none at None xs [] p e h = h
counted_none at None xs (k ∷ hs) p e h = absurd h
counted_none at (Some x) xs holes p e h = absurd (cc)

pub counted_some : (at b : ℕ) (x : Hole) (inner : Option Hole) (xs : List Hole) (holes : Holes) (p : Piece) → inner ≡ Some x → b ≡ braced x.braces (braces_by p (Some x.braces)) → IsOpen at inner xs holes → IsOpen (at + 1) (Some (record { opening = x.opening; braces = b })) xs (holes_after p holes)
counted_some at b x inner xs holes p e f h = of holes (subst (λ v. IsOpen at v xs holes) e h)
  where
    of : (holes : Holes) → IsOpen at (Some x) xs holes → IsOpen (at + 1) (Some (record { opening = x.opening; braces = b })) xs (holes_after p holes)
    of [] h = absurd h
    of (k ∷ hs) h = (hole_counted at b x k p h.0 f, outer_more at xs hs h.1)

pub small_inner : (x : Hole) (inner : Option Hole) (xs : List Hole) → inner ≡ Some x → (at : ℕ) × (holes : Holes) × (at < 2 ^ 63) × IsOpen at inner xs holes → x.braces < 2 ^ 63
small_inner x inner xs e o = of o.1 (subst (λ v. IsOpen o.0 v xs o.1) e o.3)
  where
    of : (holes : Holes) → IsOpen o.0 (Some x) xs holes → x.braces < 2 ^ 63
    of [] h = absurd h
    of (k ∷ hs) h = let q = h.0.small in let r = h.0.braces in let s = o.2 in omega arith

-- whether the innermost is at its end
pub no_hole_ends : (most : ℕ) (inner : Option Hole) (xs : List Hole) (holes : Holes) → inner ≡ None → IsOpen most inner xs holes → false ≡ ends_hole 125 holes
no_hole_ends most None xs [] e h = refl
no_hole_ends most None xs (k ∷ hs) e h = absurd h
no_hole_ends most (Some x) xs holes e h = absurd (cc)

pub hole_ends : (most : ℕ) (x : Hole) (inner : Option Hole) (xs : List Hole) (holes : Holes) → inner ≡ Some x → IsOpen most inner xs holes → (x.braces == 0) ≡ ends_hole 125 holes
hole_ends most x inner xs holes e h = of holes (subst (λ v. IsOpen most v xs holes) e h)
  where
    of : (holes : Holes) → IsOpen most (Some x) xs holes → (x.braces == 0) ≡ ends_hole 125 holes
    of [] h = absurd h
    of (k ∷ hs) h = ap (λ n. n == 0) h.0.braces

-- coming into a `#{`
pub entered_none : (most o : ℕ) (inner : Option Hole) (xs : List Hole) (holes : Holes) → inner ≡ None → IsOpen most inner xs holes → IsOpen most (Some (record { opening = o; braces = 0 })) xs ((o, 0) ∷ holes)
entered_none most o None xs [] e h = (record { opening = refl; braces = refl; small = omega arith }, h)
entered_none most o None xs (k ∷ hs) e h = absurd h
entered_none most o (Some x) xs holes e h = absurd (cc)

pub entered_some : (most o : ℕ) (x : Hole) (inner : Option Hole) (xs ys : List Hole) (holes : Holes) → inner ≡ Some x → ys ≡ xs ++ x ∷ [] → IsOpen most inner xs holes → IsOpen most (Some (record { opening = o; braces = 0 })) ys ((o, 0) ∷ holes)
entered_some most o x inner xs ys holes e f h = of holes (subst (λ v. IsOpen most v xs holes) e h)
  where
    of : (holes : Holes) → IsOpen most (Some x) xs holes → IsOpen most (Some (record { opening = o; braces = 0 })) ys ((o, 0) ∷ holes)
    of [] h = absurd h
    of (k ∷ hs) h = (record { opening = refl; braces = refl; small = omega arith }, (xs, x, f, h.0, h.1))

-- what stands after the characters of a text
pub stop_refused : (most o at n : ℕ) (made : List Placed) (before : Option Token) (gap : Gap) (holes : Holes) (s : Stop) (new : Settled) (inner : Option Hole) (xs : List Hole) → s ≡ End → IsDone most made before gap (stop_by s holes o at n []) new inner xs (C.Refuses o OpenText)
stop_refused most o at n made before gap holes s new inner xs e = subst (λ v. IsDone most made before gap (stop_by v holes o at n []) new inner xs (C.Refuses o OpenText)) (sym e) (refl, refl)

pub stop_escape : (most o at n : ℕ) (made : List Placed) (before : Option Token) (gap : Gap) (holes : Holes) (s : Stop) (new : Settled) (inner : Option Hole) (xs : List Hole) → s ≡ Escape → IsDone most made before gap (stop_by s holes o at n []) new inner xs (C.Refuses o BadEscape)
stop_escape most o at n made before gap holes s new inner xs e = subst (λ v. IsDone most made before gap (stop_by v holes o at n []) new inner xs (C.Refuses o BadEscape)) (sym e) (refl, refl)

pub stop_quote : (most o at n : ℕ) (made : List Placed) (before : Option Token) (gap : Gap) (holes : Holes) (s : Stop) (new : Settled) (inner : Option Hole) (xs : List Hole) → s ≡ Quote → IsOpen most inner xs holes
    → Adds made before gap (part (Whole TextEnds) at (at + 1) ∷ []) new.tokens.items new.drops (gap_of new.gap) → IsDone most made before gap (stop_by s holes o at n []) new inner xs (C.Goes (n + 1))
stop_quote most o at n made before gap holes s new inner xs e h a = subst (λ v. IsDone most made before gap (stop_by v holes o at n []) new inner xs (C.Goes (n + 1))) (sym e) (refl, h, a)

pub stop_hole : (most o at n : ℕ) (made : List Placed) (before : Option Token) (gap : Gap) (holes : Holes) (s : Stop) (new : Settled) (inner : Option Hole) (xs : List Hole) → s ≡ AtHole → IsOpen most inner xs ((o, 0) ∷ holes)
    → Adds made before gap (part (Whole HoleBegins) at (at + 2) ∷ []) new.tokens.items new.drops (gap_of new.gap) → IsDone most made before gap (stop_by s holes o at n []) new inner xs (C.Goes (n + 2))
stop_hole most o at n made before gap holes s new inner xs e h a = subst (λ v. IsDone most made before gap (stop_by v holes o at n []) new inner xs (C.Goes (n + 2))) (sym e) (refl, h, a)

-- a part, and then that
pub stop_after : (most o at n : ℕ) (made : List Placed) (before : Option Token) (gap mid : Gap) (holes : Holes) (s : Stop) (p : Part) (xs' : List CodeToken) (d : Bool) (new : Settled) (inner : Option Hole) (xs : List Hole) (x : CodeStep)
    (a : Adds made before gap (p ∷ []) xs' d mid) → IsDone most a.made' a.before' mid (stop_by s holes o at n []) new inner xs x → IsDone most made before gap (stop_by s holes o at n (p ∷ [])) new inner xs x
stop_after most o at n made before gap mid holes Quote p xs' d new inner xs (C.Goes m) a h = (h.0, h.1, adds_twice a h.2)
stop_after most o at n made before gap mid holes Quote p xs' d new inner xs (C.Refuses q k) a h = h
stop_after most o at n made before gap mid holes AtHole p xs' d new inner xs (C.Goes m) a h = (h.0, h.1, adds_twice a h.2)
stop_after most o at n made before gap mid holes AtHole p xs' d new inner xs (C.Refuses q k) a h = h
stop_after most o at n made before gap mid holes End p xs' d new inner xs (C.Goes m) a h = h
stop_after most o at n made before gap mid holes End p xs' d new inner xs (C.Refuses q k) a h = h
stop_after most o at n made before gap mid holes Escape p xs' d new inner xs (C.Goes m) a h = h
stop_after most o at n made before gap mid holes Escape p xs' d new inner xs (C.Refuses q k) a h = h

-- a text's step by what was read
pub text_done : (most o at n : ℕ) (said : List ℕ) (st : Stop) (r : Run) (made : List Placed) (before : Option Token) (gap : Gap) (holes : Holes) (token : List ℕ → Token) (new : Settled) (inner : Option Hole) (xs : List Hole) (x : CodeStep)
    → said ≡ r.bytes → n ≡ r.len → st ≡ r.stop → IsDone most made before gap (stop_by st holes o (at + (1 + n)) (1 + n) (part (Whole (token said)) at (at + (1 + n)) ∷ [])) new inner xs x → IsDone most made before gap (text_step token holes o at r) new inner xs x
text_done most o at n said st r made before gap holes token new inner xs x e f g h =
    subst (λ s. IsDone most made before gap (stop_by s holes o (at + (1 + r.len)) (1 + r.len) (part (Whole (token r.bytes)) at (at + (1 + r.len)) ∷ [])) new inner xs x) g
    (subst (λ m. IsDone most made before gap (stop_by st holes o (at + (1 + m)) (1 + m) (part (Whole (token r.bytes)) at (at + (1 + m)) ∷ [])) new inner xs x) f
    (subst (λ v. IsDone most made before gap (stop_by st holes o (at + (1 + n)) (1 + n) (part (Whole (token v)) at (at + (1 + n)) ∷ [])) new inner xs x) e h))

wider_outer : (at : ℕ) (xs : List Hole) (hs : Holes) → AreOuter at xs hs → AreOuter (at + 1) xs hs
wider_outer at xs hs h = outer_more at xs hs h

pub open_more : (at : ℕ) (inner : Option Hole) (xs : List Hole) (holes : Holes) → IsOpen at inner xs holes → IsOpen (at + 1) inner xs holes
open_more at None xs [] h = h
open_more at None xs (k ∷ hs) h = absurd h
open_more at (Some x) xs [] h = absurd h
open_more at (Some x) xs (k ∷ hs) h = (record { opening = h.0.opening; braces = h.0.braces; small = let q = h.0.small in omega arith }, outer_more at xs hs h.1)

-- whether the bytes begin with a `}` that ends a `#{`
pub closes_at : (bytes : List ℕ) (holes : Holes) (t u r : Bool) → t ≡ first_is (λ b. b == 125) bytes → u ≡ ends_hole 125 holes → r ≡ (t && u) → r ≡ first_is (λ b. ends_hole b holes) bytes
closes_at [] holes t u r e f g = g ∙ ap (λ v. v && u) e
closes_at (b ∷ bytes) [] t u r e f g = g ∙ (ap (λ v. t && v) f ∙ and_none t)
  where
    and_none : (t : Bool) → (t && false) ≡ false
    and_none true = refl
    and_none false = refl
closes_at (b ∷ bytes) (h ∷ hs) t u r e f g = g ∙ (ap (λ v. v && u) e ∙ ap (λ v. b == 125 && v) f)

-- steps by the first byte
pub step_quote : (holes : Holes) (at : ℕ) (rest : List ℕ) → first_is (λ b. b == 34) rest ≡ true → step_at holes at rest ≡ text_step TextBegins holes at at (run 0 (drop 1 rest))
step_quote holes at [] h = cc
step_quote holes at (b ∷ bytes) h = if_true _ _ _ h

pub step_hole : (holes : Holes) (at : ℕ) (rest : List ℕ) → first_is (λ b. b == 34) rest ≡ false → first_is (λ b. ends_hole b holes) rest ≡ true → step_at holes at rest ≡ text_step HoleEnds (outer holes) (opening_of holes) at (run 0 (drop 1 rest))
step_hole holes at [] h k = cc
step_hole holes at (b ∷ bytes) h k = if_false _ _ _ h ∙ if_true _ _ _ k

pub step_piece : (holes : Holes) (at : ℕ) (rest : List ℕ) → 0 < length rest → first_is (λ b. b == 34) rest ≡ false → first_is (λ b. ends_hole b holes) rest ≡ false → step_at holes at rest ≡ piece_step (front rest) holes at
step_piece holes at [] l h k = absurd (omega arith)
step_piece holes at (b ∷ bytes) l h k = if_false _ _ _ h ∙ if_false _ _ _ k

-- how far a refusal and a piece reach
abbrev FailsSmall : Front → Type 0
FailsSmall (Takes p n) = Unit {0}
FailsSmall (Fails n k) = n ≤ 1

small_if : (t : Bool) (f g : Front) → FailsSmall f → FailsSmall g → FailsSmall (if t then f else g)
small_if true f g h k = h
small_if false f g h k = k

small_zero : (k : LexErrorKind) → FailsSmall (Fails 0 k)
small_zero k = omega arith

small_quoted : (r : Run) (s : Stop) → FailsSmall (quoted_by r s)
small_quoted r Quote = tt
small_quoted r AtHole = omega arith
small_quoted r End = omega arith
small_quoted r Escape = omega arith

small_class : (c : Class) (all bytes : List ℕ) → FailsSmall (front_by c all bytes)
small_class K.Blank all bytes = tt
small_class K.Hash all bytes = tt
small_class K.Feed all bytes = tt
small_class K.Return all bytes = small_if (first_is (λ b. b == 10) bytes) (Takes L.Newline 2) (Fails 0 BadChar) tt (small_zero BadChar)
small_class K.Semicolon all bytes = tt
small_class K.Colon all bytes = small_if (first_is (λ b. b == 34) bytes) (quoted_by (run 0 (after_first bytes)) (run 0 (after_first bytes)).stop) _ (small_quoted (run 0 (after_first bytes)) (run 0 (after_first bytes)).stop)
    (small_if (first_is is_capital bytes) (Takes (Whole (Atom (take (prefix_len is_alias_byte bytes) bytes))) (1 + prefix_len is_alias_byte bytes)) _ tt (small_if (first_is begins_name (chars bytes)) (Takes (Whole (Atom (take (name_len bytes) bytes))) (1 + name_len bytes)) (Fails 0 BadChar) tt (small_zero BadChar)))
small_class K.Digit all bytes = small_if (first_is is_letter (chars (drop (digits_at all).0 all))) (Fails 0 BadNumber) _ (small_zero BadNumber) (of (nat_lt (digits_value 10 (digits_at all).1) (2 ^ 127)))
  where
    of : (t : Bool) → FailsSmall (fitting t (digits_value 10 (digits_at all).1) (digits_at all).0)
    of true = tt
    of false = omega arith
small_class K.Capital all bytes = tt
small_class K.Name all bytes = of (key_len (drop (name_len all) all))
  where
    of : (o : Option ℕ) → FailsSmall (key_or_word o (take (name_len all) all) (drop (name_len all) all) (name_len all))
    of None = tt
    of (Some n) = tt
small_class K.Other all bytes = of (sign_in signs all)
  where
    of : (o : Option (List ℕ × Sign)) → FailsSmall (signed_by o)
    of None = omega arith
    of (Some r) = tt

pub fails_small : (rest : List ℕ) (x : CodeFront) (n : ℕ) (k : LexErrorKind) → IsFront x (front rest) → x ≡ F.Fails n k → n ≤ 1
fails_small rest x n k h e = of (front rest) (small_front rest) (subst (λ v. IsFront v (front rest)) e h)
  where
    small_front : (rest : List ℕ) → FailsSmall (front rest)
    small_front [] = omega arith
    small_front (b ∷ bytes) = small_class (class_of b (first_is begins_name (chars (b ∷ bytes)))) (b ∷ bytes) bytes

    of : (f : Front) → FailsSmall f → IsFront (F.Fails n k) f → n ≤ 1
    of (Fails m j) s fails = s
    of (Takes q m) s h = elim h [ ]

pub takes_within : (rest : List ℕ) (x : CodeFront) (p : CodePart) (n : ℕ) → IsUtf8 rest → first_is (λ b. b == 34) rest ≡ false → 0 < length rest → IsFront x (front rest) → x ≡ F.Takes p n → n ≤ length rest
takes_within [] x p n u q l h e = absurd (omega arith)
takes_within (b ∷ bytes) x p n u q l h e = of (front (b ∷ bytes)) (front_found b bytes u q) (subst (λ v. IsFront v (front (b ∷ bytes))) e h)
  where
    of : (f : Front) → Answers (b ∷ bytes) f → IsFront (F.Takes p n) f → n ≤ length (b ∷ bytes)
    of (Takes r m) s (takes w) = omega (arith, s.len, ap length s.parts, length-append s.text s.rest)
    of (Fails m j) s h = elim h [ ]

-- what a piece's step does
pub piece_refused : (rest : List ℕ) (x : CodeFront) (n : ℕ) (k : LexErrorKind) (most at : ℕ) (made : List Placed) (before : Option Token) (gap : Gap) (holes : Holes) (new : Settled) (inner : Option Hole) (xs : List Hole) → IsFront x (front rest) → x ≡ F.Fails n k
    → IsDone most made before gap (piece_step (front rest) holes at) new inner xs (C.Refuses (at + n) k)
piece_refused rest x n k most at made before gap holes new inner xs h e = of (front rest) (subst (λ v. IsFront v (front rest)) e h)
  where
    of : (f : Front) → IsFront (F.Fails n k) f → IsDone most made before gap (piece_step f holes at) new inner xs (C.Refuses (at + n) k)
    of (Fails m j) fails = (refl, refl)
    of (Takes q m) h = elim h [ ]

pub piece_taken : (rest : List ℕ) (x : CodeFront) (p : CodePart) (n most at : ℕ) (made : List Placed) (before : Option Token) (gap : Gap) (holes : Holes) (new : Settled) (inner : Option Hole) (xs : List Hole) (s : CodeStep) → IsFront x (front rest) → x ≡ F.Takes p n
    → ((q : Piece) → IsPart p q → IsDone most made before gap (piece_step (Takes q n) holes at) new inner xs s) → IsDone most made before gap (piece_step (front rest) holes at) new inner xs s
piece_taken rest x p n most at made before gap holes new inner xs s h e f = of (front rest) (subst (λ v. IsFront v (front rest)) e h)
  where
    of : (g : Front) → IsFront (F.Takes p n) g → IsDone most made before gap (piece_step g holes at) new inner xs s
    of (Takes q m) (takes w) = f q w
    of (Fails m j) h = elim h [ ]
