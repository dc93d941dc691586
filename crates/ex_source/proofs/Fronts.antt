-- What the code finds at the front.
use Rattle.std.proofs.Common.{◌≡◌, ℕ, ◌<◌, ◌≤◌, true, false, List, [], ◌∷◌, length, take, drop, get_or, Option, Some, None, MatchOption, refl, sym, ap, ◌∙◌, arith, subst, ◌==◌, ◌-◌, zero, suc, add-one, option_map}
use Rattle.std.proofs.lemmas.Bool.Decides.{nat_tests}
use Rattle.std.proofs.lemmas.List.{take_all}
use Rattle.std.specs.List.{prefix_len}
use Rattle.std.proofs.lemmas.List.Sums.{prefix_len-le-length, prefix_len_passes}
use Rattle.std.specs.Str.{IsUtf8, IsCharBoundary}
use Rattle.std.proofs.lemmas.Str.{IsCharBoundary-start, IsCharBoundary-after_ascii}
use Rattle.ex_model.specs.Tokens.{Token, is_word_byte}
use Rattle.ex_model.specs.Lexing.{Piece, Whole, Newline, goes_on}
use Rattle.ex_source.specs.declared.front.Kind.{Kind}
use Rattle.ex_source.specs.declared.front.Kind.TheVariants as K
use Rattle.ex_source.specs.declared.lexeme.Lexeme.{Lexeme}
use Rattle.ex_source.specs.declared.lexeme.Lexeme.TheVariants.{Mark}
use Rattle.ex_source.specs.declared.lexeme.Mark.{Mark as SignMark}
use Rattle.ex_source.specs.declared.lexeme.Part.{Part}
use Rattle.ex_source.specs.declared.lexeme.Part.TheVariants as P
use Rattle.ex_source.specs.Front.{kind_of, front, front_by, first_is, word_token}
use Rattle.ex_source.specs.Lexemes.{IsLexeme, is_mark, IsPart, is_newline, is_whole, mark_token}

word-ascii : (b : ℕ) → is_word_byte b ≡ true → b < 128
word-ascii b h = grind (arith, nat_tests)

-- what was found is what stands there
abbrev pub Found : Option (Piece × ℕ) → Option (Part × ℕ) → Type 0
Found want r = MatchOption r (want ≡ None) (λ f. (p : Piece) × IsPart f.0 p × (want ≡ Some (p, f.1)))

pub found_at : (want have : Option (Piece × ℕ)) (r : Option (Part × ℕ)) → want ≡ have → Found have r → Found want r
found_at want have r e h = subst (λ w. Found w r) (sym e) h

pub found_return : (all rest : List ℕ) → first_is (λ c. c == 10) rest ≡ true → Found (front_by K.Return all rest) (Some (P.Newline, 2))
found_return all rest h = (Newline, is_newline, rw h refl)

pub found_mark : (m : SignMark) (all rest : List ℕ) → first_is (goes_on (Whole (mark_token m))) rest ≡ false → Found (front_by (K.Mark m) all rest) (Some (P.Whole (Mark m), 1))
found_mark m all rest h = (Whole (mark_token m), is_whole is_mark, rw h refl)

-- the front by what the first byte begins, where the rest is as the code cuts it
pub front_at : (all bytes : List ℕ) (k : Kind) → bytes ≡ all → 1 ≤ length bytes → k ≡ kind_of (get_or bytes 0 0) → front all ≡ front_by k all (take (length bytes - 1) (drop 1 bytes))
front_at [] bytes k e some f = absurd (omega (arith, ap length e))
front_at (b ∷ after) bytes k e some f =
    let g : k ≡ kind_of b = f ∙ ap (λ v. kind_of (get_or v 0 0)) e in
    let cut : take (length bytes - 1) (drop 1 bytes) ≡ after = ap (λ v. take (length v - 1) (drop 1 v)) e ∙ take_all (length (b ∷ after) - 1) after (omega arith) in
    rw g (ap (λ v. front_by (kind_of b) (b ∷ after) v) (sym cut))

-- a text may be cut after letters, digits and `_` at its front
pub word_boundary : (bs : List ℕ) (n : ℕ) → n ≡ prefix_len is_word_byte bs → IsUtf8 bs → IsCharBoundary bs n
word_boundary bs n e utf8 = rw e (front_boundary bs (prefix_len is_word_byte bs) utf8 (prefix_len-le-length is_word_byte bs) (λ k h. prefix_len_passes is_word_byte bs k 0 h))
  where
    front_boundary : (bs : List ℕ) (n : ℕ) → IsUtf8 bs → n ≤ length bs → ((k : ℕ) → k < n → is_word_byte (get_or bs k 0) ≡ true) → IsCharBoundary bs n
    front_boundary bs zero utf8 within passes = IsCharBoundary-start bs utf8
    front_boundary bs (suc n) utf8 within passes = rw (← add-one) (IsCharBoundary-after_ascii bs n utf8 (omega arith) (word-ascii (get_or bs n 0) (passes n (omega arith))))

-- the token of the word at the front
pub found_word : (all after : List ℕ) (x : Lexeme) (len : ℕ) (word : List ℕ) → len ≡ prefix_len is_word_byte all → word ≡ take len all → (t : Token) × IsLexeme x t × (word_token word ≡ Some t)
    → Found (front_by K.Word all after) (Some (P.Whole x, len))
found_word all after x len word e f h = rw (e) (Whole h.0, is_whole h.1, ap (option_map (λ t. (Whole t, prefix_len is_word_byte all))) (subst (λ w. word_token w ≡ Some h.0) (rw e at f) h.2))
