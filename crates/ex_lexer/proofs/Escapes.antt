-- Escapes of four digits.
use Rattle.std.proofs.Common.{◌≡◌, ℕ, ◌<◌, ◌≤◌, ◌&&◌, Bool, true, false, List, [], ◌∷◌, length, get_or, Some, None, refl, sym, ap, ◌∙◌, arith}
use Rattle.std.specs.Char.{encode_utf8, IsScalar}
use Rattle.ex_grammar.specs.Texts.{are_hexdigits, hex_value}
use Rattle.ex_lexer.specs.Runs.{coded_escape, coded_if, is_coded}
use Rattle.ex_lexer.proofs.Bools.{not_true}

pub coded_of : (xs : List ℕ) → 4 ≤ length xs
    → coded_escape xs ≡ coded_if (are_hexdigits (get_or xs 0 0) (get_or xs 1 0) (get_or xs 2 0) (get_or xs 3 0) && is_coded (hex_value (get_or xs 0 0) (get_or xs 1 0) (get_or xs 2 0) (get_or xs 3 0))) (hex_value (get_or xs 0 0) (get_or xs 1 0) (get_or xs 2 0) (get_or xs 3 0))
coded_of [] h = absurd (omega arith)
coded_of (a ∷ []) h = absurd (omega arith)
coded_of (a ∷ b ∷ []) h = absurd (omega arith)
coded_of (a ∷ b ∷ c ∷ []) h = absurd (omega arith)
coded_of (a ∷ b ∷ c ∷ d ∷ rest) h = refl

pub no_hexdigits : (t u : Bool) (n : ℕ) → t ≡ false → coded_if (t && u) n ≡ None
no_hexdigits true u n h = cc
no_hexdigits false u n h = refl

pub no_scalar : (t : Bool) (n : ℕ) → (IsScalar n → ⊥) → coded_if (t && is_coded n) n ≡ None
no_scalar true n h = rw (not_true _ h) refl
no_scalar false n h = refl

pub is_scalar : (t : Bool) (n : ℕ) → t ≡ true → IsScalar n → coded_if (t && is_coded n) n ≡ Some (5, encode_utf8 n)
is_scalar t n h k = rw (h, k) refl

pub too_short : (xs : List ℕ) → length xs < 4 → coded_escape xs ≡ None
too_short [] h = refl
too_short (a ∷ []) h = refl
too_short (a ∷ b ∷ []) h = refl
too_short (a ∷ b ∷ c ∷ []) h = refl
too_short (a ∷ b ∷ c ∷ d ∷ rest) h = absurd (omega arith)

abbrev hex_at : List ℕ → ℕ
hex_at xs = hex_value (get_or xs 0 0) (get_or xs 1 0) (get_or xs 2 0) (get_or xs 3 0)

abbrev hexdigits_at : List ℕ → Bool
hexdigits_at xs = are_hexdigits (get_or xs 0 0) (get_or xs 1 0) (get_or xs 2 0) (get_or xs 3 0)

pub coded_none : (xs : List ℕ) (n : ℕ) → 4 ≤ length xs → n ≡ hex_at xs → (IsScalar n → ⊥) → coded_escape xs ≡ None
coded_none xs n h e k = coded_of xs h ∙ (ap (λ m. coded_if (hexdigits_at xs && is_coded m) m) (sym e) ∙ no_scalar (hexdigits_at xs) n k)

pub coded_some : (xs : List ℕ) (n c : ℕ) → 4 ≤ length xs → hexdigits_at xs ≡ true → n ≡ hex_at xs → IsScalar n → c ≡ n → coded_escape xs ≡ Some (5, encode_utf8 c)
coded_some xs n c h t e k i = coded_of xs h ∙ (ap (λ m. coded_if (hexdigits_at xs && is_coded m) m) (sym e) ∙ (is_scalar (hexdigits_at xs) n t k ∙ ap (λ m. Some (5, encode_utf8 m)) (sym i)))
