-- A value as it is written in a source has at least as many bytes as the value has units.
use Rattle.std.proofs.Common.{◌≡◌, ℕ, zero, suc, ◌+◌, ◌-◌, ◌*◌, ◌/◌, ◌%◌, ◌==◌, ◌<◌, ◌≤◌, ◌&&◌, ◌||◌, if◌then◌else◌, Bool, true, false, Option, Some, None, List, [], ◌∷◌, ◌++◌, length, length-append, refl, arith, codes, ℤ, pos, negsuc, nat_lt}
use Rattle.std.specs.Fmt.{digits, digits_onto, digit_glyph, decimal, signed_decimal}
use Rattle.std.specs.Str.{chars, chars_after, continuation_len, lead_bits, encode_utf8_all}
use Rattle.std.proofs.lemmas.Str.{length-le-encodes}
use Rattle.ex_grammar.specs.Texts.{first_is}
use Rattle.ex_terms.specs.Terms.{Term, Terms, AnInteger, AnAtom, AText, ATuple, AList, NoTerm, OneMore}
use Rattle.ex_terms.specs.Sizes.{size_of, sizes_of, capped}
use Rattle.ex_terms.specs.Seen.{term_of}
use Rattle.ex_terms.specs.declared.values.Value.{Value}
use Rattle.ex_prims.specs.Answers.{Prints}
use Rattle.ex_terms.specs.Printed.{inspected, all_inspected, more_inspected, atom_inspected, atom_text, is_value_word, is_name, is_alias, quoted, inner, escaped, escaped_by, short_escape, plain_char, coded_char}

-- digits
digits-some : (k base : ℕ) (upper : Bool) (n : ℕ) (acc : List ℕ) → 1 ≤ length acc → 1 ≤ length (digits_onto k base upper n acc)
digits-some zero base upper n acc h = h
digits-some (suc k) base upper n acc h = elim (n / base == 0) as (λ b. 1 ≤ length (if b then digit_glyph upper (n % base) ∷ acc else digits_onto k base upper (n / base) (digit_glyph upper (n % base) ∷ acc))) [
  | true ↦ omega arith
  | false ↦ digits-some k base upper (n / base) (digit_glyph upper (n % base) ∷ acc) (omega arith)
]

first-digit : (k base : ℕ) (upper : Bool) (n : ℕ) → 1 ≤ length (digits_onto (suc k) base upper n [])
first-digit k base upper n = elim (n / base == 0) as (λ b. 1 ≤ length (if b then digit_glyph upper (n % base) ∷ [] else digits_onto k base upper (n / base) (digit_glyph upper (n % base) ∷ []))) [
  | true ↦ omega arith
  | false ↦ digits-some k base upper (n / base) (digit_glyph upper (n % base) ∷ []) (omega arith)
]

decimal-some : (n : ℕ) → 1 ≤ length (decimal n)
unfolding digits
decimal-some n = first-digit 63 10 false n

integer-some : (z : ℤ) → 1 ≤ length (signed_decimal z)
integer-some (pos n) = decimal-some n
integer-some (negsuc n) = omega arith

-- each character takes four bytes at most
lead-most : (b : ℕ) → continuation_len b ≤ 3
lead-most b = grind arith

chars-most : (n c : ℕ) (bs : List ℕ) → length bs ≤ 4 * length (chars_after n c bs) + n
chars-most zero c [] = omega arith
chars-most zero c (b ∷ bs) = omega (arith, chars-most (continuation_len b) (lead_bits b) bs, lead-most b)
chars-most (suc n) c [] = omega arith
chars-most (suc n) c (b ∷ bs) = omega (arith, chars-most n (c * 64 + (b - 128)) bs)

all-chars : (bs : List ℕ) → length bs ≤ 4 * length (chars bs) + 4
unfolding chars
all-chars [] = omega arith
all-chars (b ∷ bs) = omega (arith, chars-most (continuation_len b) (lead_bits b) bs, lead-most b)

-- an escape has at least one character
abbrev SomeIn : Option (List ℕ) → Type 0
SomeIn None = Unit {0}
SomeIn (Some escape) = 1 ≤ length escape

some-either : (b : Bool) (escape : List ℕ) (other : Option (List ℕ)) → 1 ≤ length escape → SomeIn other → SomeIn (if b then Some escape else other)
some-either true escape other h k = h
some-either false escape other h k = k

short-some : (c : ℕ) → SomeIn (short_escape c)
short-some c =
    some-either (c == 10) (codes "\\n") _ (omega arith)
    (some-either (c == 9) (codes "\\t") _ (omega arith)
    (some-either (c == 13) (codes "\\r") _ (omega arith)
    (some-either (c == 34) (codes "\\\"") _ (omega arith)
    (some-either (c == 92) (codes "\\\\") None (omega arith) tt))))

plain-some : (c : ℕ) → 1 ≤ length (plain_char c)
plain-some c = elim (nat_lt c 32) as (λ b. 1 ≤ length (if b then coded_char c else c ∷ [])) [ true ↦ omega arith | false ↦ omega arith ]

by-some : (o : Option (List ℕ)) (c : ℕ) (brace : Bool) → SomeIn o → 1 ≤ length (escaped_by o c brace)
by-some (Some escape) c brace h = h
by-some None c brace h = elim ((c == 35) && brace) as (λ b. 1 ≤ length (if b then codes "\\#" else plain_char c)) [ true ↦ omega arith | false ↦ plain-some c ]

inner-most : (cs : List ℕ) → length cs ≤ length (inner cs)
inner-most [] = omega arith
inner-most (c ∷ cs) =
    let brace : Bool = first_is (λ d. d == 123) cs in
    omega (arith, inner-most cs, by-some (short_escape c) c brace (short-some c), length-append (escaped c brace) (inner cs))

quoted-most : (t : List ℕ) → 1 + length t / 16 ≤ length (quoted t)
quoted-most t =
    let text : List ℕ = encode_utf8_all (inner (chars t)) in
    omega (arith, all-chars t, inner-most (chars t), length-le-encodes (inner (chars t)), length-append text (34 ∷ []))

plain-most : (t : List ℕ) → 1 ≤ length t → 1 + length t / 16 ≤ length t
plain-most t h = omega (arith, h)

word-some : (t : List ℕ) → is_value_word t ≡ true → 1 ≤ length t
word-some [] e = absurd (cc)
word-some (b ∷ bs) e = omega arith

text-most : (t : List ℕ) → 1 + length t / 16 ≤ suc (length (atom_text t))
text-most t = elim (is_name (chars t) || is_alias t) as (λ b. 1 + length t / 16 ≤ suc (length (if b then t else quoted t))) [ true ↦ omega arith | false ↦ omega (arith, quoted-most t) ]

atom-most : (t : List ℕ) → 1 + length t / 16 ≤ length (atom_inspected t)
atom-most t = elim (is_value_word t) as (λ b. is_value_word t ≡ b → 1 + length t / 16 ≤ length (if b then t else 58 ∷ atom_text t)) [ true ↦ λ e. plain-most t (word-some t e) | false ↦ λ e. text-most t ] refl

mutual
  pub inspected-most : (t : Term) → size_of t ≤ length (inspected t)
  inspected-most (AnInteger z) = integer-some z
  inspected-most (AnAtom t) = atom-most t
  inspected-most (AText t) = quoted-most t
  inspected-most (ATuple ts) = omega (arith, all-most ts, length-append (all_inspected ts) (125 ∷ []))
  inspected-most (AList ts) = omega (arith, all-most ts, length-append (all_inspected ts) (93 ∷ []))

  all-most : (ts : Terms) → sizes_of ts ≤ length (all_inspected ts)
  all-most NoTerm = omega arith
  all-most (OneMore t ts) = omega (arith, inspected-most t, more-most ts, length-append (inspected t) (more_inspected ts))

  more-most : (ts : Terms) → sizes_of ts ≤ length (more_inspected ts)
  more-most NoTerm = omega arith
  more-most (OneMore t ts) = omega (arith, inspected-most t, more-most ts, length-append (inspected t) (more_inspected ts))

-- a line has no room where the value has no fewer units than there are bytes left
pub no-room : (v : Value) (size room : ℕ) → size ≡ capped (size_of (term_of v)) → room ≤ size → (text : List ℕ) × (w : Value) × (Prints (inspected (term_of v) ++ 10 ∷ []) v ≡ Prints text w) × (room < length text)
no-room v size room e h = (
  inspected (term_of v) ++ 10 ∷ [],
  v,
  refl,
  omega (arith, e, h, inspected-most (term_of v), length-append (inspected (term_of v)) (10 ∷ [])),
)
