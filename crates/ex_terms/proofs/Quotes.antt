-- Characters put between quotes, one after the other.
use Rattle.std.proofs.Common.{◌≡◌, ℕ, ◌==◌, ◌&&◌, if◌then◌else◌, Bool, true, false, List, [], ◌∷◌, ◌++◌, Option, Some, None, codes, chars, refl, sym, ap, ◌∙◌, append_assoc, arith}
use Rattle.std.proofs.lemmas.List.{append-nil, map-id}
use Rattle.std.proofs.lemmas.Iterator.{YieldsList-from_chars}
use Rattle.std.proofs.lemmas.Iterator.Consumers.{YieldsList-end}
use Rattle.std.proofs.iter.TextItems.{spells}
use Rattle.std.specs.Iterator.{Yields}
use Rattle.std.specs.Str.{IsUtf8}
use Rattle.std.specs.Str.Iter.{chars_rest}
use Rattle.std.specs.declared.str.Chars.{Chars}
use Rattle.std.specs.Str.{encode_utf8_all}
use Rattle.std.proofs.lemmas.Str.{encodes-append}
use Rattle.ex_grammar.specs.Texts.{first_is}
use Rattle.ex_terms.specs.Printed.{inner, pending, waiting, escaped, escaped_by, short_escape, plain_char}

-- what waits is settled by the character that follows it
waits-then : (waits : Bool) (c : ℕ) (back : List ℕ) → waiting waits (c == 123) ++ inner (c ∷ back) ≡ pending waits (c ∷ back)
waits-then true c back = refl
waits-then false c back = refl

joined-bytes : (b0 b1 : List ℕ) (w cs all : List ℕ) → b1 ≡ b0 ++ encode_utf8_all w → w ++ cs ≡ all → b1 ++ encode_utf8_all cs ≡ b0 ++ encode_utf8_all all
joined-bytes b0 b1 w cs all e f =
    ap (λ b. b ++ encode_utf8_all cs) e
    ∙ (append_assoc b0 (encode_utf8_all w) (encode_utf8_all cs) ∙ ap (λ b. b0 ++ b) (sym (encodes-append w cs) ∙ ap encode_utf8_all f))

-- a `#` waits
pub hash-turn : (b0 b1 : List ℕ) (waits : Bool) (c : ℕ) → b1 ≡ b0 ++ encode_utf8_all (waiting waits (c == 123)) → c ≡ 35 → (back : List ℕ) → b1 ++ encode_utf8_all (pending true back) ≡ b0 ++ encode_utf8_all (pending waits (c ∷ back))
hash-turn b0 b1 waits c e is back =
    ap (λ d. b1 ++ encode_utf8_all (inner (d ∷ back))) (sym is) ∙ joined-bytes b0 b1 (waiting waits (c == 123)) (inner (c ∷ back)) (pending waits (c ∷ back)) e (waits-then waits c back)

is-no-hash : (c : ℕ) → ¬ (c ≡ 35) → (c == 35) ≡ false
is-no-hash c h = grind (arith, h)

-- any other character is the same, whatever follows it
no-hash : (o : Option (List ℕ)) (c : ℕ) (b : Bool) → (c == 35) ≡ false → escaped_by o c false ≡ escaped_by o c b
no-hash (Some escape) c b e = refl
no-hash None c b e = ap (λ k. if k && false then codes "\\#" else plain_char c) e ∙ sym (ap (λ k. if k && b then codes "\\#" else plain_char c) e)

pub plain-turn : (b0 b1 b2 : List ℕ) (waits : Bool) (c : ℕ) → b1 ≡ b0 ++ encode_utf8_all (waiting waits (c == 123)) → b2 ≡ b1 ++ encode_utf8_all (escaped c false) → ¬ (c ≡ 35) → (back : List ℕ) → b2 ++ encode_utf8_all (inner back) ≡ b0 ++ encode_utf8_all (pending waits (c ∷ back))
plain-turn b0 b1 b2 waits c e f is back =
    joined-bytes b1 b2 (escaped c false) (inner back) (inner (c ∷ back)) f (ap (λ x. x ++ inner back) (no-hash (short_escape c) c (first_is (λ d. d == 123) back) (is-no-hash c is)))
    ∙ joined-bytes b0 b1 (waiting waits (c == 123)) (inner (c ∷ back)) (pending waits (c ∷ back)) e (waits-then waits c back)

-- nothing follows
pub last-turn : (b0 b1 b2 : List ℕ) (waits : Bool) (xs : List ℕ) → ((back : List ℕ) → b1 ++ encode_utf8_all (pending waits back) ≡ b0 ++ encode_utf8_all (inner (xs ++ back))) → b2 ≡ b1 ++ encode_utf8_all (waiting waits false) → b2 ≡ b0 ++ encode_utf8_all (inner xs)
last-turn b0 b1 b2 true xs so_far e = e ∙ (so_far [] ∙ ap (λ ys. b0 ++ encode_utf8_all (inner ys)) (append-nil xs))
last-turn b0 b1 b2 false xs so_far e = e ∙ (so_far [] ∙ ap (λ ys. b0 ++ encode_utf8_all (inner ys)) (append-nil xs))

pub next-turn : (b0 b1 b2 : List ℕ) (waits after : Bool) (xs : List ℕ) (c : ℕ) → ((back : List ℕ) → b1 ++ encode_utf8_all (pending waits back) ≡ b0 ++ encode_utf8_all (inner (xs ++ back)))
    → ((back : List ℕ) → b2 ++ encode_utf8_all (pending after back) ≡ b1 ++ encode_utf8_all (pending waits (c ∷ back))) → (back : List ℕ) → b2 ++ encode_utf8_all (pending after back) ≡ b0 ++ encode_utf8_all (inner ((xs ++ c ∷ []) ++ back))
next-turn b0 b1 b2 waits after xs c so_far step back = step back ∙ (so_far (c ∷ back) ∙ ap (λ ys. b0 ++ encode_utf8_all (inner ys)) (sym (append_assoc xs (c ∷ []) back)))

-- all characters of a text were given
pub all-given : (s : Chars) (bs : List ℕ) → IsUtf8 bs → chars_rest s ≡ bs → (xs : List ℕ) (t : Chars) → Yields spells s xs t → (r : Option ℕ) (u : Chars) → r ≡ None → spells t r u → xs ≡ chars bs
all-given s bs h q xs t y r u is p = sym (map-id xs) ∙ (YieldsList-end (YieldsList-from_chars bs h q) xs t y r u is p).0
