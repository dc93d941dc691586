-- A source has tokens in one way or is refused in one way.
use Rattle.std.proofs.Common.{◌≡◌, ℕ, ◌+◌, List, ◌∷◌, Bool, true, false, refl, sym, ap, ◌∙◌, subst, drop}
use Rattle.ex_grammar.specs.declared.token.LexErrorKind.{LexErrorKind}
use Rattle.ex_grammar.specs.Lexing.{Part}
use Rattle.ex_lexer.specs.Machine.{Holes, Step, Goes, Refuses, Answer, Fault, before, Gives, over, refused, onward}
use Rattle.ex_lexer.proofs.Bools.{not_both}

-- what a step is
abbrev goes_on : Step → Bool
goes_on (Goes ps hs n) = true
goes_on (Refuses at k) = false

abbrev parts_or : List Part → Step → List Part
parts_or ps (Goes qs hs n) = qs
parts_or ps (Refuses at k) = ps

abbrev holes_or : Holes → Step → Holes
holes_or hs (Goes qs hs' n) = hs'
holes_or hs (Refuses at k) = hs

abbrev len_or : ℕ → Step → ℕ
len_or n (Goes qs hs m) = m
len_or n (Refuses at k) = n

abbrev place_or : ℕ → Step → ℕ
place_or n (Goes qs hs m) = n
place_or n (Refuses at k) = at

abbrev kind_or : LexErrorKind → Step → LexErrorKind
kind_or k (Goes qs hs m) = k
kind_or k (Refuses at j) = j

-- the machine gives one answer
pub gives_one : {hs : Holes} {at : ℕ} {s : List ℕ} {a b : Answer} → Gives hs at s a → Gives hs at s b → a ≡ b
gives_one over over = refl
gives_one (refused {at' = x} {k} e) (refused {at' = y} {k = j} f) = let g = sym e ∙ f in ap (λ v. Fault v k) (ap (place_or x) g) ∙ ap (Fault y) (ap (kind_or k) g)
gives_one (refused e) (onward f g) = absurd (not_both true refl (ap goes_on (sym f ∙ e)))
gives_one (onward f g) (refused e) = absurd (not_both true refl (ap goes_on (sym f ∙ e)))
gives_one {at} (onward {holes' = h1} {b = c} {n} {bytes} {ps} {a} e g) (onward {holes' = h2} {n = m} {ps = qs} {a = d} f k) =
    let i : Goes qs h2 m ≡ Goes ps h1 n = sym f ∙ e in
    let j : Gives h1 (at + n) (drop n (c ∷ bytes)) d = subst (λ v. Gives h1 (at + v) (drop v (c ∷ bytes)) d) (ap (len_or m) i) (subst (λ v. Gives v (at + m) (drop m (c ∷ bytes)) d) (ap (holes_or h2) i) k) in
    ap (before ps) (gives_one g j) ∙ ap (λ v. before v d) (sym (ap (parts_or qs) i))
