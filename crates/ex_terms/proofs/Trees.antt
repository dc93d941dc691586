-- Values and the trees that they are tell the same.
use Rattle.std.proofs.Common.{◌≡◌, ap, sym, ◌∙◌, refl, List, [], ◌∷◌}
use Rattle.ex_terms.specs.declared.values.Value.{Value}
use Rattle.ex_terms.specs.declared.values.Value.TheVariants.{Int, Atom, Str, Tuple, List as Listed}
use Rattle.ex_terms.specs.Terms.{Term, Terms, AnInteger, AnAtom, AText, ATuple, AList, NoTerm, OneMore}
use Rattle.ex_terms.specs.Seen.{term_of, terms_of, value_of, values_of}

pub is-read : (v : Value) → value_of (term_of v) ≡ v
is-read (Int z) = refl
is-read (Atom t) = refl
is-read (Str t) = refl
is-read (Tuple ts) = refl
is-read (Listed ts) = refl

pub are-read : (vs : List Value) → values_of (terms_of vs) ≡ vs
are-read [] = refl
are-read (v ∷ vs) = ap (λ w. w ∷ values_of (terms_of vs)) (is-read v) ∙ ap (λ ws. v ∷ ws) (are-read vs)

pub is-seen : (t : Term) → term_of (value_of t) ≡ t
is-seen (AnInteger z) = refl
is-seen (AnAtom t) = refl
is-seen (AText t) = refl
is-seen (ATuple ts) = refl
is-seen (AList ts) = refl

pub are-seen : (ts : Terms) → terms_of (values_of ts) ≡ ts
are-seen NoTerm = refl
are-seen (OneMore t ts) = ap (λ u. OneMore u (terms_of (values_of ts))) (is-seen t) ∙ ap (OneMore t) (are-seen ts)

-- the values that items were made of
pub made-of : (vs : List Value) (ts : Terms) → terms_of vs ≡ ts → vs ≡ values_of ts
made-of vs ts e = sym (are-read vs) ∙ ap values_of e
