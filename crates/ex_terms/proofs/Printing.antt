-- Items put behind a text, one after the other.
use Rattle.std.proofs.Common.{◌≡◌, ℕ, ◌+◌, ◌<◌, ◌≤◌, Bool, true, false, List, [], ◌∷◌, ◌++◌, length, drop, get_or, refl, sym, ap, ◌∙◌, append_assoc}
use Rattle.std.proofs.lemmas.List.{append-nil, drop_more, drop_all}
use Rattle.ex_terms.specs.declared.values.Value.{Value}
use Rattle.ex_terms.specs.Terms.{Term, Terms, NoTerm, OneMore}
use Rattle.ex_terms.specs.Seen.{term_of, terms_of}
use Rattle.ex_terms.specs.Printed.{comma, inspected, items_left, more_inspected}

first-left : (is_first : Bool) (t : Term) (ts : Terms) → comma is_first ++ (inspected t ++ more_inspected ts) ≡ items_left is_first (OneMore t ts)
first-left true t ts = refl
first-left false t ts = refl

pub item-more : (xs : List Value) (i : ℕ) (x : Value) (is_first : Bool) (b0 b1 b2 all : List ℕ) → i < length xs → x ≡ get_or xs i x → b1 ≡ b0 ++ comma is_first → b2 ≡ b1 ++ inspected (term_of x) → b0 ++ items_left is_first (terms_of (drop i xs)) ≡ all
    → b2 ++ more_inspected (terms_of (drop (i + 1) xs)) ≡ all
item-more xs i x is_first b0 b1 b2 all lt is e f so_far =
    let rest : List ℕ = more_inspected (terms_of (drop (i + 1) xs)) in
    let t : Term = term_of x in
    ap (λ b. b ++ rest) (f ∙ ap (λ b. b ++ inspected t) e)
    ∙ (append_assoc (b0 ++ comma is_first) (inspected t) rest
    ∙ (append_assoc b0 (comma is_first) (inspected t ++ rest)
    ∙ (ap (λ b. b0 ++ b) (first-left is_first t (terms_of (drop (i + 1) xs))
    ∙ ap (λ zs. items_left is_first (terms_of zs)) (sym (drop_more xs i x lt ∙ ap (λ z. z ∷ drop (i + 1) xs) (sym is)))) ∙ so_far)))

none-left : (is_first : Bool) → items_left is_first NoTerm ≡ []
none-left true = refl
none-left false = refl

pub items-done : (xs : List Value) (i : ℕ) (is_first : Bool) (b all : List ℕ) → length xs ≤ i → b ++ items_left is_first (terms_of (drop i xs)) ≡ all → b ≡ all
items-done xs i is_first b all le so_far =
    sym (append-nil b) ∙ (ap (λ z. b ++ z) (sym (ap (λ zs. items_left is_first (terms_of zs)) (drop_all i xs le) ∙ none-left is_first)) ∙ so_far)
