-- Sizes that are added one after the other.
use Rattle.std.proofs.Common.{◌≡◌, ℕ, ◌+◌, ◌<◌, ◌≤◌, List, ◌∷◌, length, drop, get_or, min, sym, ap, ◌∙◌, arith}
use Rattle.std.proofs.lemmas.List.{drop_more, drop_all}
use Rattle.ex_terms.specs.declared.values.Value.{Value}
use Rattle.ex_terms.specs.Seen.{term_of, terms_of}
use Rattle.ex_terms.specs.Sizes.{size_of, sizes_of, capped}

-- the value at a place, and what follows it
pub sizes-next : (xs : List Value) (i : ℕ) (x : Value) → i < length xs → x ≡ get_or xs i x → sizes_of (terms_of (drop i xs)) ≡ size_of (term_of x) + sizes_of (terms_of (drop (i + 1) xs))
sizes-next xs i x lt e = ap (λ zs. sizes_of (terms_of zs)) (drop_more xs i x lt ∙ ap (λ z. z ∷ drop (i + 1) xs) (sym e))

-- what was cut at the largest number stays cut
cut-once : (s v r n : ℕ) → n ≡ min (s + min v 18446744073709551615) 18446744073709551615 → capped (n + r) ≡ capped (s + (v + r))
cut-once s v r n e = omega (arith, e)

pub added : (xs : List Value) (i : ℕ) (x : Value) (s n t : ℕ) → i < length xs → x ≡ get_or xs i x → n ≡ min (s + capped (size_of (term_of x))) 18446744073709551615 → capped (s + sizes_of (terms_of (drop i xs))) ≡ t → capped (n + sizes_of (terms_of (drop (i + 1) xs))) ≡ t
added xs i x s n t lt e sum all = cut-once s (size_of (term_of x)) (sizes_of (terms_of (drop (i + 1) xs))) n sum ∙ (ap (λ k. capped (s + k)) (sym (sizes-next xs i x lt e)) ∙ all)

pub added-all : (xs : List Value) (i s t : ℕ) → length xs ≤ i → s ≤ 18446744073709551615 → capped (s + sizes_of (terms_of (drop i xs))) ≡ t → s ≡ t
added-all xs i s t le fits all =
    let none : sizes_of (terms_of (drop i xs)) ≡ 0 = ap (λ zs. sizes_of (terms_of zs)) (drop_all i xs le) in
    omega (arith, none, fits, all)
