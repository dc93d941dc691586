-- That cells which can't be evaluated are marked, one after the other, changes for no cell whether it can be evaluated.
use Rattle.std.proofs.Common.{◌≡◌, ℕ, ◌⊎◌, Bool, true, false, cond, List, [], ◌∷◌, ◌++◌, Some, None, find, refl, sym, ap, subst, ◌∙◌, inl, inr, append_assoc}
use Rattle.std.specs.Prelude.{is_some}
use Rattle.notebook.specs.declared.parts.Parts.{Parts}
use Rattle.notebook.specs.Rules.{IsNotebook}
use Rattle.section_queues.specs.Facts.{Facts, has_failed}
use Rattle.section_queues.specs.Starts.{earlier, is_hopeless}
use Rattle.section_queues.specs.Laws.{IsSpared}
use Rattle.section_queues.proofs.Lists.{find-past}
use Rattle.section_queues.proofs.Earlier.{Ahead, ahead-of, ahead-earlier}

-- whether a cell failed is as it was, or the cell was hopeless
abbrev IsAsBefore : (ℕ → Bool) → (ℕ → Bool) → ℕ → Bool → Type 0
IsAsBefore p q k hopeless = (q k ≡ p k) ⊎ ((q k ≡ false) × (hopeless ≡ true))

-- the first that failed stays
walk-one : (p q : ℕ → Bool) (done rest : List ℕ) (k : ℕ) → find p done ≡ None → IsAsBefore p q k (is_some (find p done)) → (find p (done ++ k ∷ []) ≡ None → is_some (find q rest) ≡ is_some (find p rest)) → is_some (find q (k ∷ rest)) ≡ is_some (find p (k ∷ rest))
walk-one p q done rest k none (inl e) further =
    elim (p k)
    as (λ b. p k ≡ b → is_some (cond (q k) (Some k) (find q rest)) ≡ is_some (cond b (Some k) (find p rest))) [
      | true ↦ λ t. ap (λ b. is_some (cond b (Some k) (find q rest))) (e ∙ t)
      | false ↦ λ t. ap (λ b. is_some (cond b (Some k) (find q rest))) (e ∙ t) ∙ further (find-past p done (k ∷ []) none ∙ ap (λ b. cond b (Some k) None) t)
    ]
    refl
walk-one p q done rest k none (inr (f, h)) further = absurd (cc (sym (ap is_some none) ∙ h))

walk-all : (p q : ℕ → Bool) (done rest : List ℕ) → find p done ≡ None → ((ks js : List ℕ) (k : ℕ) → done ++ rest ≡ ks ++ k ∷ js → IsAsBefore p q k (is_some (find p ks))) → is_some (find q rest) ≡ is_some (find p rest)
walk-all p q done [] none h = refl
walk-all p q done (k ∷ rest) none h =
    walk-one p q done rest k none (h done rest k refl) (λ more. walk-all p q (done ++ k ∷ []) rest more (λ ks js j e. h ks js j (sym (append_assoc done (k ∷ []) rest) ∙ e)))

-- a cell is as hopeless as before
pub hopeless-left : (n : Parts) (f g : Facts) (c : ℕ) → IsNotebook n → ((k : ℕ) → IsSpared n f g k) → is_hopeless n g c ≡ is_hopeless n f c
hopeless-left n f g c book spared =
    walk-all (has_failed f) (has_failed g) [] (earlier n c) refl
    (λ ks js k e.
    let t : Ahead n ks k = ahead-of n c ks js k book e in
    subst (λ is. IsAsBefore (has_failed f) (has_failed g) k (is_some (find (has_failed f) is))) (ahead-earlier n ks k t) (spared k))
