-- A body, one expression after the other.
use Rattle.std.proofs.Common.{◌≡◌, ◌<◌, ◌≤◌, ℕ, zero, suc, List, [], ◌∷◌, length, drop, refl, sym, ap, ◌∙◌, arith}
use Rattle.std.specs.Prelude.{slice_index_or}
use Rattle.ex_value.specs.declared.Value.{Value}
use Rattle.ex_model.specs.declared.ast.Node.{Node}
use Rattle.ex_model.specs.declared.bindings.Binding.{Binding}
use Rattle.ex_model.specs.Tree.{Tree}
use Rattle.ex_model.specs.At.{IsAt, AreAt}
use Rattle.ex_model.specs.Meaning.{Evaluated, Gives, Faults, and_then, meaning_of, in_turn}

-- the tree that is next
pub record Follows (nodes : List Node) (place : ℕ) (trees rest : List Tree) : Type 0 where
  pub tree : Tree
  pub at : IsAt nodes place tree
  pub is : trees ≡ tree ∷ rest

-- at each root stands the tree that is next there
pub next_tree : (nodes : List Node) (roots : List ℕ) (trees : List Tree) (i : ℕ) → AreAt nodes roots trees → i < length roots → Follows nodes (slice_index_or roots i 0) (drop i trees) (drop (suc i) trees)
next_tree nodes [] trees i h lt = absurd (omega arith)
next_tree nodes (r ∷ roots) [] i h lt = absurd h
next_tree nodes (r ∷ roots) (t ∷ trees) zero h lt = record { tree = t; at = h.0; is = refl }
next_tree nodes (r ∷ roots) (t ∷ trees) (suc i) h lt = next_tree nodes roots trees i h.1 (omega arith)

-- no tree is left after the last root
pub none_left : (nodes : List Node) (roots : List ℕ) (trees : List Tree) (i : ℕ) → AreAt nodes roots trees → length roots ≤ i → drop i trees ≡ []
none_left nodes [] [] zero h le = refl
none_left nodes [] [] (suc i) h le = refl
none_left nodes [] (t ∷ trees) i h le = absurd h
none_left nodes (r ∷ roots) [] i h le = absurd h
none_left nodes (r ∷ roots) (t ∷ trees) zero h le = absurd (omega arith)
none_left nodes (r ∷ roots) (t ∷ trees) (suc i) h le = none_left nodes roots trees i h.1 (omega arith)

and_then-assoc : (e : Evaluated) (f g : Value → List Binding → ℕ → Evaluated) → and_then (and_then e f) g ≡ and_then e (λ v made left. and_then (f v made left) g)
and_then-assoc (Gives v made left) f g = refl
and_then-assoc (Faults fault left) f g = refl

-- the next expression keeps what all give
pub goes_on : (base : List Binding) (e e' r : Evaluated) (trees rest : List Tree) (t : Tree) → e' ≡ and_then e (λ _ made left. meaning_of base t made left) → trees ≡ t ∷ rest
    → and_then e (λ v made left. in_turn base trees v made left) ≡ r → and_then e' (λ v made left. in_turn base rest v made left) ≡ r
goes_on base e e' r trees rest t step is all =
    ap (λ x. and_then x (λ v made left. in_turn base rest v made left)) step
    ∙ (and_then-assoc e (λ _ made left. meaning_of base t made left) (λ v made left. in_turn base rest v made left)
    ∙ (ap (λ ts. and_then e (λ v made left. in_turn base ts v made left)) (sym is) ∙ all))

-- with none left, what is given so far is given in the end
pub ends_with : (base : List Binding) (e r : Evaluated) (trees : List Tree) → trees ≡ [] → and_then e (λ v made left. in_turn base trees v made left) ≡ r → e ≡ r
ends_with base e r trees is all = same e ∙ (ap (λ ts. and_then e (λ v made left. in_turn base ts v made left)) (sym is) ∙ all)
  where
    same : (e : Evaluated) → e ≡ and_then e (λ v made left. in_turn base [] v made left)
    same (Gives v made left) = refl
    same (Faults f left) = refl
