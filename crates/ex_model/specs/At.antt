-- Which trees the nodes stand for.
use Rattle.std.specs.Prelude.{◌≡◌, ◌<◌, ℕ, List, [], ◌∷◌, pos, slice_get, Some}
use Rattle.ex_model.specs.declared.ast.Node.{Node}
use Rattle.ex_model.specs.declared.ast.Node.TheVariants.{Literal, Lookup, Bind, Apply}
use Rattle.ex_model.specs.Tree.{Tree, Integer, Variable, Match, Binary, Named}

-- the node at a place is the top of a tree, whose parts stand at lower places
abbrev pub IsAt : List Node → ℕ → Tree → Type 0
IsAt nodes i (Integer n) = slice_get nodes i ≡ Some (Literal (pos n))
IsAt nodes i (Variable x) = slice_get nodes i ≡ Some (Lookup x)
IsAt nodes i (Match (Named x) a) = (j : ℕ) × (slice_get nodes i ≡ Some (Bind x j)) × IsAt nodes j a × (j < i)
IsAt nodes i (Binary o a b) = (j : ℕ) × (k : ℕ) × (slice_get nodes i ≡ Some (Apply o j k)) × IsAt nodes j a × IsAt nodes k b × (j < i) × (k < i)

-- at each place stands the tree that is named beside it
abbrev pub AreAt : List Node → List ℕ → List Tree → Type 0
AreAt nodes [] [] = Unit {0}
AreAt nodes (i ∷ places) [] = ⊥
AreAt nodes [] (t ∷ trees) = ⊥
AreAt nodes (i ∷ places) (t ∷ trees) = IsAt nodes i t × AreAt nodes places trees
