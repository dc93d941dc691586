-- Trees among nodes: they stay where more nodes come, and the computed tree is the one that stands there.
use Rattle.std.proofs.Common.{◌≡◌, ◌<◌, ℕ, zero, suc, List, [], ◌∷◌, ◌++◌, length, Some, refl, sym, ap, ◌∙◌, arith, subst, length-append}
use Rattle.std.specs.Prelude.{slice_get}
use Rattle.std.proofs.Math.ListN.{get_or-append}
use Rattle.std.proofs.Math.Seq.{get_or-append_seam}
use Rattle.std.proofs.lemmas.Option.{slice_get_within, slice_get-get_or, get_or_from_slice_get}
use Rattle.ex_model.specs.declared.ast.Node.{Node}
use Rattle.ex_model.specs.Tree.{Tree, Integer, Variable, Match, Binary, Named}
use Rattle.ex_model.specs.At.{IsAt, AreAt}
use Rattle.ex_model.specs.TreeAt.{tree_at, trees_at}

-- what stands in a list stands there with more after it
pub stands : {X : Type 0} (xs ys : List X) (i : ℕ) (x : X) → slice_get xs i ≡ Some x → slice_get (xs ++ ys) i ≡ Some x
stands xs ys i x h =
    let lt = slice_get_within xs i x h in
    let lt' : i < length (xs ++ ys) = omega (arith, length-append xs ys) in
    slice_get-get_or (xs ++ ys) i x lt' ∙ ap Some (get_or-append xs ys x i lt ∙ get_or_from_slice_get xs i x x h)

-- what is put at the end stands there
pub stands_last : {X : Type 0} (xs : List X) (x : X) → slice_get (xs ++ x ∷ []) (length xs) ≡ Some x
stands_last xs x =
    let lt : length xs < length (xs ++ x ∷ []) = omega (arith, length-append xs (x ∷ [])) in
    slice_get-get_or (xs ++ x ∷ []) (length xs) x lt ∙ ap Some (get_or-append_seam xs x [] x)

-- a tree stays where more nodes come
pub at_more : (nodes more : List Node) (i : ℕ) (t : Tree) → IsAt nodes i t → IsAt (nodes ++ more) i t
at_more nodes more i (Integer n) h = stands nodes more i _ h
at_more nodes more i (Variable x) h = stands nodes more i _ h
at_more nodes more i (Match (Named x) a) h = (h.0, stands nodes more i _ h.1, at_more nodes more h.0 a h.2, h.3)
at_more nodes more i (Binary o a b) h = (h.0, h.1, stands nodes more i _ h.2, at_more nodes more h.0 a h.3, at_more nodes more h.1 b h.4, h.5, h.6)

-- so do the trees of a body
pub are_more : (nodes more : List Node) (places : List ℕ) (trees : List Tree) → AreAt nodes places trees → AreAt (nodes ++ more) places trees
are_more nodes more [] [] h = tt
are_more nodes more (i ∷ places) [] h = absurd h
are_more nodes more [] (t ∷ trees) h = absurd h
are_more nodes more (i ∷ places) (t ∷ trees) h = (at_more nodes more i t h.0, are_more nodes more places trees h.1)

-- one more tree of a body
pub are_and : (nodes : List Node) (places : List ℕ) (trees : List Tree) (i : ℕ) (t : Tree) → AreAt nodes places trees → IsAt nodes i t → AreAt nodes (places ++ i ∷ []) (trees ++ t ∷ [])
are_and nodes [] [] i t h k = (k, tt)
are_and nodes (j ∷ places) [] i t h k = absurd h
are_and nodes [] (s ∷ trees) i t h k = absurd h
are_and nodes (j ∷ places) (s ∷ trees) i t h k = (h.0, are_and nodes places trees i t h.1 k)

-- a tree stands at a place of the list
pub at_within : (nodes : List Node) (i : ℕ) (t : Tree) → IsAt nodes i t → i < length nodes
at_within nodes i (Integer n) h = slice_get_within nodes i _ h
at_within nodes i (Variable x) h = slice_get_within nodes i _ h
at_within nodes i (Match (Named x) a) h = slice_get_within nodes i _ h.1
at_within nodes i (Binary o a b) h = slice_get_within nodes i _ h.2

tree_found : (nodes : List Node) (n i : ℕ) (t : Tree) → IsAt nodes i t → i < n → tree_at n nodes i ≡ t
unfolding tree_at
tree_found nodes zero i t h lt = absurd (omega arith)
tree_found nodes (suc n) i (Integer k) h lt = rw h refl
tree_found nodes (suc n) i (Variable x) h lt = rw h refl
tree_found nodes (suc n) i (Match (Named x) a) h lt = rw (h.1, tree_found nodes n h.0 a h.2 (omega (arith, h.3))) refl
tree_found nodes (suc n) i (Binary o a b) h lt = rw (h.2, tree_found nodes n h.0 a h.3 (omega (arith, h.5)), tree_found nodes n h.1 b h.4 (omega (arith, h.6))) refl

-- the computed trees are those that stand there
pub trees_found : (nodes : List Node) (places : List ℕ) (trees : List Tree) → AreAt nodes places trees → trees_at nodes places ≡ trees
trees_found nodes [] [] h = refl
trees_found nodes (i ∷ places) [] h = absurd h
trees_found nodes [] (t ∷ trees) h = absurd h
trees_found nodes (i ∷ places) (t ∷ trees) h =
    rw (tree_found nodes (length nodes) i t h.0 (at_within nodes i t h.0), trees_found nodes places trees h.1) refl

-- so the computed trees stand there
pub trees_stand : (nodes : List Node) (places : List ℕ) → (trees : List Tree) × AreAt nodes places trees → AreAt nodes places (trees_at nodes places)
trees_stand nodes places h = subst (λ trees. AreAt nodes places trees) (sym (trees_found nodes places h.0 h.1)) h.1
