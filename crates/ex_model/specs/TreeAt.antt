-- The tree at a place, computed.
use Rattle.std.specs.Prelude.{ℕ, zero, suc, List, length, map, pos, negsuc, slice_get, Option, Some, None}
use Rattle.ex_model.specs.declared.ast.Node.{Node}
use Rattle.ex_model.specs.declared.ast.Node.TheVariants.{Literal, Lookup, Bind, Apply}
use Rattle.ex_model.specs.Tree.{Tree, Integer, Variable, Match, Binary, Named}

-- the tree of a node, where the trees at places are known; no node and no number below 0 stand in a tree
abbrev pub node_tree : (ℕ → Tree) → Option Node → Tree
node_tree at None = Integer 0
node_tree at (Some (Literal (pos n))) = Integer n
node_tree at (Some (Literal (negsuc n))) = Integer 0
node_tree at (Some (Lookup x)) = Variable x
node_tree at (Some (Bind x j)) = Match (Named x) (at j)
node_tree at (Some (Apply o j k)) = Binary o (at j) (at k)

-- the tree at a place, as far as n levels deep
unfoldable pub tree_at : ℕ → List Node → ℕ → Tree
tree_at zero nodes i = Integer 0
tree_at (suc n) nodes i = node_tree (tree_at n nodes) (slice_get nodes i)

-- the trees at places; parts stand lower than what they are parts of, so no tree is deeper than there are nodes
abbrev pub trees_at : List Node → List ℕ → List Tree
trees_at nodes places = map (tree_at (length nodes) nodes) places
