-- Which trees the nodes stand for.
use Rattle.std.specs.Prelude.{◌≡◌, ℕ, List, [], ◌∷◌, pos, slice_get, Some, Vec}
use Rattle.std.specs.declared.alloc.Global.{Global}
use Rattle.ex_grammar.specs.declared.operators.Prefix.TheVariants.{Negate}
use Rattle.ex_grammar.specs.Patterns as P
use Rattle.ex_grammar.specs.Patterns.{Pattern, Patterns, NoPattern}
use Rattle.ex_grammar.specs.Trees as E
use Rattle.ex_grammar.specs.Trees.{Tree, Trees, NoTree, Holes, NoHole, Clauses, NoClause, Choices, NoChoice, Parts, NoPart}
use Rattle.ex_parser.specs.declared.tree.Node.{Node}
use Rattle.ex_parser.specs.declared.tree.Node.TheVariants as N
use Rattle.ex_parser.specs.declared.tree.Hole.{Hole}
use Rattle.ex_parser.specs.declared.tree.Clause.{Clause}
use Rattle.ex_parser.specs.declared.tree.Choice.{Choice}
use Rattle.ex_parser.specs.declared.tree.Part.{Part}
use Rattle.ex_parser.specs.declared.tree.Part.TheVariants.{Generator, Filter}
use Rattle.ex_parser.specs.declared.tree.Head.{Head}

abbrev mutual
  -- the node at a place is the top of a pattern
  pub IsPatternAt : List Node → ℕ → Pattern → Type 0
  IsPatternAt nodes i (P.Integer n) = slice_get nodes i ≡ Some (N.Integer (pos n))
  IsPatternAt nodes i (P.Negative n) = (j : ℕ) × (slice_get nodes i ≡ Some (N.Prefixed Negate j)) × (slice_get nodes j ≡ Some (N.Integer (pos n)))
  IsPatternAt nodes i (P.Atom x) = slice_get nodes i ≡ Some (N.Atom x)
  IsPatternAt nodes i (P.WordIs w) = slice_get nodes i ≡ Some (N.Constant w)
  IsPatternAt nodes i (P.Text bytes) = (holes : Vec Hole Global) × (slice_get nodes i ≡ Some (N.Text bytes holes)) × (holes.items ≡ [])
  IsPatternAt nodes i (P.Named x) = slice_get nodes i ≡ Some (N.Name x)
  IsPatternAt nodes i (P.Pinned x) = slice_get nodes i ≡ Some (N.Pinned x)
  IsPatternAt nodes i (P.Tuple ps) = (js : Vec ℕ Global) × (slice_get nodes i ≡ Some (N.Tuple js)) × ArePatternsAt nodes js.items ps
  IsPatternAt nodes i (P.Items ps) = (js : Vec ℕ Global) × (slice_get nodes i ≡ Some (N.List js)) × ArePatternsAt nodes js.items ps
  IsPatternAt nodes i (P.ItemsThen ps q) = (js : Vec ℕ Global) × (k : ℕ) × (slice_get nodes i ≡ Some (N.ListThen js k)) × ArePatternsAt nodes js.items ps × IsPatternAt nodes k q

  -- the nodes at these places are the tops of patterns
  pub ArePatternsAt : List Node → List ℕ → Patterns → Type 0
  ArePatternsAt nodes js NoPattern = js ≡ []
  ArePatternsAt nodes js (P.OneMore p ps) = (k : ℕ) × (ks : List ℕ) × (js ≡ k ∷ ks) × IsPatternAt nodes k p × ArePatternsAt nodes ks ps

abbrev mutual
  -- the node at a place is the top of a tree
  pub IsAt : List Node → ℕ → Tree → Type 0
  IsAt nodes i (E.Integer n) = slice_get nodes i ≡ Some (N.Integer (pos n))
  IsAt nodes i (E.Atom x) = slice_get nodes i ≡ Some (N.Atom x)
  IsAt nodes i (E.WordIs w) = slice_get nodes i ≡ Some (N.Constant w)
  IsAt nodes i (E.Text bytes hs) = (holes : Vec Hole Global) × (slice_get nodes i ≡ Some (N.Text bytes holes)) × HolesAt nodes holes.items hs
  IsAt nodes i (E.Variable x) = slice_get nodes i ≡ Some (N.Name x)
  IsAt nodes i (E.Tuple ts) = (js : Vec ℕ Global) × (slice_get nodes i ≡ Some (N.Tuple js)) × AreAt nodes js.items ts
  IsAt nodes i (E.Items ts) = (js : Vec ℕ Global) × (slice_get nodes i ≡ Some (N.List js)) × AreAt nodes js.items ts
  IsAt nodes i (E.ItemsThen ts u) = (js : Vec ℕ Global) × (k : ℕ) × (slice_get nodes i ≡ Some (N.ListThen js k)) × AreAt nodes js.items ts × IsAt nodes k u
  IsAt nodes i (E.Call x ts) = (js : Vec ℕ Global) × (slice_get nodes i ≡ Some (N.Call x js)) × AreAt nodes js.items ts
  IsAt nodes i (E.Match p t) = (j : ℕ) × (k : ℕ) × (slice_get nodes i ≡ Some (N.Match j k)) × IsPatternAt nodes j p × IsAt nodes k t
  IsAt nodes i (E.Apply o a b) = (j : ℕ) × (k : ℕ) × (slice_get nodes i ≡ Some (N.Apply o j k)) × IsAt nodes j a × IsAt nodes k b
  IsAt nodes i (E.Prefixed o a) = (j : ℕ) × (slice_get nodes i ≡ Some (N.Prefixed o j)) × IsAt nodes j a
  IsAt nodes i (E.If c ts) = (j : ℕ) × (js : Vec ℕ Global) × (slice_get nodes i ≡ Some (N.If j js)) × IsAt nodes j c × AreAt nodes js.items ts
  IsAt nodes i (E.IfElse c ts us) = (j : ℕ) × (js : Vec ℕ Global) × (ks : Vec ℕ Global) × (slice_get nodes i ≡ Some (N.IfElse j js ks)) × IsAt nodes j c × AreAt nodes js.items ts × AreAt nodes ks.items us
  IsAt nodes i (E.Case c ks) = (j : ℕ) × (clauses : Vec Clause Global) × (slice_get nodes i ≡ Some (N.Case j clauses)) × IsAt nodes j c × ClausesAt nodes clauses.items ks
  IsAt nodes i (E.Cond ks) = (choices : Vec Choice Global) × (slice_get nodes i ≡ Some (N.Cond choices)) × ChoicesAt nodes choices.items ks
  IsAt nodes i (E.For p g parts ts) = (h : Head) × (js : Vec ℕ Global) × (slice_get nodes i ≡ Some (N.For h js)) × IsPatternAt nodes h.pattern p × IsAt nodes h.source g × PartsAt nodes h.parts.items parts × AreAt nodes js.items ts

  -- the nodes at these places are the tops of trees
  pub AreAt : List Node → List ℕ → Trees → Type 0
  AreAt nodes js NoTree = js ≡ []
  AreAt nodes js (E.OneMore t ts) = (k : ℕ) × (ks : List ℕ) × (js ≡ k ∷ ks) × IsAt nodes k t × AreAt nodes ks ts

  -- what follows in a text
  pub HolesAt : List Node → List Hole → Holes → Type 0
  HolesAt nodes hs NoHole = hs ≡ []
  HolesAt nodes hs (E.Hole t bytes gs) = (h : Hole) × (more : List Hole) × (hs ≡ h ∷ more) × IsAt nodes h.tree t × (h.says ≡ bytes) × HolesAt nodes more gs

  -- the clauses of a `case`
  pub ClausesAt : List Node → List Clause → Clauses → Type 0
  ClausesAt nodes cs NoClause = cs ≡ []
  ClausesAt nodes cs (E.Clause p ts ks) = (c : Clause) × (more : List Clause) × (cs ≡ c ∷ more) × IsPatternAt nodes c.pattern p × AreAt nodes c.body.items ts × ClausesAt nodes more ks

  -- the clauses of a `cond`
  pub ChoicesAt : List Node → List Choice → Choices → Type 0
  ChoicesAt nodes cs NoChoice = cs ≡ []
  ChoicesAt nodes cs (E.Choice t ts ks) = (c : Choice) × (more : List Choice) × (cs ≡ c ∷ more) × IsAt nodes c.condition t × AreAt nodes c.body.items ts × ChoicesAt nodes more ks

  -- the further parts of a `for`
  pub PartsAt : List Node → List Part → Parts → Type 0
  PartsAt nodes ps NoPart = ps ≡ []
  PartsAt nodes ps (E.Generator p g qs) = (j : ℕ) × (k : ℕ) × (more : List Part) × (ps ≡ Generator j k ∷ more) × IsPatternAt nodes j p × IsAt nodes k g × PartsAt nodes more qs
  PartsAt nodes ps (E.Filter f qs) = (j : ℕ) × (more : List Part) × (ps ≡ Filter j ∷ more) × IsAt nodes j f × PartsAt nodes more qs
