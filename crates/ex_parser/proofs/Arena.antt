-- Trees among nodes: they stay where more nodes come.
use Rattle.std.proofs.Common.{◌≡◌, ◌<◌, ℕ, List, [], ◌∷◌, ◌++◌, length, Bool, Option, Some, None, refl, ap, ◌∙◌, arith, subst, length-append, append_assoc}
use Rattle.std.specs.Prelude.{slice_get}
use Rattle.std.proofs.Math.ListN.{get_or-append}
use Rattle.std.proofs.Math.Seq.{get_or-append_seam}
use Rattle.std.proofs.lemmas.List.{append-nil}
use Rattle.std.proofs.lemmas.Option.{slice_get_within, slice_get-get_or, get_or_from_slice_get}
use Rattle.ex_grammar.specs.Patterns as P
use Rattle.ex_grammar.specs.Patterns.{Pattern, Patterns, NoPattern}
use Rattle.ex_grammar.specs.Trees as E
use Rattle.ex_grammar.specs.Trees.{Tree, Trees, NoTree, Holes, NoHole, Clauses, NoClause, Choices, NoChoice, Parts, NoPart}
use Rattle.ex_parser.specs.declared.tree.Node.{Node}
use Rattle.ex_parser.specs.declared.tree.Hole.{Hole}
use Rattle.ex_parser.specs.declared.tree.Clause.{Clause}
use Rattle.ex_parser.specs.declared.tree.Choice.{Choice}
use Rattle.ex_parser.specs.declared.tree.Part.{Part}
use Rattle.ex_parser.specs.declared.tree.Part.TheVariants.{Generator, Filter}
use Rattle.ex_parser.specs.declared.tree.Head.{Head}
use Rattle.ex_parser.specs.declared.parser.Items.{Items}
use Rattle.ex_parser.specs.declared.parser.Pending.{Pending}
use Rattle.ex_parser.specs.declared.parser.Block.{Block}
use Rattle.ex_parser.specs.Machine as M
use Rattle.ex_parser.specs.Stands.{IsAt, IsPatternAt, ArePatternsAt, AreAt, HolesAt, ClausesAt, ChoicesAt, PartsAt}
use Rattle.ex_parser.specs.Shown.{TreesBehind, PatternsBehind, HolesBehind, ClausesBehind, ChoicesBehind, PartsBehind, AllTrees, AllPatterns, IsListed, IsHead, IsBlock, is_then, is_otherwise, is_clause, is_choice, is_for, IsFrame, is_operand, is_matched, is_prefixed, is_parens, is_items, is_keyed, is_tail, is_hole, is_condition, is_do_if, is_do_else, is_body, is_subject, is_first_pattern, is_first_condition, is_for_pattern, is_for_source, is_part, is_part_source, is_do_for, IsStack}

-- what stands in a list stands there with more after it
pub stands : {X : Type 0} (xs ys : List X) (i : ℕ) (x : X) → slice_get xs i ≡ Some x → slice_get (xs ++ ys) i ≡ Some x
stands xs ys i x h =
    let lt = slice_get_within xs i x h in
    let lt' : i < length (xs ++ ys) = omega (arith, length-append xs ys) in
    slice_get-get_or (xs ++ ys) i x lt' ∙ ap Some (get_or-append xs ys x i lt ∙ get_or_from_slice_get xs i x x h)

-- what is put at the end stands there
pub stands_last : {X : Type 0} (xs : List X) (x : X) → slice_get (xs ++ x ∷ []) (length xs) ≡ Some x
stands_last xs x =
    let lt : length xs < length (xs ++ x ∷ []) = omega (arith, length-append xs (x ∷ [])) in
    slice_get-get_or (xs ++ x ∷ []) (length xs) x lt ∙ ap Some (get_or-append_seam xs x [] x)

mutual
  pub pattern_more : (ns more : List Node) (i : ℕ) (p : Pattern) → IsPatternAt ns i p → IsPatternAt (ns ++ more) i p
  pattern_more ns more i (P.Integer n) h = stands ns more i _ h
  pattern_more ns more i (P.Negative n) h = (h.0, stands ns more i _ h.1, stands ns more h.0 _ h.2)
  pattern_more ns more i (P.Atom x) h = stands ns more i _ h
  pattern_more ns more i (P.WordIs w) h = stands ns more i _ h
  pattern_more ns more i (P.Text bytes) h = (h.0, stands ns more i _ h.1, h.2)
  pattern_more ns more i (P.Named x) h = stands ns more i _ h
  pattern_more ns more i (P.Pinned x) h = stands ns more i _ h
  pattern_more ns more i (P.Tuple ps) h = (h.0, stands ns more i _ h.1, patterns_more ns more h.0.items ps h.2)
  pattern_more ns more i (P.Items ps) h = (h.0, stands ns more i _ h.1, patterns_more ns more h.0.items ps h.2)
  pattern_more ns more i (P.ItemsThen ps q) h = (h.0, h.1, stands ns more i _ h.2, patterns_more ns more h.0.items ps h.3, pattern_more ns more h.1 q h.4)

  pub patterns_more : (ns more : List Node) (js : List ℕ) (ps : Patterns) → ArePatternsAt ns js ps → ArePatternsAt (ns ++ more) js ps
  patterns_more ns more js NoPattern h = h
  patterns_more ns more js (P.OneMore p ps) h = (h.0, h.1, h.2, pattern_more ns more h.0 p h.3, patterns_more ns more h.1 ps h.4)

mutual
  pub at_more : (ns more : List Node) (i : ℕ) (t : Tree) → IsAt ns i t → IsAt (ns ++ more) i t
  at_more ns more i (E.Integer n) h = stands ns more i _ h
  at_more ns more i (E.Atom x) h = stands ns more i _ h
  at_more ns more i (E.WordIs w) h = stands ns more i _ h
  at_more ns more i (E.Text bytes hs) h = (h.0, stands ns more i _ h.1, holes_more ns more h.0.items hs h.2)
  at_more ns more i (E.Variable x) h = stands ns more i _ h
  at_more ns more i (E.Tuple ts) h = (h.0, stands ns more i _ h.1, are_more ns more h.0.items ts h.2)
  at_more ns more i (E.Items ts) h = (h.0, stands ns more i _ h.1, are_more ns more h.0.items ts h.2)
  at_more ns more i (E.ItemsThen ts u) h = (h.0, h.1, stands ns more i _ h.2, are_more ns more h.0.items ts h.3, at_more ns more h.1 u h.4)
  at_more ns more i (E.Call x ts) h = (h.0, stands ns more i _ h.1, are_more ns more h.0.items ts h.2)
  at_more ns more i (E.Match p t) h = (h.0, h.1, stands ns more i _ h.2, pattern_more ns more h.0 p h.3, at_more ns more h.1 t h.4)
  at_more ns more i (E.Apply o a b) h = (h.0, h.1, stands ns more i _ h.2, at_more ns more h.0 a h.3, at_more ns more h.1 b h.4)
  at_more ns more i (E.Prefixed o a) h = (h.0, stands ns more i _ h.1, at_more ns more h.0 a h.2)
  at_more ns more i (E.If c ts) h = (h.0, h.1, stands ns more i _ h.2, at_more ns more h.0 c h.3, are_more ns more h.1.items ts h.4)
  at_more ns more i (E.IfElse c ts us) h = (h.0, h.1, h.2, stands ns more i _ h.3, at_more ns more h.0 c h.4, are_more ns more h.1.items ts h.5, are_more ns more h.2.items us h.6)
  at_more ns more i (E.Case c ks) h = (h.0, h.1, stands ns more i _ h.2, at_more ns more h.0 c h.3, clauses_more ns more h.1.items ks h.4)
  at_more ns more i (E.Cond ks) h = (h.0, stands ns more i _ h.1, choices_more ns more h.0.items ks h.2)
  at_more ns more i (E.For p g parts ts) h = (h.0, h.1, stands ns more i _ h.2, pattern_more ns more h.0.pattern p h.3, at_more ns more h.0.source g h.4, parts_more ns more h.0.parts.items parts h.5, are_more ns more h.1.items ts h.6)

  pub are_more : (ns more : List Node) (js : List ℕ) (ts : Trees) → AreAt ns js ts → AreAt (ns ++ more) js ts
  are_more ns more js NoTree h = h
  are_more ns more js (E.OneMore t ts) h = (h.0, h.1, h.2, at_more ns more h.0 t h.3, are_more ns more h.1 ts h.4)

  pub holes_more : (ns more : List Node) (hs : List Hole) (gs : Holes) → HolesAt ns hs gs → HolesAt (ns ++ more) hs gs
  holes_more ns more hs NoHole h = h
  holes_more ns more hs (E.Hole t bytes gs) h = (h.0, h.1, h.2, at_more ns more h.0.tree t h.3, h.4, holes_more ns more h.1 gs h.5)

  pub clauses_more : (ns more : List Node) (cs : List Clause) (ks : Clauses) → ClausesAt ns cs ks → ClausesAt (ns ++ more) cs ks
  clauses_more ns more cs NoClause h = h
  clauses_more ns more cs (E.Clause p ts ks) h = (h.0, h.1, h.2, pattern_more ns more h.0.pattern p h.3, are_more ns more h.0.body.items ts h.4, clauses_more ns more h.1 ks h.5)

  pub choices_more : (ns more : List Node) (cs : List Choice) (ks : Choices) → ChoicesAt ns cs ks → ChoicesAt (ns ++ more) cs ks
  choices_more ns more cs NoChoice h = h
  choices_more ns more cs (E.Choice t ts ks) h = (h.0, h.1, h.2, at_more ns more h.0.condition t h.3, are_more ns more h.0.body.items ts h.4, choices_more ns more h.1 ks h.5)

  pub parts_more : (ns more : List Node) (ps : List Part) (qs : Parts) → PartsAt ns ps qs → PartsAt (ns ++ more) ps qs
  parts_more ns more ps NoPart h = h
  parts_more ns more ps (E.Generator p g qs) h = (h.0, h.1, h.2, h.3, pattern_more ns more h.0 p h.4, at_more ns more h.1 g h.5, parts_more ns more h.2 qs h.6)
  parts_more ns more ps (E.Filter f qs) h = (h.0, h.1, h.2, at_more ns more h.0 f h.3, parts_more ns more h.1 qs h.4)

-- so do the lists so far
pub trees_behind_more : (ns more : List Node) (js : List ℕ) (ts : Trees) → TreesBehind ns js ts → TreesBehind (ns ++ more) js ts
trees_behind_more ns more js NoTree h = h
trees_behind_more ns more js (E.OneMore t ts) h = (h.0, h.1, h.2, at_more ns more h.1 t h.3, trees_behind_more ns more h.0 ts h.4)

pub patterns_behind_more : (ns more : List Node) (js : List ℕ) (ps : Patterns) → PatternsBehind ns js ps → PatternsBehind (ns ++ more) js ps
patterns_behind_more ns more js NoPattern h = h
patterns_behind_more ns more js (P.OneMore p ps) h = (h.0, h.1, h.2, pattern_more ns more h.1 p h.3, patterns_behind_more ns more h.0 ps h.4)

pub holes_behind_more : (ns more : List Node) (hs : List Hole) (gs : Holes) → HolesBehind ns hs gs → HolesBehind (ns ++ more) hs gs
holes_behind_more ns more hs NoHole h = h
holes_behind_more ns more hs (E.Hole t bytes gs) h = (h.0, h.1, h.2, at_more ns more h.1.tree t h.3, h.4, holes_behind_more ns more h.0 gs h.5)

pub clauses_behind_more : (ns more : List Node) (cs : List Clause) (ks : Clauses) → ClausesBehind ns cs ks → ClausesBehind (ns ++ more) cs ks
clauses_behind_more ns more cs NoClause h = h
clauses_behind_more ns more cs (E.Clause p ts ks) h = (h.0, h.1, h.2, pattern_more ns more h.1.pattern p h.3, are_more ns more h.1.body.items ts h.4, clauses_behind_more ns more h.0 ks h.5)

pub choices_behind_more : (ns more : List Node) (cs : List Choice) (ks : Choices) → ChoicesBehind ns cs ks → ChoicesBehind (ns ++ more) cs ks
choices_behind_more ns more cs NoChoice h = h
choices_behind_more ns more cs (E.Choice t ts ks) h = (h.0, h.1, h.2, at_more ns more h.1.condition t h.3, are_more ns more h.1.body.items ts h.4, choices_behind_more ns more h.0 ks h.5)

pub parts_behind_more : (ns more : List Node) (ps : List Part) (qs : Parts) → PartsBehind ns ps qs → PartsBehind (ns ++ more) ps qs
parts_behind_more ns more ps NoPart h = h
parts_behind_more ns more ps (E.Generator p g qs) h = (h.0, h.1, h.2, h.3, pattern_more ns more h.1 p h.4, at_more ns more h.2 g h.5, parts_behind_more ns more h.0 qs h.6)
parts_behind_more ns more ps (E.Filter f qs) h = (h.0, h.1, h.2, at_more ns more h.1 f h.3, parts_behind_more ns more h.0 qs h.4)

all_trees_more : (ns more : List Node) (js : List ℕ) (b : Bool) (o : Option Trees) → AllTrees ns js b o → AllTrees (ns ++ more) js b o
all_trees_more ns more js b None h = h
all_trees_more ns more js b (Some ts) h = (h.0, trees_behind_more ns more js ts h.1)

all_patterns_more : (ns more : List Node) (js : List ℕ) (b : Bool) (o : Option Patterns) → AllPatterns ns js b o → AllPatterns (ns ++ more) js b o
all_patterns_more ns more js b None h = h
all_patterns_more ns more js b (Some ps) h = (h.0, patterns_behind_more ns more js ps h.1)

head_more : {ns : List Node} (more : List Node) {h : Head} {m : M.Head} → IsHead ns h m → IsHead (ns ++ more) h m
head_more {ns} more {h} {m} i = record { pattern = pattern_more ns more h.pattern m.pattern i.pattern; source = at_more ns more h.source m.source i.source; parts = parts_behind_more ns more h.parts.items m.parts i.parts }

block_more : {ns : List Node} (more : List Node) {b : Block} {m : M.Block} → IsBlock ns b m → IsBlock (ns ++ more) b m
block_more more (is_then {ns} {i} {c} h) = is_then (at_more ns more i c h)
block_more more (is_otherwise {ns} {i} {js} {c} {ts} h k) = is_otherwise (at_more ns more i c h) (are_more ns more js.items ts k)
block_more more (is_clause {ns} {i} {j} {cs} {c} {ks} {p} h k l) = is_clause (at_more ns more i c h) (clauses_behind_more ns more cs.items ks k) (pattern_more ns more j p l)
block_more more (is_choice {ns} {i} {cs} {ks} {c} k h) = is_choice (choices_behind_more ns more cs.items ks k) (at_more ns more i c h)
block_more more (is_for h) = is_for (head_more more h)

listed_more : {ns : List Node} (more : List Node) {x : Items} {l : M.Listed} → IsListed ns x l → IsListed (ns ++ more) x l
listed_more {ns} more {x} {l} i = record { trees = all_trees_more ns more x.places.items x.are_trees l.trees i.trees; patterns = all_patterns_more ns more x.places.items x.are_patterns l.patterns i.patterns }

pub frame_more : {ns : List Node} (more : List Node) {p : Pending} {f : M.Frame} → IsFrame ns p f → IsFrame (ns ++ more) p f
frame_more more (is_operand {ns} {o} {i} {a} h) = is_operand (at_more ns more i a h)
frame_more more (is_matched {ns} {i} {p} h) = is_matched (pattern_more ns more i p h)
frame_more more is_prefixed = is_prefixed
frame_more more is_parens = is_parens
frame_more more (is_items e l m) = is_items e (listed_more more l) m
frame_more more (is_keyed {ns} {e} {m} {js} {ks} {xs} {ys} h j k) = is_keyed h (trees_behind_more ns more js.items xs j) (trees_behind_more ns more ks.items ys k)
frame_more more (is_tail l) = is_tail (listed_more more l)
frame_more more (is_hole {ns} {bytes} {hs} {gs} h) = is_hole (holes_behind_more ns more hs.items gs h)
frame_more more is_condition = is_condition
frame_more more (is_do_if {ns} {i} {c} h) = is_do_if (at_more ns more i c h)
frame_more more (is_do_else {ns} {i} {j} {c} {a} h k) = is_do_else (at_more ns more i c h) (at_more ns more j a k)
frame_more more (is_body {ns} {b} {m} {js} {xs} h k) = is_body (block_more more h) (trees_behind_more ns more js.items xs k)
frame_more more is_subject = is_subject
frame_more more (is_first_pattern {ns} {i} {c} h) = is_first_pattern (at_more ns more i c h)
frame_more more is_first_condition = is_first_condition
frame_more more is_for_pattern = is_for_pattern
frame_more more (is_for_source {ns} {i} {p} h) = is_for_source (pattern_more ns more i p h)
frame_more more (is_part h) = is_part (head_more more h)
frame_more more (is_part_source {ns} {h} {m} {i} {p} k l) = is_part_source (head_more more k) (pattern_more ns more i p l)
frame_more more (is_do_for h) = is_do_for (head_more more h)

pub stack_more : (ns more : List Node) (ps : List Pending) (s : List M.Frame) → IsStack ns ps s → IsStack (ns ++ more) ps s
stack_more ns more ps [] h = h
stack_more ns more ps (f ∷ s) h = (h.0, h.1, h.2, frame_more more h.3, stack_more ns more h.0 s h.4)

-- the lists with more after them stand in order
pub trees_onto : (ns : List Node) (js ks : List ℕ) (xs us : Trees) → TreesBehind ns js xs → AreAt ns ks us → AreAt ns (js ++ ks) (M.onto xs us)
trees_onto ns js ks NoTree us h k = rw h k
trees_onto ns js ks (E.OneMore t ts) us h k = rw (h.2, append_assoc h.0 (h.1 ∷ []) ks) (trees_onto ns h.0 (h.1 ∷ ks) ts (E.OneMore t us) h.4 (h.1, ks, refl, h.3, k))

pub patterns_onto : (ns : List Node) (js ks : List ℕ) (xs us : Patterns) → PatternsBehind ns js xs → ArePatternsAt ns ks us → ArePatternsAt ns (js ++ ks) (M.onto_patterns xs us)
patterns_onto ns js ks NoPattern us h k = rw h k
patterns_onto ns js ks (P.OneMore t ts) us h k = rw (h.2, append_assoc h.0 (h.1 ∷ []) ks) (patterns_onto ns h.0 (h.1 ∷ ks) ts (P.OneMore t us) h.4 (h.1, ks, refl, h.3, k))

pub holes_onto : (ns : List Node) (js ks : List Hole) (xs us : Holes) → HolesBehind ns js xs → HolesAt ns ks us → HolesAt ns (js ++ ks) (M.onto_holes xs us)
holes_onto ns js ks NoHole us h k = rw h k
holes_onto ns js ks (E.Hole t bytes ts) us h k = rw (h.2, append_assoc h.0 (h.1 ∷ []) ks) (holes_onto ns h.0 (h.1 ∷ ks) ts (E.Hole t bytes us) h.5 (h.1, ks, refl, h.3, h.4, k))

pub clauses_onto : (ns : List Node) (js ks : List Clause) (xs us : Clauses) → ClausesBehind ns js xs → ClausesAt ns ks us → ClausesAt ns (js ++ ks) (M.onto_clauses xs us)
clauses_onto ns js ks NoClause us h k = rw h k
clauses_onto ns js ks (E.Clause p ys ts) us h k = rw (h.2, append_assoc h.0 (h.1 ∷ []) ks) (clauses_onto ns h.0 (h.1 ∷ ks) ts (E.Clause p ys us) h.5 (h.1, ks, refl, h.3, h.4, k))

pub choices_onto : (ns : List Node) (js ks : List Choice) (xs us : Choices) → ChoicesBehind ns js xs → ChoicesAt ns ks us → ChoicesAt ns (js ++ ks) (M.onto_choices xs us)
choices_onto ns js ks NoChoice us h k = rw h k
choices_onto ns js ks (E.Choice c ys ts) us h k = rw (h.2, append_assoc h.0 (h.1 ∷ []) ks) (choices_onto ns h.0 (h.1 ∷ ks) ts (E.Choice c ys us) h.5 (h.1, ks, refl, h.3, h.4, k))

pub parts_onto : (ns : List Node) (js ks : List Part) (xs us : Parts) → PartsBehind ns js xs → PartsAt ns ks us → PartsAt ns (js ++ ks) (M.onto_parts xs us)
parts_onto ns js ks NoPart us h k = rw h k
parts_onto ns js ks (E.Generator p g ts) us h k = rw (h.3, append_assoc h.0 (Generator h.1 h.2 ∷ []) ks) (parts_onto ns h.0 (Generator h.1 h.2 ∷ ks) ts (E.Generator p g us) h.6 (h.1, h.2, ks, refl, h.4, h.5, k))
parts_onto ns js ks (E.Filter f ts) us h k = rw (h.2, append_assoc h.0 (Filter h.1 ∷ []) ks) (parts_onto ns h.0 (Filter h.1 ∷ ks) ts (E.Filter f us) h.4 (h.1, ks, refl, h.3, k))

-- a list so far with nothing more after it
pub whole_trees : (ns : List Node) (js : List ℕ) (xs : Trees) → TreesBehind ns js xs → AreAt ns js (M.onto xs NoTree)
whole_trees ns js xs h = subst (λ ks. AreAt ns ks (M.onto xs NoTree)) (append-nil js) (trees_onto ns js [] xs NoTree h refl)
