-- Turns of the parser where a block, a body or a part of a `for` goes on or ends.
use Rattle.std.proofs.Common.{◌≡◌, ℕ, ◌==◌, Bool, true, false, List, [], ◌∷◌, ◌++◌, length, refl, sym, ap, ◌∙◌, subst}
use Rattle.std.specs.Prelude.{Vec, Result, Ok, IfOk}
use Rattle.std.specs.declared.alloc.Global.{Global}
use Rattle.std.proofs.lemmas.List.{append-nil}
use Rattle.ex_grammar.specs.Tokens.{Token}
use Rattle.ex_grammar.specs.Patterns.{Pattern}
use Rattle.ex_grammar.specs.Trees as E
use Rattle.ex_grammar.specs.Trees.{Tree, Trees, NoTree, OneMore, Clauses, NoClause, Choices, NoChoice, NoPart}
use Rattle.ex_parser.specs.declared.follow.Next.{Next}
use Rattle.ex_parser.specs.declared.follow.Next.TheVariants as N
use Rattle.ex_parser.specs.declared.tree.Node.{Node}
use Rattle.ex_parser.specs.declared.tree.Node.TheVariants as D
use Rattle.ex_parser.specs.declared.tree.Clause.{Clause}
use Rattle.ex_parser.specs.declared.tree.Choice.{Choice}
use Rattle.ex_parser.specs.declared.tree.Head.{Head}
use Rattle.ex_parser.specs.declared.parser.Block.{Block}
use Rattle.ex_parser.specs.declared.parser.Block.TheVariants as B
use Rattle.ex_parser.specs.declared.parser.Parser.{Parser}
use Rattle.ex_parser.specs.declared.parser.Pending.{Pending}
use Rattle.ex_parser.specs.declared.parser.Move.{Move}
use Rattle.ex_parser.specs.Follow.{Follows}
use Rattle.ex_parser.specs.Machine as M
use Rattle.ex_parser.specs.Machine.{Frame, State, Value, Want, Body, with_tree, with_pattern}
use Rattle.ex_parser.specs.Stands.{IsAt, IsPatternAt, AreAt, ClausesAt, ChoicesAt, PartsAt}
use Rattle.ex_parser.specs.Shown.{IsBlock, is_then, is_otherwise, is_clause, is_choice, is_for, IsHead, TreesBehind, ClausesBehind, ChoicesBehind, Turned}
use Rattle.ex_parser.proofs.Arena.{stands_last, at_more, pattern_more, are_more, clauses_more, choices_more, parts_more, whole_trees, clauses_onto, choices_onto, parts_onto}

-- what holds of the value holds if there is one
pub if_ok : {T F : Type 0} (P : T → Type 0) {r : Result T F} (a : T) → r ≡ Ok a → P a → IfOk r P
if_ok P a e h = subst (λ q. IfOk q P) (sym e) h

-- the parser after a turn, by another name
pub turned_as : {ns : List Node} {p p' : Parser} {all : List Token} {m : Move} {st : State} → p ≡ p' → Turned ns p'.nodes.items p'.stack.items all m st → Turned ns p.nodes.items p.stack.items all m st
turned_as {ns} {all = all} {m} {st} e t = subst (λ q. Turned ns q.nodes.items q.stack.items all m st) (sym e) t

-- what a block of the code stands for, by its form
pub at_then : {ns : List Node} {x : Block} {b : M.Block} {i : ℕ} (P : M.Block → Type 0) → IsBlock ns x b → x ≡ B.Then i → ((c : Tree) → IsAt ns i c → P (M.Then c)) → P b
at_then {ns} {i = i} P (is_then {i = j} {c} h) e f = let same : j ≡ i = cc in f c (subst (λ n. IsAt ns n c) same h)
at_then P (is_otherwise h k) e f = absurd (cc)
at_then P (is_clause h k l) e f = absurd (cc)
at_then P (is_choice k h) e f = absurd (cc)
at_then P (is_for h) e f = absurd (cc)

pub at_otherwise : {ns : List Node} {x : Block} {b : M.Block} {i : ℕ} {js : Vec ℕ Global} (P : M.Block → Type 0) → IsBlock ns x b → x ≡ B.Else i js → ((c : Tree) (ts : Trees) → IsAt ns i c → AreAt ns js.items ts → P (M.Otherwise c ts)) → P b
at_otherwise P (is_then h) e f = absurd (cc)
at_otherwise {ns} {i = i} {js} P (is_otherwise {i = j} {js = ks} {c} {ts} h k) e f = let same : j ≡ i = cc in let same' : ks ≡ js = cc in f c ts (subst (λ n. IsAt ns n c) same h) (subst (λ ls. AreAt ns ls.items ts) same' k)
at_otherwise P (is_clause h k l) e f = absurd (cc)
at_otherwise P (is_choice k h) e f = absurd (cc)
at_otherwise P (is_for h) e f = absurd (cc)

pub at_clause : {ns : List Node} {x : Block} {b : M.Block} {i j : ℕ} {cs : Vec Clause Global} (P : M.Block → Type 0) → IsBlock ns x b → x ≡ B.Clause i cs j → ((c : Tree) (ks : Clauses) (p : Pattern) → IsAt ns i c → ClausesBehind ns cs.items ks → IsPatternAt ns j p → P (M.InClause c ks p)) → P b
at_clause P (is_then h) e f = absurd (cc)
at_clause P (is_otherwise h k) e f = absurd (cc)
at_clause {ns} {i = i} {j} {cs} P (is_clause {i = i'} {j = j'} {cs = cs'} {c} {ks} {p} h k l) e f = let first : i' ≡ i = cc in let middle : cs' ≡ cs = cc in let last : j' ≡ j = cc in f c ks p (subst (λ n. IsAt ns n c) first h) (subst (λ ds. ClausesBehind ns ds.items ks) middle k) (subst (λ n. IsPatternAt ns n p) last l)
at_clause P (is_choice k h) e f = absurd (cc)
at_clause P (is_for h) e f = absurd (cc)

pub at_choice : {ns : List Node} {x : Block} {b : M.Block} {i : ℕ} {cs : Vec Choice Global} (P : M.Block → Type 0) → IsBlock ns x b → x ≡ B.Choice cs i → ((ks : Choices) (c : Tree) → ChoicesBehind ns cs.items ks → IsAt ns i c → P (M.InChoice ks c)) → P b
at_choice P (is_then h) e f = absurd (cc)
at_choice P (is_otherwise h k) e f = absurd (cc)
at_choice P (is_clause h k l) e f = absurd (cc)
at_choice {ns} {i = i} {cs} P (is_choice {i = j} {cs = cs'} {ks} {c} k h) e f = let first : cs' ≡ cs = cc in let last : j ≡ i = cc in f ks c (subst (λ ds. ChoicesBehind ns ds.items ks) first k) (subst (λ n. IsAt ns n c) last h)
at_choice P (is_for h) e f = absurd (cc)

pub at_for : {ns : List Node} {x : Block} {b : M.Block} {h : Head} (P : M.Block → Type 0) → IsBlock ns x b → x ≡ B.For h → ((m : M.Head) → IsHead ns h m → P (M.InFor m)) → P b
at_for P (is_then h) e f = absurd (cc)
at_for P (is_otherwise h k) e f = absurd (cc)
at_for P (is_clause h k l) e f = absurd (cc)
at_for P (is_choice k h) e f = absurd (cc)
at_for {ns} {h = h} P (is_for {h = h'} {m} k) e f = let same : h' ≡ h = cc in f m (subst (λ d. IsHead ns d m) same k)

-- the clauses and choices of the code
abbrev pub clause_of : ℕ → Vec ℕ Global → Clause
clause_of i js = record { pattern = i; body = js }

abbrev pub choice_of : ℕ → Vec ℕ Global → Choice
choice_of i js = record { condition = i; body = js }

-- the nodes that blocks make with their last body
pub then_node : {ns : List Node} {x : Block} {b : M.Block} (i : ℕ) (js : Vec ℕ Global) (xs : Trees) → x ≡ B.Then i → IsBlock ns x b → AreAt ns js.items xs → IsAt (ns ++ D.If i js ∷ []) (length ns) (M.block_tree b xs)
then_node {ns} i js xs e k l =
    let more : List Node = D.If i js ∷ [] in
    at_then (λ b. IsAt (ns ++ more) (length ns) (M.block_tree b xs)) k e (λ c h. (i, js, stands_last ns (D.If i js), at_more ns more i c h, are_more ns more js.items xs l))

pub otherwise_node : {ns : List Node} {x : Block} {b : M.Block} (i : ℕ) (first js : Vec ℕ Global) (xs : Trees) → x ≡ B.Else i first → IsBlock ns x b → AreAt ns js.items xs → IsAt (ns ++ D.IfElse i first js ∷ []) (length ns) (M.block_tree b xs)
otherwise_node {ns} i first js xs e k l =
    let more : List Node = D.IfElse i first js ∷ [] in
    at_otherwise (λ b. IsAt (ns ++ more) (length ns) (M.block_tree b xs)) k e (λ c ts h g. (i, first, js, stands_last ns (D.IfElse i first js), at_more ns more i c h, are_more ns more first.items ts g, are_more ns more js.items xs l))

pub clause_node : {ns : List Node} {x : Block} {b : M.Block} (i j : ℕ) (cs cs' : Vec Clause Global) (js : Vec ℕ Global) (xs : Trees) → x ≡ B.Clause i cs j → cs'.items ≡ cs.items ++ clause_of j js ∷ [] → IsBlock ns x b → AreAt ns js.items xs → IsAt (ns ++ D.Case i cs' ∷ []) (length ns) (M.block_tree b xs)
clause_node {ns} i j cs cs' js xs e g k l =
    let more : List Node = D.Case i cs' ∷ [] in
    at_clause (λ b. IsAt (ns ++ more) (length ns) (M.block_tree b xs)) k e (λ c ks p h d q. (
      i,
      cs',
      stands_last ns (D.Case i cs'),
      at_more ns more i c h,
      clauses_more ns more cs'.items (M.onto_clauses ks (E.Clause p xs NoClause))
          (subst (λ ds. ClausesAt ns ds (M.onto_clauses ks (E.Clause p xs NoClause))) (sym g) (clauses_onto ns cs.items (clause_of j js ∷ []) ks (E.Clause p xs NoClause) d (clause_of j js, [], refl, q, l, refl))),
    ))

pub choice_node : {ns : List Node} {x : Block} {b : M.Block} (i : ℕ) (cs cs' : Vec Choice Global) (js : Vec ℕ Global) (xs : Trees) → x ≡ B.Choice cs i → cs'.items ≡ cs.items ++ choice_of i js ∷ [] → IsBlock ns x b → AreAt ns js.items xs → IsAt (ns ++ D.Cond cs' ∷ []) (length ns) (M.block_tree b xs)
choice_node {ns} i cs cs' js xs e g k l =
    let more : List Node = D.Cond cs' ∷ [] in
    at_choice (λ b. IsAt (ns ++ more) (length ns) (M.block_tree b xs)) k e (λ ks c d h. (
      cs',
      stands_last ns (D.Cond cs'),
      choices_more ns more cs'.items (M.onto_choices ks (E.Choice c xs NoChoice))
          (subst (λ ds. ChoicesAt ns ds (M.onto_choices ks (E.Choice c xs NoChoice))) (sym g) (choices_onto ns cs.items (choice_of i js ∷ []) ks (E.Choice c xs NoChoice) d (choice_of i js, [], refl, h, l, refl))),
    ))

pub for_node : {ns : List Node} {x : Block} {b : M.Block} (h : Head) (js : Vec ℕ Global) (xs : Trees) → x ≡ B.For h → IsBlock ns x b → AreAt ns js.items xs → IsAt (ns ++ D.For h js ∷ []) (length ns) (M.block_tree b xs)
for_node {ns} h js xs e k l =
    let more : List Node = D.For h js ∷ [] in
    at_for (λ b. IsAt (ns ++ more) (length ns) (M.block_tree b xs)) k e (λ m d.
    let parts = subst (λ ps. PartsAt ns ps (M.onto_parts m.parts NoPart)) (append-nil h.parts.items) (parts_onto ns h.parts.items [] m.parts NoPart d.parts refl) in
    (h, js, stands_last ns (D.For h js), pattern_more ns more h.pattern m.pattern d.pattern, at_more ns more h.source m.source d.source, parts_more ns more h.parts.items (M.onto_parts m.parts NoPart) parts, are_more ns more js.items xs l))

-- the clauses and choices with one more
pub clause_more : (ns : List Node) (j : ℕ) (cs cs' : List Clause) (js : Vec ℕ Global) (p : Pattern) (xs : Trees) (ks : Clauses) → cs' ≡ cs ++ clause_of j js ∷ [] → IsPatternAt ns j p → TreesBehind ns js.items xs → ClausesBehind ns cs ks → ClausesBehind ns cs' (E.Clause p (M.onto xs NoTree) ks)
clause_more ns j cs cs' js p xs ks e q l k = (cs, clause_of j js, e, q, whole_trees ns js.items xs l, k)

pub choice_more : (ns : List Node) (i : ℕ) (cs cs' : List Choice) (js : Vec ℕ Global) (c : Tree) (xs : Trees) (ks : Choices) → cs' ≡ cs ++ choice_of i js ∷ [] → IsAt ns i c → TreesBehind ns js.items xs → ChoicesBehind ns cs ks → ChoicesBehind ns cs' (E.Choice c (M.onto xs NoTree) ks)
choice_more ns i cs cs' js c xs ks e h l k = (cs, choice_of i js, e, h, whole_trees ns js.items xs l, k)

-- the next clause begins after a body that isn't empty
pub not_empty : {q : Bool} (js : Vec ℕ Global) → q ≡ (js.len == 0) → q ≡ false → js.items ≡ [] → ⊥
not_empty js e f g =
    let none : js.len ≡ 0 = js.ok.0 ∙ ap length g in
    let off : true ≡ false = sym (ap (λ n. n == 0) none) ∙ (sym e ∙ f) in cc

pub next_in_clause : {ns ns' : List Node} {ps' : List Pending} {all : List Token} {m : Move} {x : Block} {b : M.Block} {i j : ℕ} {cs : Vec Clause Global} {js : List ℕ} (xs : Trees) (v : Value) (s : List Frame) (rest : List Token)
    → IsBlock ns x b → x ≡ B.Clause i cs j → (js ≡ [] → ⊥) → TreesBehind ns js xs
    → ((c : Tree) (ks : Clauses) (p : Pattern) → IsAt ns i c → ClausesBehind ns cs.items ks → IsPatternAt ns j p → Turned ns ns' ps' all m (with_pattern v.pattern (λ q. Want (Body (M.InClause c (E.Clause p (M.onto xs NoTree) ks) q) NoTree ∷ s) rest)))
    → Turned ns ns' ps' all m (M.next_clause b xs v s rest)
next_in_clause NoTree v s rest k e never l f = absurd (never l)
next_in_clause {ns} {ns'} {ps'} {all} {m} (OneMore t ts) v s rest k e never l f = at_clause (λ b. Turned ns ns' ps' all m (M.next_clause b (OneMore t ts) v s rest)) k e f

pub next_in_choice : {ns ns' : List Node} {ps' : List Pending} {all : List Token} {m : Move} {x : Block} {b : M.Block} {i : ℕ} {cs : Vec Choice Global} {js : List ℕ} (xs : Trees) (v : Value) (s : List Frame) (rest : List Token)
    → IsBlock ns x b → x ≡ B.Choice cs i → (js ≡ [] → ⊥) → TreesBehind ns js xs
    → ((ks : Choices) (c : Tree) → ChoicesBehind ns cs.items ks → IsAt ns i c → Turned ns ns' ps' all m (with_tree v.tree (λ d. Want (Body (M.InChoice (E.Choice c (M.onto xs NoTree) ks) d) NoTree ∷ s) rest)))
    → Turned ns ns' ps' all m (M.next_clause b xs v s rest)
next_in_choice NoTree v s rest k e never l f = absurd (never l)
next_in_choice {ns} {ns'} {ps'} {all} {m} (OneMore t ts) v s rest k e never l f = at_choice (λ b. Turned ns ns' ps' all m (M.next_clause b (OneMore t ts) v s rest)) k e f

-- a part of a `for` that isn't the pattern of a generator is a filter
part_other : (n : Next) (ts : List Token) (h : M.Head) (v : Value) (s : List Frame) → (n ≡ N.LeftArrow → ⊥) → M.part n ts h v s ≡ with_tree v.tree (λ f. M.after_part n ts (M.and_filter h f) s)
part_other N.LeftArrow ts h v s never = absurd (never refl)
part_other n ts h v s never = refl

pub a_filter : {ns ns' : List Node} {ps' : List Pending} {all : List Token} {m : Move} (f : Follows) (h : M.Head) (v : Value) (s : List Frame) → (f.next ≡ N.LeftArrow → ⊥) → Turned ns ns' ps' all m (with_tree v.tree (λ t. M.after_part f.next f.rest (M.and_filter h t) s)) → Turned ns ns' ps' all m (M.part f.next f.rest h v s)
a_filter {ns} {ns'} {ps'} {all} {m} f h v s never t = subst (λ st. Turned ns ns' ps' all m st) (sym (part_other f.next f.rest h v s never)) t
