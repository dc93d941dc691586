-- Turns of the parser, one after the other.
use Rattle.std.proofs.Common.{◌≡◌, ◌+◌, ℕ, zero, suc, Bool, List, [], ◌∷◌, ◌++◌, length, drop, Option, Some, None, refl, sym, ◌∙◌, subst, arith}
use Rattle.std.proofs.lemmas.List.{append-nil}
use Rattle.ex_grammar.specs.declared.operators.Operator.{Operator}
use Rattle.ex_grammar.specs.Tokens.{Token}
use Rattle.ex_grammar.specs.Patterns.{Pattern}
use Rattle.ex_grammar.specs.Trees as E
use Rattle.ex_grammar.specs.Trees.{Tree}
use Rattle.ex_parser.specs.declared.follow.Follow.{Follow}
use Rattle.ex_parser.specs.declared.follow.Next.{Next}
use Rattle.ex_parser.specs.declared.follow.Next.TheVariants as N
use Rattle.ex_parser.specs.declared.tree.Node.{Node}
use Rattle.ex_parser.specs.declared.tree.Node.TheVariants as D
use Rattle.ex_parser.specs.declared.parser.Held.{Held}
use Rattle.ex_parser.specs.declared.parser.Pending.{Pending}
use Rattle.ex_parser.specs.declared.parser.Move.{Move}
use Rattle.ex_parser.specs.declared.parser.Move.TheVariants.{Wanted, Held as HeldAt, Failed}
use Rattle.ex_parser.specs.Follow.{Follows, tail}
use Rattle.ex_parser.specs.declared.tree.Head.{Head}
use Rattle.ex_parser.specs.declared.parser.Block.{Block}
use Rattle.ex_parser.specs.declared.parser.Block.TheVariants as B
use Rattle.ex_parser.specs.declared.tree.Part.TheVariants.{Generator, Filter}
use Rattle.std.specs.Prelude.{Vec}
use Rattle.std.specs.declared.alloc.Global.{Global}
use Rattle.ex_parser.specs.Machine as M
use Rattle.ex_parser.specs.Machine.{one, for_tree, do_if, Frame, State, Value, Want, Have, Stuck, made, with_tree, with_pattern, condition, subject, for_pattern}
use Rattle.ex_parser.specs.Stands.{IsAt, IsPatternAt, AreAt, PartsAt}
use Rattle.ex_parser.specs.Shown.{IsBlock, is_then, is_otherwise, is_clause, is_choice, is_for, TreesBehind, IsHead, FollowShows, TreeShows, PatternShows, IsHeld, IsFrame, IsStack, Shows, Grows, Turned, tree_held}
use Rattle.ex_parser.proofs.Arena.{trees_onto, parts_onto, parts_more, stands_last, at_more, pattern_more, stack_more}

pub grows_same : (ns ns' : List Node) → ns' ≡ ns → Grows ns ns'
grows_same ns ns' e = ([], e ∙ sym (append-nil ns))

-- nothing was read
pub fails : (ns : List Node) (ps : List Pending) (all : List Token) {st : State} → st ≡ Stuck → Turned ns ns ps all Failed st
fails ns ps all e = subst (λ v. Turned ns ns ps all Failed v) (sym e) (record { grows = grows_same ns ns refl; shows = tt })

-- nodes, stack and move are those named
moved : (ns ns' : List Node) (ps ps' : List Pending) (all : List Token) (m m' : Move) (st : State) → m' ≡ m → ns' ≡ ns → ps' ≡ ps → Shows ns ps all m st → Shows ns' ps' all m' st
moved ns ns' ps ps' all m m' st e f g h =
    subst (λ x. Shows x ps' all m' st) (sym f) (subst (λ y. Shows ns y all m' st) (sym g) (subst (λ z. Shows ns ps all z st) (sym e) h))

-- what is begun stands on the stack
pub begins : {ns ns' : List Node} {ps' : List Pending} {m : Move} {at : ℕ} (ps : List Pending) (p : Pending) (all rest : List Token) (s : List Frame) (f : Frame)
    → (m ≡ Wanted at) × (ns' ≡ ns) × (ps' ≡ ps ++ p ∷ []) → IsStack ns ps s → IsFrame ns p f → drop at all ≡ rest → Turned ns ns' ps' all m (Want (f ∷ s) rest)
begins {ns} {ns'} {ps'} {m} {at} ps p all rest s f e h k r = record {
  grows = grows_same ns ns' e.1;
  shows = moved ns ns' (ps ++ p ∷ []) ps' all (Wanted at) m _ e.0 e.1 e.2 ((ps, p, refl, k, h), sym r);
}

-- a node that was made was read
pub makes : {ns ns' : List Node} {ps' : List Pending} {m : Move} {at l : ℕ} (ps : List Pending) (node : Node) (all rest : List Token) (s : List Frame) (t : Tree)
    → (m ≡ HeldAt (tree_held (length ns) l) at) × (ns' ≡ ns ++ node ∷ []) × (ps' ≡ ps) → IsStack ns ps s → IsAt (ns ++ node ∷ []) (length ns) t → drop at all ≡ rest → Turned ns ns' ps' all m (Have s (made t l) rest)
makes {ns} {ns'} {ps'} {m} {at} {l} ps node all rest s t e h k r = record {
  grows = (node ∷ [], e.1);
  shows = moved (ns ++ node ∷ []) ns' ps ps' all (HeldAt (tree_held (length ns) l) at) m _ e.0 e.1 e.2 (stack_more ns (node ∷ []) ps s h, record { tree = (refl, k); pattern = refl; level = refl; negates = refl }, sym r);
}

-- what was read is no tree, or one
pub no_tree : (ns : List Node) (ps : List Pending) (all : List Token) (o : Option Tree) (go : Tree → State) → TreeShows ns None o → Turned ns ns ps all Failed (with_tree o go)
no_tree ns ps all None go h = fails ns ps all refl
no_tree ns ps all (Some t) go h = absurd h

pub a_tree : {ns ns' : List Node} {ps' : List Pending} {all : List Token} {m : Move} (i : ℕ) (o : Option Tree) (go : Tree → State) → TreeShows ns (Some i) o → ((t : Tree) → IsAt ns i t → Turned ns ns' ps' all m (go t)) → Turned ns ns' ps' all m (with_tree o go)
a_tree i None go h f = absurd h
a_tree i (Some t) go h f = f t h

pub no_pattern : (ns : List Node) (ps : List Pending) (all : List Token) (o : Option Pattern) (go : Pattern → State) → PatternShows ns None o → Turned ns ns ps all Failed (with_pattern o go)
no_pattern ns ps all None go h = fails ns ps all refl
no_pattern ns ps all (Some p) go h = absurd h

pub a_pattern : {ns ns' : List Node} {ps' : List Pending} {all : List Token} {m : Move} (i : ℕ) (o : Option Pattern) (go : Pattern → State) → PatternShows ns (Some i) o → ((p : Pattern) → IsPatternAt ns i p → Turned ns ns' ps' all m (go p)) → Turned ns ns' ps' all m (with_pattern o go)
a_pattern i None go h f = absurd h
a_pattern i (Some p) go h f = f p h

-- what follows is known
pub next_is : (all : List Token) (f : Follow) (w : Follows) (n : Next) → f.next ≡ n → FollowShows all f w → w.next ≡ n
next_is all f w n e h = sym h.0 ∙ e

pub other_next : (all : List Token) (f : Follow) (w : Follows) (n : Next) → FollowShows all f w → (f.next ≡ n → ⊥) → w.next ≡ n → ⊥
other_next all f w n h never e = never (h.0 ∙ e)

-- an operator and a match with both sides
pub apply_at : (ns : List Node) (o : Operator) (i j : ℕ) (a b : Tree) → IsAt ns i a → IsAt ns j b → IsAt (ns ++ D.Apply o i j ∷ []) (length ns) (E.Apply o a b)
apply_at ns o i j a b h k = (i, j, stands_last ns (D.Apply o i j), at_more ns (D.Apply o i j ∷ []) i a h, at_more ns (D.Apply o i j ∷ []) j b k)

pub match_at : (ns : List Node) (i j : ℕ) (p : Pattern) (t : Tree) → IsPatternAt ns i p → IsAt ns j t → IsAt (ns ++ D.Match i j ∷ []) (length ns) (E.Match p t)
match_at ns i j p t h k = (i, j, stands_last ns (D.Match i j), pattern_more ns (D.Match i j ∷ []) i p h, at_more ns (D.Match i j ∷ []) j t k)

-- where nothing that was begun goes on
pub condition_other : (n : Next) (ts : List Token) (c : Tree) (s : List Frame) → (n ≡ N.Do → ⊥) → (n ≡ N.CommaDo → ⊥) → condition n ts c s ≡ Stuck
condition_other N.Do ts c s h k = absurd (h refl)
condition_other N.CommaDo ts c s h k = absurd (k refl)
condition_other n ts c s h k = refl

pub subject_other : (n : Next) (ts : List Token) (c : Tree) (s : List Frame) → (n ≡ N.Do → ⊥) → subject n ts c s ≡ Stuck
subject_other N.Do ts c s h = absurd (h refl)
subject_other n ts c s h = refl

pub for_pattern_other : (n : Next) (ts : List Token) (p : Pattern) (s : List Frame) → (n ≡ N.LeftArrow → ⊥) → for_pattern n ts p s ≡ Stuck
for_pattern_other N.LeftArrow ts p s h = absurd (h refl)
for_pattern_other n ts p s h = refl

-- the state at what follows
pub at_next : {ns ns' : List Node} {ps' : List Pending} {all : List Token} {m : Move} (go : Next → State) (n : Next) (w : Follows) → w.next ≡ n → Turned ns ns' ps' all m (go n) → Turned ns ns' ps' all m (go w.next)
at_next {ns} {ns'} {ps'} {all} {m} go n w e t = subst (λ k. Turned ns ns' ps' all m (go k)) (sym e) t

-- the state at a test
pub at_true : {ns ns' : List Node} {ps' : List Pending} {all : List Token} {m : Move} (go : Bool → State) (a b : Bool) → b ≡ a → Turned ns ns' ps' all m (go a) → Turned ns ns' ps' all m (go b)
at_true {ns} {ns'} {ps'} {all} {m} go a b e t = subst (λ k. Turned ns ns' ps' all m (go k)) (sym e) t

-- the nodes of blocks with bodies of one expression
are_one : (ns more : List Node) (js : List ℕ) (i : ℕ) (t : Tree) → js ≡ i ∷ [] → IsAt ns i t → AreAt (ns ++ more) js (one t)
are_one ns more js i t e h = (i, [], e, at_more ns more i t h, refl)

pub if_at : (ns : List Node) (j i : ℕ) (js : Vec ℕ Global) (c a : Tree) → IsAt ns j c → js.items ≡ i ∷ [] → IsAt ns i a → IsAt (ns ++ D.If j js ∷ []) (length ns) (E.If c (one a))
if_at ns j i js c a h e k = (j, js, stands_last ns (D.If j js), at_more ns (D.If j js ∷ []) j c h, are_one ns (D.If j js ∷ []) js.items i a e k)

pub if_else_at : (ns : List Node) (j i l : ℕ) (js ks : Vec ℕ Global) (c a b : Tree) → IsAt ns j c → js.items ≡ i ∷ [] → IsAt ns i a → ks.items ≡ l ∷ [] → IsAt ns l b → IsAt (ns ++ D.IfElse j js ks ∷ []) (length ns) (E.IfElse c (one a) (one b))
if_else_at ns j i l js ks c a b h e k f q = let more : List Node = D.IfElse j js ks ∷ [] in (j, js, ks, stands_last ns (D.IfElse j js ks), at_more ns more j c h, are_one ns more js.items i a e k, are_one ns more ks.items l b f q)

pub for_at : (ns : List Node) (h : Head) (m : M.Head) (i : ℕ) (js : Vec ℕ Global) (a : Tree) → IsHead ns h m → js.items ≡ i ∷ [] → IsAt ns i a → IsAt (ns ++ D.For h js ∷ []) (length ns) (for_tree m (one a))
for_at ns h m i js a hd e k =
    let more : List Node = D.For h js ∷ [] in
    let parts = subst (λ ps. PartsAt ns ps (M.onto_parts m.parts E.NoPart)) (append-nil h.parts.items) (parts_onto ns h.parts.items [] m.parts E.NoPart hd.parts refl) in
    (h, js, stands_last ns (D.For h js), pattern_more ns more h.pattern m.pattern hd.pattern, at_more ns more h.source m.source hd.source, parts_more ns more h.parts.items (M.onto_parts m.parts E.NoPart) parts, are_one ns more js.items i a e k)

pub do_if_other : (n : Next) (after ts : List Token) (c a : Tree) (s : List Frame) → (n ≡ N.CommaElse → ⊥) → do_if n after c a s ts ≡ Have s (made (E.If c (one a)) 11) ts
do_if_other N.CommaElse after ts c a s h = absurd (h refl)
do_if_other n after ts c a s h = refl

-- a head with a part more
pub head_generator : (ns : List Node) (h h' : Head) (m : M.Head) (i j : ℕ) (p : Pattern) (g : Tree) → (h'.pattern ≡ h.pattern) × (h'.source ≡ h.source) × (h'.parts.items ≡ h.parts.items ++ Generator i j ∷ []) → IsHead ns h m → IsPatternAt ns i p → IsAt ns j g → IsHead ns h' (M.and_generator m p g)
head_generator ns h h' m i j p g e hd k l = record { pattern = rw (e.0) hd.pattern; source = rw (e.1) hd.source; parts = (h.parts.items, i, j, e.2, k, l, hd.parts) }

pub head_filter : (ns : List Node) (h h' : Head) (m : M.Head) (i : ℕ) (t : Tree) → (h'.pattern ≡ h.pattern) × (h'.source ≡ h.source) × (h'.parts.items ≡ h.parts.items ++ Filter i ∷ []) → IsHead ns h m → IsAt ns i t → IsHead ns h' (M.and_filter m t)
head_filter ns h h' m i t e hd k = record { pattern = rw (e.0) hd.pattern; source = rw (e.1) hd.source; parts = (h.parts.items, i, e.2, k, hd.parts) }

-- the `else` of an `if`
pub else_then : {ns ns' : List Node} {ps' : List Pending} {all : List Token} {m : Move} {x : Block} {b : M.Block} (ys : E.Trees) (s : List Frame) (rest : List Token) (i : ℕ) → IsBlock ns x b → x ≡ B.Then i → ((c : Tree) → IsAt ns i c → Turned ns ns' ps' all m (M.else_body (M.Then c) ys s rest)) → Turned ns ns' ps' all m (M.else_body b ys s rest)
else_then {ns} ys s rest i (is_then {i = j} {c} h) e f = let same : j ≡ i = cc in f c (subst (λ n. IsAt ns n c) same h)
else_then ys s rest i (is_otherwise h k) e f = absurd (cc)
else_then ys s rest i (is_clause h k l) e f = absurd (cc)
else_then ys s rest i (is_choice k h) e f = absurd (cc)
else_then ys s rest i (is_for h) e f = absurd (cc)

pub else_other : {ns : List Node} {x : Block} {b : M.Block} (ys : E.Trees) (s : List Frame) (rest : List Token) → IsBlock ns x b → ((i : ℕ) → x ≡ B.Then i → ⊥) → M.else_body b ys s rest ≡ Stuck
else_other ys s rest (is_then {i = j} h) f = absurd (f j refl)
else_other ys s rest (is_otherwise h k) f = refl
else_other ys s rest (is_clause h k l) f = refl
else_other ys s rest (is_choice k h) f = refl
else_other ys s rest (is_for h) f = refl

-- a body with its last expression
pub body_whole : (ns : List Node) (js ks : List ℕ) (i : ℕ) (xs : E.Trees) (t : Tree) → TreesBehind ns js xs → ks ≡ js ++ i ∷ [] → IsAt ns i t → AreAt ns ks (M.onto xs (one t))
body_whole ns js ks i xs t h e k = rw e (trees_onto ns js (i ∷ []) xs (one t) h (i, [], refl, k, refl))

-- the tokens after the one at a place
pub drop_tail : (all : List Token) (at : ℕ) → drop (at + 1) all ≡ tail (drop at all)
drop_tail [] zero = refl
drop_tail [] (suc at) = let e : suc at + 1 ≡ suc (at + 1) = omega arith in rw e refl
drop_tail (t ∷ all) zero = refl
drop_tail (t ∷ all) (suc at) = let e : suc at + 1 ≡ suc (at + 1) = omega arith in rw e (drop_tail all at)

-- a node that was made was read, as a tree and as a pattern
pub reads : {ns ns' : List Node} {ps' : List Pending} {m : Move} {at : ℕ} (h : Held) (ps : List Pending) (node : Node) (all rest : List Token) (s : List Frame) (v : Value)
    → (m ≡ HeldAt h at) × (ns' ≡ ns ++ node ∷ []) × (ps' ≡ ps) → IsStack ns ps s → IsHeld (ns ++ node ∷ []) h v → drop at all ≡ rest → Turned ns ns' ps' all m (Have s v rest)
reads {ns} {ns'} {ps'} {m} {at} h ps node all rest s v e k q r =
    subst (λ x. Turned ns x ps' all m (Have s v rest)) (sym e.1)
    (subst (λ y. Turned ns (ns ++ node ∷ []) y all m (Have s v rest)) (sym e.2)
    (subst (λ z. Turned ns (ns ++ node ∷ []) ps all z (Have s v rest)) (sym e.0)
    (record { grows = (node ∷ [], refl); shows = (stack_more ns (node ∷ []) ps s k, q, sym r) })))
