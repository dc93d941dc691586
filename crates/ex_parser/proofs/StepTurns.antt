-- Steps of the parser: by what stands on the stack, and by what stands first.
use Rattle.std.proofs.Common.{◌≡◌, ℕ, zero, suc, ◌+◌, ◌<◌, ◌≤◌, true, false, List, [], ◌∷◌, ◌++◌, length, drop, Option, Some, None, refl, sym, ap, ◌∙◌, arith, subst, length-append}
use Rattle.std.specs.Prelude.{nat_le}
use Rattle.std.specs.Option.{option_to_list}
use Rattle.std.proofs.lemmas.List.{append-nil, same_from_push}
use Rattle.std.proofs.lemmas.Bool.{le-leb}
use Rattle.std.proofs.lemmas.Bool.Decides.{nat_tests}
use Rattle.ex_grammar.specs.declared.token.Token.{Token as CodeToken}
use Rattle.ex_grammar.specs.declared.operators.Infix.{Infix}
use Rattle.ex_grammar.specs.declared.operators.Operator.{Operator}
use Rattle.ex_grammar.specs.declared.operators.Prefix.{Prefix}
use Rattle.ex_grammar.specs.Coded.{IsToken}
use Rattle.ex_grammar.specs.Operators.{row_of, prefix_of, right}
use Rattle.ex_grammar.specs.Tokens.{Token}
use Rattle.ex_grammar.specs.Patterns.{Pattern}
use Rattle.ex_grammar.specs.Trees.{Tree, Trees, NoTree, Holes}
use Rattle.ex_parser.specs.declared.tree.Node.{Node}
use Rattle.ex_parser.specs.declared.parser.Held.{Held}
use Rattle.ex_parser.specs.declared.parser.Items.{Items}
use Rattle.ex_parser.specs.declared.parser.Pending.{Pending}
use Rattle.ex_parser.specs.declared.parser.Pending.TheVariants as F
use Rattle.ex_parser.specs.declared.parser.Move.{Move}
use Rattle.ex_parser.specs.declared.parser.Move.TheVariants.{Held as HeldAt, Finished, Failed}
use Rattle.ex_parser.specs.Follow.{Begun, call_head, first_infix, follow}
use Rattle.ex_parser.specs.Machine as M
use Rattle.ex_parser.specs.Machine.{State, Want, Have, Done, Stuck, Frame, Value, with_tree, floor, have, take, take_or_end, have_by, ends, end_by, want, want_by, want_called, called, opened, first, listed, step, Prefixed, InCall}
use Rattle.ex_parser.specs.Stands.{IsAt, IsPatternAt}
use Rattle.ex_parser.specs.Shown.{token_of, AreTokens, CallShows, TreeShows, TreesBehind, HolesBehind, IsHeld, IsListed, IsEnclosure, MayHold, IsHead, IsBlock, IsFrame, is_operand, is_matched, is_prefixed, is_parens, is_items, is_keyed, is_tail, is_hole, is_condition, is_do_if, is_do_else, is_body, is_subject, is_first_pattern, is_first_condition, is_for_pattern, is_for_source, is_part, is_part_source, is_do_for, IsStack, Shows, Turned}
use Rattle.ex_parser.proofs.Turns.{grows_same, fails, drop_tail}

-- what a frame is, by what was begun in the code
abbrev pub Means : List Node → Pending → Frame → Type 0
Means ns (F.Operand o i) f = (a : Tree) × (f ≡ M.Operand o a) × IsAt ns i a
Means ns (F.Matched i) f = (p : Pattern) × (f ≡ M.Matched p) × IsPatternAt ns i p
Means ns (F.Prefixed o) f = f ≡ M.Prefixed o
Means ns F.Parens f = f ≡ M.Parens
Means ns (F.Items e x) f = (m : M.Enclosure) × (l : M.Listed) × (f ≡ M.Items m l) × IsEnclosure e m × IsListed ns x l × MayHold m l.patterns
Means ns (F.Keyed e js ks x) f = (m : M.Enclosure) × (xs : Trees) × (ys : Trees) × (f ≡ M.Keyed m xs ys x) × IsEnclosure e m × TreesBehind ns js.items xs × TreesBehind ns ks.items ys
Means ns (F.Tail x) f = (l : M.Listed) × (f ≡ M.Tail l) × IsListed ns x l
Means ns (F.Hole bytes hs) f = (gs : Holes) × (f ≡ M.InHole bytes gs) × HolesBehind ns hs.items gs
Means ns F.If f = f ≡ M.Condition
Means ns (F.Do i) f = (c : Tree) × (f ≡ M.DoIf c) × IsAt ns i c
Means ns (F.ElseDo i j) f = (c : Tree) × (a : Tree) × (f ≡ M.DoElse c a) × IsAt ns i c × IsAt ns j a
Means ns (F.Body b js) f = (m : M.Block) × (xs : Trees) × (f ≡ M.Body m xs) × IsBlock ns b m × TreesBehind ns js.items xs
Means ns F.Case f = f ≡ M.Subject
Means ns (F.FirstPattern i) f = (c : Tree) × (f ≡ M.FirstPattern c) × IsAt ns i c
Means ns F.FirstCondition f = f ≡ M.FirstCondition
Means ns F.ForPattern f = f ≡ M.ForPattern
Means ns (F.ForSource i) f = (p : Pattern) × (f ≡ M.ForSource p) × IsPatternAt ns i p
Means ns (F.Part h) f = (m : M.Head) × (f ≡ M.Part m) × IsHead ns h m
Means ns (F.PartSource h i) f = (m : M.Head) × (p : Pattern) × (f ≡ M.PartSource m p) × IsHead ns h m × IsPatternAt ns i p
Means ns (F.ForDo h) f = (m : M.Head) × (f ≡ M.DoFor m) × IsHead ns h m

means : {ns : List Node} {p : Pending} {f : Frame} → IsFrame ns p f → Means ns p f
means (is_operand {a = a} h) = (a, refl, h)
means (is_matched {p = p} h) = (p, refl, h)
means is_prefixed = refl
means is_parens = refl
means (is_items {m = m} {l = l} h k q) = (m, l, refl, h, k, q)
means (is_keyed {m = m} {xs = xs} {ys = ys} h j k) = (m, xs, ys, refl, h, j, k)
means (is_tail {l = l} h) = (l, refl, h)
means (is_hole {gs = gs} h) = (gs, refl, h)
means is_condition = refl
means (is_do_if {c = c} h) = (c, refl, h)
means (is_do_else {c = c} {a = a} h k) = (c, a, refl, h, k)
means (is_body {m = m} {xs = xs} h k) = (m, xs, refl, h, k)
means is_subject = refl
means (is_first_pattern {c = c} h) = (c, refl, h)
means is_first_condition = refl
means is_for_pattern = refl
means (is_for_source {p = p} h) = (p, refl, h)
means (is_part {m = m} h) = (m, refl, h)
means (is_part_source {m = m} {p = p} h k) = (m, p, refl, h, k)
means (is_do_for {m = m} h) = (m, refl, h)

pub frame_means : {ns : List Node} {p : Pending} {f : Frame} (q : Pending) → p ≡ q → IsFrame ns p f → Means ns q f
frame_means {ns} {p} {f} q e h = subst (λ x. Means ns x f) e (means h)

-- the loosest level at which an operator takes what was read
pub floor_operand : {ns : List Node} {p : Pending} {f : Frame} (o : Operator) (i : ℕ) (s : List Frame) → p ≡ F.Operand o i → IsFrame ns p f → right o ≡ floor (f ∷ s)
floor_operand o i s e h = let m = frame_means (F.Operand o i) e h in ap (λ g. floor (g ∷ s)) (sym m.1)

-- the parser comes to the state that is the same
pub at_state : {ns ns' : List Node} {ps' : List Pending} {all : List Token} {m : Move} {st : State} (st' : State) → st ≡ st' → Turned ns ns' ps' all m st' → Turned ns ns' ps' all m st
at_state {ns} {ns'} {ps'} {all} {m} st' e t = subst (λ v. Turned ns ns' ps' all m v) (sym e) t

-- something was read, and nothing was begun before
pub ends_whole : (ns : List Node) (ps below : List Pending) (all : List Token) (m : Move) (s : List Frame) (v : Value) (at : ℕ) → length ps ≡ 0 → ps ≡ below ++ [] → IsStack ns ps s → Shows ns [] all m (with_tree v.tree (λ t. Done t (drop at all))) → Turned ns ns below all m (ends s v (drop at all))
ends_whole ns ps below all m [] v at l e k h = record { grows = grows_same ns ns refl; shows = subst (λ x. Shows ns x all m (with_tree v.tree (λ t. Done t (drop at all)))) (sym (sym (append-nil below) ∙ (sym e ∙ k))) h }
ends_whole ns ps below all m (f ∷ s) v at l e k h = absurd (omega (arith, ap length k.2, length-append k.0 (k.1 ∷ [])))

-- something was read, and this was begun last
pub ends_last : {ns ns' : List Node} {ps' : List Pending} {all : List Token} {m : Move} (ps below : List Pending) (r : Option Pending) (p : Pending) (s : List Frame) (v : Value) (ts : List Token) → ps ≡ below ++ option_to_list r → r ≡ Some p → IsStack ns ps s → ((f : Frame) → IsFrame ns p f → (s' : List Frame) → IsStack ns below s' → Turned ns ns' ps' all m (end_by f s' v ts (follow ts).next (follow ts).rest)) → Turned ns ns' ps' all m (ends s v ts)
ends_last {ns} {ns'} {ps'} {all} {m} ps below r p s v ts e f k go = of s k
  where
    last : ps ≡ below ++ p ∷ []
    last = e ∙ ap (λ o. below ++ option_to_list o) f

    of : (s : List Frame) → IsStack ns ps s → Turned ns ns' ps' all m (ends s v ts)
    of [] k = absurd (omega (arith, ap length (sym last ∙ k), length-append below (p ∷ [])))
    of (f ∷ s) k =
        let q = same_from_push below k.0 p k.1 (sym last ∙ k.2) in
        go f (subst (λ x. IsFrame ns x f) (sym q.1) k.3) s (subst (λ x. IsStack ns x s) (sym q.0) k.4)

pub at_frame : {ns ns' : List Node} {ps' : List Pending} {all : List Token} {m : Move} {f : Frame} (g : Frame) (s : List Frame) (v : Value) (ts : List Token) → f ≡ g → Turned ns ns' ps' all m (end_by g s v ts (follow ts).next (follow ts).rest) → Turned ns ns' ps' all m (end_by f s v ts (follow ts).next (follow ts).rest)
at_frame g s v ts e t = at_state _ (ap (λ x. end_by x s v ts (follow ts).next (follow ts).rest) e) t

-- an operator follows what was read and takes it, or none does
pub have_takes : {ns ns' : List Node} {ps' : List Pending} {all : List Token} {m : Move} (s : List Frame) (v : Value) (at a b : ℕ) (i : Infix) → Some i ≡ first_infix (drop at all) → a ≡ floor s → b ≡ (row_of i).level → a ≤ b → Turned ns ns' ps' all m (take i s v (drop (at + 1) all)) → Turned ns ns' ps' all m (have s v (drop at all))
have_takes {all = all} s v at a b i e f g h t =
    let test : nat_le (floor s) (row_of i).level ≡ true = le-leb (floor s) (row_of i).level (omega arith) in
    at_state _ (ap (λ o. have_by o s v (drop at all)) (sym e) ∙ (ap (λ b. take_or_end b i s v (drop at all)) test ∙ ap (take i s v) (sym (drop_tail all at)))) t

pub have_ends : {ns ns' : List Node} {ps' : List Pending} {all : List Token} {m : Move} (s : List Frame) (v : Value) (at a b : ℕ) (i : Infix) → Some i ≡ first_infix (drop at all) → a ≡ floor s → b ≡ (row_of i).level → b < a → Turned ns ns' ps' all m (ends s v (drop at all)) → Turned ns ns' ps' all m (have s v (drop at all))
have_ends {all = all} s v at a b i e f g h t =
    let below : (row_of i).level < floor s = omega arith in
    let test : nat_le (floor s) (row_of i).level ≡ false = grind (arith, nat_tests) in
    at_state _ (ap (λ o. have_by o s v (drop at all)) (sym e) ∙ ap (λ b. take_or_end b i s v (drop at all)) test) t

pub have_no_infix : {ns ns' : List Node} {ps' : List Pending} {all : List Token} {m : Move} (s : List Frame) (v : Value) (at : ℕ) → None ≡ first_infix (drop at all) → Turned ns ns' ps' all m (ends s v (drop at all)) → Turned ns ns' ps' all m (have s v (drop at all))
have_no_infix {all = all} s v at e t = at_state _ (ap (λ o. have_by o s v (drop at all)) (sym e)) t

-- a step where something was read
pub step_have : {ns ns' : List Node} {ps' : List Pending} {all : List Token} {m : Move} (ps : List Pending) (now : Move) (h : Held) (at : ℕ) (st : State) → now ≡ HeldAt h at → Shows ns ps all now st → ((s : List Frame) (v : Value) → IsStack ns ps s → IsHeld ns h v → Turned ns ns' ps' all m (have s v (drop at all))) → Turned ns ns' ps' all m (step st)
step_have {ns} {ns'} {ps'} {all} {m} ps now h at st e k go = of st (subst (λ x. Shows ns ps all x st) e k)
  where
    of : (st : State) → Shows ns ps all (HeldAt h at) st → Turned ns ns' ps' all m (step st)
    of (Want s ts) k = absurd k
    of (Have s v ts) k = at_state _ (ap (have s v) k.2) (go s v k.0 k.1)
    of (Done t ts) k = absurd k
    of Stuck k = absurd k

-- the token at a place is one of the grammar
pub token_there : (xs : List CodeToken) (at : ℕ) (x : CodeToken) (ys : List CodeToken) → AreTokens xs → drop at xs ≡ x ∷ ys → IsToken x.kind (token_of x.kind)
token_there [] zero x ys h e = absurd (cc)
token_there [] (suc at) x ys h e = absurd (cc)
token_there (y ∷ xs) zero x ys h e = let s : y ≡ x = cc in subst (λ y. IsToken y.kind (token_of y.kind)) s h.0
token_there (y ∷ xs) (suc at) x ys h e = token_there xs at x ys h.1 e

-- an expression is wanted: nothing stands there, an operator, a call, or another token
pub wants_nothing : (ns : List Node) (ps : List Pending) (all : List Token) (s : List Frame) (at : ℕ) → drop at all ≡ [] → Turned ns ns ps all Failed (want s (drop at all))
wants_nothing ns ps all s at e = fails ns ps all (ap (want s) e)

pub wants_prefix : {ns ns' : List Node} {ps' : List Pending} {all : List Token} {m : Move} (s : List Frame) (at : ℕ) (t : Token) (p : Prefix) → drop at all ≡ t ∷ drop (at + 1) all → Some p ≡ prefix_of t → Turned ns ns' ps' all m (Want (Prefixed p ∷ s) (drop (at + 1) all)) → Turned ns ns' ps' all m (want s (drop at all))
wants_prefix {all = all} s at t p d e h = at_state _ (ap (want s) d ∙ ap (λ o. want_by o t s (drop (at + 1) all)) (sym e)) h

pub wants_call : {ns ns' : List Node} {ps' : List Pending} {all : List Token} {m : Move} (s : List Frame) (at after : ℕ) (t : Token) (x : List ℕ) → drop at all ≡ t ∷ drop (at + 1) all → None ≡ prefix_of t → CallShows all (Some (x, after)) (call_head (drop at all)) → Turned ns ns' ps' all m (opened (InCall x 11) (listed (Some NoTree) None) s (drop after all)) → Turned ns ns' ps' all m (want s (drop at all))
wants_call {ns} {ns'} {ps'} {all} {m} s at after t x d e k h =
    at_state _ (ap (want s) d ∙ ap (λ o. want_by o t s (drop (at + 1) all)) (sym e)) (of (call_head (t ∷ drop (at + 1) all)) (subst (λ ts. CallShows all (Some (x, after)) (call_head ts)) d k))
  where
    of : (o : Option Begun) → CallShows all (Some (x, after)) o → Turned ns ns' ps' all m (want_called o t s (drop (at + 1) all))
    of None k = absurd k
    of (Some b) k = at_state _ (ap (λ y. opened (InCall y 11) (listed (Some NoTree) None) s b.rest) (sym k.0) ∙ ap (opened (InCall x 11) (listed (Some NoTree) None) s) (sym k.1)) h

pub wants_first : {ns ns' : List Node} {ps' : List Pending} {all : List Token} {m : Move} (s : List Frame) (at : ℕ) (t : Token) → drop at all ≡ t ∷ drop (at + 1) all → None ≡ prefix_of t → CallShows all None (call_head (drop at all)) → Turned ns ns' ps' all m (first t s (drop (at + 1) all)) → Turned ns ns' ps' all m (want s (drop at all))
wants_first {ns} {ns'} {ps'} {all} {m} s at t d e k h =
    at_state _ (ap (want s) d ∙ ap (λ o. want_by o t s (drop (at + 1) all)) (sym e)) (of (call_head (t ∷ drop (at + 1) all)) (subst (λ ts. CallShows all None (call_head ts)) d k))
  where
    of : (o : Option Begun) → CallShows all None o → Turned ns ns' ps' all m (want_called o t s (drop (at + 1) all))
    of None k = h
    of (Some b) k = absurd k

-- no items yet, of which all may be expressions
pub no_items : (ns : List Node) (x : Items) → x.places.items ≡ [] → x.are_trees ≡ true → x.are_patterns ≡ false → IsListed ns x (listed (Some NoTree) None)
no_items ns x e f g = record { trees = (f, e); patterns = g }

-- the whole expression was read, where that is one
pub whole_none : (ns : List Node) (all : List Token) (o : Option Tree) (at : ℕ) → TreeShows ns None o → Shows ns [] all Failed (with_tree o (λ t. Done t (drop at all)))
whole_none ns all None at h = tt
whole_none ns all (Some t) at h = absurd h

pub whole_some : (ns : List Node) (all : List Token) (o : Option Tree) (i at : ℕ) → TreeShows ns (Some i) o → Shows ns [] all (Finished i at) (with_tree o (λ t. Done t (drop at all)))
whole_some ns all None i at h = absurd h
whole_some ns all (Some t) i at h = (refl, h, refl)
