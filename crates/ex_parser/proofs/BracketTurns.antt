-- What stands between brackets: the nodes that it makes, and the turns of the parser there.
use Rattle.std.proofs.Common.{◌≡◌, ◌&&◌, ℕ, Bool, true, false, List, [], ◌∷◌, ◌++◌, length, drop, Option, Some, None, refl, sym, ap, ◌∙◌, subst}
use Rattle.std.specs.Prelude.{Vec}
use Rattle.std.specs.declared.alloc.Global.{Global}
use Rattle.std.proofs.lemmas.Bool.{and_left, and_right}
use Rattle.std.proofs.lemmas.List.{append-nil}
use Rattle.ex_grammar.specs.Tokens.{Token}
use Rattle.ex_grammar.specs.Patterns as P
use Rattle.ex_grammar.specs.Patterns.{Pattern, Patterns, NoPattern}
use Rattle.ex_grammar.specs.Trees.{Tree, Trees, NoTree}
use Rattle.ex_parser.specs.declared.tree.Node.{Node}
use Rattle.ex_parser.specs.declared.tree.Node.TheVariants as D
use Rattle.ex_parser.specs.declared.parser.Enclosure.{Enclosure}
use Rattle.ex_parser.specs.declared.parser.Enclosure.TheVariants as W
use Rattle.ex_parser.specs.declared.parser.Held.{Held}
use Rattle.ex_parser.specs.declared.parser.Items.{Items}
use Rattle.ex_parser.specs.declared.parser.Pending.{Pending}
use Rattle.ex_parser.specs.declared.parser.Pending.TheVariants as F
use Rattle.ex_parser.specs.declared.parser.Move.{Move}
use Rattle.ex_parser.specs.declared.parser.Move.TheVariants.{Wanted, Held as HeldAt}
use Rattle.ex_parser.specs.declared.follow.Bracket.{Bracket}
use Rattle.ex_parser.specs.declared.follow.Next.TheVariants as N
use Rattle.ex_parser.specs.Follow.{Follows, follow}
use Rattle.ex_parser.specs.Machine as M
use Rattle.ex_parser.specs.Machine.{Frame, State, Value, Have, Want, Stuck, bar, bracket_of, same_bracket, closes, open_by, opened, shut_by, item, enclosed, enclosed_pattern, closed_tree, closed_pattern, then_tree, then_pattern, onto, onto_patterns, level_of, more_items, shut, and_pattern, plain}
use Rattle.ex_parser.specs.Stands.{IsAt, IsPatternAt, AreAt, ArePatternsAt}
use Rattle.ex_parser.specs.Shown.{HasTree, HasPattern, IsHeld, AllTrees, AllPatterns, IsListed, MayHold, PatternsBehind, IsEnclosure, is_tuple, is_list, is_call, is_tail, IsStack, Turned, plain_held}
use Rattle.ex_parser.proofs.Arena.{stands_last, at_more, pattern_more, are_more, patterns_more, whole_trees, patterns_onto}
use Rattle.ex_parser.proofs.Turns.{begins, at_next, at_true, reads}

-- the tree that brackets make
pub tuple_at : (ns : List Node) (js : Vec ℕ Global) {x : Enclosure} {e : M.Enclosure} (xs : Trees) → x ≡ W.Tuple → IsEnclosure x e → AreAt ns js.items xs → IsAt (ns ++ D.Tuple js ∷ []) (length ns) (enclosed e xs)
tuple_at ns js xs q is_tuple h = (js, stands_last ns (D.Tuple js), are_more ns (D.Tuple js ∷ []) js.items xs h)
tuple_at ns js xs q is_list h = absurd (cc)
tuple_at ns js xs q is_call h = absurd (cc)

pub list_at : (ns : List Node) (js : Vec ℕ Global) {x : Enclosure} {e : M.Enclosure} (xs : Trees) → x ≡ W.List → IsEnclosure x e → AreAt ns js.items xs → IsAt (ns ++ D.List js ∷ []) (length ns) (enclosed e xs)
list_at ns js xs q is_tuple h = absurd (cc)
list_at ns js xs q is_list h = (js, stands_last ns (D.List js), are_more ns (D.List js ∷ []) js.items xs h)
list_at ns js xs q is_call h = absurd (cc)

pub call_at : (ns : List Node) (js : Vec ℕ Global) (name : List ℕ) (l : ℕ) {x : Enclosure} {e : M.Enclosure} (xs : Trees) → x ≡ W.Call name l → IsEnclosure x e → AreAt ns js.items xs → IsAt (ns ++ D.Call name js ∷ []) (length ns) (enclosed e xs)
call_at ns js name l xs q is_tuple h = absurd (cc)
call_at ns js name l xs q is_list h = absurd (cc)
call_at ns js name l xs q (is_call {x = y}) h =
    let same : name ≡ y = cc in
    (js, stands_last ns (D.Call name js) ∙ ap (λ (z : List ℕ). Some (D.Call z js)) same, are_more ns (D.Call name js ∷ []) js.items xs h)

-- the pattern that brackets make
pub tuple_pattern_at : (ns : List Node) (js : Vec ℕ Global) {x : Enclosure} {e : M.Enclosure} (ps : Patterns) (p : Pattern) → x ≡ W.Tuple → IsEnclosure x e → ArePatternsAt ns js.items ps → enclosed_pattern e ps ≡ Some p → IsPatternAt (ns ++ D.Tuple js ∷ []) (length ns) p
tuple_pattern_at ns js ps p q is_tuple h k =
    let same : P.Tuple ps ≡ p = cc in
    subst (λ z. IsPatternAt (ns ++ D.Tuple js ∷ []) (length ns) z) same (js, stands_last ns (D.Tuple js), patterns_more ns (D.Tuple js ∷ []) js.items ps h)
tuple_pattern_at ns js ps p q is_list h k = absurd (cc)
tuple_pattern_at ns js ps p q is_call h k = absurd (cc)

pub list_pattern_at : (ns : List Node) (js : Vec ℕ Global) {x : Enclosure} {e : M.Enclosure} (ps : Patterns) (p : Pattern) → x ≡ W.List → IsEnclosure x e → ArePatternsAt ns js.items ps → enclosed_pattern e ps ≡ Some p → IsPatternAt (ns ++ D.List js ∷ []) (length ns) p
list_pattern_at ns js ps p q is_tuple h k = absurd (cc)
list_pattern_at ns js ps p q is_list h k =
    let same : P.Items ps ≡ p = cc in
    subst (λ z. IsPatternAt (ns ++ D.List js ∷ []) (length ns) z) same (js, stands_last ns (D.List js), patterns_more ns (D.List js ∷ []) js.items ps h)
list_pattern_at ns js ps p q is_call h k = absurd (cc)

-- all items that were read, in order
pub whole_patterns : (ns : List Node) (js : List ℕ) (ps : Patterns) → PatternsBehind ns js ps → ArePatternsAt ns js (onto_patterns ps NoPattern)
whole_patterns ns js ps h = subst (λ ks. ArePatternsAt ns ks (onto_patterns ps NoPattern)) (append-nil js) (patterns_onto ns js [] ps NoPattern h refl)

-- what brackets make is a tree and a pattern where all items are
pub closed_has_tree : (ns ns' : List Node) (i : ℕ) (js : List ℕ) (b : Bool) (e : M.Enclosure) (o : Option Trees) → ((xs : Trees) → AreAt ns js xs → IsAt ns' i (enclosed e xs)) → AllTrees ns js b o → HasTree ns' i b (closed_tree e o)
closed_has_tree ns ns' i js b e None f h = h
closed_has_tree ns ns' i js b e (Some xs) f h = (h.0, f (onto xs NoTree) (whole_trees ns js xs h.1))

pub closed_has_pattern : (ns ns' : List Node) (i : ℕ) (js : List ℕ) (b : Bool) (e : M.Enclosure) (o : Option Patterns) → ((ps : Patterns) (p : Pattern) → ArePatternsAt ns js ps → enclosed_pattern e ps ≡ Some p → IsPatternAt ns' i p) → MayHold e o → AllPatterns ns js b o → HasPattern ns' i b (closed_pattern e o)
closed_has_pattern ns ns' i js b e None f m h = h
closed_has_pattern ns ns' i js b M.InTuple (Some ps) f m h = (h.0, f (onto_patterns ps NoPattern) _ (whole_patterns ns js ps h.1) refl)
closed_has_pattern ns ns' i js b M.InList (Some ps) f m h = (h.0, f (onto_patterns ps NoPattern) _ (whole_patterns ns js ps h.1) refl)
closed_has_pattern ns ns' i js b (M.InCall x l) (Some ps) f m h = absurd (cc)

-- a list with a tail is a tree and a pattern where all items and the tail are
pub then_has_tree : (ns : List Node) (js : Vec ℕ Global) (k : ℕ) (a b : Bool) (xs : Option Trees) (t : Option Tree) → AllTrees ns js.items a xs → HasTree ns k b t → HasTree (ns ++ D.ListThen js k ∷ []) (length ns) (a && b) (then_tree xs t)
then_has_tree ns js k a b None t h q = and_left a b h
then_has_tree ns js k a b (Some xs) None h q = and_right a b q
then_has_tree ns js k a b (Some xs) (Some t) h q =
    let more : List Node = D.ListThen js k ∷ [] in
    (rw (h.0, q.0) refl, (js, k, stands_last ns (D.ListThen js k), are_more ns more js.items (onto xs NoTree) (whole_trees ns js.items xs h.1), at_more ns more k t q.1))

pub then_has_pattern : (ns : List Node) (js : Vec ℕ Global) (k : ℕ) (a b : Bool) (ps : Option Patterns) (p : Option Pattern) → AllPatterns ns js.items a ps → HasPattern ns k b p → HasPattern (ns ++ D.ListThen js k ∷ []) (length ns) (a && b) (then_pattern ps p)
then_has_pattern ns js k a b None p h q = and_left a b h
then_has_pattern ns js k a b (Some ps) None h q = and_right a b q
then_has_pattern ns js k a b (Some ps) (Some p) h q =
    let more : List Node = D.ListThen js k ∷ [] in
    (rw (h.0, q.0) refl, (js, k, stands_last ns (D.ListThen js k), patterns_more ns more js.items (onto_patterns ps NoPattern) (whole_patterns ns js.items ps h.1), pattern_more ns more k p q.1))

-- the arguments of a call are no patterns, also with one more
pub may_hold_more : (e : M.Enclosure) (l : M.Listed) (v : Value) → MayHold e l.patterns → MayHold e (more_items l v).patterns
may_hold_more M.InTuple l v h = tt
may_hold_more M.InList l v h = tt
may_hold_more (M.InCall x n) l v h = ap (λ o. and_pattern o v.pattern) h

-- the brackets close
pub shuts : {ns ns' : List Node} {ps' : List Pending} {at : ℕ} (ps : List Pending) (node : Node) (i n : ℕ) (items : Items) (all : List Token) (s : List Frame) (e : M.Enclosure) (l : M.Listed)
    → (i ≡ length ns) × (ns' ≡ ns ++ node ∷ []) × (ps' ≡ ps) → n ≡ level_of e
    → ((xs : Trees) → AreAt ns items.places.items xs → IsAt (ns ++ node ∷ []) (length ns) (enclosed e xs))
    → ((qs : Patterns) (q : Pattern) → ArePatternsAt ns items.places.items qs → enclosed_pattern e qs ≡ Some q → IsPatternAt (ns ++ node ∷ []) (length ns) q)
    → IsListed ns items l → MayHold e l.patterns → IsStack ns ps s
    → Turned ns ns' ps' all (HeldAt (record { node = i; level = n; is_tree = items.are_trees; is_pattern = items.are_patterns; negates = false }) at) (shut e l s (drop at all))
shuts {ns} {ns'} {ps'} {at} ps node i n items all s e l a b f g h m k =
    reads (record { node = i; level = n; is_tree = items.are_trees; is_pattern = items.are_patterns; negates = false }) ps node all (drop at all) s _ (refl, a.1, a.2) k
    (record {
      tree = subst (λ j. HasTree (ns ++ node ∷ []) j items.are_trees (closed_tree e l.trees)) (sym a.0) (closed_has_tree ns (ns ++ node ∷ []) (length ns) items.places.items items.are_trees e l.trees f h.trees);
      pattern = subst (λ j. HasPattern (ns ++ node ∷ []) j items.are_patterns (closed_pattern e l.patterns)) (sym a.0) (closed_has_pattern ns (ns ++ node ∷ []) (length ns) items.places.items items.are_patterns e l.patterns g m h.patterns);
      level = b;
      negates = refl;
    }) refl

-- a list with a tail was read
pub reads_then : {ns ns' : List Node} {ps' : List Pending} {m : Move} {at : ℕ} (ps : List Pending) (items : Items) (held : Held) (a b : Bool) (all rest : List Token) (s : List Frame) (l : M.Listed) (v : Value)
    → a ≡ items.are_trees && held.is_tree → b ≡ items.are_patterns && held.is_pattern
    → (m ≡ HeldAt (plain_held (length ns) a b) at) × (ns' ≡ ns ++ D.ListThen items.places held.node ∷ []) × (ps' ≡ ps) → IsStack ns ps s → IsListed ns items l → IsHeld ns held v → drop at all ≡ rest
    → Turned ns ns' ps' all m (Have s (plain (then_tree l.trees v.tree) (then_pattern l.patterns v.pattern)) rest)
reads_then {ns} ps items held a b all rest s l v p q e k h i r =
    let more : List Node = ns ++ D.ListThen items.places held.node ∷ [] in
    reads (plain_held (length ns) a b) ps (D.ListThen items.places held.node) all rest s _ e k
    (record {
      tree = subst (λ x. HasTree more (length ns) x (then_tree l.trees v.tree)) (sym p) (then_has_tree ns items.places held.node items.are_trees held.is_tree l.trees v.tree h.trees i.tree);
      pattern = subst (λ x. HasPattern more (length ns) x (then_pattern l.patterns v.pattern)) (sym q) (then_has_pattern ns items.places held.node items.are_patterns held.is_pattern l.patterns v.pattern h.patterns i.pattern);
      level = refl;
      negates = refl;
    }) r

-- both tests at once
pub both_first : (a b r : Bool) → a ≡ true → r ≡ b → r ≡ a && b
both_first a b r e f = rw e f

pub both_not : (a b r : Bool) → a ≡ false → r ≡ false → r ≡ a && b
both_not a b r e f = f ∙ sym (and_left a b e)

-- a bar begins the tail of a list, and of nothing else
pub bar_list : {ns ns' : List Node} {ps' : List Pending} {m : Move} {x : Enclosure} {e : M.Enclosure} (at : ℕ) (ps : List Pending) (items : Items) (all rest : List Token) (s : List Frame) (l : M.Listed)
    → x ≡ W.List → IsEnclosure x e → (m ≡ Wanted at) × (ns' ≡ ns) × (ps' ≡ ps ++ F.Tail items ∷ []) → IsListed ns items l → IsStack ns ps s → drop at all ≡ rest → Turned ns ns' ps' all m (bar e l s rest)
bar_list at ps items all rest s l q is_tuple b h k r = absurd (cc)
bar_list at ps items all rest s l q is_list b h k r = begins ps (F.Tail items) all rest s (M.Tail l) b k (is_tail h) r
bar_list at ps items all rest s l q is_call b h k r = absurd (cc)

pub bar_other : {x : Enclosure} {e : M.Enclosure} (l : M.Listed) (s : List Frame) (rest : List Token) → (x ≡ W.List → ⊥) → IsEnclosure x e → bar e l s rest ≡ Stuck
bar_other l s rest q is_tuple = refl
bar_other l s rest q is_list = absurd (q refl)
bar_other l s rest q is_call = refl

-- the state at the tokens that are left
pub at_rest : {ns ns' : List Node} {ps' : List Pending} {all : List Token} {m : Move} (go : List Token → State) (ts us : List Token) → ts ≡ us → Turned ns ns' ps' all m (go ts) → Turned ns ns' ps' all m (go us)
at_rest {ns} {ns'} {ps'} {all} {m} go ts us e t = subst (λ x. Turned ns ns' ps' all m (go x)) e t

-- what stands between brackets begins, where they close at once and where they don't
pub opens_closed : {ns ns' : List Node} {ps' : List Pending} {m : Move} (after : ℕ) (e : M.Enclosure) (l : M.Listed) (s : List Frame) (all ts : List Token) (b : Bracket)
    → b ≡ bracket_of e → (closes (follow ts).next b ≡ true) × (drop after all ≡ (follow ts).rest) → Turned ns ns' ps' all m (shut e l s (drop after all)) → Turned ns ns' ps' all m (opened e l s ts)
opens_closed after e l s all ts b q h t =
    at_true (λ x. open_by x e l s ts (follow ts).rest) true (closes (follow ts).next (bracket_of e)) (ap (closes (follow ts).next) (sym q) ∙ h.0)
    (at_rest (shut e l s) (drop after all) (follow ts).rest h.1 t)

pub opens_begun : {ns ns' : List Node} {ps' : List Pending} {m : Move} (e : M.Enclosure) (l : M.Listed) (s : List Frame) (all ts : List Token) (b : Bracket)
    → b ≡ bracket_of e → closes (follow ts).next b ≡ false → Turned ns ns' ps' all m (Want (M.Items e l ∷ s) ts) → Turned ns ns' ps' all m (opened e l s ts)
opens_begun e l s all ts b q h t = at_true (λ x. open_by x e l s ts (follow ts).rest) false (closes (follow ts).next (bracket_of e)) (ap (closes (follow ts).next) (sym q) ∙ h) t

-- an item that the brackets close behind
pub item_shut : {ns ns' : List Node} {ps' : List Pending} {m : Move} (after : ℕ) (e : M.Enclosure) (l : M.Listed) (s : List Frame) (all : List Token) (f : Follows) (a b : Bracket) (r : Bool)
    → b ≡ bracket_of e → r ≡ same_bracket a b → r ≡ true → f.next ≡ N.Close a → drop after all ≡ f.rest → Turned ns ns' ps' all m (shut e l s (drop after all)) → Turned ns ns' ps' all m (item f.next f.rest e l s)
item_shut after e l s all f a b r q h y n x t =
    at_next (λ k. item k f.rest e l s) (N.Close a) f n
    (at_true (λ z. shut_by z e l s f.rest) true (same_bracket a (bracket_of e)) (ap (same_bracket a) (sym q) ∙ sym h ∙ y)
    (at_rest (shut e l s) (drop after all) f.rest x t))
