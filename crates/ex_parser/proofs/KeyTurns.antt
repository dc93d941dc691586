-- Turns at keys, at the operators before what was read, and at calls on the right of `|>`.
use Rattle.std.proofs.Common.{◌≡◌, ◌≤◌, ℕ, Bool, true, List, [], ◌∷◌, ◌++◌, length, drop, nat_le, Option, Some, None, refl, sym, ap, ◌∙◌, arith, subst, append_assoc}
use Rattle.std.specs.Prelude.{Vec}
use Rattle.std.specs.declared.alloc.Global.{Global}
use Rattle.std.proofs.lemmas.Bool.{le-leb}
use Rattle.std.proofs.lemmas.List.{append-nil}
use Rattle.ex_grammar.specs.declared.operators.Prefix.{Prefix}
use Rattle.ex_grammar.specs.declared.operators.Prefix.TheVariants.{Negate}
use Rattle.ex_grammar.specs.Operators.{pipe_level, unary_level}
use Rattle.ex_grammar.specs.Tokens.{Token}
use Rattle.ex_grammar.specs.Patterns as P
use Rattle.ex_grammar.specs.Patterns.{Pattern}
use Rattle.ex_grammar.specs.Trees as E
use Rattle.ex_grammar.specs.Trees.{Tree, Trees, NoTree, OneMore}
use Rattle.ex_grammar.specs.Grammar.{pair}
use Rattle.ex_parser.specs.declared.tree.Node.{Node}
use Rattle.ex_parser.specs.declared.tree.Node.TheVariants as D
use Rattle.ex_parser.specs.declared.parser.Held.{Held}
use Rattle.ex_parser.specs.declared.parser.Enclosure.{Enclosure}
use Rattle.ex_parser.specs.declared.parser.Enclosure.TheVariants as W
use Rattle.ex_parser.specs.declared.parser.Pending.{Pending}
use Rattle.ex_parser.specs.declared.parser.Move.{Move}
use Rattle.ex_parser.specs.declared.parser.Move.TheVariants.{Held as HeldAt}
use Rattle.ex_parser.specs.Follow.{Begun}
use Rattle.ex_parser.specs.Machine as M
use Rattle.ex_parser.specs.Machine.{Frame, State, Value, Have, InCall, value, onto, listed, opened, called, take_pipe, negative, prefixed, negates, is_number, with_keys, enclosed, next_key}
use Rattle.ex_parser.specs.Stands.{IsAt, IsPatternAt, AreAt}
use Rattle.ex_parser.specs.Shown.{CallShows, HasTree, HasPattern, IsHeld, TreesBehind, IsEnclosure, is_tuple, is_list, is_call, IsStack, Grows, Turned}
use Rattle.ex_parser.proofs.Arena.{stands, stands_last, at_more, are_more, trees_behind_more, stack_more, trees_onto}

-- `-` before an integer is a pattern, and before anything else none
pub negative_is : (ns : List Node) (o : Prefix) (i : ℕ) (is b : Bool) (p : Option Pattern) → o ≡ Negate → HasPattern ns i is p → is ≡ true → ((q : Pattern) → IsPatternAt ns i q → b ≡ is_number q) → HasPattern (ns ++ D.Prefixed o i ∷ []) (length ns) b (negative o p)
negative_is ns Negate i is b None e h k f = absurd (cc)
negative_is ns Negate i is b (Some (P.Integer n)) e h k f = (f (P.Integer n) h.1, (i, stands_last ns (D.Prefixed Negate i), stands ns (D.Prefixed Negate i ∷ []) i _ h.1))
negative_is ns Negate i is b (Some p) e h k f = f p h.1
negative_is ns o i is b p e h k f = absurd (cc)

-- an operator before what was read
prefixed_tree : (ns : List Node) (o : Prefix) (i : ℕ) (is : Bool) (t : Option Tree) → HasTree ns i is t → HasTree (ns ++ D.Prefixed o i ∷ []) (length ns) is (prefixed o t)
prefixed_tree ns o i is None h = h
prefixed_tree ns o i is (Some t) h = (h.0, (i, stands_last ns (D.Prefixed o i), at_more ns (D.Prefixed o i ∷ []) i t h.1))

pub prefixed_held : (ns : List Node) (o : Prefix) (h : Held) (v : Value) (b n : Bool) → IsHeld ns h v → HasPattern (ns ++ D.Prefixed o h.node ∷ []) (length ns) b (negative o v.pattern) → n ≡ negates o
    → IsHeld (ns ++ D.Prefixed o h.node ∷ []) (record { node = length ns; level = unary_level; is_tree = h.is_tree; is_pattern = b; negates = n }) (value (prefixed o v.tree) (negative o v.pattern) unary_level (negates o))
prefixed_held ns o h v b n i p e = record { tree = prefixed_tree ns o h.node h.is_tree v.tree i.tree; pattern = p; level = refl; negates = e }

-- a node that was added was read, as whatever it is
pub holds : {ns ns' : List Node} {ps' : List Pending} {i : ℕ} (ps : List Pending) (node : Node) (all : List Token) (s : List Frame) (v : Value) (at l : ℕ) (is_tree is_pattern n : Bool)
    → (i ≡ length ns) × (ns' ≡ ns ++ node ∷ []) × (ps' ≡ ps) → IsStack ns ps s → IsHeld (ns ++ node ∷ []) (record { node = length ns; level = l; is_tree = is_tree; is_pattern = is_pattern; negates = n }) v
    → Turned ns ns' ps' all (HeldAt (record { node = i; level = l; is_tree = is_tree; is_pattern = is_pattern; negates = n }) at) (Have s v (drop at all))
holds {ns} {ns'} {ps'} {i} ps node all s v at l is_tree is_pattern n e k h = record {
  grows = (node ∷ [], e.1);
  shows = (
    subst (λ qs. IsStack ns' qs s) (sym e.2) (subst (λ ms. IsStack ms ps s) (sym e.1) (stack_more ns (node ∷ []) ps s k)),
    subst (λ j. IsHeld ns' (record { node = j; level = l; is_tree = is_tree; is_pattern = is_pattern; negates = n }) v) (sym e.0) (subst (λ ms. IsHeld ms (record { node = length ns; level = l; is_tree = is_tree; is_pattern = is_pattern; negates = n }) v) (sym e.1) h),
    refl,
  );
}

-- a call begins, with the name and the place that were found
pub called_is : {ns ns' : List Node} {ps' : List Pending} {m : Move} (all : List Token) (p : List ℕ × ℕ) (b : Begun) (l : ℕ) (xs : Trees) (s : List Frame) → (p.0 ≡ b.name) × (drop p.1 all ≡ b.rest)
    → Turned ns ns' ps' all m (opened (InCall p.0 l) (listed (Some xs) None) s (drop p.1 all)) → Turned ns ns' ps' all m (called b l xs s)
called_is {ns} {ns'} {ps'} {m} all p b l xs s e t =
    subst (λ x. Turned ns ns' ps' all m (opened (InCall x l) (listed (Some xs) None) s b.rest)) e.0 (subst (λ r. Turned ns ns' ps' all m (opened (InCall p.0 l) (listed (Some xs) None) s r)) e.1 t)

pub pipes : {ns ns' : List Node} {ps' : List Pending} {m : Move} (all : List Token) (p : List ℕ × ℕ) (o : Option Begun) (a : Tree) (s : List Frame) → CallShows all (Some p) o
    → Turned ns ns' ps' all m (opened (InCall p.0 pipe_level) (listed (Some (OneMore a NoTree)) None) s (drop p.1 all)) → Turned ns ns' ps' all m (take_pipe o a s)
pipes all p None a s h t = absurd h
pipes all p (Some b) a s h t = called_is all p b pipe_level (OneMore a NoTree) s h t

pub is_below : (a b c : ℕ) → a ≤ b → b ≡ c → nat_le a c ≡ true
is_below a b c h e = le-leb a c (omega arith)

-- what stands among nodes stands there where they grew
pub stack_grown : (ns ns' : List Node) (ps ps' : List Pending) (s : List Frame) → Grows ns ns' → ps' ≡ ps → IsStack ns ps s → IsStack ns' ps' s
stack_grown ns ns' ps ps' s g e h = subst (λ qs. IsStack ns' qs s) (sym e) (subst (λ ms. IsStack ms ps s) (sym g.1) (stack_more ns g.0 ps s h))

pub behind_grown : (ns ns' : List Node) (js : List ℕ) (ts : Trees) → Grows ns ns' → TreesBehind ns js ts → TreesBehind ns' js ts
behind_grown ns ns' js ts g h = subst (λ ms. TreesBehind ms js ts) (sym g.1) (trees_behind_more ns g.0 js ts h)

-- a turn after nodes were added
pub turned_on : {ns ms ns' : List Node} {ps' : List Pending} {all : List Token} {m : Move} {st : State} → Grows ns ms → Turned ms ns' ps' all m st → Turned ns ns' ps' all m st
turned_on {ns} {ms} {ns'} g t = record { grows = (g.0 ++ t.grows.0, t.grows.1 ∙ (ap (λ xs. xs ++ t.grows.0) g.1 ∙ append_assoc ns g.0 t.grows.0)); shows = t.shows }

-- the keys with one more, which is a tuple of an atom and the value
pub record MoreKeys (ns ns' : List Node) (ps ps' : List Pending) (keys js : List ℕ) (x : List ℕ) (value : ℕ) : Type 0 where
  pub grows : Grows ns ns'
  pub stack : ps' ≡ ps
  pub behind : (ks : Trees) (t : Tree) → TreesBehind ns keys ks → IsAt ns value t → TreesBehind ns' js (OneMore (pair x t) ks)

key_at : (ns : List Node) (x : List ℕ) (both : Vec ℕ Global) (keys : List ℕ) (value : ℕ) → both.items ≡ length ns ∷ value ∷ []
    → (ks : Trees) (t : Tree) → TreesBehind ns keys ks → IsAt ns value t → TreesBehind ((ns ++ D.Atom x ∷ []) ++ D.Tuple both ∷ []) (keys ++ length (ns ++ D.Atom x ∷ []) ∷ []) (OneMore (pair x t) ks)
key_at ns x both keys value e ks t h k =
    let ms : List Node = ns ++ D.Atom x ∷ [] in
    let more : List Node = D.Tuple both ∷ [] in
    let atom : IsAt (ms ++ more) (length ns) (E.Atom x) = at_more ms more (length ns) (E.Atom x) (stands_last ns (D.Atom x)) in
    let held : IsAt (ms ++ more) value t = at_more ms more value t (at_more ns (D.Atom x ∷ []) value t k) in
    (keys, length ms, refl, (both, stands_last ms (D.Tuple both), (length ns, value ∷ [], e, atom, (value, [], refl, held, refl))), trees_behind_more ms more keys ks (trees_behind_more ns (D.Atom x ∷ []) keys ks h))

pub key_more : (ns ms ns' : List Node) (ps qs ps' : List Pending) (x : List ℕ) (both : Vec ℕ Global) (front keys js : List ℕ) (value atom tuple : ℕ)
    → (atom ≡ length ns) × (ms ≡ ns ++ D.Atom x ∷ []) × (qs ≡ ps) → front ≡ [] → both.items ≡ (front ++ atom ∷ []) ++ value ∷ [] → (tuple ≡ length ms) × (ns' ≡ ms ++ D.Tuple both ∷ []) × (ps' ≡ qs) → js ≡ keys ++ tuple ∷ []
    → MoreKeys ns ns' ps ps' keys js x value
key_more ns ms ns' ps qs ps' x both front keys js value atom tuple a f b d e =
    let more : List Node = D.Atom x ∷ D.Tuple both ∷ [] in
    let items : both.items ≡ length ns ∷ value ∷ [] = b ∙ (ap (λ v. (v ++ atom ∷ []) ++ value ∷ []) f ∙ ap (λ i. i ∷ value ∷ []) a.0) in
    let nodes : ns' ≡ (ns ++ D.Atom x ∷ []) ++ D.Tuple both ∷ [] = d.1 ∙ ap (λ v. v ++ D.Tuple both ∷ []) a.1 in
    let places : js ≡ keys ++ length (ns ++ D.Atom x ∷ []) ∷ [] = e ∙ ap (λ i. keys ++ i ∷ []) (d.0 ∙ ap (λ v. length v) a.1) in
    record {
      grows = (more, nodes ∙ append_assoc ns (D.Atom x ∷ []) (D.Tuple both ∷ []));
      stack = d.2 ∙ a.2;
      behind = λ ks t h k. subst (λ v. TreesBehind v js (OneMore (pair x t) ks)) (sym nodes) (subst (λ v. TreesBehind ((ns ++ D.Atom x ∷ []) ++ D.Tuple both ∷ []) v (OneMore (pair x t) ks)) (sym places) (key_at ns x both keys value items ks t h k));
    }

-- the key after a comma
pub at_key : {ns ns' : List Node} {ps' : List Pending} {all : List Token} {m : Move} (o k : Option (List ℕ)) (e : M.Enclosure) (xs ks : Trees) (s : List Frame) (ts : List Token) → o ≡ k → Turned ns ns' ps' all m (next_key k e xs ks s ts) → Turned ns ns' ps' all m (next_key o e xs ks s ts)
at_key {ns} {ns'} {ps'} {all} {m} o k e xs ks s ts q t = subst (λ v. Turned ns ns' ps' all m (next_key v e xs ks s ts)) (sym q) t

-- the items with all keys behind them
pub all_keys : (ns : List Node) (items keys all : List ℕ) (xs ks : Trees) → all ≡ items ++ keys → TreesBehind ns items xs → TreesBehind ns keys ks → AreAt ns all (onto xs (onto ks NoTree))
all_keys ns items keys all xs ks e h k = rw e (trees_onto ns items keys xs (onto ks NoTree) h (alone ns keys ks k))
  where
    alone : (ns : List Node) (keys : List ℕ) (ks : Trees) → TreesBehind ns keys ks → AreAt ns keys (onto ks NoTree)
    alone ns keys ks k = subst (λ js. AreAt ns js (onto ks NoTree)) (append-nil keys) (trees_onto ns keys [] ks NoTree k refl)

-- a call whose last argument is the list of the keys
pub call_keys : (ns ms : List Node) (x : List ℕ) (keys all : Vec ℕ Global) (items : List ℕ) (last : ℕ) (xs ks : Trees) → (last ≡ length ns) × (ms ≡ ns ++ D.List keys ∷ []) → all.items ≡ items ++ last ∷ [] → TreesBehind ns items xs → TreesBehind ns keys.items ks
    → IsAt (ms ++ D.Call x all ∷ []) (length ms) (E.Call x (onto xs (OneMore (E.Items (onto ks NoTree)) NoTree)))
call_keys ns ms x keys all items last xs ks a e h k =
    let ts : Trees = onto xs (OneMore (E.Items (onto ks NoTree)) NoTree) in
    let more : List Node = D.List keys ∷ [] in
    let inner : AreAt (ns ++ more) keys.items (onto ks NoTree) = are_more ns more keys.items (onto ks NoTree) (all_keys ns [] keys.items keys.items NoTree ks refl refl k) in
    let list : IsAt (ns ++ more) (length ns) (E.Items (onto ks NoTree)) = (keys, stands_last ns (D.List keys), inner) in
    let places : all.items ≡ items ++ length ns ∷ [] = e ∙ ap (λ i. items ++ i ∷ []) a.0 in
    let are : AreAt (ns ++ more) all.items ts = rw places (trees_onto (ns ++ more) items (length ns ∷ []) xs (OneMore (E.Items (onto ks NoTree)) NoTree) (trees_behind_more ns more items xs h) (length ns, [], refl, list, refl)) in
    (all, stands_last ms (D.Call x all), are_more ms (D.Call x all ∷ []) all.items ts (subst (λ v. AreAt v all.items ts) (sym a.1) are))

-- the brackets of a call, and those of none
pub is_the_call : {x : Enclosure} {e : M.Enclosure} (n : List ℕ) (l : ℕ) → IsEnclosure x e → x ≡ W.Call n l → e ≡ InCall n l
is_the_call n l is_tuple q = absurd (cc)
is_the_call n l is_list q = absurd (cc)
is_the_call n l is_call q = cc

pub no_call : {x : Enclosure} {e : M.Enclosure} (xs ks : Trees) → IsEnclosure x e → ((n : List ℕ) (l : ℕ) → x ≡ W.Call n l → ⊥) → with_keys e xs ks ≡ enclosed e (onto xs (onto ks NoTree))
no_call xs ks is_tuple f = refl
no_call xs ks is_list f = refl
no_call xs ks (is_call {x} {l}) f = absurd (f x l refl)
