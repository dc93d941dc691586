-- Turns of the parser at what stands first, and in texts.
use Rattle.std.proofs.Common.{◌≡◌, ℕ, ℤ, pos, negsuc, ◌+◌, ◌<◌, ◌^◌, Bool, true, false, not, List, [], ◌∷◌, ◌++◌, length, drop, Option, Some, None, refl, sym, ap, ◌∙◌, arith, rules, subst}
use Rattle.std.specs.Prelude.{Vec}
use Rattle.std.specs.declared.alloc.Global.{Global}
use Rattle.std.proofs.lemmas.List.{append-nil}
use Rattle.std.proofs.lemmas.Int.{to_z-of_z}
use mir.Syntax.{w128}
use mir.Val.{to_z, of_z, SFits}
use Rattle.ex_grammar.specs.declared.token.WordValue.{WordValue}
use Rattle.ex_grammar.specs.declared.token.TokenKind.{TokenKind}
use Rattle.ex_grammar.specs.declared.token.TokenKind.TheVariants as C
use Rattle.ex_grammar.specs.Coded.{IsToken, is_integer, is_name, is_called, is_alias, is_key, is_atom, is_word, is_sign, is_text_begins, is_hole_begins, is_hole_ends, is_text_ends, is_separator}
use Rattle.ex_grammar.specs.Tokens as T
use Rattle.ex_grammar.specs.Tokens.{Token}
use Rattle.ex_grammar.specs.Grammar.{is_underscore}
use Rattle.ex_grammar.specs.Patterns as P
use Rattle.ex_grammar.specs.Patterns.{Pattern}
use Rattle.ex_grammar.specs.Trees as E
use Rattle.ex_grammar.specs.Trees.{Tree, Trees, Holes, NoHole}
use Rattle.ex_parser.specs.declared.follow.TextGoes.{TextGoes}
use Rattle.ex_parser.specs.declared.follow.TextGoes.TheVariants as G
use Rattle.ex_parser.specs.declared.tree.Node.{Node}
use Rattle.ex_parser.specs.declared.tree.Node.TheVariants as D
use Rattle.ex_parser.specs.declared.tree.Hole.{Hole}
use Rattle.ex_parser.specs.declared.parser.Enclosure.{Enclosure}
use Rattle.ex_parser.specs.declared.parser.Enclosure.TheVariants as W
use Rattle.ex_parser.specs.declared.parser.Items.{Items}
use Rattle.ex_parser.specs.declared.parser.Pending.{Pending}
use Rattle.ex_parser.specs.declared.parser.Pending.TheVariants as F
use Rattle.ex_parser.specs.declared.parser.Move.{Move}
use Rattle.ex_parser.specs.declared.parser.Move.TheVariants.{Wanted, Held as HeldAt, Failed}
use Rattle.ex_parser.specs.Follow.{tail, text_goes, hole_says}
use Rattle.ex_parser.specs.Machine as M
use Rattle.ex_parser.specs.Machine.{Frame, State, Want, Have, Stuck, plain, first, first_keys, want_own_key, want_pinned, want_text, name_tree, hole_goes, onto_holes}
use Rattle.ex_parser.specs.Stands.{IsAt, HolesAt}
use Rattle.ex_parser.specs.Shown.{token_of, HasTree, HasPattern, IsEnclosure, is_tuple, is_list, is_call, IsListed, AllTrees, HolesBehind, IsFrame, is_operand, is_matched, is_prefixed, is_parens, is_items, is_keyed, is_tail, is_hole, is_condition, is_do_if, is_do_else, is_body, is_subject, is_first_pattern, is_first_condition, is_for_pattern, is_for_source, is_part, is_part_source, is_do_for, IsStack, Turned, plain_held, tree_held}
use Rattle.ex_parser.proofs.Arena.{stands_last, holes_more, holes_onto}
use Rattle.ex_parser.proofs.Turns.{begins, makes, fails, drop_tail, reads}

-- the state at a value that is known
pub at_same : {ns ns' : List Node} {ps' : List Pending} {all : List Token} {m : Move} {X : Type 0} (go : X → State) (a b : X) → b ≡ a → Turned ns ns' ps' all m (go a) → Turned ns ns' ps' all m (go b)
at_same {ns} {ns'} {ps'} {all} {m} go a b e t = subst (λ k. Turned ns ns' ps' all m (go k)) (sym e) t

-- a node that may be an expression and may be a pattern was read
pub reads_plain : {ns ns' : List Node} {ps' : List Pending} {m : Move} {at : ℕ} (ps : List Pending) (node : Node) (is_tree is_pattern : Bool) (all rest : List Token) (s : List Frame) (t : Option Tree) (p : Option Pattern)
    → (m ≡ HeldAt (plain_held (length ns) is_tree is_pattern) at) × (ns' ≡ ns ++ node ∷ []) × (ps' ≡ ps) → IsStack ns ps s
    → HasTree (ns ++ node ∷ []) (length ns) is_tree t → HasPattern (ns ++ node ∷ []) (length ns) is_pattern p → drop at all ≡ rest → Turned ns ns' ps' all m (Have s (plain t p) rest)
reads_plain {ns} ps node is_tree is_pattern all rest s t p e h k j r = reads (plain_held (length ns) is_tree is_pattern) ps node all rest s (plain t p) e h (record { tree = k; pattern = j; level = refl; negates = refl }) r

-- a word that is a value
pub reads_word : {ns ns' : List Node} {ps' : List Pending} {m : Move} {at : ℕ} (ps : List Pending) (w : WordValue) (all : List Token) (s : List Frame)
    → (m ≡ HeldAt (plain_held (length ns) true true) at) × (ns' ≡ ns ++ D.Constant w ∷ []) × (ps' ≡ ps) → IsStack ns ps s
    → Turned ns ns' ps' all m (Have s (plain (Some (E.WordIs w)) (Some (P.WordIs w))) (drop at all))
reads_word {ns} ps w all s e h = reads_plain ps (D.Constant w) true true all _ s (Some (E.WordIs w)) (Some (P.WordIs w)) e h (refl, stands_last ns (D.Constant w)) (refl, stands_last ns (D.Constant w)) refl

-- the name after `^`
pub reads_pinned : {ns ns' : List Node} {ps' : List Pending} {m : Move} (ps : List Pending) (kind : TokenKind) (x : List ℕ) (all : List Token) (at : ℕ) (s : List Frame)
    → drop at all ≡ token_of kind ∷ drop (at + 1) all → kind ≡ C.Name x
    → (m ≡ HeldAt (plain_held (length ns) false true) (at + 1)) × (ns' ≡ ns ++ D.Pinned x ∷ []) × (ps' ≡ ps) → IsStack ns ps s
    → Turned ns ns' ps' all m (want_pinned s (drop at all))
reads_pinned {ns} ps kind x all at s d n e h =
    at_same (want_pinned s) (T.Name x ∷ drop (at + 1) all) (drop at all) (d ∙ ap (λ v. token_of v ∷ drop (at + 1) all) n)
    (reads_plain ps (D.Pinned x) false true all _ s None (Some (P.Pinned x)) e h refl (refl, stands_last ns (D.Pinned x)) refl)

-- a text ends, or goes on by a `#{`
pub text_ends : {ns ns' : List Node} {ps' : List Pending} {m : Move} (ps : List Pending) (bytes : List ℕ) (holes : Vec Hole Global) (all : List Token) (at : ℕ) (s : List Frame)
    → text_goes (drop at all) ≡ G.Ends → holes.items ≡ []
    → (m ≡ HeldAt (plain_held (length ns) true true) (at + 1)) × (ns' ≡ ns ++ D.Text bytes holes ∷ []) × (ps' ≡ ps) → IsStack ns ps s
    → Turned ns ns' ps' all m (want_text (text_goes (drop at all)) bytes s (drop at all))
text_ends {ns} ps bytes holes all at s g i e h =
    at_same (λ go. want_text go bytes s (drop at all)) G.Ends _ g
    (reads_plain ps (D.Text bytes holes) true true all _ s (Some (E.Text bytes NoHole)) (Some (P.Text bytes)) e h (refl, (holes, stands_last ns (D.Text bytes holes), i)) (refl, (holes, stands_last ns (D.Text bytes holes), i)) (drop_tail all at))

pub text_goes_on : {ns ns' : List Node} {ps' : List Pending} {m : Move} (ps : List Pending) (bytes : List ℕ) (holes : Vec Hole Global) (all : List Token) (at : ℕ) (s : List Frame)
    → text_goes (drop at all) ≡ G.Hole → holes.items ≡ []
    → (m ≡ Wanted (at + 1)) × (ns' ≡ ns) × (ps' ≡ ps ++ F.Hole bytes holes ∷ []) → IsStack ns ps s
    → Turned ns ns' ps' all m (want_text (text_goes (drop at all)) bytes s (drop at all))
text_goes_on {ns} ps bytes holes all at s g i e h =
    at_same (λ go. want_text go bytes s (drop at all)) G.Hole _ g
    (begins ps (F.Hole bytes holes) all _ s (M.InHole bytes NoHole) e h (is_hole i) (drop_tail all at))

-- what stands in the `#{` of a text is known, and the text goes on by another `#{` or ends
two_on : (all : List Token) (at : ℕ) → drop (at + 2) all ≡ tail (drop (at + 1) all)
two_on all at = let e : at + 2 ≡ (at + 1) + 1 = omega arith in rw e (drop_tail all (at + 1))

at_hole : {ns ns' : List Node} {ps' : List Pending} {m : Move} (bytes more : List ℕ) (hs : Holes) (t : Tree) (all : List Token) (at : ℕ) (s : List Frame) (g : TextGoes)
    → hole_says (drop at all) ≡ Some more → text_goes (drop (at + 1) all) ≡ g → Turned ns ns' ps' all m (hole_goes g bytes (E.Hole t more hs) s (drop (at + 1) all))
    → Turned ns ns' ps' all m (M.hole (hole_says (drop at all)) bytes hs t s (drop at all))
at_hole bytes more hs t all at s g says goes h =
    at_same (λ o. M.hole o bytes hs t s (drop at all)) (Some more) _ says
    (at_same (λ ts. hole_goes (text_goes ts) bytes (E.Hole t more hs) s ts) (drop (at + 1) all) _ (sym (drop_tail all at))
    (at_same (λ v. hole_goes v bytes (E.Hole t more hs) s (drop (at + 1) all)) g _ goes h))

pub hole_goes_on : {ns ns' : List Node} {ps' : List Pending} {m : Move} (ps : List Pending) (bytes more : List ℕ) (before : List Hole) (h : Hole) (holes : Vec Hole Global) (hs : Holes) (t : Tree) (all : List Token) (at : ℕ) (s : List Frame)
    → hole_says (drop at all) ≡ Some more → text_goes (drop (at + 1) all) ≡ G.Hole
    → HolesBehind ns before hs → holes.items ≡ before ++ h ∷ [] → IsAt ns h.tree t → h.says ≡ more
    → (m ≡ Wanted (at + 2)) × (ns' ≡ ns) × (ps' ≡ ps ++ F.Hole bytes holes ∷ []) → IsStack ns ps s
    → Turned ns ns' ps' all m (M.hole (hole_says (drop at all)) bytes hs t s (drop at all))
hole_goes_on ps bytes more before h holes hs t all at s says goes behind is q w e k =
    at_hole bytes more hs t all at s G.Hole says goes
    (begins ps (F.Hole bytes holes) all _ s (M.InHole bytes (E.Hole t more hs)) e k (is_hole (before, h, is, q, w, behind)) (two_on all at))

text_at : (ns : List Node) (bytes : List ℕ) (holes : Vec Hole Global) (hs : Holes) → HolesBehind ns holes.items hs → IsAt (ns ++ D.Text bytes holes ∷ []) (length ns) (E.Text bytes (onto_holes hs NoHole))
text_at ns bytes holes hs h =
    let are = subst (λ v. HolesAt ns v (onto_holes hs NoHole)) (append-nil holes.items) (holes_onto ns holes.items [] hs NoHole h refl) in
    (holes, stands_last ns (D.Text bytes holes), holes_more ns (D.Text bytes holes ∷ []) holes.items (onto_holes hs NoHole) are)

pub hole_ends : {ns ns' : List Node} {ps' : List Pending} {m : Move} (ps : List Pending) (bytes more : List ℕ) (before : List Hole) (h : Hole) (holes : Vec Hole Global) (hs : Holes) (t : Tree) (all : List Token) (at : ℕ) (s : List Frame)
    → hole_says (drop at all) ≡ Some more → text_goes (drop (at + 1) all) ≡ G.Ends
    → HolesBehind ns before hs → holes.items ≡ before ++ h ∷ [] → IsAt ns h.tree t → h.says ≡ more
    → (m ≡ HeldAt (tree_held (length ns) 11) (at + 2)) × (ns' ≡ ns ++ D.Text bytes holes ∷ []) × (ps' ≡ ps) → IsStack ns ps s
    → Turned ns ns' ps' all m (M.hole (hole_says (drop at all)) bytes hs t s (drop at all))
hole_ends {ns} ps bytes more before h holes hs t all at s says goes behind is q w e k =
    at_hole bytes more hs t all at s G.Ends says goes
    (makes ps (D.Text bytes holes) all _ s (E.Text bytes (onto_holes (E.Hole t more hs) NoHole)) e k (text_at ns bytes holes (E.Hole t more hs) (before, h, is, q, w, behind)) (two_on all at))

pub hole_stuck : (ns : List Node) (ps : List Pending) (bytes more : List ℕ) (hs : Holes) (t : Tree) (all : List Token) (at : ℕ) (s : List Frame)
    → hole_says (drop at all) ≡ Some more → text_goes (drop (at + 1) all) ≡ G.Other → Turned ns ns ps all Failed (M.hole (hole_says (drop at all)) bytes hs t s (drop at all))
hole_stuck ns ps bytes more hs t all at s says goes = at_hole bytes more hs t all at s G.Other says goes (fails ns ps all refl)

pub true_by_not : (b : Bool) → not b ≡ false → b ≡ true
true_by_not true e = refl
true_by_not false e = absurd (cc)

-- keys begin after the items of a list or a call, which are expressions
pub begins_keys : {ns ns' : List Node} {ps' : List Pending} {m : Move} {at : ℕ} (ps : List Pending) (x : List ℕ) (items : Items) (keys : Vec ℕ Global) {w : Enclosure} {e : M.Enclosure} (o : Option Trees) (all : List Token) (s : List Frame)
    → IsEnclosure w e → (w ≡ W.Tuple → ⊥) → items.are_trees ≡ true → keys.items ≡ [] → AllTrees ns items.places.items items.are_trees o
    → (m ≡ Wanted at) × (ns' ≡ ns) × (ps' ≡ ps ++ F.Keyed w items.places keys x ∷ []) → IsStack ns ps s
    → Turned ns ns' ps' all m (first_keys e o x s (drop at all))
begins_keys ps x items keys o all s is_tuple never are empty i f h = absurd (never refl)
begins_keys ps x items keys None all s is_list never are empty i f h = absurd (cc)
begins_keys ps x items keys (Some xs) all s is_list never are empty i f h =
    begins ps (F.Keyed W.List items.places keys x) all _ s (M.Keyed M.InList xs E.NoTree x) f h (is_keyed is_list i.1 empty) refl
begins_keys ps x items keys None all s is_call never are empty i f h = absurd (cc)
begins_keys ps x items keys (Some xs) all s (is_call {x = y} {l}) never are empty i f h =
    begins ps (F.Keyed (W.Call y l) items.places keys x) all _ s (M.Keyed (M.InCall y l) xs E.NoTree x) f h (is_keyed is_call i.1 empty) refl

-- what was begun last, and what stands below it
pub record Last (ns : List Node) (below : List Pending) (p : Pending) (s : List Frame) : Type 0 where
  pub frame : Frame
  pub frames : List Frame
  pub are : s ≡ frame ∷ frames
  pub top : IsFrame ns p frame
  pub rest : IsStack ns below frames

some_last : {X : Type 0} (xs : List X) (x : X) → xs ++ x ∷ [] ≡ [] → ⊥
some_last [] x e = cc
some_last (y ∷ xs) x e = cc

same_last : {X : Type 0} (xs ys : List X) (x y : X) → xs ++ x ∷ [] ≡ ys ++ y ∷ [] → (xs ≡ ys) × (x ≡ y)
same_last [] [] x y e = (refl, cc)
same_last [] (z ∷ ys) x y e = let f : ys ++ y ∷ [] ≡ [] = cc in absurd (some_last ys y f)
same_last (z ∷ xs) [] x y e = let f : xs ++ x ∷ [] ≡ [] = cc in absurd (some_last xs x f)
same_last (z ∷ xs) (v ∷ ys) x y e =
    let f : xs ++ x ∷ [] ≡ ys ++ y ∷ [] = cc in
    let head : z ≡ v = cc in
    let r = same_last xs ys x y f in
    (ap (λ u. u ∷ xs) head ∙ ap (λ us. v ∷ us) r.0, r.1)

pub last_begun : (ns : List Node) (ps below : List Pending) (p : Pending) (s : List Frame) → ps ≡ below ++ p ∷ [] → IsStack ns ps s → Last ns below p s
last_begun ns ps below p [] e h = absurd (some_last below p (sym e ∙ h))
last_begun ns ps below p (f ∷ s) e h =
    let same = same_last h.0 below h.1 p (sym h.2 ∙ e) in
    record {
      frame = f;
      frames = s;
      are = refl;
      top = subst (λ v. IsFrame ns v f) same.1 h.3;
      rest = subst (λ v. IsStack ns v s) same.0 h.4;
    }

-- a key stands in a list or a call that was begun last
pub key_in : {ns ns' : List Node} {ps' : List Pending} {all : List Token} {m : Move} {p : Pending} {f : Frame} (x : List ℕ) (w : Enclosure) (i : Items) (s : List Frame) (rest : List Token)
    → IsFrame ns p f → p ≡ F.Items w i → ((e : M.Enclosure) (l : M.Listed) → IsEnclosure w e → IsListed ns i l → Turned ns ns' ps' all m (first_keys e l.trees x s rest))
    → Turned ns ns' ps' all m (want_own_key (Some x) (f ∷ s) rest)
key_in {ns} x w i s rest (is_items {e = v} {m = e} {x = j} {l} h k n) q go =
    let same : v ≡ w = cc in
    let alike : j ≡ i = cc in
    go e l (subst (λ u. IsEnclosure u e) same h) (subst (λ u. IsListed ns u l) alike k)
key_in x w i s rest (is_operand h) q go = absurd (cc)
key_in x w i s rest (is_matched h) q go = absurd (cc)
key_in x w i s rest is_prefixed q go = absurd (cc)
key_in x w i s rest is_parens q go = absurd (cc)
key_in x w i s rest (is_keyed h j k) q go = absurd (cc)
key_in x w i s rest (is_tail l) q go = absurd (cc)
key_in x w i s rest (is_hole h) q go = absurd (cc)
key_in x w i s rest is_condition q go = absurd (cc)
key_in x w i s rest (is_do_if h) q go = absurd (cc)
key_in x w i s rest (is_do_else h k) q go = absurd (cc)
key_in x w i s rest (is_body h k) q go = absurd (cc)
key_in x w i s rest is_subject q go = absurd (cc)
key_in x w i s rest (is_first_pattern h) q go = absurd (cc)
key_in x w i s rest is_first_condition q go = absurd (cc)
key_in x w i s rest is_for_pattern q go = absurd (cc)
key_in x w i s rest (is_for_source h) q go = absurd (cc)
key_in x w i s rest (is_part h) q go = absurd (cc)
key_in x w i s rest (is_part_source k l) q go = absurd (cc)
key_in x w i s rest (is_do_for h) q go = absurd (cc)

pub no_key_in : {ns : List Node} {p : Pending} {f : Frame} (x : List ℕ) (s : List Frame) (rest : List Token) → IsFrame ns p f → ((w : Enclosure) (i : Items) → p ≡ F.Items w i → ⊥) → want_own_key (Some x) (f ∷ s) rest ≡ Stuck
no_key_in x s rest (is_items {e = w} {x = i} h k n) never = absurd (never w i refl)
no_key_in x s rest (is_operand h) never = refl
no_key_in x s rest (is_matched h) never = refl
no_key_in x s rest is_prefixed never = refl
no_key_in x s rest is_parens never = refl
no_key_in x s rest (is_keyed h j k) never = refl
no_key_in x s rest (is_tail l) never = refl
no_key_in x s rest (is_hole h) never = refl
no_key_in x s rest is_condition never = refl
no_key_in x s rest (is_do_if h) never = refl
no_key_in x s rest (is_do_else h k) never = refl
no_key_in x s rest (is_body h k) never = refl
no_key_in x s rest is_subject never = refl
no_key_in x s rest (is_first_pattern h) never = refl
no_key_in x s rest is_first_condition never = refl
no_key_in x s rest is_for_pattern never = refl
no_key_in x s rest (is_for_source h) never = refl
no_key_in x s rest (is_part h) never = refl
no_key_in x s rest (is_part_source k l) never = refl
no_key_in x s rest (is_do_for h) never = refl

pub key_last : {ns ns' : List Node} {ps' : List Pending} {all : List Token} {m : Move} (ps below : List Pending) (p : Pending) (w : Enclosure) (i : Items) (o : Option (List ℕ)) (x : List ℕ) (s : List Frame) (rest : List Token)
    → o ≡ Some x → ps ≡ below ++ p ∷ [] → p ≡ F.Items w i → IsStack ns ps s
    → ((e : M.Enclosure) (l : M.Listed) → IsEnclosure w e → IsListed ns i l → (t : List Frame) → IsStack ns below t → Turned ns ns' ps' all m (first_keys e l.trees x t rest))
    → Turned ns ns' ps' all m (want_own_key o s rest)
key_last ps below p w i o x s rest key e q h go =
    let b = last_begun _ ps below p s e h in
    at_same (λ v. want_own_key v s rest) (Some x) o key
    (at_same (λ v. want_own_key (Some x) v rest) (b.frame ∷ b.frames) s b.are (key_in x w i b.frames rest b.top q (λ e l k j. go e l k j b.frames b.rest)))

pub no_key_last : (ns : List Node) (ps below : List Pending) (p : Pending) (all : List Token) (o : Option (List ℕ)) (x : List ℕ) (s : List Frame) (rest : List Token)
    → o ≡ Some x → ps ≡ below ++ p ∷ [] → ((w : Enclosure) (i : Items) → p ≡ F.Items w i → ⊥) → IsStack ns ps s → Turned ns ns below all Failed (want_own_key o s rest)
no_key_last ns ps below p all o x s rest key e never h =
    let b = last_begun ns ps below p s e h in
    fails ns below all (ap (λ v. want_own_key v s rest) key ∙ ap (λ v. want_own_key (Some x) v rest) b.are ∙ no_key_in x b.frames rest b.top never)

-- an integer, an atom and a name; no integer is below 0
none_below : {k : TokenKind} {t : Token} (n : ℕ) → IsToken k t → k ≡ C.Integer (negsuc n) → ⊥
none_below n (is_integer h) e = cc
none_below n is_name e = cc
none_below n is_called e = cc
none_below n is_alias e = cc
none_below n is_key e = cc
none_below n is_atom e = cc
none_below n is_word e = cc
none_below n is_sign e = cc
none_below n is_text_begins e = cc
none_below n is_hole_begins e = cc
none_below n is_hole_ends e = cc
none_below n is_text_ends e = cc
none_below n is_separator e = cc

within : {k : TokenKind} {t : Token} (n : ℕ) → IsToken k t → k ≡ C.Integer (pos n) → n < 2 ^ 127
within n (is_integer {n = j} h) e = let same : j ≡ n = cc in subst (λ v. v < 2 ^ 127) same h
within n is_name e = absurd (cc)
within n is_called e = absurd (cc)
within n is_alias e = absurd (cc)
within n is_key e = absurd (cc)
within n is_atom e = absurd (cc)
within n is_word e = absurd (cc)
within n is_sign e = absurd (cc)
within n is_text_begins e = absurd (cc)
within n is_hole_begins e = absurd (cc)
within n is_hole_ends e = absurd (cc)
within n is_text_ends e = absurd (cc)
within n is_separator e = absurd (cc)

fits : (n : ℕ) → n < 2 ^ 127 → SFits w128 (pos n)
fits n h = search rules

kept : (n : ℕ) → n < 2 ^ 127 → to_z w128 (of_z w128 (pos n)) ≡ pos n
kept n h = to_z-of_z w128 (pos n) (fits n h)

pub reads_integer : {ns ns' : List Node} {ps' : List Pending} {m : Move} {at : ℕ} (ps : List Pending) (kind : TokenKind) (z : ℤ) (all : List Token) (s : List Frame)
    → kind ≡ C.Integer z → IsToken kind (token_of kind)
    → (m ≡ HeldAt (plain_held (length ns) true true) at) × (ns' ≡ ns ++ D.Integer (to_z w128 (of_z w128 z)) ∷ []) × (ps' ≡ ps) → IsStack ns ps s
    → Turned ns ns' ps' all m (first (token_of kind) s (drop at all))
reads_integer ps kind (negsuc n) all s q t e h = absurd (none_below n t q)
reads_integer {ns} {ns'} {ps'} {m} {at} ps kind (pos n) all s q t e h =
    let node = D.Integer (pos n) in
    at_same (λ v. first (token_of v) s (drop at all)) (C.Integer (pos n)) kind q
    (reads_plain ps node true true all _ s (Some (E.Integer n)) (Some (P.Integer n)) (subst (λ v. (m ≡ HeldAt (plain_held (length ns) true true) at) × (ns' ≡ ns ++ D.Integer v ∷ []) × (ps' ≡ ps)) (kept n (within n t q)) e) h (refl, stands_last ns node) (refl, stands_last ns node) refl)

pub reads_atom : {ns ns' : List Node} {ps' : List Pending} {m : Move} {at : ℕ} (ps : List Pending) (kind : TokenKind) (x : List ℕ) (all : List Token) (s : List Frame)
    → kind ≡ C.Atom x
    → (m ≡ HeldAt (plain_held (length ns) true true) at) × (ns' ≡ ns ++ D.Atom x ∷ []) × (ps' ≡ ps) → IsStack ns ps s
    → Turned ns ns' ps' all m (first (token_of kind) s (drop at all))
reads_atom {ns} {at = at} ps kind x all s q e h =
    at_same (λ v. first (token_of v) s (drop at all)) (C.Atom x) kind q
    (reads_plain ps (D.Atom x) true true all _ s (Some (E.Atom x)) (Some (P.Atom x)) e h (refl, stands_last ns (D.Atom x)) (refl, stands_last ns (D.Atom x)) refl)

name_has : (ns : List Node) (x : List ℕ) (u : Bool) → HasTree (ns ++ D.Name x ∷ []) (length ns) (not u) (name_tree u x)
name_has ns x true = refl
name_has ns x false = (refl, stands_last ns (D.Name x))

pub reads_name : {ns ns' : List Node} {ps' : List Pending} {m : Move} {at : ℕ} (ps : List Pending) (x : List ℕ) (b : Bool) (all : List Token) (s : List Frame)
    → b ≡ not (is_underscore x)
    → (m ≡ HeldAt (plain_held (length ns) b true) at) × (ns' ≡ ns ++ D.Name x ∷ []) × (ps' ≡ ps) → IsStack ns ps s
    → Turned ns ns' ps' all m (Have s (plain (name_tree (is_underscore x) x) (Some (P.Named x))) (drop at all))
reads_name {ns} ps x b all s u e h =
    reads_plain ps (D.Name x) b true all _ s (name_tree (is_underscore x) x) (Some (P.Named x)) e h (subst (λ v. HasTree (ns ++ D.Name x ∷ []) (length ns) v (name_tree (is_underscore x) x)) (sym u) (name_has ns x (is_underscore x))) (refl, stands_last ns (D.Name x)) refl
