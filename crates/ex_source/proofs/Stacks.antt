-- The nodes and the stack of the parser as trees and frames.
use Rattle.std.proofs.Common.{◌≡◌, ℕ, ℤ, pos, zero, suc, ◌+◌, ◌<◌, ◌≤◌, List, [], ◌∷◌, ◌++◌, length, drop, Bool, true, false, Option, Some, None, refl, sym, ap, ◌∙◌, arith, subst}
use Rattle.std.specs.Prelude.{nat_le, if◌then◌else◌, slice_get}
use Rattle.std.proofs.lemmas.List.{append-nil}
use Rattle.ex_model.specs.declared.ast.Operator.{Operator}
use Rattle.ex_model.specs.declared.ast.Node.{Node}
use Rattle.ex_model.specs.declared.ast.Node.TheVariants.{Literal, Lookup}
use Rattle.ex_model.specs.Tokens.{Token, Name, Sign, Equals}
use Rattle.ex_model.specs.Tree.{Tree, Integer, Variable, Match, Binary, Named}
use Rattle.ex_model.specs.At.{IsAt}
use Rattle.ex_model.specs.Grammar.{level}
use Rattle.ex_model.proofs.Arena.{stands_last, at_more, at_within}
use Rattle.ex_source.specs.declared.lexeme.Lexeme.{Lexeme}
use Rattle.ex_source.specs.declared.lexeme.Lexeme.TheVariants as X
use Rattle.ex_source.specs.declared.lexeme.Mark.{Mark}
use Rattle.ex_source.specs.declared.lexeme.Mark.TheVariants as M
use Rattle.ex_source.specs.declared.parser.Pending.{Pending}
use Rattle.ex_source.specs.declared.parser.Pending.TheVariants as P
use Rattle.ex_source.specs.declared.parser.Move.{Move}
use Rattle.ex_source.specs.declared.parser.Move.TheVariants.{Wanted, Held, Failed}
use Rattle.ex_source.specs.declared.parser.Plan.{Plan}
use Rattle.ex_source.specs.declared.parser.Plan.TheVariants.{Shift, Shut, Complete}
use Rattle.ex_source.specs.Lexemes.{IsLexeme, is_integer, is_name, is_mark, is_separator, AreLexemes, mark_token}
use Rattle.ex_source.specs.Machine.{Frame, Operand, Matched, Bracket, State, Want, Have, floor, reduce, want, have}
use Rattle.ex_source.specs.Shown.{IsFrame, is_operand, is_matched, is_bracket, IsStack, Shows, Grows, Turned, Tops, node_of, plan_for, is_bracket_top, equals_first}
use mir.Syntax.{w128}
use mir.Val.{to_z, of_z}
use Rattle.ex_source.proofs.Words.{kept}
use Rattle.ex_source.proofs.Complete.{is_le, is_gt}

-- tokens at places
pub taken : (xs : List Lexeme) (all : List Token) (at : ℕ) (x : Lexeme) (ys : List Lexeme) → AreLexemes xs all → drop at xs ≡ x ∷ ys → (t : Token) × IsLexeme x t × (drop at all ≡ t ∷ drop (at + 1) all)
taken [] [] zero x ys h e = cc
taken [] [] (suc at) x ys h e = cc
taken [] (t ∷ ts) at x ys h e = absurd h
taken (y ∷ xs) [] at x ys h e = absurd h
taken (y ∷ xs) (t ∷ ts) zero x ys h e = let s : y ≡ x = cc in (t, subst (λ v. IsLexeme v t) s h.0, refl)
taken (y ∷ xs) (t ∷ ts) (suc at) x ys h e =
    let r = taken xs ts at x ys h.1 e in
    let f : suc at + 1 ≡ suc (at + 1) = omega arith in
    (r.0, r.1, rw f r.2)

pub none_left : (xs : List Lexeme) (all : List Token) (at : ℕ) → AreLexemes xs all → length xs ≤ at → drop at all ≡ []
none_left [] [] zero h le = refl
none_left [] [] (suc at) h le = refl
none_left [] (t ∷ ts) at h le = absurd h
none_left (y ∷ xs) [] at h le = absurd h
none_left (y ∷ xs) (t ∷ ts) zero h le = absurd (omega arith)
none_left (y ∷ xs) (t ∷ ts) (suc at) h le = none_left xs ts at h.1 (omega arith)

-- `=` at a place, or another token or none
pub equals_some : (xs : List Lexeme) (all : List Token) (at : ℕ) → AreLexemes xs all → equals_first (drop at xs) ≡ true → drop at all ≡ Equals ∷ drop (at + 1) all
equals_some [] [] zero h e = cc
equals_some [] [] (suc at) h e = cc
equals_some [] (t ∷ ts) at h e = absurd h
equals_some (y ∷ xs) [] at h e = absurd h
equals_some (y ∷ xs) (t ∷ ts) zero h e = of h.0 e
  where
    of : {y : Lexeme} {t : Token} → IsLexeme y t → equals_first (y ∷ xs) ≡ true → t ∷ ts ≡ Equals ∷ ts
    of (is_integer lt) e = cc
    of is_name e = cc
    of (is_mark {m}) e = sign m e
      where
        sign : (m : Mark) → equals_first (X.Mark m ∷ xs) ≡ true → mark_token m ∷ ts ≡ Equals ∷ ts
        sign (M.Sign o) e = cc
        sign M.Equals e = refl
        sign M.Opening e = cc
        sign M.Closing e = cc
    of is_separator e = cc
equals_some (y ∷ xs) (t ∷ ts) (suc at) h e = let f : suc at + 1 ≡ suc (at + 1) = omega arith in rw f (equals_some xs ts at h.1 e)

pub equals_none : (xs : List Lexeme) (all : List Token) (at : ℕ) (s : List Frame) (x : List ℕ) → AreLexemes xs all → equals_first (drop at xs) ≡ false → want s (Name x ∷ drop at all) ≡ Have s (Variable x) (drop at all)
equals_none [] [] zero s x h e = refl
equals_none [] [] (suc at) s x h e = refl
equals_none [] (t ∷ ts) at s x h e = absurd h
equals_none (y ∷ xs) [] at s x h e = absurd h
equals_none (y ∷ xs) (t ∷ ts) zero s x h e = of h.0 e
  where
    of : {y : Lexeme} {t : Token} → IsLexeme y t → equals_first (y ∷ xs) ≡ false → want s (Name x ∷ t ∷ ts) ≡ Have s (Variable x) (t ∷ ts)
    of (is_integer lt) e = refl
    of is_name e = refl
    of (is_mark {m}) e = sign m e
      where
        sign : (m : Mark) → equals_first (X.Mark m ∷ xs) ≡ false → want s (Name x ∷ mark_token m ∷ ts) ≡ Have s (Variable x) (mark_token m ∷ ts)
        sign (M.Sign o) e = refl
        sign M.Equals e = cc
        sign M.Opening e = refl
        sign M.Closing e = refl
    of is_separator e = refl
equals_none (y ∷ xs) (t ∷ ts) (suc at) s x h e = equals_none xs ts at s x h.1 e

-- frames stay where more nodes come
frame_more : (ns more : List Node) {p : Pending} {f : Frame} → IsFrame ns p f → IsFrame (ns ++ more) p f
frame_more ns more (is_operand h) = is_operand (at_more ns more _ _ h)
frame_more ns more is_matched = is_matched
frame_more ns more is_bracket = is_bracket

pub stack_more : (ns more : List Node) (ps : List Pending) (s : List Frame) → IsStack ns ps s → IsStack (ns ++ more) ps s
stack_more ns more ps [] h = h
stack_more ns more ps (f ∷ s) h = (h.0, h.1, h.2, frame_more ns more h.3, stack_more ns more h.0 s h.4)

pub grows_same : (ns ns' : List Node) → ns' ≡ ns → Grows ns ns'
grows_same ns ns' e = ([], e ∙ sym (append-nil ns))

-- nodes, stack and move are those named
moved : (ns ns' : List Node) (ps ps' : List Pending) (all : List Token) (m m' : Move) (st : State) → m' ≡ m → ns' ≡ ns → ps' ≡ ps → Shows ns ps all m st → Shows ns' ps' all m' st
moved ns ns' ps ps' all m m' st e f g h =
    subst (λ x. Shows x ps' all m' st) (sym f) (subst (λ y. Shows ns y all m' st) (sym g) (subst (λ z. Shows ns ps all z st) (sym e) h))

-- what is begun stands on the stack
pub begun_turned : (ns ns' : List Node) (ps ps' : List Pending) (p : Pending) (all : List Token) (m : Move) (at : ℕ) (s : List Frame) (f : Frame)
    → (m ≡ Wanted at) × (ns' ≡ ns) × (ps' ≡ ps ++ p ∷ []) → IsStack ns ps s → IsFrame ns p f → Turned ns ns' ps' all m (Want (f ∷ s) (drop at all))
begun_turned ns ns' ps ps' p all m at s f e h k = record {
  grows = grows_same ns ns' e.1;
  shows = moved ns ns' (ps ++ p ∷ []) ps' all (Wanted at) m _ e.0 e.1 e.2 ((ps, p, refl, k, h), refl);
}

-- a node that was made was read
pub made_turned : (ns ns' : List Node) (ps ps' : List Pending) (node : Node) (all rest : List Token) (m : Move) (at : ℕ) (s : List Frame) (t : Tree)
    → (m ≡ Held at (length ns)) × (ns' ≡ ns ++ node ∷ []) × (ps' ≡ ps) → IsStack ns ps s → IsAt (ns ++ node ∷ []) (length ns) t → rest ≡ drop at all → Turned ns ns' ps' all m (Have s t rest)
made_turned ns ns' ps ps' node all rest m at s t e h k r = record {
  grows = (node ∷ [], e.1);
  shows = moved (ns ++ node ∷ []) ns' ps ps' all (Held at (length ns)) m _ e.0 e.1 e.2 (stack_more ns (node ∷ []) ps s h, k, r);
}

-- the node of what is complete
pub completed : (ns ns' : List Node) (below ps' : List Pending) (p : Pending) (i : ℕ) (node : Node) (s : List Frame) (t : Tree) (all rest : List Token) (m : Move) (at : ℕ)
    → (m ≡ Held at (length ns)) × (ns' ≡ ns ++ node ∷ []) × (ps' ≡ below) → Some node ≡ node_of p i → Tops ns below (Some p) s → IsAt ns i t → rest ≡ drop at all → Turned ns ns' ps' all m (reduce s t rest)
completed ns ns' below ps' p i node [] t all rest m at e n h it r = absurd h
completed ns ns' below ps' p i node (f ∷ s) t all rest m at e n h it r = one h.0 n
  where
    made : (u : Tree) → IsAt (ns ++ node ∷ []) (length ns) u → Turned ns ns' ps' all m (Have s u rest)
    made u k = made_turned ns ns' below ps' node all rest m at s u e h.1 k r

    last : {n : Node} → node ≡ n → slice_get (ns ++ node ∷ []) (length ns) ≡ Some n
    last e = stands_last ns node ∙ ap Some e

    later : (j : ℕ) (a : Tree) → IsAt ns j a → IsAt (ns ++ node ∷ []) j a
    later j a k = at_more ns (node ∷ []) j a k

    one : {p : Pending} {f : Frame} → IsFrame ns p f → Some node ≡ node_of p i → Turned ns ns' ps' all m (reduce (f ∷ s) t rest)
    one (is_operand {o} {i = j} {a} k) n = made (Binary o a t) (j, i, last (cc), later j a k, later i t it, at_within ns j a k, at_within ns i t it)
    one (is_matched {x}) n = made (Match (Named x) t) (i, last (cc), later i t it, at_within ns i t it)
    one is_bracket n = cc

-- a name that no `=` follows
pub name_plain : (ns ns' : List Node) (ps ps' : List Pending) (xs : List Lexeme) (all rest : List Token) (m : Move) (at : ℕ) (s : List Frame) (x : List ℕ)
    → (m ≡ Held at (length ns)) × (ns' ≡ ns ++ Lookup x ∷ []) × (ps' ≡ ps) → IsStack ns ps s → AreLexemes xs all → equals_first (drop at xs) ≡ false → rest ≡ drop at all → Turned ns ns' ps' all m (want s (Name x ∷ rest))
name_plain ns ns' ps ps' xs all rest m at s x e h a q r =
    rw (r, equals_none xs all at s x a q) (made_turned ns ns' ps ps' (Lookup x) all (drop at all) m at s (Variable x) e h (stands_last ns (Lookup x)) refl)

-- a name that is matched, where a match may stand
pub name_matched : (ns ns' : List Node) (ps ps' : List Pending) (xs : List Lexeme) (all rest : List Token) (m : Move) (at fl : ℕ) (s : List Frame) (x : List ℕ)
    → (m ≡ Wanted (at + 1)) × (ns' ≡ ns) × (ps' ≡ ps ++ P.Matched x ∷ []) → IsStack ns ps s → AreLexemes xs all → equals_first (drop at xs) ≡ true → rest ≡ drop at all → fl ≡ floor s → fl ≤ 0 → Turned ns ns' ps' all m (want s (Name x ∷ rest))
name_matched ns ns' ps ps' xs all rest m at fl s x e h a q r f z =
    let low : floor s ≤ 0 = omega arith in
    rw (r ∙ equals_some xs all at a q, is_le (floor s) 0 low) (begun_turned ns ns' ps ps' (P.Matched x) all m (at + 1) s (Matched x) e h is_matched)

-- and one where none may
pub name_stuck : (ns : List Node) (ps : List Pending) (xs : List Lexeme) (all rest : List Token) (at fl : ℕ) (s : List Frame) (x : List ℕ)
    → AreLexemes xs all → equals_first (drop at xs) ≡ true → rest ≡ drop at all → fl ≡ floor s → 0 < fl → Turned ns ns ps all Failed (want s (Name x ∷ rest))
name_stuck ns ps xs all rest at fl s x a q r f z =
    let high : 0 < floor s = omega arith in
    rw (r ∙ equals_some xs all at a q, is_gt (floor s) 0 high) (record { grows = grows_same ns ns refl; shows = tt })

-- the first token of an expression
module _ (ns ns' : List Node) (ps ps' : List Pending) (all : List Token) (m : Move) (after : ℕ) (s : List Frame) where
  pub first_integer : {y : Lexeme} {u : Token} (z : ℤ) → IsLexeme y u → y ≡ X.Integer z → (m ≡ Held after (length ns)) × (ns' ≡ ns ++ Literal (to_z w128 (of_z w128 z)) ∷ []) × (ps' ≡ ps) → IsStack ns ps s → Turned ns ns' ps' all m (want s (u ∷ drop after all))
  first_integer z (is_integer {n} lt) e k h =
      let same : z ≡ pos n = cc in
      let now : to_z w128 (of_z w128 z) ≡ pos n = ap (λ v. to_z w128 (of_z w128 v)) same ∙ kept n lt in
      made_turned ns ns' ps ps' (Literal (pos n)) all (drop after all) m after s (Integer n) (subst (λ v. (m ≡ Held after (length ns)) × (ns' ≡ ns ++ Literal v ∷ []) × (ps' ≡ ps)) now k) h (stands_last ns (Literal (pos n))) refl
  first_integer z is_name e k h = cc
  first_integer z is_mark e k h = cc
  first_integer z is_separator e k h = cc

  pub first_name : {y : Lexeme} {u : Token} (x x' : List ℕ) → IsLexeme y u → y ≡ X.Name x → x' ≡ x → ((rest : List Token) → rest ≡ drop after all → Turned ns ns' ps' all m (want s (Name x' ∷ rest))) → Turned ns ns' ps' all m (want s (u ∷ drop after all))
  first_name x x' (is_integer lt) e f k = cc
  first_name x x' (is_name {x = v}) e f k = let same : x' ≡ v = cc in subst (λ v. Turned ns ns' ps' all m (want s (Name v ∷ drop after all))) same (k (drop after all) refl)
  first_name x x' is_mark e f k = cc
  first_name x x' is_separator e f k = cc

  pub first_sign : {y : Lexeme} {u : Token} (v : Mark) → IsLexeme y u → y ≡ X.Mark v → Turned ns ns' ps' all m (want s (mark_token v ∷ drop after all)) → Turned ns ns' ps' all m (want s (u ∷ drop after all))
  first_sign v (is_integer lt) e k = cc
  first_sign v is_name e k = cc
  first_sign v (is_mark {m = w}) e k = let same : v ≡ w = cc in subst (λ v. Turned ns ns' ps' all m (want s (mark_token v ∷ drop after all))) same k
  first_sign v is_separator e k = cc

pub first_separator : {y : Lexeme} {u : Token} (ns : List Node) (ps : List Pending) (all : List Token) (after : ℕ) (s : List Frame) → IsLexeme y u → y ≡ X.Separator → Turned ns ns ps all Failed (want s (u ∷ drop after all))
first_separator ns ps all after s (is_integer lt) e = cc
first_separator ns ps all after s is_name e = cc
first_separator ns ps all after s is_mark e = cc
first_separator ns ps all after s is_separator e = record { grows = grows_same ns ns refl; shows = tt }

-- an expression that isn't begun
pub want_failed : (ns : List Node) (ps : List Pending) (xs : List Lexeme) (all rest : List Token) (at : ℕ) (s : List Frame) → AreLexemes xs all → length xs ≤ at → rest ≡ drop at all → Turned ns ns ps all Failed (want s rest)
want_failed ns ps xs all rest at s a le r = rw (r ∙ none_left xs all at a le) (record { grows = grows_same ns ns refl; shows = tt })

pub want_first : (ns ns' : List Node) (ps' : List Pending) (xs : List Lexeme) (all rest : List Token) (m : Move) (at : ℕ) (s : List Frame) (x : Lexeme) → AreLexemes xs all → rest ≡ drop at all → drop at xs ≡ x ∷ drop (at + 1) xs
    → ((u : Token) → IsLexeme x u → Turned ns ns' ps' all m (want s (u ∷ drop (at + 1) all))) → Turned ns ns' ps' all m (want s rest)
want_first ns ns' ps' xs all rest m at s x a r e f =
    let k = taken xs all at x (drop (at + 1) xs) a e in
    subst (λ v. Turned ns ns' ps' all m (want s v)) (sym (r ∙ k.2)) (f k.0 k.1)

-- what follows an expression
pub have_none : (ns ns' : List Node) (ps' : List Pending) (xs : List Lexeme) (all rest : List Token) (m : Move) (at : ℕ) (s : List Frame) (t : Tree) → AreLexemes xs all → length xs ≤ at → rest ≡ drop at all
    → Turned ns ns' ps' all m (reduce s t rest) → Turned ns ns' ps' all m (have s t rest)
have_none ns ns' ps' xs all rest m at s t a le r h =
    let e = r ∙ none_left xs all at a le in
    subst (λ v. Turned ns ns' ps' all m (have s t v)) (sym e) (subst (λ v. Turned ns ns' ps' all m (reduce s t v)) e h)

pub have_some : (ns ns' : List Node) (ps' : List Pending) (xs : List Lexeme) (all rest : List Token) (m : Move) (at : ℕ) (s : List Frame) (t : Tree) (x : Lexeme) → AreLexemes xs all → rest ≡ drop at all → drop at xs ≡ x ∷ drop (at + 1) xs
    → ((u : Token) → IsLexeme x u → u ∷ drop (at + 1) all ≡ drop at all → Turned ns ns' ps' all m (have s t (u ∷ drop (at + 1) all))) → Turned ns ns' ps' all m (have s t rest)
have_some ns ns' ps' xs all rest m at s t x a r e f =
    let k = taken xs all at x (drop (at + 1) xs) a e in
    subst (λ v. Turned ns ns' ps' all m (have s t v)) (sym (r ∙ k.2)) (f k.0 k.1 (sym k.2))

-- what each plan does
abbrev HavePlan : Plan → List Frame → Tree → List Token → List Token → State → Type 0
HavePlan (Shift o) s t rest ts st = st ≡ Want (Operand o t ∷ s) ts
HavePlan Shut s t rest ts st = (s' : List Frame) × (s ≡ Bracket ∷ s') × (st ≡ Have s' t ts)
HavePlan Complete s t rest ts st = st ≡ reduce s t rest

plan_if : (o : Operator) (s : List Frame) (t : Tree) (rest ts : List Token) (b : Bool) → HavePlan (if b then Shift o else Complete) s t rest ts (if b then Want (Operand o t ∷ s) ts else reduce s t rest)
plan_if o s t rest ts true = refl
plan_if o s t rest ts false = refl

planned : {x : Lexeme} {u : Token} (s : List Frame) (t : Tree) (ts : List Token) → IsLexeme x u → HavePlan (plan_for x (floor s) (is_bracket_top s)) s t (u ∷ ts) ts (have s t (u ∷ ts))
planned s t ts (is_integer lt) = refl
planned s t ts is_name = refl
planned s t ts (is_mark {m = M.Sign o}) = plan_if o s t (Sign o ∷ ts) ts (nat_le (floor s) (level o))
planned s t ts (is_mark {m = M.Equals}) = refl
planned s t ts (is_mark {m = M.Opening}) = refl
planned [] t ts (is_mark {m = M.Closing}) = refl
planned (Operand o a ∷ s) t ts (is_mark {m = M.Closing}) = refl
planned (Matched x ∷ s) t ts (is_mark {m = M.Closing}) = refl
planned (Bracket ∷ s) t ts (is_mark {m = M.Closing}) = (s, refl, refl)
planned s t ts is_separator = refl

module _ (ns ns' : List Node) (ps ps' : List Pending) (x : Lexeme) (fl : ℕ) (br : Bool) (s : List Frame) (t : Tree) (u : Token) (all : List Token) (after i : ℕ) (m : Move)
    (is : IsLexeme x u) (same_floor : fl ≡ floor s) (same_bracket : br ≡ is_bracket_top s) (stack : IsStack ns ps s) (it : IsAt ns i t) where
  by_plan : (p : Plan) → p ≡ plan_for x fl br → HavePlan p s t (u ∷ drop after all) (drop after all) (have s t (u ∷ drop after all))
  by_plan p e = rw (e, same_floor, same_bracket) (planned s t (drop after all) is)

  pub follow_shift : (o : Operator) → Shift o ≡ plan_for x fl br → (m ≡ Wanted after) × (ns' ≡ ns) × (ps' ≡ ps ++ P.Operand o i ∷ []) → Turned ns ns' ps' all m (have s t (u ∷ drop after all))
  follow_shift o e b = rw (by_plan (Shift o) e) (begun_turned ns ns' ps ps' (P.Operand o i) all m after s (Operand o t) b stack (is_operand it))

  pub follow_shut : (below : List Pending) (gone : Option Pending) → Shut ≡ plan_for x fl br → Tops ns below gone s → ns' ≡ ns → ps' ≡ below → Turned ns ns' ps' all (Held after i) (have s t (u ∷ drop after all))
  follow_shut below gone e g n q =
      let h = by_plan Shut e in
      rw (h.2) (record { grows = grows_same ns ns' n; shows = subst (λ v. IsStack v ps' h.0 × IsAt v i t × (drop after all ≡ drop after all)) (sym n) (subst (λ v. IsStack ns v h.0) (sym q) (rest_of Bracket h.0 gone (subst (λ v. Tops ns below gone v) h.1 g)), it, refl) })
    where
      rest_of : (f : Frame) (s : List Frame) (top : Option Pending) → Tops ns below top (f ∷ s) → IsStack ns below s
      rest_of f s None h = absurd h
      rest_of f s (Some p) h = h.1

  pub follow_complete : Complete ≡ plan_for x fl br → Turned ns ns' ps' all m (reduce s t (u ∷ drop after all)) → Turned ns ns' ps' all m (have s t (u ∷ drop after all))
  follow_complete e h = rw (by_plan Complete e) h
