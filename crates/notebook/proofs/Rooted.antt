-- Parents that have none themselves, and the rule on parents by tests.
use Rattle.std.proofs.Common.{◌≡◌, ℕ, ◌<◌, true, false, Bool, List, [], ◌∷◌, ◌++◌, Option, Some, None, length, take, drop, get_or, map, refl, sym, ap, ◌∙◌, arith, subst, eq-eqb, eqb-true, suc, zero, append_assoc}
use Rattle.std.specs.Prelude.{◌==◌, ◌&&◌, ◌||◌, not, is_none, Contains, insert}
use Rattle.std.specs.List.{list_any}
use Rattle.std.proofs.lemmas.List.{take-append-drop}
use Rattle.std.proofs.lemmas.List.Elements.{Contains-append_left}
use Rattle.std.proofs.lemmas.List.Folds.{list_any-append}
use Rattle.notebook.specs.declared.parts.Section.{Section}
use Rattle.notebook.specs.Flow.{is_section, is_main}
use Rattle.notebook.specs.Rules.{AreDistinct, section_number, IsParentAmong, ParentsStand}
use Rattle.notebook.specs.Change.{branching, is_that, branches_from, has_branches, is_branch_numbered, stands_after, parents_first_after, parents_first}
use Rattle.notebook.proofs.Conditions.{and-left, and-right, and-both, or-left, or-right, or-none, or-none-left, or-none-right, and-false, false-from, any-back, none-left, any-seam}
use Rattle.notebook.proofs.Spots.{none-numbered}
use Rattle.notebook.proofs.Orders.{first-append, first-more, first-fewer, first-lost, others-first, put-first}
use Rattle.notebook.proofs.Parents.{not-numbered}

-- no section of which a number is a branch's parent is a branch
abbrev pub AreRooted : List Section → Type 0
AreRooted ss = (k : ℕ) → list_any (branches_from k) ss ≡ true → list_any (is_branch_numbered k) ss ≡ false

-- a section that branches from none, by the test
is-main : (o : Option ℕ) → not (is_none o) ≡ false → o ≡ None
is-main None h = refl
is-main (Some k) h = absurd (cc h)

-- a parent that is found among some sections and is no branch
root-here : (before : List Section) (k : ℕ) → list_any (is_section k) before ≡ true → list_any (is_branch_numbered k) before ≡ false → IsParentAmong before (Some k)
root-here [] k h none = absurd (cc h)
root-here (s ∷ before) k h none =
    elim (is_section k s)
    as (λ b. is_section k s ≡ b → (b || list_any (is_section k) before) ≡ true → ((b && not (is_main s)) || list_any (is_branch_numbered k) before) ≡ false → IsParentAmong (s ∷ before) (Some k)) [
      | true ↦ λ e g f. (s, ((0, omega arith, refl), (eqb-true s.id k e, is-main s.parent (or-none-left (not (is_main s)) (list_any (is_branch_numbered k) before) f))))
      | false ↦ λ e g f.
          let p = root-here before k g f in
          let there = p.1.0 in
          (p.0, ((suc there.0, omega (arith, there.1), there.2), p.1.1))
    ]
    refl
    h
    none

-- the parent of a section that stands among others
among : (before : List Section) (s : Section) (ss : List Section) (o : Option ℕ) → s.parent ≡ o → AreRooted (before ++ s ∷ ss) → stands_after before o ≡ true → IsParentAmong before o
among before s ss None is rooted h = tt
among before s ss (Some k) is rooted h =
    let it : branches_from k s ≡ true = ap (is_that k) is ∙ eq-eqb k k refl in
    let there : list_any (branches_from k) (before ++ s ∷ ss) ≡ true = any-back (branches_from k) before (s ∷ ss) (or-left (branches_from k s) (list_any (branches_from k) ss) it) in
    root-here before k h (none-left (is_branch_numbered k) before (s ∷ ss) (rooted k there))

-- the rule on parents from the tests
stand-from : (before ss : List Section) → AreRooted (before ++ ss) → parents_first_after before ss ≡ true → ParentsStand before ss
stand-from before [] rooted h = tt
stand-from before (s ∷ ss) rooted h = (
  among before s ss s.parent refl rooted (and-left (stands_after before s.parent) (parents_first_after (before ++ s ∷ []) ss) h),
  stand-from (before ++ s ∷ []) ss (subst (λ (ts : List Section). AreRooted ts) (sym (append_assoc before (s ∷ []) ss)) rooted) (and-right (stands_after before s.parent) (parents_first_after (before ++ s ∷ []) ss) h),
)

pub stand-rooted : (ss : List Section) → AreRooted ss → parents_first ss ≡ true → ParentsStand [] ss
stand-rooted ss rooted h = stand-from [] ss rooted h

-- a section's number stands where it stands
number-there : (ss : List Section) (s : Section) (i k : ℕ) → i < length ss → get_or ss i s ≡ s → k ≡ s.id → Contains (map section_number ss) k
number-there [] s i k within at is = absurd (let no : i < 0 = within in omega (arith, no))
number-there (t ∷ ss) s zero k within at is = (0, omega arith, ap (λ (u : Section). u.id) at ∙ sym is)
number-there (t ∷ ss) s (suc i) k within at is = let p = number-there ss s i k (omega (arith, within)) at is in (suc p.0, omega (arith, p.1), p.2)

-- a parent among more sections, and which one it is
longer : (before more : List Section) (k : ℕ) → IsParentAmong before (Some k) → IsParentAmong (before ++ more) (Some k)
longer before more k (s, (here, is)) = (s, (Contains-append_left before more s here, is))

parent-of : (before : List Section) (o : Option ℕ) (k : ℕ) → IsParentAmong before o → is_that k o ≡ true → IsParentAmong before (Some k)
parent-of before None k h e = absurd (cc e)
parent-of before (Some j) k h e = subst (λ (i : ℕ). IsParentAmong before (Some i)) (eqb-true j k e) h

-- and the tests from the rule
root-numbered : (ss : List Section) (s : Section) (i : ℕ) → AreDistinct (map section_number ss) → i < length ss → get_or ss i s ≡ s → s.parent ≡ None → list_any (is_branch_numbered s.id) ss ≡ false
root-numbered [] s i apart within at main = refl
root-numbered (t ∷ ss) s zero apart within at main =
    let none : list_any (is_section s.id) ss ≡ false = none-numbered s.id ss (subst (λ (u : Section). ¬ Contains (map section_number ss) u.id) at apart.0) in
    let here : is_branch_numbered s.id t ≡ false =
    ap (λ (u : Section). is_branch_numbered s.id u) at ∙ (ap (λ (o : Option ℕ). (s.id == s.id) && not (is_none o)) main ∙ and-false (s.id == s.id)) in
    or-none (is_branch_numbered s.id t) (list_any (is_branch_numbered s.id) ss) here (not-numbered s.id ss none)
root-numbered (t ∷ ss) s (suc i) apart within at main =
    let rest : list_any (is_branch_numbered s.id) ss ≡ false = root-numbered ss s i apart.1 (omega (arith, within)) at main in
    let other : (t.id == s.id) ≡ false = false-from (t.id == s.id) (λ e. apart.0 (number-there ss s i t.id (omega (arith, within)) at (eqb-true t.id s.id e))) in
    or-none (is_branch_numbered s.id t) (list_any (is_branch_numbered s.id) ss) (ap (λ b. b && not (is_main t)) other) rest

branch-rooted : (before ss : List Section) (k : ℕ) → ParentsStand before ss → list_any (branches_from k) ss ≡ true → IsParentAmong (before ++ ss) (Some k)
branch-rooted before [] k h e = absurd (cc e)
branch-rooted before (s ∷ ss) k h e =
    elim (branches_from k s)
    as (λ b. branches_from k s ≡ b → (b || list_any (branches_from k) ss) ≡ true → IsParentAmong (before ++ s ∷ ss) (Some k)) [
      | true ↦ λ here g. longer before (s ∷ ss) k (parent-of before s.parent k h.0 here)
      | false ↦ λ other g. subst (λ (ts : List Section). IsParentAmong ts (Some k)) (append_assoc before (s ∷ []) ss) (branch-rooted (before ++ s ∷ []) ss k h.1 g)
    ]
    refl
    e

pub rooted : (ss : List Section) → AreDistinct (map section_number ss) → ParentsStand [] ss → AreRooted ss
rooted ss apart h = λ k e.
    let p = branch-rooted [] ss k h e in
    let there = p.1.0 in
    subst (λ (j : ℕ). list_any (is_branch_numbered j) ss ≡ false) p.1.1.0 (root-numbered ss p.0 there.0 apart there.1 there.2 p.1.1.1)

-- a new section at an index, from which none branches
pub no-branch-of-new : (ss : List Section) (k : ℕ) → parents_first ss ≡ true → list_any (is_section k) ss ≡ false → has_branches k ss ≡ false
no-branch-of-new ss k h apart =
    false-from (has_branches k ss) (λ e. let lost : parents_first ss ≡ false = first-lost k [] ss refl apart e in let no : true ≡ false = sym h ∙ lost in cc)

pub first-inserted : (ss : List Section) (index : ℕ) (s : Section) → s.parent ≡ None → list_any (is_section s.id) ss ≡ false → parents_first ss ≡ true → parents_first (insert ss index s) ≡ true
first-inserted ss index s main apart h =
    let xs : List Section = take index ss in
    let ys : List Section = drop index ss in
    let whole : xs ++ ys ≡ ss = take-append-drop index ss in
    let alone : list_any (is_section s.id) (xs ++ ys) ≡ false = ap (list_any (is_section s.id)) whole ∙ apart in
    let later : parents_first_after (s ∷ []) (xs ++ ys) ≡ true = ap (parents_first_after (s ∷ [])) whole ∙ first-more [] (s ∷ []) (λ k e. absurd (cc e)) ss h in
    let none : has_branches s.id xs ≡ false = none-left (branches_from s.id) xs ys (ap (list_any (branches_from s.id)) whole ∙ no-branch-of-new ss s.id h apart) in
    put-first xs s ys alone later
    ∙ (ap (λ (o : Option ℕ). stands_after xs o && not (has_branches s.id xs)) main ∙ ap not none)

-- roots where one section is added, taken away or moved
pub rooted-moved : (xs : List Section) (s : Section) (ys front back : List Section) → xs ++ ys ≡ front ++ back → AreRooted (front ++ s ∷ back) → AreRooted (xs ++ s ∷ ys)
rooted-moved xs s ys front back whole h = λ k e.
    let swap : (t : Section → Bool) → list_any t (xs ++ s ∷ ys) ≡ list_any t (front ++ s ∷ back) =
    λ t. any-seam t xs s ys ∙ (ap (λ ts. t s || list_any t ts) whole ∙ sym (any-seam t front s back)) in
    swap (is_branch_numbered k) ∙ h k (sym (swap (branches_from k)) ∙ e)

pub rooted-less : (front : List Section) (s : Section) (back : List Section) → AreRooted (front ++ s ∷ back) → AreRooted (front ++ back)
rooted-less front s back h = λ k e.
    or-none-right
    (is_branch_numbered k s)
    (list_any (is_branch_numbered k) (front ++ back))
    (sym (any-seam (is_branch_numbered k) front s back) ∙ h k (any-seam (branches_from k) front s back ∙ or-right (branches_from k s) (list_any (branches_from k) (front ++ back)) e))

-- a section that branches from none in a section's stead
pub rooted-main : (front : List Section) (s t : Section) (back : List Section) → t.parent ≡ None → AreRooted (front ++ s ∷ back) → AreRooted (front ++ t ∷ back)
rooted-main front s t back main h = λ k e.
    let not_it : branches_from k t ≡ false = ap (is_that k) main in
    let branch : is_branch_numbered k t ≡ false = ap (λ (o : Option ℕ). (t.id == k) && not (is_none o)) main ∙ and-false (t.id == k) in
    let rest : list_any (branches_from k) (front ++ back) ≡ true = sym (any-seam (branches_from k) front t back ∙ ap (λ b. b || list_any (branches_from k) (front ++ back)) not_it) ∙ e in
    any-seam (is_branch_numbered k) front t back
    ∙ or-none (is_branch_numbered k t) (list_any (is_branch_numbered k) (front ++ back)) branch (rooted-less front s back h k rest)

pub rooted-added : (xs : List Section) (t : Section) (ys : List Section) → t.parent ≡ None → AreRooted (xs ++ ys) → AreRooted (xs ++ t ∷ ys)
rooted-added xs t ys main h = λ k e.
    let not_it : branches_from k t ≡ false = ap (is_that k) main in
    let branch : is_branch_numbered k t ≡ false = ap (λ (o : Option ℕ). (t.id == k) && not (is_none o)) main ∙ and-false (t.id == k) in
    let rest : list_any (branches_from k) (xs ++ ys) ≡ true = sym (any-seam (branches_from k) xs t ys ∙ ap (λ b. b || list_any (branches_from k) (xs ++ ys)) not_it) ∙ e in
    any-seam (is_branch_numbered k) xs t ys ∙ or-none (is_branch_numbered k t) (list_any (is_branch_numbered k) (xs ++ ys)) branch (h k rest)

-- a section that branches from a root, and from which none branches
pub rooted-branch : (front : List Section) (s : Section) (back : List Section) (parent : ℕ) → list_any (branches_from s.id) (front ++ s ∷ back) ≡ false → (s.id == parent) ≡ false → list_any (is_branch_numbered parent) (front ++ s ∷ back) ≡ false → AreRooted (front ++ s ∷ back) → AreRooted (front ++ branching (Some parent) s ∷ back)
rooted-branch front s back parent alone other root h = λ k e.
    let t : Section = branching (Some parent) s in
    let rest_all : list_any (branches_from s.id) (front ++ back) ≡ false =
    or-none-right (branches_from s.id s) (list_any (branches_from s.id) (front ++ back)) (sym (any-seam (branches_from s.id) front s back) ∙ alone) in
    let parts : ((parent == k) || list_any (branches_from k) (front ++ back)) ≡ true = sym (any-seam (branches_from k) front t back) ∙ e in
    let rests : (j : ℕ) → list_any (is_branch_numbered j) (front ++ s ∷ back) ≡ false → list_any (is_branch_numbered j) (front ++ back) ≡ false =
    λ j none. or-none-right (is_branch_numbered j s) (list_any (is_branch_numbered j) (front ++ back)) (sym (any-seam (is_branch_numbered j) front s back) ∙ none) in
    let goal_from : (s.id == k) ≡ false → list_any (is_branch_numbered k) (front ++ back) ≡ false → list_any (is_branch_numbered k) (front ++ t ∷ back) ≡ false =
    λ own none. any-seam (is_branch_numbered k) front t back ∙ or-none (is_branch_numbered k t) (list_any (is_branch_numbered k) (front ++ back)) (ap (λ b. b && true) own) none in
    elim (parent == k)
    as (λ b. (parent == k) ≡ b → (b || list_any (branches_from k) (front ++ back)) ≡ true → list_any (is_branch_numbered k) (front ++ t ∷ back) ≡ false) [
      | true ↦ λ is g.
          let same : parent ≡ k = eqb-true parent k is in
          goal_from (subst (λ (j : ℕ). (s.id == j) ≡ false) same other) (rests k (subst (λ (j : ℕ). list_any (is_branch_numbered j) (front ++ s ∷ back) ≡ false) same root))
      | false ↦ λ is g.
          let own : (s.id == k) ≡ false =
          false-from (s.id == k) (λ x. let clash : list_any (branches_from s.id) (front ++ back) ≡ true = ap (λ j. list_any (branches_from j) (front ++ back)) (eqb-true s.id k x) ∙ g in let no : true ≡ false = sym clash ∙ rest_all in cc) in
          goal_from own (rests k (h k (any-seam (branches_from k) front s back ∙ or-right (branches_from k s) (list_any (branches_from k) (front ++ back)) g)))
    ]
    refl
    parts

-- a section that branches from none stands anywhere
pub main-seam : (front : List Section) (s t : Section) (back : List Section) → t.id ≡ s.id → t.parent ≡ None → parents_first (front ++ s ∷ back) ≡ true → parents_first (front ++ t ∷ back) ≡ true
main-seam front s t back same main h =
    let both : (parents_first_after [] front && (stands_after front s.parent && parents_first_after (front ++ s ∷ []) back)) ≡ true = sym (first-append [] front (s ∷ back)) ∙ h in
    let early : parents_first_after [] front ≡ true = and-left (parents_first_after [] front) (stands_after front s.parent && parents_first_after (front ++ s ∷ []) back) both in
    let rest : parents_first_after (front ++ s ∷ []) back ≡ true =
    and-right (stands_after front s.parent) (parents_first_after (front ++ s ∷ []) back) (and-right (parents_first_after [] front) (stands_after front s.parent && parents_first_after (front ++ s ∷ []) back) both) in
    let keep : (k : ℕ) → list_any (is_section k) (front ++ s ∷ []) ≡ true → list_any (is_section k) (front ++ t ∷ []) ≡ true =
    λ k e. list_any-append (is_section k) front (t ∷ []) ∙ (ap (λ (i : ℕ). list_any (is_section k) front || ((i == k) || false)) same ∙ (sym (list_any-append (is_section k) front (s ∷ [])) ∙ e)) in
    let later : parents_first_after (front ++ t ∷ []) back ≡ true = first-more (front ++ s ∷ []) (front ++ t ∷ []) keep back rest in
    first-append [] front (t ∷ back)
    ∙ and-both
    (parents_first_after [] front)
    (stands_after front t.parent && parents_first_after (front ++ t ∷ []) back)
    early
    (ap (λ (o : Option ℕ). stands_after front o && parents_first_after (front ++ t ∷ []) back) main ∙ later)

-- without a section from which none branches
pub first-deleted : (front : List Section) (s : Section) (back : List Section) → list_any (branches_from s.id) (front ++ s ∷ back) ≡ false → parents_first (front ++ s ∷ back) ≡ true → parents_first (front ++ back) ≡ true
first-deleted front s back alone h =
    let rest : list_any (branches_from s.id) (front ++ back) ≡ false =
    or-none-right (branches_from s.id s) (list_any (branches_from s.id) (front ++ back)) (sym (any-seam (branches_from s.id) front s back) ∙ alone) in
    first-fewer s [] (front ++ back) rest (others-first front s back h)
