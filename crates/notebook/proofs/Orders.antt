-- Parents that stand before their branches, as tests, and what changes of it.
use Rattle.std.proofs.Common.{◌≡◌, ℕ, ◌+◌, ◌-◌, ◌<◌, ◌≤◌, true, false, Bool, List, [], ◌∷◌, ◌++◌, Option, Some, None, length, take, drop, get_or, map, refl, sym, ap, ◌∙◌, arith, subst, eq-eqb, eqb-true, suc, append_assoc}
use Rattle.std.specs.Prelude.{◌==◌, ◌&&◌, ◌||◌, not, nat_lt, if◌then◌else◌, slice_get, insert, remove}
use Rattle.std.specs.List.{list_any}
use Rattle.std.proofs.lemmas.Bool.{ltb-true, ltb-false}
use Rattle.std.proofs.lemmas.List.{append-nil, take-append-drop, take-append-le, length-take-le}
use Rattle.std.proofs.lemmas.List.Folds.{list_any_at}
use Rattle.std.proofs.lemmas.Option.{get_or_from_slice_get}
use Rattle.std.proofs.Math.Seq.{take-append-add}
use Rattle.notebook.specs.declared.parts.Section.{Section}
use Rattle.notebook.specs.Flow.{is_section}
use Rattle.notebook.specs.Rules.{AreDistinct, section_number, IsParentAmong, ParentsStand}
use Rattle.notebook.specs.Places.{AreOrdered}
use Rattle.notebook.specs.Change.{is_that, branches_from, has_branches, stands_after, parents_first_after, parents_first}
use Rattle.notebook.proofs.Conditions.{and-left, and-right, and-both, and-assoc, and-false, or-none-left, or-none-right, or-none, false-from, eqb-flip, none-left, none-join, any-push, any-seam}
use Rattle.notebook.proofs.Finding.{cut_here}
use Rattle.notebook.proofs.Spots.{none-after, none-before, remove-seam}

-- over lists that are joined
pub first-append : (before xs ys : List Section) → parents_first_after before (xs ++ ys) ≡ (parents_first_after before xs && parents_first_after (before ++ xs) ys)
first-append before [] ys = ap (λ b. parents_first_after b ys) (sym (append-nil before))
first-append before (x ∷ xs) ys =
    ap (λ b. stands_after before x.parent && b) (first-append (before ++ x ∷ []) xs ys)
    ∙ (ap (λ (zs : List Section). stands_after before x.parent && (parents_first_after (before ++ x ∷ []) xs && parents_first_after zs ys)) (append_assoc before (x ∷ []) xs)
    ∙ and-assoc (stands_after before x.parent) (parents_first_after (before ++ x ∷ []) xs) (parents_first_after (before ++ x ∷ xs) ys))

-- with more before
abbrev Has : List Section → ℕ → Type 0
Has ss k = list_any (is_section k) ss ≡ true

pub stands-more : (before after : List Section) → ((k : ℕ) → Has before k → Has after k) → (o : Option ℕ) → stands_after before o ≡ true → stands_after after o ≡ true
stands-more before after more None h = refl
stands-more before after more (Some k) h = more k h

pub first-more : (before after : List Section) → ((k : ℕ) → list_any (is_section k) before ≡ true → list_any (is_section k) after ≡ true) → (ss : List Section) → parents_first_after before ss ≡ true → parents_first_after after ss ≡ true
first-more before after more [] h = refl
first-more before after more (s ∷ ss) h =
    and-both
    (stands_after after s.parent)
    (parents_first_after (after ++ s ∷ []) ss)
    (stands-more before after more s.parent (and-left (stands_after before s.parent) (parents_first_after (before ++ s ∷ []) ss) h))
    (first-more (before ++ s ∷ []) (after ++ s ∷ []) (λ k. any-push (is_section k) before after s (more k)) ss (and-right (stands_after before s.parent) (parents_first_after (before ++ s ∷ []) ss) h))

-- without a section from which none branches
stands-fewer : (s : Section) (before : List Section) (o : Option ℕ) → is_that s.id o ≡ false → stands_after (s ∷ before) o ≡ true → stands_after before o ≡ true
stands-fewer s before None other h = refl
stands-fewer s before (Some k) other h = let e : (s.id == k) ≡ false = eqb-flip k s.id other in sym (ap (λ b. b || list_any (is_section k) before) e) ∙ h

pub first-fewer : (s : Section) (before zs : List Section) → list_any (branches_from s.id) zs ≡ false → parents_first_after (s ∷ before) zs ≡ true → parents_first_after before zs ≡ true
first-fewer s before [] none h = refl
first-fewer s before (z ∷ zs) none h =
    and-both
    (stands_after before z.parent)
    (parents_first_after (before ++ z ∷ []) zs)
    (stands-fewer s before z.parent (or-none-left (branches_from s.id z) (list_any (branches_from s.id) zs) none) (and-left (stands_after (s ∷ before) z.parent) (parents_first_after (s ∷ (before ++ z ∷ [])) zs) h))
    (first-fewer s (before ++ z ∷ []) zs (or-none-right (branches_from s.id z) (list_any (branches_from s.id) zs) none) (and-right (stands_after (s ∷ before) z.parent) (parents_first_after (s ∷ (before ++ z ∷ [])) zs) h))

-- a branch without its parent before it
stands-lost : (k : ℕ) (before : List Section) (o : Option ℕ) → list_any (is_section k) before ≡ false → is_that k o ≡ true → stands_after before o ≡ false
stands-lost k before None lost h = absurd (cc h)
stands-lost k before (Some j) lost h = ap (λ i. list_any (is_section i) before) (eqb-true j k h) ∙ lost

pub first-lost : (k : ℕ) (before zs : List Section) → list_any (is_section k) before ≡ false → list_any (is_section k) zs ≡ false → list_any (branches_from k) zs ≡ true → parents_first_after before zs ≡ false
first-lost k before [] lost apart h = absurd (cc h)
first-lost k before (z ∷ zs) lost apart h =
    let z_apart : is_section k z ≡ false = or-none-left (is_section k z) (list_any (is_section k) zs) apart in
    let rest : list_any (is_section k) zs ≡ false = or-none-right (is_section k z) (list_any (is_section k) zs) apart in
    let longer : list_any (is_section k) (before ++ z ∷ []) ≡ false = none-join (is_section k) before (z ∷ []) lost (or-none (is_section k z) false z_apart refl) in
    elim (branches_from k z)
    as (λ b. branches_from k z ≡ b → (b || list_any (branches_from k) zs) ≡ true → (stands_after before z.parent && parents_first_after (before ++ z ∷ []) zs) ≡ false) [
      | true ↦ λ here e. ap (λ x. x && parents_first_after (before ++ z ∷ []) zs) (stands-lost k before z.parent lost here)
      | false ↦ λ other e. ap (λ x. stands_after before z.parent && x) (first-lost k (before ++ z ∷ []) zs longer rest e) ∙ and-false (stands_after before z.parent)
    ]
    refl
    h

-- the others, where a section that stood among them stands before them
pub others-first : (front : List Section) (s : Section) (back : List Section) → parents_first (front ++ s ∷ back) ≡ true → parents_first_after (s ∷ []) (front ++ back) ≡ true
others-first front s back h =
    let both : (parents_first_after [] front && parents_first_after ([] ++ front) (s ∷ back)) ≡ true = sym (first-append [] front (s ∷ back)) ∙ h in
    let early : parents_first_after [] front ≡ true = and-left (parents_first_after [] front) (parents_first_after front (s ∷ back)) both in
    let late : parents_first_after (front ++ s ∷ []) back ≡ true =
    and-right (stands_after front s.parent) (parents_first_after (front ++ s ∷ []) back) (and-right (parents_first_after [] front) (parents_first_after front (s ∷ back)) both) in
    let move : (k : ℕ) → list_any (is_section k) (front ++ s ∷ []) ≡ true → list_any (is_section k) (s ∷ front) ≡ true =
    λ k e. sym (any-seam (is_section k) front s [] ∙ ap (λ (ts : List Section). is_section k s || list_any (is_section k) ts) (append-nil front)) ∙ e in
    first-append (s ∷ []) front back
    ∙ and-both
    (parents_first_after (s ∷ []) front)
    (parents_first_after (s ∷ front) back)
    (first-more [] (s ∷ []) (λ k e. absurd (cc e)) front early)
    (first-more (front ++ s ∷ []) (s ∷ front) move back late)

-- a section of its own number put among others
pub put-first : (xs : List Section) (s : Section) (ys : List Section) → list_any (is_section s.id) (xs ++ ys) ≡ false → parents_first_after (s ∷ []) (xs ++ ys) ≡ true → parents_first (xs ++ s ∷ ys) ≡ (stands_after xs s.parent && not (has_branches s.id xs))
put-first xs s ys apart h =
    let both : (parents_first_after (s ∷ []) xs && parents_first_after (s ∷ xs) ys) ≡ true = sym (first-append (s ∷ []) xs ys) ∙ h in
    let early : parents_first_after (s ∷ []) xs ≡ true = and-left (parents_first_after (s ∷ []) xs) (parents_first_after (s ∷ xs) ys) both in
    let move : (k : ℕ) → list_any (is_section k) (s ∷ xs) ≡ true → list_any (is_section k) (xs ++ s ∷ []) ≡ true =
    λ k e. any-seam (is_section k) xs s [] ∙ (ap (λ (ts : List Section). is_section k s || list_any (is_section k) ts) (append-nil xs) ∙ e) in
    let late : parents_first_after (xs ++ s ∷ []) ys ≡ true =
    first-more (s ∷ xs) (xs ++ s ∷ []) move ys (and-right (parents_first_after (s ∷ []) xs) (parents_first_after (s ∷ xs) ys) both) in
    let alone : list_any (is_section s.id) xs ≡ false = none-left (is_section s.id) xs ys apart in
    first-append [] xs (s ∷ ys)
    ∙ (ap (λ b. parents_first_after [] xs && (stands_after xs s.parent && b)) late
    ∙ elim (has_branches s.id xs)
    as (λ b. has_branches s.id xs ≡ b → (parents_first_after [] xs && (stands_after xs s.parent && true)) ≡ (stands_after xs s.parent && not b)) [
      | true ↦ λ e. ap (λ x. x && (stands_after xs s.parent && true)) (first-lost s.id [] xs refl alone e) ∙ sym (and-false (stands_after xs s.parent))
      | false ↦ λ e. ap (λ x. x && (stands_after xs s.parent && true)) (first-fewer s [] xs e early)
    ]
    refl)

-- what stands before an index among the others, with the section itself where it is between
pub seen-before : (t : Section → Bool) (front : List Section) (s : Section) (back : List Section) (index : ℕ) → t s ≡ false → list_any t (take (if nat_lt (length front) index then index + 1 else index) (front ++ s ∷ back)) ≡ list_any t (take index (front ++ back))
seen-before t front s back index other =
    elim (nat_lt (length front) index)
    as (λ b. nat_lt (length front) index ≡ b → list_any t (take (if b then index + 1 else index) (front ++ s ∷ back)) ≡ list_any t (take index (front ++ back))) [
      | true ↦ λ e.
          let below : length front < index = ltb-true (length front) index e in
          let m : ℕ = index - length front - 1 in
          let long : index + 1 ≡ length front + suc (suc m) = omega (arith, below) in
          let short : index ≡ length front + suc m = omega (arith, below) in
          let left : take (index + 1) (front ++ s ∷ back) ≡ front ++ s ∷ take (suc m) back = ap (λ k. take k (front ++ s ∷ back)) long ∙ take-append-add front (s ∷ back) (suc (suc m)) in
          let right : take index (front ++ back) ≡ front ++ take (suc m) back = ap (λ k. take k (front ++ back)) short ∙ take-append-add front back (suc m) in
          ap (list_any t) left ∙ (any-seam t front s (take (suc m) back) ∙ (ap (λ x. x || list_any t (front ++ take (suc m) back)) other ∙ ap (list_any t) (sym right)))
      | false ↦ λ e.
          let within : index ≤ length front = ltb-false (length front) index e in
          ap (list_any t) (take-append-le index front (s ∷ back) within ∙ sym (take-append-le index front back within))
    ]
    refl

-- each parent is told by a test
among-stands : (before : List Section) (o : Option ℕ) → IsParentAmong before o → stands_after before o ≡ true
among-stands before None h = refl
among-stands before (Some k) (s, (here, (same, main))) =
    let there : is_section k (get_or before here.0 s) ≡ true = ap (is_section k) here.2 ∙ eq-eqb s.id k same in
    list_any_at (is_section k) before here.0 s here.1 there

pub stand-first : (before ss : List Section) → ParentsStand before ss → parents_first_after before ss ≡ true
stand-first before [] h = refl
stand-first before (s ∷ ss) h =
    and-both (stands_after before s.parent) (parents_first_after (before ++ s ∷ []) ss) (among-stands before s.parent h.0) (stand-first (before ++ s ∷ []) ss h.1)

-- the section at a place, at an index among the others
none-own : (s : Section) (front : List Section) (o : Option ℕ) → list_any (is_section s.id) front ≡ false → stands_after front o ≡ true → is_that s.id o ≡ false
none-own s front None apart h = refl
none-own s front (Some k) apart h =
    false-from (k == s.id) (λ e. let there : list_any (is_section s.id) front ≡ true = ap (λ i. list_any (is_section i) front) (sym (eqb-true k s.id e)) ∙ h in cc)

stands-seen : (front : List Section) (s : Section) (back : List Section) (index : ℕ) (o : Option ℕ) → is_that s.id o ≡ false → stands_after (take (if nat_lt (length front) index then index + 1 else index) (front ++ s ∷ back)) o ≡ stands_after (take index (front ++ back)) o
stands-seen front s back index None own = refl
stands-seen front s back index (Some k) own = seen-before (is_section k) front s back index (eqb-flip k s.id own)

may-stand-seam : (front : List Section) (s : Section) (back : List Section) (index : ℕ) → AreDistinct (map section_number (front ++ s ∷ back)) → list_any (is_section s.id) front ≡ false → list_any (is_section s.id) back ≡ false → parents_first (front ++ s ∷ back) ≡ true → (stands_after (take (if nat_lt (length front) index then index + 1 else index) (front ++ s ∷ back)) s.parent && not (has_branches s.id (take (if nat_lt (length front) index then index + 1 else index) (front ++ s ∷ back)))) ≡ parents_first (insert (front ++ back) index s)
may-stand-seam front s back index apart early late h =
    let xs : List Section = take index (front ++ back) in
    let ys : List Section = drop index (front ++ back) in
    let whole : xs ++ ys ≡ front ++ back = take-append-drop index (front ++ back) in
    let both : (parents_first_after [] front && (stands_after front s.parent && parents_first_after (front ++ s ∷ []) back)) ≡ true = sym (first-append [] front (s ∷ back)) ∙ h in
    let stands : stands_after front s.parent ≡ true =
    and-left (stands_after front s.parent) (parents_first_after (front ++ s ∷ []) back) (and-right (parents_first_after [] front) (stands_after front s.parent && parents_first_after (front ++ s ∷ []) back) both) in
    let own : is_that s.id s.parent ≡ false = none-own s front s.parent early stands in
    let alone : list_any (is_section s.id) (xs ++ ys) ≡ false = ap (list_any (is_section s.id)) whole ∙ none-join (is_section s.id) front back early late in
    let others : parents_first_after (s ∷ []) (xs ++ ys) ≡ true = ap (parents_first_after (s ∷ [])) whole ∙ others-first front s back h in
    ap (λ x. x && not (has_branches s.id (take (if nat_lt (length front) index then index + 1 else index) (front ++ s ∷ back)))) (stands-seen front s back index s.parent own)
    ∙ (ap (λ x. stands_after xs s.parent && not x) (seen-before (branches_from s.id) front s back index own) ∙ sym (put-first xs s ys alone others))

pub may-stand : (ss : List Section) (at index : ℕ) (s : Section) → at < length ss → s ≡ get_or ss at s → AreOrdered ss → (stands_after (take (if nat_lt at index then index + 1 else index) ss) s.parent && not (has_branches s.id (take (if nat_lt at index then index + 1 else index) ss))) ≡ parents_first (insert (remove ss at) index s)
may-stand ss at index s within there h =
    let front : List Section = take at ss in
    let back : List Section = drop (at + 1) ss in
    let parts : ss ≡ front ++ s ∷ back = cut_here ss at s within there in
    let place : length front ≡ at = length-take-le at ss (omega arith) in
    let apart : AreDistinct (map section_number (front ++ s ∷ back)) = subst (λ (ts : List Section). AreDistinct (map section_number ts)) parts h.numbers in
    let early : list_any (is_section s.id) front ≡ false = none-before front back s apart in
    let late : list_any (is_section s.id) back ≡ false = none-after front back s s.id refl apart in
    let first : parents_first (front ++ s ∷ back) ≡ true = ap parents_first (sym parts) ∙ stand-first [] ss h.parents in
    let left : remove ss at ≡ front ++ back = ap (λ (ts : List Section). remove ts at) parts ∙ (ap (λ i. remove (front ++ s ∷ back) i) (sym place) ∙ remove-seam front s back) in
    ap (λ (ts : List Section). stands_after (take (if nat_lt at index then index + 1 else index) ts) s.parent && not (has_branches s.id (take (if nat_lt at index then index + 1 else index) ts))) parts
    ∙ (ap (λ (i : ℕ). stands_after (take (if nat_lt i index then index + 1 else index) (front ++ s ∷ back)) s.parent && not (has_branches s.id (take (if nat_lt i index then index + 1 else index) (front ++ s ∷ back)))) (sym place)
    ∙ (may-stand-seam front s back index apart early late first ∙ ap (λ (ts : List Section). parents_first (insert ts index s)) (sym left)))

-- the same as the code finds it
pub may-stands : (ss : List Section) (at index end : ℕ) (x : Section) (branches : Bool) → at < length ss → x ≡ get_or ss at x → AreOrdered ss → end ≡ (if nat_lt at index then index + 1 else index) → stands_after (take end ss) x.parent ≡ true → branches ≡ has_branches x.id (take end ss) → (s : Section) → slice_get ss at ≡ Some s → not branches ≡ parents_first (insert (remove ss at) index s)
may-stands ss at index end x branches within there h cut stands has s got =
    let same : s ≡ x = sym (get_or_from_slice_get ss at s x got) ∙ sym there in
    ap not has
    ∙ (sym (ap (λ b. b && not (has_branches x.id (take end ss))) stands)
    ∙ (ap (λ (e : ℕ). stands_after (take e ss) x.parent && not (has_branches x.id (take e ss))) cut
    ∙ (may-stand ss at index x within there h ∙ ap (λ (t : Section). parents_first (insert (remove ss at) index t)) (sym same))))

pub may-not : (ss : List Section) (at index end : ℕ) (x : Section) (stands : Bool) → at < length ss → x ≡ get_or ss at x → AreOrdered ss → end ≡ (if nat_lt at index then index + 1 else index) → stands ≡ stands_after (take end ss) x.parent → stands ≡ false → (s : Section) → slice_get ss at ≡ Some s → stands ≡ parents_first (insert (remove ss at) index s)
may-not ss at index end x stands within there h cut is lost s got =
    let same : s ≡ x = sym (get_or_from_slice_get ss at s x got) ∙ sym there in
    lost
    ∙ (sym (ap (λ b. b && not (has_branches x.id (take end ss))) (sym is ∙ lost))
    ∙ (ap (λ (e : ℕ). stands_after (take e ss) x.parent && not (has_branches x.id (take e ss))) cut
    ∙ (may-stand ss at index x within there h ∙ ap (λ (t : Section). parents_first (insert (remove ss at) index t)) (sym same))))
