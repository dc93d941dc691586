-- A section's place, and what changes of the sections are by it.
use Rattle.std.proofs.Common.{◌≡◌, ℕ, ◌+◌, ◌<◌, true, false, List, [], ◌∷◌, ◌++◌, Some, None, length, take, drop, get_or, map, refl, sym, ap, ◌∙◌, arith, subst, eq-eqb, eqb-true, suc, length-append}
use Rattle.std.specs.Prelude.{◌==◌, ◌||◌, not, if◌then◌else◌, Contains, find, slice_get, slice_set, remove}
use Rattle.std.specs.List.{list_any}
use Rattle.std.proofs.lemmas.List.{length-take-le}
use Rattle.std.proofs.lemmas.List.Folds.{list_any_more}
use Rattle.std.proofs.lemmas.Option.{get_or_from_slice_get, slice_get_read}
use Rattle.std.proofs.Math.Seq.{set-append_seam, get_or-append_seam}
use Rattle.notebook.specs.declared.parts.Section.{Section}
use Rattle.notebook.specs.Flow.{is_section}
use Rattle.notebook.specs.Rules.{AreDistinct, section_number}
use Rattle.notebook.specs.Places.{IsSectionAt}
use Rattle.notebook.specs.Change.{lacks, with_section, but_section, cells_in}
use Rattle.notebook.proofs.Finding.{cut_here}

-- where the number stands at none of the sections, none has it
pub none-numbered : (id : ℕ) (ss : List Section) → (¬ Contains (map section_number ss) id) → list_any (is_section id) ss ≡ false
none-numbered id [] h = refl
none-numbered id (s ∷ ss) h =
    let rest : list_any (is_section id) ss ≡ false = none-numbered id ss (λ (k, within, at). h (suc k, omega (arith, within), at)) in
    elim (s.id == id)
    as (λ b. (s.id == id) ≡ b → (b || list_any (is_section id) ss) ≡ false)
    [ true ↦ λ same. absurd (h (0, omega arith, eqb-true s.id id same)) | false ↦ λ other. rest ]
    refl

-- of sections with numbers of their own, none after one of them has its number
pub none-after : (front back : List Section) (s : Section) (id : ℕ) → s.id ≡ id → AreDistinct (map section_number (front ++ s ∷ back)) → list_any (is_section id) back ≡ false
none-after [] back s id same h = none-numbered id back (subst (λ (k : ℕ). ¬ Contains (map section_number back) k) same h.0)
none-after (t ∷ front) back s id same h = none-after front back s id same h.1

pub has-seam : (id : ℕ) (front : List Section) (s : Section) (back : List Section) → s.id ≡ id → list_any (is_section id) (front ++ s ∷ back) ≡ true
has-seam id [] s back same = let here : (s.id == id) ≡ true = eq-eqb s.id id same in rw here refl
has-seam id (t ∷ front) s back same =
    elim (t.id == id) as (λ b. (b || list_any (is_section id) (front ++ s ∷ back)) ≡ true) [ true ↦ refl | false ↦ has-seam id front s back same ]

-- and none before it
pub none-before : (front back : List Section) (s : Section) → AreDistinct (map section_number (front ++ s ∷ back)) → list_any (is_section s.id) front ≡ false
none-before [] back s h = refl
none-before (t ∷ front) back s h =
    let rest : list_any (is_section s.id) front ≡ false = none-before front back s h.1 in
    let later : list_any (is_section t.id) (front ++ s ∷ back) ≡ false = none-numbered t.id (front ++ s ∷ back) h.0 in
    elim (t.id == s.id)
    as (λ b. (t.id == s.id) ≡ b → (b || list_any (is_section s.id) front) ≡ false) [
      | true ↦ λ e. let there : list_any (is_section t.id) (front ++ s ∷ back) ≡ true = has-seam t.id front s back (sym (eqb-true t.id s.id e)) in absurd (cc there)
      | false ↦ λ e. rest
    ]
    refl

-- one section more without the number
pub none-more : (id : ℕ) (ss : List Section) (i : ℕ) (s : Section) → i < length ss → s ≡ get_or ss i s → list_any (is_section id) (take i ss) ≡ false → (s.id == id) ≡ false → list_any (is_section id) (take (i + 1) ss) ≡ false
none-more id ss i s within at before other =
    let one : (get_or ss i s).id == id ≡ false = ap (λ (t : Section). t.id == id) (sym at) ∙ other in
    list_any_more (is_section id) ss i s within ∙ rw (before, one) refl

-- the section at a place, where no earlier one has its number
pub spot_at : (ss : List Section) (id i : ℕ) (s : Section) → i < length ss → s ≡ get_or ss i s → list_any (is_section id) (take i ss) ≡ false → s.id ≡ id → IsSectionAt ss id i
spot_at ss id i s within at before same = record {
  front = take i ss;
  home = s;
  back = drop (i + 1) ss;
  parts = cut_here ss i s within at;
  number = same;
  place = sym (length-take-le i ss (omega arith));
  first = before;
}

-- sections without the number
pub with_section-none : (id : ℕ) (f : Section → Section) (ss : List Section) → list_any (is_section id) ss ≡ false → with_section id f ss ≡ ss
with_section-none id f [] h = refl
with_section-none id f (s ∷ ss) h =
    elim (s.id == id)
    as (λ b. (b || list_any (is_section id) ss) ≡ false → ((if b then f s else s) ∷ with_section id f ss) ≡ s ∷ ss)
    [ true ↦ λ e. absurd (cc e) | false ↦ λ e. ap (λ ts. s ∷ ts) (with_section-none id f ss e) ]
    h

pub but_section-none : (id : ℕ) (ss : List Section) → list_any (is_section id) ss ≡ false → but_section id ss ≡ ss
but_section-none id [] h = refl
but_section-none id (s ∷ ss) h =
    elim (s.id == id)
    as (λ b. (b || list_any (is_section id) ss) ≡ false → (if b then but_section id ss else s ∷ but_section id ss) ≡ s ∷ ss)
    [ true ↦ λ e. absurd (cc e) | false ↦ λ e. ap (λ ts. s ∷ ts) (but_section-none id ss e) ]
    h

-- sections round one of the number
pub with_section-seam : (id : ℕ) (f : Section → Section) (front : List Section) (s : Section) (back : List Section) → s.id ≡ id → list_any (is_section id) front ≡ false → list_any (is_section id) back ≡ false → with_section id f (front ++ s ∷ back) ≡ front ++ f s ∷ back
with_section-seam id f [] s back same h after =
    let here : (s.id == id) ≡ true = eq-eqb s.id id same in
    let rest : with_section id f back ≡ back = with_section-none id f back after in
    rw (here, rest) refl
with_section-seam id f (t ∷ front) s back same h after =
    elim (t.id == id)
    as (λ b. (b || list_any (is_section id) front) ≡ false → ((if b then f t else t) ∷ with_section id f (front ++ s ∷ back)) ≡ t ∷ (front ++ f s ∷ back))
    [ true ↦ λ e. absurd (cc e) | false ↦ λ e. ap (λ ts. t ∷ ts) (with_section-seam id f front s back same e after) ]
    h

pub but_section-seam : (id : ℕ) (front : List Section) (s : Section) (back : List Section) → s.id ≡ id → list_any (is_section id) front ≡ false → list_any (is_section id) back ≡ false → but_section id (front ++ s ∷ back) ≡ front ++ back
but_section-seam id [] s back same h after =
    let here : (s.id == id) ≡ true = eq-eqb s.id id same in
    let rest : but_section id back ≡ back = but_section-none id back after in
    rw (here, rest) refl
but_section-seam id (t ∷ front) s back same h after =
    elim (t.id == id)
    as (λ b. (b || list_any (is_section id) front) ≡ false → (if b then but_section id (front ++ s ∷ back) else t ∷ but_section id (front ++ s ∷ back)) ≡ t ∷ (front ++ back))
    [ true ↦ λ e. absurd (cc e) | false ↦ λ e. ap (λ ts. t ∷ ts) (but_section-seam id front s back same e after) ]
    h

pub cells_in-seam : (id : ℕ) (front : List Section) (s : Section) (back : List Section) → s.id ≡ id → list_any (is_section id) front ≡ false → cells_in id (front ++ s ∷ back) ≡ s.cells
cells_in-seam id [] s back same h = let here : (s.id == id) ≡ true = eq-eqb s.id id same in rw here refl
cells_in-seam id (t ∷ front) s back same h =
    elim (t.id == id)
    as (λ b. (b || list_any (is_section id) front) ≡ false → (if b then t.cells else cells_in id (front ++ s ∷ back)) ≡ s.cells)
    [ true ↦ λ e. absurd (cc e) | false ↦ λ e. cells_in-seam id front s back same e ]
    h

pub find-seam : (id : ℕ) (front : List Section) (s : Section) (back : List Section) → s.id ≡ id → list_any (is_section id) front ≡ false → find (is_section id) (front ++ s ∷ back) ≡ Some s
find-seam id [] s back same h = let here : (s.id == id) ≡ true = eq-eqb s.id id same in rw here refl
find-seam id (t ∷ front) s back same h =
    elim (t.id == id)
    as (λ b. (b || list_any (is_section id) front) ≡ false → (if b then Some t else find (is_section id) (front ++ s ∷ back)) ≡ Some s)
    [ true ↦ λ e. absurd (cc e) | false ↦ λ e. find-seam id front s back same e ]
    h

pub find-none : (id : ℕ) (ss : List Section) → list_any (is_section id) ss ≡ false → find (is_section id) ss ≡ None
find-none id [] h = refl
find-none id (t ∷ ss) h =
    elim (t.id == id)
    as (λ b. (b || list_any (is_section id) ss) ≡ false → (if b then Some t else find (is_section id) ss) ≡ None)
    [ true ↦ λ e. absurd (cc e) | false ↦ λ e. find-none id ss e ]
    h

pub remove-seam : {X : Type 0} (front : List X) (x : X) (back : List X) → remove (front ++ x ∷ back) (length front) ≡ front ++ back
remove-seam [] x back = refl
remove-seam (y ∷ front) x back = ap (λ zs. y ∷ zs) (remove-seam front x back)

-- the same by a place
pub spot-within : (ss : List Section) (id at : ℕ) → IsSectionAt ss id at → at < length ss
spot-within ss id at p = rw (p.parts, p.place, length-append) (omega arith)

pub spot-after : (ss : List Section) (id at : ℕ) (p : IsSectionAt ss id at) → AreDistinct (map section_number ss) → list_any (is_section id) p.back ≡ false
spot-after ss id at p apart = none-after p.front p.back p.home id p.number (subst (λ (ts : List Section). AreDistinct (map section_number ts)) p.parts apart)

pub spot-home : (ss : List Section) (id at : ℕ) (p : IsSectionAt ss id at) (s : Section) → slice_get ss at ≡ Some s → s ≡ p.home
spot-home ss id at p s there =
    let here : get_or ss at s ≡ p.home = rw (p.parts, p.place) (get_or-append_seam p.front p.home p.back s) in
    sym (get_or_from_slice_get ss at s s there) ∙ here

pub spot-there : (ss : List Section) (id at : ℕ) (p : IsSectionAt ss id at) → slice_get ss at ≡ Some p.home
spot-there ss id at p =
    let here : get_or ss at p.home ≡ p.home = rw (p.parts, p.place) (get_or-append_seam p.front p.home p.back p.home) in
    slice_get_read ss (length ss) at p.home refl (spot-within ss id at p) (sym here)

pub spot-lacks : (ss : List Section) (id at : ℕ) → IsSectionAt ss id at → lacks id ss ≡ false
spot-lacks ss id at p =
    ap (λ (ts : List Section). not (list_any (is_section id) ts)) p.parts ∙ ap not (has-seam id p.front p.home p.back p.number)

pub spot-cells : (ss : List Section) (id at : ℕ) (p : IsSectionAt ss id at) → cells_in id ss ≡ p.home.cells
spot-cells ss id at p = ap (cells_in id) p.parts ∙ cells_in-seam id p.front p.home p.back p.number p.first

pub spot-find : (ss : List Section) (id at : ℕ) (p : IsSectionAt ss id at) → find (is_section id) ss ≡ Some p.home
spot-find ss id at p = ap (find (is_section id)) p.parts ∙ find-seam id p.front p.home p.back p.number p.first

pub spot-with : (ss : List Section) (id at : ℕ) (f : Section → Section) (p : IsSectionAt ss id at) → AreDistinct (map section_number ss) → with_section id f ss ≡ p.front ++ f p.home ∷ p.back
spot-with ss id at f p apart =
    ap (with_section id f) p.parts ∙ with_section-seam id f p.front p.home p.back p.number p.first (spot-after ss id at p apart)

pub spot-but : (ss : List Section) (id at : ℕ) (p : IsSectionAt ss id at) → AreDistinct (map section_number ss) → but_section id ss ≡ p.front ++ p.back
spot-but ss id at p apart =
    ap (but_section id) p.parts ∙ but_section-seam id p.front p.home p.back p.number p.first (spot-after ss id at p apart)

pub spot-set : (ss : List Section) (id at : ℕ) (t : Section) (p : IsSectionAt ss id at) → slice_set ss at t ≡ p.front ++ t ∷ p.back
spot-set ss id at t p =
    ap (λ (ts : List Section). slice_set ts at t) p.parts
    ∙ (ap (λ (i : ℕ). slice_set (p.front ++ p.home ∷ p.back) i t) p.place ∙ set-append_seam p.front p.home p.back t)

pub spot-remove : (ss : List Section) (id at : ℕ) (p : IsSectionAt ss id at) → remove ss at ≡ p.front ++ p.back
spot-remove ss id at p =
    ap (λ (ts : List Section). remove ts at) p.parts
    ∙ (ap (λ (i : ℕ). remove (p.front ++ p.home ∷ p.back) i) p.place ∙ remove-seam p.front p.home p.back)

-- the section at the place changed is the section of the number changed
pub set-with : (ss : List Section) (id at : ℕ) (f : Section → Section) (s : Section) → IsSectionAt ss id at → AreDistinct (map section_number ss) → slice_get ss at ≡ Some s → slice_set ss at (f s) ≡ with_section id f ss
set-with ss id at f s p apart there =
    ap (λ t. slice_set ss at (f t)) (spot-home ss id at p s there) ∙ (spot-set ss id at (f p.home) p ∙ sym (spot-with ss id at f p apart))

-- taken out at the place is taken out by the number
pub remove-but : (ss : List Section) (id at : ℕ) → IsSectionAt ss id at → AreDistinct (map section_number ss) → remove ss at ≡ but_section id ss
remove-but ss id at p apart = spot-remove ss id at p ∙ sym (spot-but ss id at p apart)
