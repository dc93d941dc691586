-- What giving a section a parent makes, by the places of both.
use Rattle.std.proofs.Common.{◌≡◌, ℕ, ◌+◌, ◌-◌, ◌<◌, ◌≤◌, true, false, List, [], ◌∷◌, ◌++◌, Option, Some, None, length, take, drop, get_or, map, refl, sym, ap, ◌∙◌, arith, eq-eqb, suc}
use Rattle.std.specs.Prelude.{◌&&◌, ◌||◌, not, is_none, is_some, if◌then◌else◌, slice_get, slice_set}
use Rattle.std.specs.List.{list_any}
use Rattle.std.proofs.lemmas.List.{take-append-drop, take-append-le}
use Rattle.std.proofs.lemmas.List.Folds.{list_any-append}
use Rattle.std.proofs.Math.Seq.{take-append-add, take-append_seam}
use Rattle.notebook.specs.declared.parts.Section.{Section}
use Rattle.notebook.specs.declared.parts.Parts.{Parts}
use Rattle.notebook.specs.declared.change.Changed.TheVariants.{Plain}
use Rattle.notebook.specs.declared.change.NoteError.TheVariants.{NoSection, BadParent, HasBranches}
use Rattle.notebook.specs.Flow.{is_section, is_main}
use Rattle.notebook.specs.Places.{IsSectionAt}
use Rattle.notebook.specs.Rules.{IsNotebook, AreDistinct, section_number}
use Rattle.notebook.specs.Change.{Makes, Fails, lacks, with_section, branching, has_branches, is_branch_numbered, is_branch, stands_after, parents_first_after, parents_first, set_parent}
use Rattle.notebook.proofs.Conditions.{and-left, and-right, and-true, or-right, or-none, or-false, none-left, none-join, any-seam}
use Rattle.notebook.proofs.Spots.{spot-lacks, spot-with, spot-after, set-with, has-seam}
use Rattle.notebook.proofs.Orders.{first-append, first-more, stand-first}
use Rattle.notebook.proofs.Making.{read-home}

-- whether there is a parent
some-not : (o : Option ℕ) → is_some o ≡ true → not (is_none o) ≡ true
some-not None h = absurd (cc h)
some-not (Some k) h = refl

none-not : (o : Option ℕ) → is_some o ≡ false → not (is_none o) ≡ false
none-not None h = refl
none-not (Some k) h = absurd (cc h)

-- a section that may stand before another one
front-take : (ss : List Section) (id at : ℕ) (p : IsSectionAt ss id at) → p.front ≡ take at ss
front-take ss id at p =
    sym (ap (λ (ts : List Section). take at ts) p.parts ∙ (ap (λ k. take k (p.front ++ p.home ∷ p.back)) p.place ∙ take-append_seam p.front (p.home ∷ p.back)))

seen-early : (ss : List Section) (id at limit : ℕ) → IsSectionAt ss id at → at < limit → list_any (is_section id) (take limit ss) ≡ true
seen-early ss id at limit p below =
    let m : ℕ = limit - length p.front - 1 in
    let place : at ≡ length p.front = p.place in
    let long : limit ≡ length p.front + suc m = omega (arith, below, place) in
    let cut : take limit ss ≡ p.front ++ p.home ∷ take m p.back =
    ap (take limit) p.parts ∙ (ap (λ k. take k (p.front ++ p.home ∷ p.back)) long ∙ take-append-add p.front (p.home ∷ p.back) (suc m)) in
    ap (list_any (is_section id)) cut ∙ has-seam id p.front p.home (take m p.back) p.number

seen-late : (ss : List Section) (id at limit : ℕ) → IsSectionAt ss id at → limit ≤ at → list_any (is_section id) (take limit ss) ≡ false
seen-late ss id at limit p above =
    let place : at ≡ length p.front = p.place in
    let within : limit ≤ length p.front = omega (arith, above, place) in
    let cut : take limit ss ≡ take limit p.front = ap (take limit) p.parts ∙ take-append-le limit p.front (p.home ∷ p.back) within in
    ap (list_any (is_section id)) cut
    ∙ none-left (is_section id) (take limit p.front) (drop limit p.front) (ap (list_any (is_section id)) (take-append-drop limit p.front) ∙ p.first)

-- the section branching from another: the parents stand first where that one stands before
pub branch-seam : (front : List Section) (s : Section) (back : List Section) (parent : ℕ) → parents_first (front ++ s ∷ back) ≡ true → parents_first (front ++ branching (Some parent) s ∷ back) ≡ list_any (is_section parent) front
branch-seam front s back parent h =
    let b : Section = branching (Some parent) s in
    let both : (parents_first_after [] front && (stands_after front s.parent && parents_first_after (front ++ s ∷ []) back)) ≡ true = sym (first-append [] front (s ∷ back)) ∙ h in
    let early : parents_first_after [] front ≡ true = and-left (parents_first_after [] front) (stands_after front s.parent && parents_first_after (front ++ s ∷ []) back) both in
    let rest : parents_first_after (front ++ s ∷ []) back ≡ true =
    and-right (stands_after front s.parent) (parents_first_after (front ++ s ∷ []) back) (and-right (parents_first_after [] front) (stands_after front s.parent && parents_first_after (front ++ s ∷ []) back) both) in
    let same : (k : ℕ) → list_any (is_section k) (front ++ s ∷ []) ≡ true → list_any (is_section k) (front ++ b ∷ []) ≡ true =
    λ k e. list_any-append (is_section k) front (b ∷ []) ∙ (sym (list_any-append (is_section k) front (s ∷ [])) ∙ e) in
    let late : parents_first_after (front ++ b ∷ []) back ≡ true = first-more (front ++ s ∷ []) (front ++ b ∷ []) same back rest in
    first-append [] front (b ∷ back)
    ∙ (ap (λ x. x && (list_any (is_section parent) front && parents_first_after (front ++ b ∷ []) back)) early
    ∙ (ap (λ x. list_any (is_section parent) front && x) late ∙ and-true (list_any (is_section parent) front)))

-- whether the parent is a branch
pub not-numbered : (k : ℕ) (ss : List Section) → list_any (is_section k) ss ≡ false → list_any (is_branch_numbered k) ss ≡ false
not-numbered k [] h = refl
not-numbered k (s ∷ ss) h =
    elim (is_section k s)
    as (λ b. (b || list_any (is_section k) ss) ≡ false → ((b && not (is_main s)) || list_any (is_branch_numbered k) ss) ≡ false)
    [ true ↦ λ e. absurd (cc e) | false ↦ λ e. not-numbered k ss e ]
    h

pub home-branch : (ss : List Section) (id at : ℕ) (p : IsSectionAt ss id at) → AreDistinct (map section_number ss) → is_branch id ss ≡ not (is_main p.home)
home-branch ss id at p apart =
    let here : is_section id p.home ≡ true = eq-eqb p.home.id id p.number in
    let others : list_any (is_branch_numbered id) (p.front ++ p.back) ≡ false = not-numbered id (p.front ++ p.back) (none-join (is_section id) p.front p.back p.first (spot-after ss id at p apart)) in
    ap (is_branch id) p.parts
    ∙ (any-seam (is_branch_numbered id) p.front p.home p.back
    ∙ (ap (λ x. (x && not (is_main p.home)) || list_any (is_branch_numbered id) (p.front ++ p.back)) here
    ∙ (ap (λ x. not (is_main p.home) || x) others ∙ or-false (not (is_main p.home)))))

-- the test of the definition, told by the places
first-told : (n : Parts) (section parent at : ℕ) → IsNotebook n → IsSectionAt n.sections section at → parents_first (with_section section (branching (Some parent)) n.sections) ≡ list_any (is_section parent) (take at n.sections)
first-told n section parent at h p =
    let first : parents_first (p.front ++ p.home ∷ p.back) ≡ true = ap parents_first (sym p.parts) ∙ stand-first [] n.sections h.parents in
    ap parents_first (spot-with n.sections section at (branching (Some parent)) p h.section_numbers.1)
    ∙ (branch-seam p.front p.home p.back parent first ∙ ap (list_any (is_section parent)) (front-take n.sections section at p))

pub no-section-parent : (n : Parts) (section parent : ℕ) → lacks section n.sections ≡ true → set_parent n section (Some parent) ≡ Fails NoSection
no-section-parent n section parent none = rw none refl

pub no-parent-section : (n : Parts) (section parent : ℕ) → lacks parent n.sections ≡ true → set_parent n section (Some parent) ≡ Fails NoSection
no-parent-section n section parent none =
    let both : (lacks section n.sections || lacks parent n.sections) ≡ true = or-right (lacks section n.sections) (lacks parent n.sections) none in
    rw both refl

there-both : (n : Parts) (section parent at from : ℕ) → IsSectionAt n.sections section at → IsSectionAt n.sections parent from → (lacks section n.sections || lacks parent n.sections) ≡ false
there-both n section parent at from p q = or-none (lacks section n.sections) (lacks parent n.sections) (spot-lacks n.sections section at p) (spot-lacks n.sections parent from q)

pub later-parent : (n : Parts) (section parent at from : ℕ) → IsNotebook n → IsSectionAt n.sections section at → IsSectionAt n.sections parent from → at ≤ from → set_parent n section (Some parent) ≡ Fails BadParent
later-parent n section parent at from h p q late =
    let there : (lacks section n.sections || lacks parent n.sections) ≡ false = there-both n section parent at from p q in
    let first : parents_first (with_section section (branching (Some parent)) n.sections) ≡ false = first-told n section parent at h p ∙ seen-late n.sections parent from at q late in
    rw (there, first) refl

pub branch-parent : (n : Parts) (section parent at from : ℕ) (x : Section) → IsNotebook n → IsSectionAt n.sections section at → IsSectionAt n.sections parent from → x ≡ get_or n.sections from x → is_some x.parent ≡ true → set_parent n section (Some parent) ≡ Fails BadParent
branch-parent n section parent at from x h p q read branches =
    let there : (lacks section n.sections || lacks parent n.sections) ≡ false = there-both n section parent at from p q in
    let nested : is_branch parent n.sections ≡ true =
    home-branch n.sections parent from q h.section_numbers.1
    ∙ (ap (λ (s : Section). not (is_main s)) (sym (read-home n.sections parent from x q read)) ∙ some-not x.parent branches) in
    let bad : (not (parents_first (with_section section (branching (Some parent)) n.sections)) || is_branch parent n.sections) ≡ true =
    or-right (not (parents_first (with_section section (branching (Some parent)) n.sections))) (is_branch parent n.sections) nested in
    rw (there, bad) refl

good-parent : (n : Parts) (section parent at from : ℕ) (x : Section) → IsNotebook n → IsSectionAt n.sections section at → IsSectionAt n.sections parent from → from < at → x ≡ get_or n.sections from x → is_some x.parent ≡ false → (not (parents_first (with_section section (branching (Some parent)) n.sections)) || is_branch parent n.sections) ≡ false
good-parent n section parent at from x h p q early read main =
    let nested : is_branch parent n.sections ≡ false =
    home-branch n.sections parent from q h.section_numbers.1
    ∙ (ap (λ (s : Section). not (is_main s)) (sym (read-home n.sections parent from x q read)) ∙ none-not x.parent main) in
    let first : parents_first (with_section section (branching (Some parent)) n.sections) ≡ true = first-told n section parent at h p ∙ seen-early n.sections parent from at q early in
    or-none (not (parents_first (with_section section (branching (Some parent)) n.sections))) (is_branch parent n.sections) (ap not first) nested

pub parent-of-branches : (n : Parts) (section parent at from : ℕ) (x : Section) → IsNotebook n → IsSectionAt n.sections section at → IsSectionAt n.sections parent from → from < at → x ≡ get_or n.sections from x → is_some x.parent ≡ false → has_branches section n.sections ≡ true → set_parent n section (Some parent) ≡ Fails HasBranches
parent-of-branches n section parent at from x h p q early read main branches =
    let there : (lacks section n.sections || lacks parent n.sections) ≡ false = there-both n section parent at from p q in
    let good : (not (parents_first (with_section section (branching (Some parent)) n.sections)) || is_branch parent n.sections) ≡ false = good-parent n section parent at from x h p q early read main in
    rw (there, good, branches) refl

pub made-parent : (n : Parts) (section parent at from : ℕ) (x s : Section) → IsNotebook n → IsSectionAt n.sections section at → IsSectionAt n.sections parent from → from < at → x ≡ get_or n.sections from x → is_some x.parent ≡ false → has_branches section n.sections ≡ false → slice_get n.sections at ≡ Some s → set_parent n section (Some parent) ≡ Makes (record n { sections = slice_set n.sections at (record s { parent = Some parent }) }) Plain
made-parent n section parent at from x s h p q early read main alone here =
    let there : (lacks section n.sections || lacks parent n.sections) ≡ false = there-both n section parent at from p q in
    let good : (not (parents_first (with_section section (branching (Some parent)) n.sections)) || is_branch parent n.sections) ≡ false = good-parent n section parent at from x h p q early read main in
    let new : slice_set n.sections at (branching (Some parent) s) ≡ with_section section (branching (Some parent)) n.sections = set-with n.sections section at (branching (Some parent)) s p h.section_numbers.1 here in
    ap (λ b. if b then Fails NoSection else (if not (parents_first (with_section section (branching (Some parent)) n.sections)) || is_branch parent n.sections then Fails BadParent else (if has_branches section n.sections then Fails HasBranches else Makes (record n { sections = with_section section (branching (Some parent)) n.sections }) Plain))) there
    ∙ (ap (λ b. if b then Fails BadParent else (if has_branches section n.sections then Fails HasBranches else Makes (record n { sections = with_section section (branching (Some parent)) n.sections }) Plain)) good
    ∙ (ap (λ b. if b then Fails HasBranches else Makes (record n { sections = with_section section (branching (Some parent)) n.sections }) Plain) alone
    ∙ ap (λ (ss : List Section). Makes (record n { sections = ss }) Plain) (sym new)))
