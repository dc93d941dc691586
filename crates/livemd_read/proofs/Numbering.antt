-- The notebook of items: sections and cells are numbered from 1 in their order, and it keeps the rules.
use Rattle.std.proofs.Common.{◌≡◌, ◌⊎◌, inl, inr, ℕ, ◌+◌, ◌<◌, ◌≤◌, zero, suc, true, false, cond, List, [], ◌∷◌, ◌++◌, Option, None, Some, length, map, refl, sym, ap, ◌∙◌, arith, subst, codes, append_assoc, length-append}
use Rattle.std.specs.Prelude.{Contains, is_none}
use Rattle.std.specs.Str.{chars}
use Rattle.std.specs.List.{fold, AllByRecursion}
use Rattle.std.proofs.lemmas.List.{append-nil, map-append}
use Rattle.notebook.specs.declared.parts.Cell.{Cell}
use Rattle.notebook.specs.declared.parts.Saved.{Saved}
use Rattle.notebook.specs.declared.parts.Section.{Section}
use Rattle.notebook.specs.declared.parts.Parts.{Parts}
use Rattle.notebook.specs.declared.parts.Kind.{Kind}
use Rattle.notebook.specs.declared.parts.Kind.TheVariants as cell
use Rattle.notebook.specs.Book.{section_cells}
use Rattle.notebook.specs.Rules.{IsNotebook, cell_number, section_number, AreDistinct, IsSectionKind, IsSectionCell, IsBelow, IsParentAmong, ParentsStand, numbered_cells}
use Rattle.blanks.specs.Blanks.{is_empty}
use Rattle.livemd_format.specs.Accepts.{HasFewSections, HasFewCells}
use Rattle.livemd_format.specs.Items as item
use Rattle.livemd_format.specs.Made.{stem_at, stem_number}
use Rattle.livemd_format.specs.Walk.{Draft, add_cell, add_last_output, finished, new_draft, on_last, take_branch, take_cell, with_cell, with_item, with_output, with_section, with_some_section}
use Rattle.livemd_read.proofs.Growing.{cells-cell, cells-section, map-on_last, map-output, next_cell-some}

-- ---- numbers that count up

-- from the first one
abbrev pub AreCounted : ℕ → List ℕ → Type 0
AreCounted k [] = Unit {0}
AreCounted k (n ∷ ns) = (n ≡ k) × AreCounted (suc k) ns

AreCounted-more : (k : ℕ) (ns : List ℕ) (n : ℕ) → AreCounted k ns → n ≡ k + length ns → AreCounted k (ns ++ n ∷ [])
AreCounted-more k [] n h e = (omega arith, tt)
AreCounted-more k (m ∷ ns) n h e = (h.0, AreCounted-more (suc k) ns n h.1 (omega arith))

not_there : (k : ℕ) (ns : List ℕ) (j : ℕ) → AreCounted k ns → j < k → ¬ Contains ns j
not_there k [] j h lt (i, within, at) = absurd (omega arith)
not_there k (n ∷ ns) j h lt (zero, within, at) = absurd (omega (arith, h.0))
not_there k (n ∷ ns) j h lt (suc i, within, at) = not_there (suc k) ns j h.1 (omega arith) (i, omega arith, at)

distinct : (k : ℕ) (ns : List ℕ) → AreCounted k ns → AreDistinct ns
distinct k [] h = tt
distinct k (n ∷ ns) h = (λ there. not_there (suc k) ns n h.1 (omega (arith, h.0)) there, distinct (suc k) ns h.1)

all_below : (k : ℕ) (ns : List ℕ) (next : ℕ) → AreCounted k ns → k + length ns ≤ next → AllByRecursion (IsBelow next) ns
all_below k [] next h le = tt
all_below k (n ∷ ns) next h le = (omega (arith, h.0), all_below (suc k) ns next h.1 (omega arith))

all_more : {X : Type 0} (P : X → Type 0) (xs : List X) (x : X) → AllByRecursion P xs → P x → AllByRecursion P (xs ++ x ∷ [])
all_more P [] x h p = (p, tt)
all_more P (y ∷ xs) x h p = (h.0, all_more P xs x h.1 p)

length-map : {X Y : Type 0} (f : X → Y) (xs : List X) → length (map f xs) ≡ length xs
length-map f [] = refl
length-map f (x ∷ xs) = ap (λ n. suc n) (length-map f xs)

-- ---- sections from which others may branch

-- one of the sections has the number, and doesn't branch
abbrev pub HasStem : List Section → ℕ → Type 0
HasStem [] id = ⊥
HasStem (s ∷ ss) id = ((s.id ≡ id) × (s.parent ≡ None)) ⊎ HasStem ss id

abbrev pub MayBranch : List Section → Option ℕ → Type 0
MayBranch ss None = Unit {0}
MayBranch ss (Some id) = HasStem ss id

among : (ss : List Section) (id : ℕ) → HasStem ss id → (s : Section) × (Contains ss s × ((s.id ≡ id) × (s.parent ≡ None)))
among [] id h = absurd h
among (s ∷ ss) id (inl h) = (s, ((zero, omega arith, refl), h))
among (s ∷ ss) id (inr h) = let r = among ss id h in (r.0, ((suc r.1.0.0, omega (arith, r.1.0.1), r.1.0.2), r.1.1))

parent_among : (ss : List Section) (o : Option ℕ) → MayBranch ss o → IsParentAmong ss o
parent_among ss None h = tt
parent_among ss (Some id) h = among ss id h

-- a change of the last section that leaves its number and its parent
stem-on_last : (f : Section → Section) → ((s : Section) → (f s).id ≡ s.id) → ((s : Section) → (f s).parent ≡ s.parent) → (ss : List Section) (id : ℕ) → HasStem ss id → HasStem (on_last f ss) id
stem-on_last f i p [] id h = h
stem-on_last f i p (s ∷ []) id (inl h) = inl (i s ∙ h.0, p s ∙ h.1)
stem-on_last f i p (s ∷ []) id (inr h) = inr h
stem-on_last f i p (s ∷ t ∷ ss) id (inl h) = inl h
stem-on_last f i p (s ∷ t ∷ ss) id (inr h) = inr (stem-on_last f i p (t ∷ ss) id h)

may-on_last : (f : Section → Section) → ((s : Section) → (f s).id ≡ s.id) → ((s : Section) → (f s).parent ≡ s.parent) → (ss : List Section) (o : Option ℕ) → MayBranch ss o → MayBranch (on_last f ss) o
may-on_last f i p ss None h = tt
may-on_last f i p ss (Some id) h = stem-on_last f i p ss id h

stand-on_last : (f : Section → Section) → ((s : Section) → (f s).parent ≡ s.parent) → (before ss : List Section) → ParentsStand before ss → ParentsStand before (on_last f ss)
stand-on_last f p before [] h = tt
stand-on_last f p before (s ∷ []) h = (subst (λ (o : Option ℕ). IsParentAmong before o) (sym (p s)) h.0, tt)
stand-on_last f p before (s ∷ t ∷ ss) h = (h.0, stand-on_last f p (before ++ s ∷ []) (t ∷ ss) h.1)

-- a section more
stem-more : (ss : List Section) (s : Section) (id : ℕ) → HasStem ss id → HasStem (ss ++ s ∷ []) id
stem-more [] s id h = absurd h
stem-more (t ∷ ss) s id (inl h) = inl h
stem-more (t ∷ ss) s id (inr h) = inr (stem-more ss s id h)

may-more : (ss : List Section) (s : Section) (o : Option ℕ) → MayBranch ss o → MayBranch (ss ++ s ∷ []) o
may-more ss s None h = tt
may-more ss s (Some id) h = stem-more ss s id h

stand-more : (before ss : List Section) (s : Section) → ParentsStand before ss → IsParentAmong (before ++ ss) s.parent → ParentsStand before (ss ++ s ∷ [])
stand-more before [] s h p = (subst (λ (ts : List Section). IsParentAmong ts s.parent) (append-nil before) p, tt)
stand-more before (t ∷ ss) s h p = (h.0, stand-more (before ++ t ∷ []) ss s h.1 (subst (λ (ts : List Section). IsParentAmong ts s.parent) (sym (append_assoc before (t ∷ []) ss)) p))

-- the section that is found by its index
stem_first : (s : Section) (ss : List Section) → MayBranch (s ∷ ss) (stem_number s)
stem_first s ss = at s.parent refl where
  at : (o : Option ℕ) → s.parent ≡ o → MayBranch (s ∷ ss) (cond (is_none o) (Some s.id) None)
  at None e = inl (refl, e)
  at (Some p) e = tt

may_later : (s : Section) (ss : List Section) (o : Option ℕ) → MayBranch ss o → MayBranch (s ∷ ss) o
may_later s ss None h = tt
may_later s ss (Some id) h = inr h

may_at : (index : ℕ) (ss : List Section) → MayBranch ss (stem_at index ss)
may_at index [] = tt
may_at zero (s ∷ ss) = stem_first s ss
may_at (suc i) (s ∷ ss) = may_later s ss (stem_at i ss) (may_at i ss)

-- ---- what holds of each draft that items give

abbrev pub cell_kind : Cell → Kind
cell_kind c = c.kind

pub record IsBook (n : Parts) : Type 0 where
  pub setup_number : n.setup.id ≡ 0
  pub setup_kind : n.setup.kind ≡ cell.Setup
  pub bin : n.bin ≡ []
  pub cell_numbers : AreCounted 1 (map cell_number (section_cells n))
  pub kinds : AllByRecursion IsSectionKind (map cell_kind (section_cells n))
  pub next_cell : n.next_cell ≡ length (map cell_number (section_cells n)) + 1
  pub section_numbers : AreCounted 1 (map section_number n.sections)
  pub next_section : n.next_section ≡ length (map section_number n.sections) + 1
  pub parents : ParentsStand [] n.sections

pub record IsDraft (d : Draft) : Type 0 where
  pub book : IsBook d.parts
  pub parent : MayBranch d.parts.sections d.parent

-- a section more
IsBook-section : (n : Parts) (name : List ℕ) (before : List (List ℕ)) (parent : Option ℕ) → IsBook n → MayBranch n.sections parent → IsBook (with_section name before parent n)
IsBook-section n name before parent h may =
    let new : Section = record { id = n.next_section; name = name; before = before; parent = parent; cells = [] } in
    let cells : section_cells (with_section name before parent n) ≡ section_cells n = cells-section n name before parent in
    let numbers : map section_number (n.sections ++ new ∷ []) ≡ map section_number n.sections ++ n.next_section ∷ [] = map-append section_number n.sections (new ∷ []) in
    record {
      setup_number = h.setup_number;
      setup_kind = h.setup_kind;
      bin = h.bin;
      cell_numbers = subst (λ (cs : List Cell). AreCounted 1 (map cell_number cs)) (sym cells) h.cell_numbers;
      kinds = subst (λ (cs : List Cell). AllByRecursion IsSectionKind (map cell_kind cs)) (sym cells) h.kinds;
      next_cell = h.next_cell ∙ ap (λ (cs : List Cell). length (map cell_number cs) + 1) (sym cells);
      section_numbers = subst (λ ns. AreCounted 1 ns) (sym numbers) (AreCounted-more 1 (map section_number n.sections) n.next_section h.section_numbers (omega (arith, h.next_section)));
      next_section = (let e : n.next_section + 1 ≡ (length (map section_number n.sections) + 1) + 1 = ap (λ k. k + 1) h.next_section in e) ∙ ap (λ k. k + 1) (sym (ap length numbers ∙ length-append (map section_number n.sections) (n.next_section ∷ [])));
      parents = stand-more [] n.sections new h.parents (parent_among n.sections parent may);
    }

IsBook-some : (n : Parts) → IsBook n → IsBook (with_some_section n)
IsBook-some n h =
    elim (is_empty n.sections)
    as (λ b. IsBook (cond b (with_section (codes "Section") [] None n) n))
    [ true ↦ IsBook-section n (codes "Section") [] None h tt | false ↦ h ]

may-some : (n : Parts) (o : Option ℕ) → MayBranch n.sections o → MayBranch (with_some_section n).sections o
may-some n o h =
    elim (is_empty n.sections)
    as (λ b. MayBranch (cond b (with_section (codes "Section") [] None n) n).sections o)
    [ true ↦ may-more n.sections _ o h | false ↦ h ]

-- a cell more
IsBook-cell : (n : Parts) (kind : Kind) (source : List ℕ) (before : List (List ℕ)) → IsSectionKind kind → IsBook n → IsBook (with_cell kind source before (with_some_section n))
IsBook-cell n kind source before may h =
    let some : IsBook (with_some_section n) = IsBook-some n h in
    let c : Cell = record { id = n.next_cell; kind = kind; source = source; before = before; saved = [] } in
    let d : Cell = record c { id = (with_some_section n).next_cell } in
    let cells : section_cells (with_cell kind source before (with_some_section n)) ≡ section_cells n ++ c ∷ [] = cells-cell n kind source before in
    let numbers : map cell_number (section_cells (with_cell kind source before (with_some_section n))) ≡ map cell_number (section_cells n) ++ n.next_cell ∷ [] = ap (map cell_number) cells ∙ map-append cell_number (section_cells n) (c ∷ []) in
    let kinds : map cell_kind (section_cells (with_cell kind source before (with_some_section n))) ≡ map cell_kind (section_cells n) ++ kind ∷ [] = ap (map cell_kind) cells ∙ map-append cell_kind (section_cells n) (c ∷ []) in
    let same : map section_number (on_last (add_cell d) (with_some_section n).sections) ≡ map section_number (with_some_section n).sections = map-on_last section_number (add_cell d) (λ s. refl) (with_some_section n).sections in
    record {
      setup_number = some.setup_number;
      setup_kind = some.setup_kind;
      bin = some.bin;
      cell_numbers = subst (λ ns. AreCounted 1 ns) (sym numbers) (AreCounted-more 1 (map cell_number (section_cells n)) n.next_cell h.cell_numbers (omega (arith, h.next_cell)));
      kinds = subst (λ (ks : List Kind). AllByRecursion IsSectionKind ks) (sym kinds) (all_more IsSectionKind (map cell_kind (section_cells n)) kind h.kinds may);
      next_cell = ap (λ k. k + 1) (next_cell-some n ∙ h.next_cell) ∙ ap (λ k. k + 1) (sym (ap length numbers ∙ length-append (map cell_number (section_cells n)) (n.next_cell ∷ [])));
      section_numbers = subst (λ ns. AreCounted 1 ns) (sym same) some.section_numbers;
      next_section = some.next_section ∙ ap (λ ns. length ns + 1) (sym same);
      parents = stand-on_last (add_cell d) (λ s. refl) [] (with_some_section n).sections some.parents;
    }

-- an output more
IsBook-output : (n : Parts) (o : Saved) → IsBook n → IsBook (with_output o n)
IsBook-output n o h =
    let numbers : map cell_number (section_cells (with_output o n)) ≡ map cell_number (section_cells n) = map-output cell_number o (λ c. refl) n in
    let kinds : map cell_kind (section_cells (with_output o n)) ≡ map cell_kind (section_cells n) = map-output cell_kind o (λ c. refl) n in
    let first : Parts = record n { setup = record n.setup { saved = n.setup.saved ++ o ∷ [] } } in
    let last : Parts = record n { sections = on_last (add_last_output o) n.sections } in
    let same : map section_number (with_output o n).sections ≡ map section_number n.sections =
    elim (is_empty n.sections)
    as (λ b. map section_number (cond b first last).sections ≡ map section_number n.sections)
    [ true ↦ refl | false ↦ map-on_last section_number (add_last_output o) (λ s. refl) n.sections ] in
    record {
      setup_number = elim (is_empty n.sections) as (λ b. (cond b first last).setup.id ≡ 0) [ true ↦ h.setup_number | false ↦ h.setup_number ];
      setup_kind = elim (is_empty n.sections) as (λ b. (cond b first last).setup.kind ≡ cell.Setup) [ true ↦ h.setup_kind | false ↦ h.setup_kind ];
      bin = elim (is_empty n.sections) as (λ b. (cond b first last).bin ≡ []) [ true ↦ h.bin | false ↦ h.bin ];
      cell_numbers = subst (λ ns. AreCounted 1 ns) (sym numbers) h.cell_numbers;
      kinds = subst (λ (ks : List Kind). AllByRecursion IsSectionKind ks) (sym kinds) h.kinds;
      next_cell = (elim (is_empty n.sections) as (λ b. (cond b first last).next_cell ≡ n.next_cell) [ true ↦ refl | false ↦ refl ]) ∙ (h.next_cell ∙ ap (λ ns. length ns + 1) (sym numbers));
      section_numbers = subst (λ ns. AreCounted 1 ns) (sym same) h.section_numbers;
      next_section = (elim (is_empty n.sections) as (λ b. (cond b first last).next_section ≡ n.next_section) [ true ↦ refl | false ↦ refl ]) ∙ (h.next_section ∙ ap (λ ns. length ns + 1) (sym same));
      parents = elim (is_empty n.sections) as (λ b. ParentsStand [] (cond b first last).sections) [ true ↦ h.parents | false ↦ stand-on_last (add_last_output o) (λ s. refl) [] n.sections h.parents ];
    }

may-output : (n : Parts) (o : Saved) (p : Option ℕ) → MayBranch n.sections p → MayBranch (with_output o n).sections p
may-output n o p h =
    let first : Parts = record n { setup = record n.setup { saved = n.setup.saved ++ o ∷ [] } } in
    let last : Parts = record n { sections = on_last (add_last_output o) n.sections } in
    elim (is_empty n.sections)
    as (λ b. MayBranch (cond b first last).sections p)
    [ true ↦ h | false ↦ may-on_last (add_last_output o) (λ s. refl) (λ s. refl) n.sections p h ]

-- another name, and another setup source
IsBook-name : (n : Parts) (name : List ℕ) (before : List (List ℕ)) → IsBook n → IsBook (record n { name = name; before = before })
IsBook-name n name before h = record {
  setup_number = h.setup_number;
  setup_kind = h.setup_kind;
  bin = h.bin;
  cell_numbers = h.cell_numbers;
  kinds = h.kinds;
  next_cell = h.next_cell;
  section_numbers = h.section_numbers;
  next_section = h.next_section;
  parents = h.parents;
}

IsBook-setup : (n : Parts) (source : List ℕ) (before : List (List ℕ)) → IsBook n → IsBook (record n { setup = record n.setup { source = source; before = before } })
IsBook-setup n source before h = record {
  setup_number = h.setup_number;
  setup_kind = h.setup_kind;
  bin = h.bin;
  cell_numbers = h.cell_numbers;
  kinds = h.kinds;
  next_cell = h.next_cell;
  section_numbers = h.section_numbers;
  next_section = h.next_section;
  parents = h.parents;
}

IsBook-after : (n : Parts) (after : List (List ℕ)) → IsBook n → IsBook (record n { after = after })
IsBook-after n after h = record {
  setup_number = h.setup_number;
  setup_kind = h.setup_kind;
  bin = h.bin;
  cell_numbers = h.cell_numbers;
  kinds = h.kinds;
  next_cell = h.next_cell;
  section_numbers = h.section_numbers;
  next_section = h.next_section;
  parents = h.parents;
}

-- ---- each item

IsDraft-cell : (d : Draft) (kind : Kind) (source : List ℕ) → IsSectionKind kind → IsDraft d → IsDraft (take_cell kind source d)
IsDraft-cell d kind source may h = record {
  book = IsBook-cell d.parts kind source d.waiting may h.book;
  parent = may-on_last _ (λ s. refl) (λ s. refl) (with_some_section d.parts).sections d.parent (may-some d.parts d.parent h.parent);
}

IsDraft-branch : (d : Draft) (number : ℕ) (o : Option ℕ) → MayBranch d.parts.sections o → IsDraft d → IsDraft (take_branch number o d)
IsDraft-branch d number None may h = record { book = h.book; parent = h.parent }
IsDraft-branch d number (Some id) may h = record { book = h.book; parent = may }

IsDraft-item : (d : Draft) (i : item.Item) → IsDraft d → IsDraft (with_item d i)
IsDraft-item d (item.Name text) h = record { book = IsBook-name d.parts (chars text) d.waiting h.book; parent = h.parent }
IsDraft-item d (item.Section text) h = record { book = IsBook-section d.parts (chars text) d.waiting d.parent h.book h.parent; parent = tt }
IsDraft-item d (item.Setup source) h = record { book = IsBook-setup d.parts (chars source) d.waiting h.book; parent = h.parent }
IsDraft-item d (item.Code source) h = IsDraft-cell d cell.Code (chars source) tt h
IsDraft-item d (item.Markdown source) h = IsDraft-cell d cell.Markdown (chars source) tt h
IsDraft-item d (item.Saved info text) h = record { book = IsBook-output d.parts _ h.book; parent = may-output d.parts _ d.parent h.parent }
IsDraft-item d (item.Kept line) h = record { book = h.book; parent = h.parent }
IsDraft-item d (item.Stamp line) h = h
IsDraft-item d (item.Branch number index) h = IsDraft-branch d number (stem_at index d.parts.sections) (may_at index d.parts.sections) h
IsDraft-item d item.Dropped h = h
IsDraft-item d (item.Misplaced number) h = record { book = h.book; parent = h.parent }

IsDraft-fold : (d : Draft) (is : List item.Item) → IsDraft d → IsDraft (fold with_item d is)
IsDraft-fold d [] h = h
IsDraft-fold d (i ∷ is) h = IsDraft-fold (with_item d i) is (IsDraft-item d i h)

pub IsDraft-items : (is : List item.Item) → IsDraft (fold with_item new_draft is)
IsDraft-items is = IsDraft-fold new_draft is (record {
  book = record { setup_number = refl; setup_kind = refl; bin = refl; cell_numbers = tt; kinds = tt; next_cell = refl; section_numbers = tt; next_section = refl; parents = tt };
  parent = tt;
})

-- ---- the numbers that come next, and the rules

pub next_section-is : (d : Draft) → IsDraft d → d.parts.next_section ≡ length d.parts.sections + 1
next_section-is d h = h.book.next_section ∙ ap (λ n. n + 1) (length-map section_number d.parts.sections)

pub next_cell-is : (d : Draft) → IsDraft d → d.parts.next_cell ≡ length (section_cells d.parts) + 1
next_cell-is d h = h.book.next_cell ∙ ap (λ n. n + 1) (length-map cell_number (section_cells d.parts))

section_kinds : (cs : List Cell) → AllByRecursion IsSectionKind (map cell_kind cs) → AllByRecursion IsSectionCell cs
section_kinds [] h = tt
section_kinds (c ∷ cs) h = (h.0, section_kinds cs h.1)

IsNotebook-book : (n : Parts) → IsBook n → HasFewSections n → HasFewCells n → IsNotebook n
IsNotebook-book n h few few_cells =
    let cells : numbered_cells n ≡ section_cells n = ap (λ cs. section_cells n ++ cs) h.bin ∙ append-nil (section_cells n) in
    let cell_ns : AreDistinct (0 ∷ map cell_number (section_cells n)) =
    (λ there. not_there 1 (map cell_number (section_cells n)) 0 h.cell_numbers (omega arith) there, distinct 1 (map cell_number (section_cells n)) h.cell_numbers) in
    let cells_below : AllByRecursion (IsBelow n.next_cell) (0 ∷ map cell_number (section_cells n)) =
    (omega (arith, h.next_cell), all_below 1 (map cell_number (section_cells n)) n.next_cell h.cell_numbers (omega (arith, h.next_cell))) in
    record {
      setup_number = h.setup_number;
      setup_kind = h.setup_kind;
      kinds = subst (λ (cs : List Cell). AllByRecursion IsSectionCell cs) (sym cells) (section_kinds (section_cells n) h.kinds);
      cell_numbers = subst (λ (cs : List Cell). AreDistinct (0 ∷ map cell_number cs)) (sym cells) cell_ns;
      next_cell = subst (λ (cs : List Cell). AllByRecursion (IsBelow n.next_cell) (0 ∷ map cell_number cs)) (sym cells) cells_below;
      section_numbers = (λ there. not_there 1 (map section_number n.sections) 0 h.section_numbers (omega arith) there, distinct 1 (map section_number n.sections) h.section_numbers);
      next_section = (omega (arith, h.next_section), all_below 1 (map section_number n.sections) n.next_section h.section_numbers (omega (arith, h.next_section)));
      parents = h.parents;
      few_sections = few;
      few_cells = few_cells.cells;
      few_code_cells = few_cells.code_cells;
    }

pub IsNotebook-finished : (d : Draft) → IsDraft d → HasFewSections d.parts → HasFewCells d.parts → IsNotebook (finished d)
IsNotebook-finished d h few few_cells = IsNotebook-book (finished d) (IsBook-after d.parts d.waiting h.book) few (record { cells = few_cells.cells; code_cells = few_cells.code_cells })
