-- The reader's walk over settled items makes the notebook and the notices that the items make.
use Rattle.std.proofs.Common.{◌≡◌, ◌⊎◌, inl, inr, ℕ, ◌+◌, zero, suc, Bool, true, false, not, ◌||◌, cond, List, [], ◌∷◌, ◌++◌, Option, Some, None, length, filter_map, option_to_list, codes, refl, sym, ap, ap₂, ◌∙◌, subst, arith, append_assoc, append-nil, length-append}
use Rattle.std.specs.List.{flat_map, fold, last_or, list_any}
use Rattle.std.specs.Option.{option_or}
use Rattle.std.specs.Str.{chars}
use Rattle.std.proofs.lemmas.Grind.{flat_map-append}
use Rattle.std.proofs.lemmas.List.Folds.{list_any-append}
use Rattle.notebook.specs.declared.parts.Cell.{Cell}
use Rattle.notebook.specs.declared.parts.Saved.{Saved}
use Rattle.notebook.specs.declared.parts.Section.{Section}
use Rattle.notebook.specs.declared.parts.Parts.{Parts}
use Rattle.notebook.specs.declared.parts.Kind.{Kind}
use Rattle.notebook.specs.declared.parts.Kind.TheVariants as cell
use Rattle.notebook.specs.Book.{cells_of, untitled}
use Rattle.blanks.specs.Blanks.{is_empty}
use Rattle.livemd_format.specs.declared.notices.Notice.{Notice}
use Rattle.livemd_format.specs.Items as item
use Rattle.livemd_format.specs.Items.{Item}
use Rattle.livemd_format.specs.Made.{LinedText, bad_branch, branch_index, cell_at, cell_between, cells_in, first_section, front, indexes_at_end, is_cell, kept_at_end, kept_line, lined, made, name_at, name_of, notebook_of, notice_at, notices_of, outputs, parent_by, saved_output, section_by, sections_of, setup_at, setup_source, stem_at, takes_lines}
use Rattle.livemd_format.specs.Settled.{branch_next, is_section, section_next, settle, settled}
use Rattle.livemd_format.specs.Walk.{Draft, add_last_output, add_output, drafted, finished, on_last, take_branch, take_cell, with_cell, with_item, with_output, with_section, with_some_section}
use Rattle.livemd_format.proofs.Adding.{cell_added, cell_of, output_put, parts_at}
use Rattle.livemd_format.proofs.OneMore.{all_front, at_end_behind, at_end_more, cells_added, cells_output, cells_same, cells_there, end_same, end_taken, end_told, filter_map_more, last_or_more, length-on_last, name_same, name_told, next_in, no_front_more, none_more, notices_more, notices_same, outputs_same, outputs_told, sections_cut, sections_front, setup_same, setup_told, stretch}

-- ---- the last section

-- a section with the cells of items, behind others
abbrev filled : List Section → Section → List Item → Section
filled ss s done = record s { cells = cells_in (length (flat_map cells_of ss) + 1) done }

-- the last section stands behind these and has the cells of these items; what comes next but a section is put to them
record IsOpen (is : List Item) (ss : List Section) (s : Section) (done : List Item) : Type 0 where
  sections : sections_of is ≡ ss ++ filled ss s done ∷ []
  more : (i : Item) → is_section i ≡ false → sections_of (is ++ i ∷ []) ≡ ss ++ filled ss s (done ++ i ∷ []) ∷ []
  kept : kept_at_end is ≡ kept_at_end done
  outputs : (i : Item) → outputs (front (is ++ i ∷ [])) ≡ outputs (front is)

-- no section has begun
record IsBefore (is : List Item) : Type 0 where
  sections : list_any is_section is ≡ false
  cells : list_any is_cell is ≡ false

-- the items behind the last section item
record IsCut (is before : List Item) (name : List ℕ) (done : List Item) : Type 0 where
  whole : is ≡ before ++ item.Section name ∷ done
  none : list_any is_section done ≡ false

longer_cut : (i : Item) (is before : List Item) (name : List ℕ) (done : List Item) → IsCut is before name done → IsCut (i ∷ is) (i ∷ before) name done
longer_cut i is before name done c = record { whole = ap (λ w. i ∷ w) c.whole; none = c.none }

cut : (is : List Item) → (list_any is_section is ≡ false) ⊎ ((before : List Item) × (name : List ℕ) × (done : List Item) × IsCut is before name done)
cut [] = inl refl
cut (i ∷ is) = at i (cut is) where
  at : (i : Item) → (list_any is_section is ≡ false) ⊎ ((before : List Item) × (name : List ℕ) × (done : List Item) × IsCut is before name done) → (list_any is_section (i ∷ is) ≡ false) ⊎ ((before : List Item) × (name : List ℕ) × (done : List Item) × IsCut (i ∷ is) before name done)
  at i (inr c) = inr (i ∷ c.0, c.1, c.2, longer_cut i is c.0 c.1 c.2 c.3)
  at (item.Section name) (inl h) = inr ([], name, is, record { whole = refl; none = h })
  at i (inl h) = inl h

-- behind a section item
open_behind : (before : List Item) (name : List ℕ) (done : List Item) → list_any is_section done ≡ false → (s : Section) × IsOpen (before ++ item.Section name ∷ done) (sections_of before) s done
open_behind before name done h = (
  section_by (sections_of before) (stretch name before []),
  record {
    sections = sections_cut before name done h;
    more = λ i e. ap sections_of (append_assoc before (item.Section name ∷ done) (i ∷ [])) ∙ sections_cut before name (done ++ i ∷ []) (none_more is_section done i h e);
    kept = at_end_behind kept_line before name done;
    outputs = λ i. ap (λ js. outputs (front js)) (append_assoc before (item.Section name ∷ done) (i ∷ [])) ∙ (ap outputs (no_front_more before name (done ++ i ∷ [])) ∙ ap outputs (sym (no_front_more before name done)));
  },
)

-- the section of cells that no section item stands before
abbrev own_section : Section
own_section = record { id = 1; name = codes "Section"; before = []; parent = None; cells = [] }

some_cells : (cs : List Cell) → is_empty cs ≡ false → first_section cs ≡ record own_section { cells = cs } ∷ []
some_cells [] h = absurd cc
some_cells (c ∷ cs) h = refl

own_cells : (is : List Item) → list_any is_section is ≡ false → list_any is_cell is ≡ true → sections_of is ≡ [] ++ filled [] own_section is ∷ []
own_cells is h k = sections_front is h ∙ some_cells (cells_in 1 is) (cells_there 1 is ∙ ap not k)

either_true : (a b : Bool) → a ≡ true → (a || b) ≡ true
either_true true b h = refl
either_true false b h = absurd cc

still : {X : Type 0} (p : X → Bool) (xs : List X) (x : X) → list_any p xs ≡ true → list_any p (xs ++ x ∷ []) ≡ true
still p xs x h = list_any-append p xs (x ∷ []) ∙ either_true (list_any p xs) (list_any p (x ∷ [])) h

front_outputs : (is : List Item) (i : Item) → list_any is_section is ≡ false → list_any is_cell is ≡ true → outputs (front (is ++ i ∷ [])) ≡ outputs (front is)
front_outputs is (item.Section name) h k = ap outputs (no_front_more is name [])
front_outputs is i h k = ap outputs (all_front (is ++ i ∷ []) (none_more is_section is i h refl)) ∙ (outputs_same is i k ∙ ap outputs (sym (all_front is h)))

-- behind a cell that no section item stands before
open_own : (is : List Item) → list_any is_section is ≡ false → list_any is_cell is ≡ true → IsOpen is [] own_section is
open_own is h k = record {
  sections = own_cells is h k;
  more = λ i e. own_cells (is ++ i ∷ []) (none_more is_section is i h e) (still is_cell is i k);
  kept = refl;
  outputs = λ i. front_outputs is i h k;
}

stage : (is : List Item) → IsBefore is ⊎ ((ss : List Section) × (s : Section) × (done : List Item) × IsOpen is ss s done)
stage is = at (cut is) where
  in_front : list_any is_section is ≡ false → (b : Bool) → list_any is_cell is ≡ b → IsBefore is ⊎ ((ss : List Section) × (s : Section) × (done : List Item) × IsOpen is ss s done)
  in_front h true k = inr ([], own_section, is, open_own is h k)
  in_front h false k = inl (record { sections = h; cells = k })

  at : (list_any is_section is ≡ false) ⊎ ((before : List Item) × (name : List ℕ) × (done : List Item) × IsCut is before name done) → IsBefore is ⊎ ((ss : List Section) × (s : Section) × (done : List Item) × IsOpen is ss s done)
  at (inl h) = in_front h (list_any is_cell is) refl
  at (inr c) =
      let o = open_behind c.0 c.1 c.2 c.3.none in
      inr (sections_of c.0, o.0, c.2, subst (λ js. IsOpen js (sections_of c.0) o.0 c.2) (sym c.3.whole) o.1)

-- ---- what items have made so far

abbrev cell_number : List Section → ℕ
cell_number ss = length (flat_map cells_of ss) + 1

abbrev section_number : List Section → ℕ
section_number ss = length ss + 1

-- a notebook without sections
abbrev without : LinedText → LinedText → List Saved → Parts
without name setup os = record untitled {
  name = name.text;
  before = name.lines;
  setup = record untitled.setup { source = setup.text; before = setup.lines; saved = os };
}

-- the notebook with sections
abbrev having : LinedText → LinedText → List Saved → List Section → Parts
having name setup os ss = parts_at (without name setup os) ss (cell_number ss) (section_number ss)

abbrev book : List Item → Parts
book is = having (name_of is) (setup_source is) (outputs (front is)) (sections_of is)

abbrev parent_of : List Item → Option ℕ
parent_of is = parent_by (indexes_at_end is) (sections_of is)

abbrev draft : Parts → Option ℕ → List (List ℕ) → List Notice → Draft
draft parts parent waiting notices = record { parts = parts; parent = parent; waiting = waiting; notices = notices }

abbrev so_far : List Item → Draft
so_far is = draft (book is) (parent_of is) (kept_at_end is) (made notice_at is)

-- ---- numbers

cells_counted : (ss : List Section) (s : Section) → length (flat_map cells_of (ss ++ s ∷ [])) ≡ length (flat_map cells_of ss) + length s.cells
cells_counted ss s =
    let all : flat_map cells_of (ss ++ s ∷ []) ≡ flat_map cells_of ss ++ s.cells = flat_map-append cells_of ss (s ∷ []) ∙ ap (λ cs. flat_map cells_of ss ++ cs) (append-nil s.cells) in
    ap length all ∙ length-append (flat_map cells_of ss) s.cells

sections_counted : (ss : List Section) (s : Section) → section_number (ss ++ s ∷ []) ≡ section_number ss + 1
sections_counted ss s = ap (λ n. n + 1) (length-append ss (s ∷ []))

same_count : (ss : List Section) (s t : Section) → section_number (ss ++ s ∷ []) ≡ section_number (ss ++ t ∷ [])
same_count ss s t = sections_counted ss s ∙ sym (sections_counted ss t)

-- ---- what an item that makes nothing leaves

nothing : {X : Type 0} (xs : List X) → is_empty xs ≡ true → xs ≡ []
nothing [] h = refl
nothing (x ∷ xs) h = absurd cc

no_cells : (next : ℕ) (is : List Item) → list_any is_cell is ≡ false → cells_in next is ≡ []
no_cells next is h = nothing (cells_in next is) (cells_there next is ∙ ap not h)

no_sections : (is : List Item) → IsBefore is → sections_of is ≡ []
no_sections is b = sections_front is b.sections ∙ ap first_section (no_cells 1 is b.cells)

-- outputs of items of which none is a section, with one more
outputs_front : (is : List Item) (i : Item) → IsBefore is → is_section i ≡ false → outputs (front (is ++ i ∷ [])) ≡ outputs (front is) ++ option_to_list (saved_output i)
outputs_front is i b e =
    ap outputs (all_front (is ++ i ∷ []) (none_more is_section is i b.sections e))
    ∙ (outputs_told is i b.cells ∙ ap (λ js. outputs js ++ option_to_list (saved_output i)) (sym (all_front is b.sections)))

-- an item that neither begins nor fills a section
record IsQuiet (i : Item) : Type 0 where
  section : is_section i ≡ false
  output : saved_output i ≡ None
  cell : (b : List Item) → cell_at b i [] ≡ None

sections_quiet : (is : List Item) (i : Item) → IsQuiet i → sections_of (is ++ i ∷ []) ≡ sections_of is
sections_quiet is i q = at (stage is) where
  at : IsBefore is ⊎ ((ss : List Section) × (s : Section) × (done : List Item) × IsOpen is ss s done) → sections_of (is ++ i ∷ []) ≡ sections_of is
  at (inl b) = sections_front (is ++ i ∷ []) (none_more is_section is i b.sections q.section) ∙ (ap first_section (cells_same 1 is i q.output (q.cell is)) ∙ sym (sections_front is b.sections))
  at (inr (ss, s, done, o)) = o.more i q.section ∙ (ap (λ cs. ss ++ record s { cells = cs } ∷ []) (cells_same (cell_number ss) done i q.output (q.cell done)) ∙ sym o.sections)

outputs_quiet : (is : List Item) (i : Item) → is_section i ≡ false → saved_output i ≡ None → outputs (front (is ++ i ∷ [])) ≡ outputs (front is)
outputs_quiet is i e f = at (stage is) where
  at : IsBefore is ⊎ ((ss : List Section) × (s : Section) × (done : List Item) × IsOpen is ss s done) → outputs (front (is ++ i ∷ [])) ≡ outputs (front is)
  at (inl b) = outputs_front is i b e ∙ (ap (λ o. outputs (front is) ++ option_to_list o) f ∙ append-nil (outputs (front is)))
  at (inr (ss, s, done, o)) = o.outputs i

parent_quiet : (is : List Item) (i : Item) → IsQuiet i → takes_lines i ≡ false → branch_index i ≡ None → parent_of (is ++ i ∷ []) ≡ parent_of is
parent_quiet is i q e f = ap₂ parent_by (end_same branch_index is i e f) (sections_quiet is i q)

-- an item that takes lines, where no branch line waits
parent_taken : (is : List Item) (i : Item) → takes_lines i ≡ true → indexes_at_end is ≡ [] → parent_of is ≡ parent_of (is ++ i ∷ [])
parent_taken is i e h = ap (λ ks. parent_by ks (sections_of is)) h ∙ sym (ap (λ ks. parent_by ks (sections_of (is ++ i ∷ []))) (end_taken branch_index is i e))

-- the parts, where neither name nor setup cell changes
book_quiet : (is : List Item) (i : Item) → IsQuiet i → name_at is i [] ≡ None → setup_at is i [] ≡ None → book is ≡ book (is ++ i ∷ [])
book_quiet is i q e f =
    let name : name_of is ≡ name_of (is ++ i ∷ []) = sym (name_same is i e) in
    let setup : setup_source is ≡ setup_source (is ++ i ∷ []) = sym (setup_same is i f) in
    let saved : outputs (front is) ≡ outputs (front (is ++ i ∷ [])) = sym (outputs_quiet is i q.section q.output) in
    let sections : sections_of is ≡ sections_of (is ++ i ∷ []) = sym (sections_quiet is i q) in
    λ j. having (name j) (setup j) (saved j) (sections j)

-- ---- cells

cell_put : (kind : Kind) (source : List ℕ) (is : List Item) (i : Item) → is_section i ≡ false → saved_output i ≡ None → ((b : List Item) → cell_at b i [] ≡ Some (cell_between kind source b [])) → name_at is i [] ≡ None → setup_at is i [] ≡ None
    → with_cell kind (chars source) (kept_at_end is) (with_some_section (book is)) ≡ book (is ++ i ∷ [])
cell_put kind source is i e f c g h = at (stage is) where
  name : name_of is ≡ name_of (is ++ i ∷ [])
  name = sym (name_same is i g)

  setup : setup_source is ≡ setup_source (is ++ i ∷ [])
  setup = sym (setup_same is i h)

  saved : outputs (front is) ≡ outputs (front (is ++ i ∷ []))
  saved = sym (outputs_quiet is i e f)

  put : List Section → Parts
  put ss = with_cell kind (chars source) (kept_at_end is) (with_some_section (having (name_of is) (setup_source is) (outputs (front is)) ss))

  at : IsBefore is ⊎ ((ss : List Section) × (s : Section) × (done : List Item) × IsOpen is ss s done) → with_cell kind (chars source) (kept_at_end is) (with_some_section (book is)) ≡ book (is ++ i ∷ [])
  at (inl b) =
      let made : sections_of (is ++ i ∷ []) ≡ record own_section { cells = cell_of 1 kind (chars source) (kept_at_end is) [] ∷ [] } ∷ [] =
      sections_front (is ++ i ∷ []) (none_more is_section is i b.sections e)
      ∙ (ap first_section (cells_added 1 is i (cell_between kind source is []) f (c is))
      ∙ ap (λ cs. first_section (cs ++ cell_of (1 + length cs) kind (chars source) (kept_at_end is) [] ∷ [])) (no_cells 1 is b.cells)) in
      let sections : record own_section { cells = cell_of 1 kind (chars source) (kept_at_end is) [] ∷ [] } ∷ [] ≡ sections_of (is ++ i ∷ []) = sym made in
      ap put (no_sections is b) ∙ (λ j. having (name j) (setup j) (saved j) (sections j))
  at (inr (ss, s, done, o)) =
      let old : List Section = ss ++ filled ss s done ∷ [] in
      let cs : List Cell = cells_in (cell_number ss) done in
      let new : Cell = cell_of (cell_number old) kind (chars source) (kept_at_end is) [] in
      let number : cell_number old ≡ next_in (cell_number ss) done = omega (arith, cells_counted ss (filled ss s done)) in
      let sections : ss ++ record s { cells = cs ++ new ∷ [] } ∷ [] ≡ sections_of (is ++ i ∷ []) =
      (λ j. ss ++ record s { cells = cs ++ cell_of (number j) kind (chars source) (o.kept j) [] ∷ [] } ∷ [])
      ∙ sym (o.more i e ∙ ap (λ ds. ss ++ record s { cells = ds } ∷ []) (cells_added (cell_number ss) done i (cell_between kind source done []) f (c done))) in
      let cells : cell_number old + 1 ≡ cell_number (ss ++ record s { cells = cs ++ new ∷ [] } ∷ []) =
      omega (arith, cells_counted ss (filled ss s done), cells_counted ss (record s { cells = cs ++ new ∷ [] }), length-append cs (new ∷ [])) in
      let next : cell_number old + 1 ≡ cell_number (sections_of (is ++ i ∷ [])) = cells ∙ ap cell_number sections in
      let count : section_number old ≡ section_number (sections_of (is ++ i ∷ [])) = same_count ss (filled ss s done) (record s { cells = cs ++ new ∷ [] }) ∙ ap section_number sections in
      ap put o.sections
      ∙ (cell_added (without (name_of is) (setup_source is) (outputs (front is))) ss s cs (cell_number old) (section_number old) kind (chars source) (kept_at_end is)
      ∙ (λ j. parts_at (without (name j) (setup j) (saved j)) (sections j) (next j) (count j)))

-- ---- outputs

output_put_to : (info text : List ℕ) (is : List Item) → with_output (record { info = chars info; text = chars text }) (book is) ≡ book (is ++ item.Saved info text ∷ [])
output_put_to info text is = at (stage is) where
  i : Item
  i = item.Saved info text

  shown : Saved
  shown = record { info = chars info; text = chars text }

  name : name_of is ≡ name_of (is ++ i ∷ [])
  name = sym (name_same is i refl)

  setup : setup_source is ≡ setup_source (is ++ i ∷ [])
  setup = sym (setup_same is i refl)

  put : List Section → Parts
  put ss = with_output shown (having (name_of is) (setup_source is) (outputs (front is)) ss)

  at : IsBefore is ⊎ ((ss : List Section) × (s : Section) × (done : List Item) × IsOpen is ss s done) → with_output shown (book is) ≡ book (is ++ i ∷ [])
  at (inl b) =
      let saved : outputs (front is) ++ shown ∷ [] ≡ outputs (front (is ++ i ∷ [])) = sym (outputs_front is i b refl) in
      let made : sections_of (is ++ i ∷ []) ≡ [] =
      sections_front (is ++ i ∷ []) (none_more is_section is i b.sections refl)
      ∙ (ap first_section (cells_output 1 is info text) ∙ ap (λ cs. first_section (on_last (add_output shown) cs)) (no_cells 1 is b.cells)) in
      let sections : [] ≡ sections_of (is ++ i ∷ []) = sym made in
      ap put (no_sections is b) ∙ (λ j. having (name j) (setup j) (saved j) (sections j))
  at (inr (ss, s, done, o)) =
      let old : List Section = ss ++ filled ss s done ∷ [] in
      let cs : List Cell = cells_in (cell_number ss) done in
      let saved : outputs (front is) ≡ outputs (front (is ++ i ∷ [])) = sym (o.outputs i) in
      let sections : ss ++ record s { cells = on_last (add_output shown) cs } ∷ [] ≡ sections_of (is ++ i ∷ []) =
      sym (o.more i refl ∙ ap (λ ds. ss ++ record s { cells = ds } ∷ []) (cells_output (cell_number ss) done info text)) in
      let cells : cell_number old ≡ cell_number (ss ++ record s { cells = on_last (add_output shown) cs } ∷ []) =
      omega (arith, cells_counted ss (filled ss s done), cells_counted ss (record s { cells = on_last (add_output shown) cs }), length-on_last (add_output shown) cs) in
      let next : cell_number old ≡ cell_number (sections_of (is ++ i ∷ [])) = cells ∙ ap cell_number sections in
      let count : section_number old ≡ section_number (sections_of (is ++ i ∷ [])) = same_count ss (filled ss s done) (record s { cells = on_last (add_output shown) cs }) ∙ ap section_number sections in
      ap put o.sections
      ∙ (output_put (without (name_of is) (setup_source is) (outputs (front is))) ss (filled ss s done) (cell_number old) (section_number old) shown
      ∙ (λ j. parts_at (without (name j) (setup j) (saved j)) (sections j) (next j) (count j)))

-- an output changes no section from which others branch
stem-on_last : (o : Saved) (k : ℕ) (ss : List Section) → stem_at k (on_last (add_last_output o) ss) ≡ stem_at k ss
stem-on_last o k [] = refl
stem-on_last o zero (s ∷ []) = refl
stem-on_last o (suc k) (s ∷ []) = refl
stem-on_last o zero (s ∷ t ∷ ss) = refl
stem-on_last o (suc k) (s ∷ t ∷ ss) = stem-on_last o k (t ∷ ss)

stem-output : (o : Saved) (k : ℕ) (n : Parts) → stem_at k (with_output o n).sections ≡ stem_at k n.sections
stem-output o k n =
    elim (is_empty n.sections)
    as (λ b. stem_at k (cond b (record n { setup = add_output o n.setup }) (record n { sections = on_last (add_last_output o) n.sections })).sections ≡ stem_at k n.sections)
    [ true ↦ refl | false ↦ stem-on_last o k n.sections ]

parent_output : (o : Saved) (ks : List ℕ) (n : Parts) → parent_by ks n.sections ≡ parent_by ks (with_output o n).sections
parent_output o ks n = λ j. last_or None (filter_map (λ k. sym (stem-output o k n) j) ks)

-- ---- branch lines

last_or_told : {X : Type 0} (xs : List X) (o : Option X) → option_or o (last_or None xs) ≡ last_or None (xs ++ option_to_list o)
last_or_told xs None = ap (last_or None) (sym (append-nil xs))
last_or_told xs (Some x) = sym (last_or_more None xs x)

parent_told : (ks : List ℕ) (k : ℕ) (ss : List Section) → option_or (stem_at k ss) (parent_by ks ss) ≡ parent_by (ks ++ k ∷ []) ss
parent_told ks k ss = last_or_told (filter_map (λ index. stem_at index ss) ks) (stem_at k ss) ∙ ap (last_or None) (sym (filter_map_more (λ index. stem_at index ss) ks k))

branched : (number : ℕ) (o : Option ℕ) (d : Draft) → take_branch number o d ≡ record d { parent = option_or o d.parent; notices = d.notices ++ option_to_list (bad_branch number o) }
branched number None d = refl
branched number (Some parent) d = ap (λ ns. record d { parent = Some parent; notices = ns }) (sym (append-nil d.notices))

-- ---- each item

-- where an item takes lines and isn't a section, no branch line waits
abbrev IsReady : List Item → Item → Type 0
IsReady is (item.Name text) = indexes_at_end is ≡ []
IsReady is (item.Setup source) = indexes_at_end is ≡ []
IsReady is (item.Code source) = indexes_at_end is ≡ []
IsReady is (item.Markdown source) = indexes_at_end is ≡ []
IsReady is other = Unit {0}

-- the name, as the walk takes it
name_put : (text : List ℕ) (is : List Item) → record (book is) { name = chars text; before = kept_at_end is } ≡ book (is ++ item.Name text ∷ [])
name_put text is =
    let i : Item = item.Name text in
    let name : lined is text ≡ name_of (is ++ i ∷ []) = sym (name_told is text) in
    let setup : setup_source is ≡ setup_source (is ++ i ∷ []) = sym (setup_same is i refl) in
    let saved : outputs (front is) ≡ outputs (front (is ++ i ∷ [])) = sym (outputs_quiet is i refl refl) in
    let sections : sections_of is ≡ sections_of (is ++ i ∷ []) = sym (sections_quiet is i (record { section = refl; output = refl; cell = λ b. refl })) in
    λ j. having (name j) (setup j) (saved j) (sections j)

setup_put : (source : List ℕ) (is : List Item) → record (book is) { setup = record (book is).setup { source = chars source; before = kept_at_end is } } ≡ book (is ++ item.Setup source ∷ [])
setup_put source is =
    let i : Item = item.Setup source in
    let name : name_of is ≡ name_of (is ++ i ∷ []) = sym (name_same is i refl) in
    let setup : lined is source ≡ setup_source (is ++ i ∷ []) = sym (setup_told is source) in
    let saved : outputs (front is) ≡ outputs (front (is ++ i ∷ [])) = sym (outputs_quiet is i refl refl) in
    let sections : sections_of is ≡ sections_of (is ++ i ∷ []) = sym (sections_quiet is i (record { section = refl; output = refl; cell = λ b. refl })) in
    λ j. having (name j) (setup j) (saved j) (sections j)

section_put : (text : List ℕ) (is : List Item) → with_section (chars text) (kept_at_end is) (parent_of is) (book is) ≡ book (is ++ item.Section text ∷ [])
section_put text is =
    let i : Item = item.Section text in
    let new : Section = section_by (sections_of is) (stretch text is []) in
    let name : name_of is ≡ name_of (is ++ i ∷ []) = sym (name_same is i refl) in
    let setup : setup_source is ≡ setup_source (is ++ i ∷ []) = sym (setup_same is i refl) in
    let saved : outputs (front is) ≡ outputs (front (is ++ i ∷ [])) = ap outputs (sym (no_front_more is text [])) in
    let sections : sections_of is ++ new ∷ [] ≡ sections_of (is ++ i ∷ []) = sym (sections_cut is text [] refl) in
    let cells : cell_number (sections_of is) ≡ cell_number (sections_of is ++ new ∷ []) = omega (arith, cells_counted (sections_of is) new) in
    let next : cell_number (sections_of is) ≡ cell_number (sections_of (is ++ i ∷ [])) = cells ∙ ap cell_number sections in
    let count : section_number (sections_of is) + 1 ≡ section_number (sections_of (is ++ i ∷ [])) = sym (sections_counted (sections_of is) new) ∙ ap section_number sections in
    λ j. parts_at (without (name j) (setup j) (saved j)) (sections j) (next j) (count j)

step_cell : (kind : Kind) (source : List ℕ) (is : List Item) (i : Item) → with_cell kind (chars source) (kept_at_end is) (with_some_section (book is)) ≡ book (is ++ i ∷ []) → takes_lines i ≡ true → notice_at is i [] ≡ None → indexes_at_end is ≡ []
    → take_cell kind (chars source) (so_far is) ≡ so_far (is ++ i ∷ [])
step_cell kind source is i parts e f h =
    let parent : parent_of is ≡ parent_of (is ++ i ∷ []) = parent_taken is i e h in
    let waiting : [] ≡ kept_at_end (is ++ i ∷ []) = sym (end_taken kept_line is i e) in
    let notices : made notice_at is ≡ made notice_at (is ++ i ∷ []) = sym (notices_same is i f) in
    λ j. draft (parts j) (parent j) (waiting j) (notices j)

step_quiet : (is : List Item) (i : Item) → book is ≡ book (is ++ i ∷ []) → IsQuiet i → takes_lines i ≡ false → branch_index i ≡ None → kept_line i ≡ None → notice_at is i [] ≡ None → so_far is ≡ so_far (is ++ i ∷ [])
step_quiet is i parts q e f g h =
    let parent : parent_of is ≡ parent_of (is ++ i ∷ []) = sym (parent_quiet is i q e f) in
    let waiting : kept_at_end is ≡ kept_at_end (is ++ i ∷ []) = sym (end_same kept_line is i e g) in
    let notices : made notice_at is ≡ made notice_at (is ++ i ∷ []) = sym (notices_same is i h) in
    λ j. draft (parts j) (parent j) (waiting j) (notices j)

step : (is : List Item) (i : Item) → IsReady is i → with_item (so_far is) i ≡ so_far (is ++ i ∷ [])
step is (item.Name text) h =
    let i : Item = item.Name text in
    let parts : record (book is) { name = chars text; before = kept_at_end is } ≡ book (is ++ i ∷ []) = name_put text is in
    let parent : parent_of is ≡ parent_of (is ++ i ∷ []) = parent_taken is i refl h in
    let waiting : [] ≡ kept_at_end (is ++ i ∷ []) = sym (end_taken kept_line is i refl) in
    let notices : made notice_at is ≡ made notice_at (is ++ i ∷ []) = sym (notices_same is i refl) in
    λ j. draft (parts j) (parent j) (waiting j) (notices j)
step is (item.Section text) h =
    let i : Item = item.Section text in
    let parts : with_section (chars text) (kept_at_end is) (parent_of is) (book is) ≡ book (is ++ i ∷ []) = section_put text is in
    let parent : None ≡ parent_of (is ++ i ∷ []) = sym (ap (λ ks. parent_by ks (sections_of (is ++ i ∷ []))) (end_taken branch_index is i refl)) in
    let waiting : [] ≡ kept_at_end (is ++ i ∷ []) = sym (end_taken kept_line is i refl) in
    let notices : made notice_at is ≡ made notice_at (is ++ i ∷ []) = sym (notices_same is i refl) in
    λ j. draft (parts j) (parent j) (waiting j) (notices j)
step is (item.Setup source) h =
    let i : Item = item.Setup source in
    let parts : record (book is) { setup = record (book is).setup { source = chars source; before = kept_at_end is } } ≡ book (is ++ i ∷ []) = setup_put source is in
    let parent : parent_of is ≡ parent_of (is ++ i ∷ []) = parent_taken is i refl h in
    let waiting : [] ≡ kept_at_end (is ++ i ∷ []) = sym (end_taken kept_line is i refl) in
    let notices : made notice_at is ≡ made notice_at (is ++ i ∷ []) = sym (notices_same is i refl) in
    λ j. draft (parts j) (parent j) (waiting j) (notices j)
step is (item.Code source) h = step_cell cell.Code source is (item.Code source) (cell_put cell.Code source is (item.Code source) refl refl (λ b. refl) refl refl) refl refl h
step is (item.Markdown source) h = step_cell cell.Markdown source is (item.Markdown source) (cell_put cell.Markdown source is (item.Markdown source) refl refl (λ b. refl) refl refl) refl refl h
step is (item.Saved info text) h =
    let i : Item = item.Saved info text in
    let shown : Saved = record { info = chars info; text = chars text } in
    let parts : with_output shown (book is) ≡ book (is ++ i ∷ []) = output_put_to info text is in
    let parent : parent_of is ≡ parent_of (is ++ i ∷ []) = parent_output shown (indexes_at_end is) (book is) ∙ ap₂ parent_by (sym (end_same branch_index is i refl refl)) (ap (λ (n : Parts). n.sections) parts) in
    let waiting : kept_at_end is ≡ kept_at_end (is ++ i ∷ []) = sym (end_same kept_line is i refl refl) in
    let notices : made notice_at is ≡ made notice_at (is ++ i ∷ []) = sym (notices_same is i refl) in
    λ j. draft (parts j) (parent j) (waiting j) (notices j)
step is (item.Kept line) h =
    let i : Item = item.Kept line in
    let q : IsQuiet i = record { section = refl; output = refl; cell = λ b. refl } in
    let parts : book is ≡ book (is ++ i ∷ []) = book_quiet is i q refl refl in
    let parent : parent_of is ≡ parent_of (is ++ i ∷ []) = sym (parent_quiet is i q refl refl) in
    let waiting : kept_at_end is ++ chars line ∷ [] ≡ kept_at_end (is ++ i ∷ []) = sym (end_told kept_line is i (chars line) refl refl) in
    let notices : made notice_at is ≡ made notice_at (is ++ i ∷ []) = sym (notices_same is i refl) in
    λ j. draft (parts j) (parent j) (waiting j) (notices j)
step is (item.Branch number index) h =
    let i : Item = item.Branch number index in
    let o : Option ℕ = stem_at index (sections_of is) in
    let q : IsQuiet i = record { section = refl; output = refl; cell = λ b. refl } in
    let parts : book is ≡ book (is ++ i ∷ []) = book_quiet is i q refl refl in
    let parent : option_or o (parent_of is) ≡ parent_of (is ++ i ∷ []) =
    parent_told (indexes_at_end is) index (sections_of is) ∙ ap₂ parent_by (sym (end_told branch_index is i index refl refl)) (sym (sections_quiet is i q)) in
    let waiting : kept_at_end is ≡ kept_at_end (is ++ i ∷ []) = sym (end_same kept_line is i refl refl) in
    let notices : made notice_at is ++ option_to_list (bad_branch number o) ≡ made notice_at (is ++ i ∷ []) = sym (notices_more is i) in
    branched number o (so_far is) ∙ (λ j. draft (parts j) (parent j) (waiting j) (notices j))
step is (item.Misplaced number) h =
    let i : Item = item.Misplaced number in
    let q : IsQuiet i = record { section = refl; output = refl; cell = λ b. refl } in
    let parts : book is ≡ book (is ++ i ∷ []) = book_quiet is i q refl refl in
    let parent : parent_of is ≡ parent_of (is ++ i ∷ []) = sym (parent_quiet is i q refl refl) in
    let waiting : kept_at_end is ≡ kept_at_end (is ++ i ∷ []) = sym (end_same kept_line is i refl refl) in
    let notices : made notice_at is ++ option_to_list (notice_at is i []) ≡ made notice_at (is ++ i ∷ []) = sym (notices_more is i) in
    λ j. draft (parts j) (parent j) (waiting j) (notices j)
step is (item.Stamp line) h =
    let q : IsQuiet (item.Stamp line) = record { section = refl; output = refl; cell = λ b. refl } in
    step_quiet is (item.Stamp line) (book_quiet is (item.Stamp line) q refl refl) q refl refl refl refl
step is item.Dropped h =
    let q : IsQuiet item.Dropped = record { section = refl; output = refl; cell = λ b. refl } in
    step_quiet is item.Dropped (book_quiet is item.Dropped q refl refl) q refl refl refl refl

-- ---- settled items

-- a branch line waits only where a section comes next
abbrev IsSettled : List Item → List Item → Type 0
IsSettled before is = (indexes_at_end before ≡ []) ⊎ (section_next is ≡ true)

ready : (before : List Item) (i : Item) (is : List Item) → IsSettled before (i ∷ is) → IsReady before (settle i is)
ready before (item.Name text) is (inl h) = h
ready before (item.Name text) is (inr e) = absurd cc
ready before (item.Setup source) is (inl h) = h
ready before (item.Setup source) is (inr e) = absurd cc
ready before (item.Code source) is (inl h) = h
ready before (item.Code source) is (inr e) = absurd cc
ready before (item.Markdown source) is (inl h) = h
ready before (item.Markdown source) is (inr e) = absurd cc
ready before (item.Branch number index) is s =
    elim (section_next is) as (λ b. IsReady before (cond b (cond (branch_next is) item.Dropped (item.Branch number index)) (item.Misplaced number))) [
      | true ↦ elim (branch_next is) as (λ b. IsReady before (cond b item.Dropped (item.Branch number index))) [ true ↦ tt | false ↦ tt ]
      | false ↦ tt
    ]
ready before (item.Stamp line) [] s = tt
ready before (item.Stamp line) (i ∷ is) s = tt
ready before i is s = tt

-- no branch line waits behind an item that isn't one, where none waited before
none_waits : (before : List Item) (i : Item) → indexes_at_end before ≡ [] → branch_index i ≡ None → indexes_at_end (before ++ i ∷ []) ≡ []
none_waits before i h e =
    let none : indexes_at_end before ++ option_to_list (branch_index i) ≡ [] = ap (λ ks. ks ++ option_to_list (branch_index i)) h ∙ ap (λ o. option_to_list o) e in
    at_end_more branch_index before i ∙ at (takes_lines i) (indexes_at_end before ++ option_to_list (branch_index i)) none where
      at : (b : Bool) (ks : List ℕ) → ks ≡ [] → cond b [] ks ≡ []
      at true ks none = refl
      at false ks none = none

still_settled : (before : List Item) (i : Item) (is : List Item) → IsSettled before (i ∷ is) → IsSettled (before ++ settle i is ∷ []) is
still_settled before (item.Section text) is s = inl (end_taken branch_index before (item.Section text) refl)
still_settled before (item.Branch number index) is s =
    at s (section_next is) refl where
      at : IsSettled before (item.Branch number index ∷ is) → (b : Bool) → section_next is ≡ b → IsSettled (before ++ settle (item.Branch number index) is ∷ []) is
      at s true e = inr e
      at (inr f) false e = inr f
      at (inl h) false e = inl (ap (λ b. indexes_at_end (before ++ cond b (cond (branch_next is) item.Dropped (item.Branch number index)) (item.Misplaced number) ∷ [])) e ∙ none_waits before (item.Misplaced number) h refl)
still_settled before (item.Stamp line) [] (inl h) = inl (none_waits before item.Dropped h refl)
still_settled before (item.Stamp line) (i ∷ is) (inl h) = inl (none_waits before (item.Kept line) h refl)
still_settled before (item.Stamp line) is (inr e) = inr e
still_settled before (item.Kept line) is (inr e) = inr e
still_settled before (item.Misplaced number) is (inr e) = inr e
still_settled before i is (inr e) = absurd cc
still_settled before i is (inl h) = inl (none_waits before i h refl)

walked : (before is : List Item) → IsSettled before is → fold with_item (so_far before) (settled is) ≡ so_far (before ++ settled is)
walked before [] s = ap so_far (sym (append-nil before))
walked before (i ∷ is) s =
    ap (λ d. fold with_item d (settled is)) (step before (settle i is) (ready before i is s))
    ∙ (walked (before ++ settle i is ∷ []) is (still_settled before i is s)
    ∙ ap so_far (append_assoc before (settle i is ∷ []) (settled is)))

drafted_is : (is : List Item) → drafted is ≡ so_far (settled is)
drafted_is is = walked [] is (inl refl)

pub notebook_is_walked : (is : List Item) → notebook_of is ≡ finished (drafted is)
notebook_is_walked is = sym (ap finished (drafted_is is))

pub notices_are_walked : (is : List Item) → notices_of is ≡ (drafted is).notices
notices_are_walked is = sym (ap (λ (d : Draft). d.notices) (drafted_is is))
