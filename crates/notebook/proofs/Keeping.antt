-- Each change keeps the rules.
use Rattle.std.proofs.Common.{◌≡◌, ℕ, ◌+◌, ◌≤◌, true, false, Bool, List, [], ◌∷◌, ◌++◌, Option, Some, None, length, take, drop, map, refl, sym, ap, ◌∙◌, arith, subst, suc, eqb-true}
use Rattle.std.specs.Prelude.{◌==◌, ◌||◌, not, nat_lt, find, if◌then◌else◌, insert, Result, Ok, Err, IfOk, IfErr, OnErr}
use Rattle.std.specs.List.{list_any, flat_map, AllByRecursion}
use Rattle.std.proofs.lemmas.Bool.{ltb-false}
use Rattle.std.proofs.lemmas.List.{take-append-drop}
use Rattle.std.proofs.lemmas.List.Edits.{length-insert}
use Rattle.notebook.specs.declared.parts.Cell.{Cell}
use Rattle.notebook.specs.declared.parts.Section.{Section}
use Rattle.notebook.specs.declared.parts.Parts.{Parts}
use Rattle.notebook.specs.declared.parts.Kind.{Kind}
use Rattle.notebook.specs.declared.parts.Kind.TheVariants.{Setup, Code, Markdown}
use Rattle.notebook.specs.declared.change.CellKind.{CellKind}
use Rattle.notebook.specs.declared.change.CellKind.TheVariants as cell_kinds
use Rattle.notebook.specs.declared.change.Change.{Change}
use Rattle.notebook.specs.declared.change.Change.TheVariants.{SetName, InsertSection, SetSectionName, DeleteSection, MoveSection, SetParent, InsertCell, DeleteCell, RestoreCell, MoveCell}
use Rattle.notebook.specs.declared.change.Changed.{Changed}
use Rattle.notebook.specs.declared.change.NoteError.{NoteError}
use Rattle.notebook.specs.declared.change.NoteError.TheVariants.{NoSection, BadIndex, BadParent, HasBranches, TooManyCells, TooManySections}
use Rattle.notebook.specs.Book.{cells_of, found, section_cells}
use Rattle.notebook.specs.Flow.{is_section}
use Rattle.notebook.specs.Places.{IsSectionAt}
use Rattle.notebook.specs.Rules.{IsNotebook, IsSectionCell, IsSectionKind, AreDistinct, ParentsStand, numbered_cells, cell_number, section_number, code_count, code_weight}
use Rattle.notebook.specs.Change.{Attempt, Makes, Fails, lacks, with_section, but_section, cells_in, but_cell, cut_cell, with_cell, put_cell, named, branching, has_branches, is_branch, parents_first, is_full, kind_of, new_cell, new_section, insert_section, set_section_name, delete_section, move_section, set_parent, if_room, insert_cell, delete_cell, renumbered, restore_cell, move_cell, change, Refuses, IsAnswered}
use Rattle.notebook.proofs.Conditions.{or-none-left, or-none-right, not-false, false-from}
use Rattle.notebook.proofs.Spots.{none-numbered, spot-but, spot-with}
use Rattle.notebook.proofs.Orders.{stand-first}
use Rattle.notebook.proofs.Alike.{Alike, alike-itself, alike-with, alike-cut, alike-join, alike-numbers, alike-length, alike-stand}
use Rattle.notebook.proofs.Parents.{branch-seam}
use Rattle.notebook.proofs.Rooted.{AreRooted, rooted, stand-rooted, first-inserted, rooted-added, rooted-less, rooted-moved, rooted-main, rooted-branch, main-seam, first-deleted}
use Rattle.notebook.proofs.Sums.{total, total-append, total-seam, total-insert, total-map, AreNumbers, fewer-numbers, one-number, fresh-sum, sum-absent, same, sum-distinct, distinct-sum, total-cells, none-counted, all-uncounted}
use Rattle.notebook.proofs.Totals.{spot-of, find-spot, found-split, sum-but_cell, sum-put, sum-but_section, sum-insert, cut-cells, with-cells}
use Rattle.notebook.proofs.CellMoves.{cut-numbers}

-- the rules on cells, and those on sections
record CellRules (n : Parts) : Type 0 where
  pub kinds : AllByRecursion IsSectionCell (numbered_cells n)
  pub numbers : AreNumbers n.next_cell (map cell_number (numbered_cells n))
  pub few : length (section_cells n) ≤ 4000
  pub few_code : code_count (section_cells n) ≤ 1000

record SectionRules (n : Parts) : Type 0 where
  pub numbers : AreNumbers n.next_section (map section_number n.sections)
  pub parents : ParentsStand [] n.sections
  pub few : length n.sections ≤ 1000

rules : (n m : Parts) → IsNotebook n → m.setup ≡ n.setup → CellRules m → SectionRules m → IsNotebook m
rules n m h setup c s = record {
  setup_number = ap (λ (x : Cell). x.id) setup ∙ h.setup_number;
  setup_kind = ap (λ (x : Cell). x.kind) setup ∙ h.setup_kind;
  kinds = c.kinds;
  cell_numbers = c.numbers.distinct;
  next_cell = c.numbers.below;
  section_numbers = s.numbers.distinct;
  next_section = s.numbers.below;
  parents = s.parents;
  few_sections = s.few;
  few_cells = c.few;
  few_code_cells = c.few_code;
}

-- what is counted of cells
abbrev setup_weight : Kind → ℕ
setup_weight Setup = 1
setup_weight Code = 0
setup_weight Markdown = 0

abbrev cell_setup : Cell → ℕ
cell_setup c = setup_weight c.kind

abbrev cell_one : Cell → ℕ
cell_one c = 1

abbrev cell_code : Cell → ℕ
cell_code c = code_weight c.kind

kind-none : (k : Kind) → IsSectionKind k → setup_weight k ≡ 0
kind-none Setup h = absurd h
kind-none Code h = refl
kind-none Markdown h = refl

none-kind : (k : Kind) → setup_weight k ≡ 0 → IsSectionKind k
none-kind Setup h = absurd (let no : 1 ≡ 0 = h in omega (arith, no))
none-kind Code h = tt
none-kind Markdown h = tt

length-total : {X : Type 0} (xs : List X) → length xs ≡ total (λ (x : X). 1) xs
length-total [] = refl
length-total (x ∷ xs) = omega (arith, length-total xs)

code-total : (cs : List Cell) → code_count cs ≡ total cell_code cs
code-total [] = refl
code-total (c ∷ cs) = ap (λ n. code_weight c.kind + n) (code-total cs)

cell-numbers : (n : Parts) → IsNotebook n → AreNumbers n.next_cell (map cell_number (numbered_cells n))
cell-numbers n h = record { distinct = h.cell_numbers; below = h.next_cell }

section-numbers : (n : Parts) → IsNotebook n → AreNumbers n.next_section (map section_number n.sections)
section-numbers n h = record { distinct = h.section_numbers; below = h.next_section }

-- no more cells than before, and no new ones
fewer-cells : (n m : Parts) → IsNotebook n → m.next_cell ≡ n.next_cell → ((w : Cell → ℕ) → total w (section_cells m) ≤ total w (section_cells n)) → ((w : Cell → ℕ) → total w (numbered_cells m) ≤ total w (numbered_cells n)) → CellRules m
fewer-cells n m h next here all =
    let kinds : total cell_setup (numbered_cells n) ≡ 0 = none-counted cell_setup IsSectionCell (λ c k. kind-none c.kind k) (numbered_cells n) h.kinds in
    let numbers : (w : ℕ → ℕ) → total w (map cell_number (numbered_cells m)) ≤ total w (map cell_number (numbered_cells n)) =
    λ w.
    let a : total w (map cell_number (numbered_cells m)) ≡ total (λ (c : Cell). w c.id) (numbered_cells m) = total-map w cell_number (numbered_cells m) in
    let b : total w (map cell_number (numbered_cells n)) ≡ total (λ (c : Cell). w c.id) (numbered_cells n) = total-map w cell_number (numbered_cells n) in
    let l : total (λ (c : Cell). w c.id) (numbered_cells m) ≤ total (λ (c : Cell). w c.id) (numbered_cells n) = all (λ (c : Cell). w c.id) in
    omega (arith, a, b, l) in
    let kept : AreNumbers n.next_cell (map cell_number (numbered_cells m)) = fewer-numbers n.next_cell (map cell_number (numbered_cells n)) (map cell_number (numbered_cells m)) (cell-numbers n h) numbers in
    record {
      kinds = all-uncounted cell_setup IsSectionCell (λ c k. none-kind c.kind k) (numbered_cells m) (let l : total cell_setup (numbered_cells m) ≤ total cell_setup (numbered_cells n) = all cell_setup in omega (arith, kinds, l));
      numbers = subst (λ (k : ℕ). AreNumbers k (map cell_number (numbered_cells m))) (sym next) kept;
      few = (let a = length-total (section_cells m) in
          let b = length-total (section_cells n) in
          let l : total cell_one (section_cells m) ≤ total cell_one (section_cells n) = here cell_one in
          omega (arith, a, b, l, h.few_cells));
      few_code = (let a = code-total (section_cells m) in
          let b = code-total (section_cells n) in
          let l : total cell_code (section_cells m) ≤ total cell_code (section_cells n) = here cell_code in
          omega (arith, a, b, l, h.few_code_cells));
    }

-- one new cell
more-cells : (n m : Parts) (c : Cell) → IsNotebook n → c.id ≡ n.next_cell → IsSectionCell c → m.next_cell ≡ n.next_cell + 1 → is_full n c.kind ≡ false → ((w : Cell → ℕ) → total w (section_cells m) ≤ w c + total w (section_cells n)) → ((w : Cell → ℕ) → total w (numbered_cells m) ≤ w c + total w (numbered_cells n)) → CellRules m
more-cells n m c h number kind next room here all =
    let kinds : total cell_setup (numbered_cells n) ≡ 0 = none-counted cell_setup IsSectionCell (λ c k. kind-none c.kind k) (numbered_cells n) h.kinds in
    let own : setup_weight c.kind ≡ 0 = kind-none c.kind kind in
    let numbers : (w : ℕ → ℕ) → total w (map cell_number (numbered_cells m)) ≤ w n.next_cell + total w (map cell_number (numbered_cells n)) =
    λ w.
    let a : total w (map cell_number (numbered_cells m)) ≡ total (λ (d : Cell). w d.id) (numbered_cells m) = total-map w cell_number (numbered_cells m) in
    let b : total w (map cell_number (numbered_cells n)) ≡ total (λ (d : Cell). w d.id) (numbered_cells n) = total-map w cell_number (numbered_cells n) in
    let l : total (λ (d : Cell). w d.id) (numbered_cells m) ≤ w c.id + total (λ (d : Cell). w d.id) (numbered_cells n) = all (λ (d : Cell). w d.id) in
    let e : w c.id ≡ w n.next_cell = ap w number in
    omega (arith, a, b, l, e) in
    let kept : AreNumbers (n.next_cell + 1) (map cell_number (numbered_cells m)) = one-number n.next_cell (map cell_number (numbered_cells n)) (map cell_number (numbered_cells m)) (cell-numbers n h) numbers in
    let cells : length (section_cells n) + 1 ≤ 4000 =
    ltb-false 4000 (length (section_cells n) + 1) (or-none-left (nat_lt 4000 (length (section_cells n) + 1)) (nat_lt 1000 (code_count (section_cells n) + code_weight c.kind)) room) in
    let code : code_count (section_cells n) + code_weight c.kind ≤ 1000 =
    ltb-false 1000 (code_count (section_cells n) + code_weight c.kind) (or-none-right (nat_lt 4000 (length (section_cells n) + 1)) (nat_lt 1000 (code_count (section_cells n) + code_weight c.kind)) room) in
    record {
      kinds = all-uncounted cell_setup IsSectionCell (λ c k. none-kind c.kind k) (numbered_cells m) (let l : total cell_setup (numbered_cells m) ≤ setup_weight c.kind + total cell_setup (numbered_cells n) = all cell_setup in omega (arith, kinds, l, own));
      numbers = subst (λ (k : ℕ). AreNumbers k (map cell_number (numbered_cells m))) (sym next) kept;
      few = (let a = length-total (section_cells m) in
          let b = length-total (section_cells n) in
          let l : total cell_one (section_cells m) ≤ 1 + total cell_one (section_cells n) = here cell_one in
          omega (arith, a, b, l, cells));
      few_code = (let a = code-total (section_cells m) in
          let b = code-total (section_cells n) in
          let l : total cell_code (section_cells m) ≤ code_weight c.kind + total cell_code (section_cells n) = here cell_code in
          omega (arith, a, b, l, code));
    }

-- the same cells
same-cells : (n : Parts) (ss : List Section) (m : Parts) → IsNotebook n → m.next_cell ≡ n.next_cell → m.sections ≡ ss → m.bin ≡ n.bin → flat_map cells_of ss ≡ flat_map cells_of n.sections → CellRules m
same-cells n ss m h next sections bin same =
    let here : section_cells m ≡ section_cells n = ap (flat_map cells_of) sections ∙ same in
    let all : numbered_cells m ≡ numbered_cells n = ap (λ cs. cs ++ m.bin) here ∙ ap (λ cs. section_cells n ++ cs) bin in
    fewer-cells
    n
    m
    h
    next
    (λ w. let e : total w (section_cells m) ≡ total w (section_cells n) = ap (total w) here in omega (arith, e))
    (λ w. let e : total w (numbered_cells m) ≡ total w (numbered_cells n) = ap (total w) all in omega (arith, e))

-- sections with other names and cells
same-sections : (n m : Parts) → IsNotebook n → m.next_section ≡ n.next_section → Alike m.sections n.sections → SectionRules m
same-sections n m h next alike =
    let numbers : map section_number m.sections ≡ map section_number n.sections = alike-numbers m.sections n.sections alike in
    record {
      numbers = subst (λ (k : ℕ). AreNumbers k (map section_number m.sections)) (sym next) (subst (λ (ns : List ℕ). AreNumbers n.next_section ns) (sym numbers) (section-numbers n h));
      parents = alike-stand [] [] m.sections n.sections tt alike h.parents;
      few = (let e = alike-length m.sections n.sections alike in omega (arith, e, h.few_sections));
    }

-- what a change keeps
pub record IsKept (n m : Parts) : Type 0 where
  pub rules : IsNotebook m
  pub setup : m.setup ≡ n.setup
  pub cell_low : n.next_cell ≤ m.next_cell
  pub cell_high : m.next_cell ≤ n.next_cell + 1
  pub section_low : n.next_section ≤ m.next_section
  pub section_high : m.next_section ≤ n.next_section + 1

kept : (n m : Parts) → IsNotebook n → m.setup ≡ n.setup → m.next_cell ≡ n.next_cell → m.next_section ≡ n.next_section → CellRules m → SectionRules m → IsKept n m
kept n m h setup cell section c s = record {
  rules = rules n m h setup c s;
  setup = setup;
  cell_low = omega (arith, cell);
  cell_high = omega (arith, cell);
  section_low = omega (arith, section);
  section_high = omega (arith, section);
}

abbrev pub Keeps : Parts → Attempt → Type 0
Keeps n (Makes m made) = IsKept n m
Keeps n (Fails e) = Unit {0}

keep-if : (n : Parts) (b : Bool) (e : NoteError) (a : Attempt) → (b ≡ false → Keeps n a) → Keeps n (if b then Fails e else a)
keep-if n b e a f = elim b as (λ x. b ≡ x → Keeps n (if x then Fails e else a)) [ true ↦ λ _. tt | false ↦ f ] refl

keep-room : (n : Parts) (full b : Bool) (e : NoteError) (a : Attempt) → (b ≡ false → Keeps n (if_room full a)) → Keeps n (if_room full (if b then Fails e else a))
keep-room n full b e a f = elim b as (λ x. b ≡ x → Keeps n (if_room full (if x then Fails e else a))) [ true ↦ λ _. tt | false ↦ f ] refl

-- the notebook's name, and a section's
kept-name : (n : Parts) (name : List ℕ) → IsNotebook n → IsKept n (record n { name = name })
kept-name n name h =
    kept n (record n { name = name }) h refl refl refl (same-cells n n.sections (record n { name = name }) h refl refl refl refl) (same-sections n (record n { name = name }) h refl (alike-itself n.sections))

kept-section_name : (n : Parts) (section : ℕ) (name : List ℕ) → IsNotebook n → Keeps n (set_section_name n section name)
kept-section_name n section name h =
    let ss : List Section = with_section section (named name) n.sections in
    let m : Parts = record n { sections = ss } in
    keep-if n (lacks section n.sections) NoSection (Makes m _) (λ there. kept n m h refl refl refl (same-cells n ss m h refl refl refl (with-cells section (named name) n.sections (λ s. refl))) (same-sections n m h refl (alike-with section (named name) n.sections (λ s. record { number = refl; parent = refl }))))

-- a new section
fresh-section : (n : Parts) → IsNotebook n → list_any (is_section n.next_section) n.sections ≡ false
fresh-section n h =
    none-numbered n.next_section n.sections (sum-absent (map section_number n.sections) n.next_section (fresh-sum n.next_section (map section_number n.sections) h.next_section.1))

first-of : (n : Parts) → IsNotebook n → parents_first n.sections ≡ true
first-of n h = stand-first [] n.sections h.parents

rooted-of : (n : Parts) → IsNotebook n → AreRooted n.sections
rooted-of n h = rooted n.sections h.section_numbers.1 h.parents

sections-inserted : (n : Parts) (index : ℕ) (name : List ℕ) → IsNotebook n → index ≤ length n.sections → length n.sections + 1 ≤ 1000 → SectionRules (record n { sections = insert n.sections index (new_section n.next_section name); next_section = n.next_section + 1 })
sections-inserted n index name h within room =
    let s : Section = new_section n.next_section name in
    let ss : List Section = insert n.sections index s in
    let numbers : (w : ℕ → ℕ) → total w (map section_number ss) ≤ w n.next_section + total w (map section_number n.sections) =
    λ w.
    let a : total w (map section_number ss) ≡ total (λ (t : Section). w t.id) ss = total-map w section_number ss in
    let b : total w (map section_number n.sections) ≡ total (λ (t : Section). w t.id) n.sections = total-map w section_number n.sections in
    let l : total (λ (t : Section). w t.id) ss ≡ w n.next_section + total (λ (t : Section). w t.id) n.sections = total-insert (λ (t : Section). w t.id) n.sections index s in
    omega (arith, a, b, l) in
    record {
      numbers = one-number n.next_section (map section_number n.sections) (map section_number ss) (section-numbers n h) numbers;
      parents = stand-rooted ss (rooted-added (take index n.sections) s (drop index n.sections) refl (subst (λ (ts : List Section). AreRooted ts) (sym (take-append-drop index n.sections)) (rooted-of n h))) (first-inserted n.sections index s refl (fresh-section n h) (first-of n h));
      few = (let e = length-insert n.sections index s within in omega (arith, e, room));
    }

kept-insert_section : (n : Parts) (index : ℕ) (name : List ℕ) → IsNotebook n → Keeps n (insert_section n index name)
kept-insert_section n index name h =
    let s : Section = new_section n.next_section name in
    let m : Parts = record n { sections = insert n.sections index s; next_section = n.next_section + 1 } in
    keep-if n (nat_lt (length n.sections) index) (BadIndex (length n.sections)) _ (λ past.
    keep-if n (nat_lt 1000 (length n.sections + 1)) TooManySections (Makes m _) (λ room.
    let cells : (w : Cell → ℕ) → total w (section_cells m) ≡ total w (section_cells n) = λ w. let e = sum-insert w n.sections index s in omega (arith, e) in
    let all : (w : Cell → ℕ) → total w (numbered_cells m) ≤ total w (numbered_cells n) =
    λ w. let a = total-append w (section_cells m) n.bin in let b = total-append w (section_cells n) n.bin in omega (arith, a, b, cells w) in
    record {
      rules = rules n m h refl (fewer-cells n m h refl (λ w. omega (arith, cells w)) all) (sections-inserted n index name h (ltb-false (length n.sections) index past) (ltb-false 1000 (length n.sections + 1) room));
      setup = refl;
      cell_low = omega arith;
      cell_high = omega arith;
      section_low = omega arith;
      section_high = omega arith;
    }))

-- numbers and how many there are, by a section's place
seam-numbers : (w : ℕ → ℕ) (front : List Section) (s : Section) (back : List Section) → total w (map section_number (front ++ s ∷ back)) ≡ w s.id + total w (map section_number (front ++ back))
seam-numbers w front s back =
    let a = total-map w section_number (front ++ s ∷ back) in
    let b = total-map w section_number (front ++ back) in
    let l : total (λ (t : Section). w t.id) (front ++ s ∷ back) ≡ w s.id + total (λ (t : Section). w t.id) (front ++ back) = total-seam (λ (t : Section). w t.id) front s back in
    omega (arith, a, b, l)

seam-length : (front : List Section) (s : Section) (back : List Section) → length (front ++ s ∷ back) ≡ 1 + length (front ++ back)
seam-length front s back =
    let a = length-total (front ++ s ∷ back) in
    let b = length-total (front ++ back) in
    let l : total (λ (t : Section). 1) (front ++ s ∷ back) ≡ 1 + total (λ (t : Section). 1) (front ++ back) = total-seam (λ (t : Section). 1) front s back in
    omega (arith, a, b, l)

-- a deleted section
sections-deleted : (n : Parts) (section : ℕ) → IsNotebook n → lacks section n.sections ≡ false → has_branches section n.sections ≡ false → (m : Parts) → m.sections ≡ but_section section n.sections → m.next_section ≡ n.next_section → SectionRules m
sections-deleted n section h has alone m sections next =
    let q = spot-of section n.sections has in
    let p = q.1 in
    let left : m.sections ≡ p.front ++ p.back = sections ∙ spot-but n.sections section q.0 p h.section_numbers.1 in
    let numbers : (w : ℕ → ℕ) → total w (map section_number (p.front ++ p.back)) ≤ total w (map section_number n.sections) =
    λ w.
    let a : total w (map section_number n.sections) ≡ total w (map section_number (p.front ++ p.home ∷ p.back)) = ap (λ (ts : List Section). total w (map section_number ts)) p.parts in
    let b = seam-numbers w p.front p.home p.back in
    omega (arith, a, b) in
    let roots : AreRooted (p.front ++ p.home ∷ p.back) = subst (λ (ts : List Section). AreRooted ts) p.parts (rooted-of n h) in
    let first : parents_first (p.front ++ p.home ∷ p.back) ≡ true = ap parents_first (sym p.parts) ∙ first-of n h in
    let none : has_branches p.home.id (p.front ++ p.home ∷ p.back) ≡ false =
    ap (λ (ts : List Section). has_branches p.home.id ts) (sym p.parts) ∙ (ap (λ (k : ℕ). has_branches k n.sections) p.number ∙ alone) in
    record {
      numbers = subst (λ (k : ℕ). AreNumbers k (map section_number m.sections)) (sym next) (subst (λ (ts : List Section). AreNumbers n.next_section (map section_number ts)) (sym left) (fewer-numbers n.next_section (map section_number n.sections) (map section_number (p.front ++ p.back)) (section-numbers n h) numbers));
      parents = subst (λ (ts : List Section). ParentsStand [] ts) (sym left) (stand-rooted (p.front ++ p.back) (rooted-less p.front p.home p.back roots) (first-deleted p.front p.home p.back none first));
      few = (let a = ap (λ (ts : List Section). length ts) left in
          let b = ap (λ (ts : List Section). length ts) p.parts in
          let c = seam-length p.front p.home p.back in
          omega (arith, a, b, c, h.few_sections));
    }

kept-delete_section : (n : Parts) (section : ℕ) → IsNotebook n → Keeps n (delete_section n section)
kept-delete_section n section h =
    let m : Parts = record n { sections = but_section section n.sections; bin = n.bin ++ cells_in section n.sections } in
    keep-if n (lacks section n.sections) NoSection _ (λ there.
    keep-if n (has_branches section n.sections) HasBranches (Makes m _) (λ alone.
    let less : (w : Cell → ℕ) → total w (section_cells n) ≡ total w (cells_in section n.sections) + total w (section_cells m) = λ w. sum-but_section w section n.sections h.section_numbers.1 there in
    let all : (w : Cell → ℕ) → total w (numbered_cells m) ≤ total w (numbered_cells n) =
    λ w.
    let a = total-append w (section_cells m) (n.bin ++ cells_in section n.sections) in
    let b = total-append w (section_cells n) n.bin in
    let c = total-append w n.bin (cells_in section n.sections) in
    omega (arith, a, b, c, less w) in
    kept n m h refl refl refl (fewer-cells n m h refl (λ w. omega (arith, less w)) all) (sections-deleted n section h there alone m refl refl)))

-- a moved section
moved-kept : (n : Parts) (section at index : ℕ) (s : Section) → IsNotebook n → (p : IsSectionAt n.sections section at) → p.home ≡ s → index ≤ length (but_section s.id n.sections) → parents_first (insert (but_section s.id n.sections) index s) ≡ true → IsKept n (record n { sections = insert (but_section s.id n.sections) index s })
moved-kept n section at index s h p is within first =
    let others : List Section = but_section s.id n.sections in
    let ss : List Section = insert others index s in
    let m : Parts = record n { sections = ss } in
    let number : s.id ≡ section = ap (λ (t : Section). t.id) (sym is) ∙ p.number in
    let left : others ≡ p.front ++ p.back = ap (λ (k : ℕ). but_section k n.sections) number ∙ spot-but n.sections section at p h.section_numbers.1 in
    let parts : n.sections ≡ p.front ++ s ∷ p.back = p.parts ∙ ap (λ (t : Section). p.front ++ t ∷ p.back) is in
    let cells : (w : Cell → ℕ) → total w (section_cells m) ≡ total w (section_cells n) =
    λ w.
    let a = sum-insert w others index s in
    let b : total w (flat_map cells_of others) ≡ total w (flat_map cells_of (p.front ++ p.back)) = ap (λ (ts : List Section). total w (flat_map cells_of ts)) left in
    let c : total w (section_cells n) ≡ total w (flat_map cells_of (p.front ++ s ∷ p.back)) = ap (λ (ts : List Section). total w (flat_map cells_of ts)) parts in
    let d = total-cells w p.front s p.back in
    omega (arith, a, b, c, d) in
    let all : (w : Cell → ℕ) → total w (numbered_cells m) ≤ total w (numbered_cells n) =
    λ w. let a = total-append w (section_cells m) n.bin in let b = total-append w (section_cells n) n.bin in omega (arith, a, b, cells w) in
    let numbers : (w : ℕ → ℕ) → total w (map section_number ss) ≤ total w (map section_number n.sections) =
    λ w.
    let a = seam-numbers w (take index others) s (drop index others) in
    let b : total w (map section_number (take index others ++ drop index others)) ≡ total w (map section_number (p.front ++ p.back)) = ap (λ (ts : List Section). total w (map section_number ts)) (take-append-drop index others ∙ left) in
    let c : total w (map section_number n.sections) ≡ total w (map section_number (p.front ++ s ∷ p.back)) = ap (λ (ts : List Section). total w (map section_number ts)) parts in
    let d = seam-numbers w p.front s p.back in
    omega (arith, a, b, c, d) in
    let roots : AreRooted ss = rooted-moved (take index others) s (drop index others) p.front p.back (take-append-drop index others ∙ left) (subst (λ (ts : List Section). AreRooted ts) parts (rooted-of n h)) in
    kept n m h refl refl refl (fewer-cells n m h refl (λ w. omega (arith, cells w)) all) (record {
      numbers = fewer-numbers n.next_section (map section_number n.sections) (map section_number ss) (section-numbers n h) numbers;
      parents = stand-rooted ss roots first;
      few = (let a = length-insert others index s within in
          let b = ap (λ (ts : List Section). length ts) left in
          let c = ap (λ (ts : List Section). length ts) parts in
          let d = seam-length p.front s p.back in
          omega (arith, a, b, c, d, h.few_sections));
    })

kept-move_section : (n : Parts) (section index : ℕ) (o : Option Section) → find (is_section section) n.sections ≡ o → IsNotebook n → Keeps n (move_section n index o)
kept-move_section n section index None e h = tt
kept-move_section n section index (Some s) e h =
    let q = find-spot section n.sections s e in
    let others : List Section = but_section s.id n.sections in
    keep-if n (nat_lt (length others) index) (BadIndex (length others)) _ (λ past.
    keep-if n (not (parents_first (insert others index s))) BadParent (Makes (record n { sections = insert others index s }) _) (λ bad.
    moved-kept n section q.0.0 index s h q.0.1 q.1 (ltb-false (length others) index past) (not-false (parents_first (insert others index s)) bad)))

-- another parent
parent-numbers : (section : ℕ) (parent : Option ℕ) (ss : List Section) → map section_number (with_section section (branching parent) ss) ≡ map section_number ss
parent-numbers section parent [] = refl
parent-numbers section parent (s ∷ ss) =
    let here : (if s.id == section then branching parent s else s).id ≡ s.id = elim (s.id == section) as (λ b. (if b then branching parent s else s).id ≡ s.id) [ true ↦ refl | false ↦ refl ] in
    ap (λ k. k ∷ map section_number (with_section section (branching parent) ss)) here ∙ ap (λ ns. s.id ∷ ns) (parent-numbers section parent ss)

parent-length : (section : ℕ) (parent : Option ℕ) (ss : List Section) → length (with_section section (branching parent) ss) ≡ length ss
parent-length section parent [] = refl
parent-length section parent (s ∷ ss) = ap (λ k. suc k) (parent-length section parent ss)

parent-kept : (n : Parts) (section : ℕ) (parent : Option ℕ) → IsNotebook n → parents_first (with_section section (branching parent) n.sections) ≡ true → AreRooted (with_section section (branching parent) n.sections) → IsKept n (record n { sections = with_section section (branching parent) n.sections })
parent-kept n section parent h first roots =
    let ss : List Section = with_section section (branching parent) n.sections in
    let m : Parts = record n { sections = ss } in
    kept n m h refl refl refl (same-cells n ss m h refl refl refl (with-cells section (branching parent) n.sections (λ s. refl))) (record {
      numbers = subst (λ (ns : List ℕ). AreNumbers n.next_section ns) (sym (parent-numbers section parent n.sections)) (section-numbers n h);
      parents = stand-rooted ss roots first;
      few = (let e = parent-length section parent n.sections in omega (arith, e, h.few_sections));
    })

kept-no_parent : (n : Parts) (section : ℕ) → IsNotebook n → Keeps n (set_parent n section None)
kept-no_parent n section h =
    let ss : List Section = with_section section (branching None) n.sections in
    keep-if n (lacks section n.sections) NoSection (Makes (record n { sections = ss }) _) (λ there.
    let q = spot-of section n.sections there in
    let p = q.1 in
    let new : ss ≡ p.front ++ branching None p.home ∷ p.back = spot-with n.sections section q.0 (branching None) p h.section_numbers.1 in
    let first : parents_first (p.front ++ p.home ∷ p.back) ≡ true = ap parents_first (sym p.parts) ∙ first-of n h in
    parent-kept
    n
    section
    None
    h
    (ap parents_first new ∙ main-seam p.front p.home (branching None p.home) p.back refl refl first)
    (subst (λ (ts : List Section). AreRooted ts) (sym new) (rooted-main p.front p.home (branching None p.home) p.back refl (subst (λ (ts : List Section). AreRooted ts) p.parts (rooted-of n h)))))

kept-parent : (n : Parts) (section parent : ℕ) → IsNotebook n → Keeps n (set_parent n section (Some parent))
kept-parent n section parent h =
    let ss : List Section = with_section section (branching (Some parent)) n.sections in
    keep-if n (lacks section n.sections || lacks parent n.sections) NoSection _ (λ there.
    keep-if n (not (parents_first ss) || is_branch parent n.sections) BadParent _ (λ good.
    keep-if n (has_branches section n.sections) HasBranches (Makes (record n { sections = ss }) _) (λ alone.
    let q = spot-of section n.sections (or-none-left (lacks section n.sections) (lacks parent n.sections) there) in
    let p = q.1 in
    let first : parents_first ss ≡ true = not-false (parents_first ss) (or-none-left (not (parents_first ss)) (is_branch parent n.sections) good) in
    let root : is_branch parent n.sections ≡ false = or-none-right (not (parents_first ss)) (is_branch parent n.sections) good in
    let new : ss ≡ p.front ++ branching (Some parent) p.home ∷ p.back = spot-with n.sections section q.0 (branching (Some parent)) p h.section_numbers.1 in
    let before : parents_first (p.front ++ p.home ∷ p.back) ≡ true = ap parents_first (sym p.parts) ∙ first-of n h in
    let early : list_any (is_section parent) p.front ≡ true = sym (branch-seam p.front p.home p.back parent before) ∙ (ap parents_first (sym new) ∙ first) in
    let none : has_branches p.home.id (p.front ++ p.home ∷ p.back) ≡ false =
    ap (λ (ts : List Section). has_branches p.home.id ts) (sym p.parts) ∙ (ap (λ (k : ℕ). has_branches k n.sections) p.number ∙ alone) in
    let other : (p.home.id == parent) ≡ false =
    false-from (p.home.id == parent) (λ e.
    let same : section ≡ parent = sym p.number ∙ eqb-true p.home.id parent e in
    let clash : true ≡ false = sym early ∙ (ap (λ (k : ℕ). list_any (is_section k) p.front) (sym same) ∙ p.first) in
    cc) in
    parent-kept
    n
    section
    (Some parent)
    h
    first
    (subst (λ (ts : List Section). AreRooted ts) (sym new) (rooted-branch p.front p.home p.back parent none other (ap (is_branch parent) (sym p.parts) ∙ root) (subst (λ (ts : List Section). AreRooted ts) p.parts (rooted-of n h)))))))

kept-set_parent : (n : Parts) (section : ℕ) (parent : Option ℕ) → IsNotebook n → Keeps n (set_parent n section parent)
kept-set_parent n section None h = kept-no_parent n section h
kept-set_parent n section (Some parent) h = kept-parent n section parent h

-- numbers of their own, in a part
distinct-rest : (xs ys : List Cell) → AreDistinct (map cell_number (xs ++ ys)) → AreDistinct (map cell_number ys)
distinct-rest [] ys h = h
distinct-rest (x ∷ xs) ys h = distinct-rest xs ys h.1

distinct-front : (xs ys : List Cell) → AreDistinct (map cell_number (xs ++ ys)) → AreDistinct (map cell_number xs)
distinct-front xs ys h =
    sum-distinct (map cell_number xs) (λ k.
    let few = distinct-sum (map cell_number (xs ++ ys)) k h in
    let a = total-map (same k) cell_number xs in
    let b = total-map (same k) cell_number (xs ++ ys) in
    let c = total-append (λ (d : Cell). same k d.id) xs ys in
    omega (arith, few, a, b, c))

kind-of-found : (xs front : List Cell) (c : Cell) (back : List Cell) → AllByRecursion IsSectionCell (xs ++ (front ++ c ∷ back)) → IsSectionCell c
kind-of-found [] [] c back h = h.0
kind-of-found [] (d ∷ front) c back h = kind-of-found [] front c back h.1
kind-of-found (x ∷ xs) front c back h = kind-of-found xs front c back h.1

-- a new cell
pub distinct-cells : (n : Parts) → IsNotebook n → AreDistinct (map cell_number (section_cells n))
distinct-cells n h = distinct-front (section_cells n) n.bin h.cell_numbers.1

distinct-bin : (n : Parts) → IsNotebook n → AreDistinct (map cell_number n.bin)
distinct-bin n h = distinct-rest (section_cells n) n.bin h.cell_numbers.1

put-alike : (section index : ℕ) (c : Cell) (ss : List Section) → Alike (put_cell section index c ss) ss
put-alike section index c ss = alike-with section (with_cell index c) ss (λ s. record { number = refl; parent = refl })

section-kind : (k : CellKind) → IsSectionKind (kind_of k)
section-kind cell_kinds.Code = tt
section-kind cell_kinds.Markdown = tt

placed-kept : (n m : Parts) (c : Cell) → IsNotebook n → m.setup ≡ n.setup → m.next_section ≡ n.next_section → Alike m.sections n.sections → c.id ≡ n.next_cell → IsSectionCell c → m.next_cell ≡ n.next_cell + 1 → is_full n c.kind ≡ false → ((w : Cell → ℕ) → total w (section_cells m) ≡ w c + total w (section_cells n)) → ((w : Cell → ℕ) → total w m.bin ≤ total w n.bin) → IsKept n m
placed-kept n m c h setup section alike number kind next room cells bin =
    let all : (w : Cell → ℕ) → total w (numbered_cells m) ≤ w c + total w (numbered_cells n) =
    λ w. let a = total-append w (section_cells m) m.bin in let b = total-append w (section_cells n) n.bin in omega (arith, a, b, cells w, bin w) in
    record {
      rules = rules n m h setup (more-cells n m c h number kind next room (λ w. omega (arith, cells w)) all) (same-sections n m h section alike);
      setup = setup;
      cell_low = omega (arith, next);
      cell_high = omega (arith, next);
      section_low = omega (arith, section);
      section_high = omega (arith, section);
    }

kept-insert_cell : (n : Parts) (section index : ℕ) (kind : Kind) → IsSectionKind kind → IsNotebook n → Keeps n (insert_cell n section index kind)
kept-insert_cell n section index kind it h =
    let c : Cell = new_cell n.next_cell kind in
    let m : Parts = record n { sections = put_cell section index c n.sections; next_cell = n.next_cell + 1 } in
    keep-room n (is_full n kind) (lacks section n.sections) NoSection _ (λ there.
    keep-room n (is_full n kind) (nat_lt (length (cells_in section n.sections)) index) (BadIndex (length (cells_in section n.sections))) _ (λ past.
    keep-if n (is_full n kind) TooManyCells (Makes m _) (λ room.
    placed-kept n m c h refl refl (put-alike section index c n.sections) refl it refl room (λ w. sum-put w section index c n.sections h.section_numbers.1 there) (λ w. omega arith))))

-- a restored cell
kept-restore_cell : (n : Parts) (id section index : ℕ) (o : Option Cell) → found id n.bin ≡ o → IsNotebook n → Keeps n (restore_cell n section index o)
kept-restore_cell n id section index None e h = tt
kept-restore_cell n id section index (Some c) e h =
    let r : Cell = renumbered n.next_cell c in
    let m : Parts = record n { sections = put_cell section index r n.sections; bin = but_cell c.id n.bin; next_cell = n.next_cell + 1 } in
    let p = found-split id n.bin c e in
    let kind : IsSectionCell c = kind-of-found (section_cells n) p.front c p.back (subst (λ (cs : List Cell). AllByRecursion IsSectionCell (section_cells n ++ cs)) p.parts h.kinds) in
    let bin : (w : Cell → ℕ) → total w (but_cell c.id n.bin) ≤ total w n.bin =
    λ w.
    let a = sum-but_cell w id n.bin c (distinct-bin n h) e in
    let b : total w (but_cell c.id n.bin) ≡ total w (but_cell id n.bin) = ap (λ (k : ℕ). total w (but_cell k n.bin)) p.number in
    omega (arith, a, b) in
    keep-room n (is_full n c.kind) (lacks section n.sections) NoSection _ (λ there.
    keep-room n (is_full n c.kind) (nat_lt (length (cells_in section n.sections)) index) (BadIndex (length (cells_in section n.sections))) _ (λ past.
    keep-if n (is_full n c.kind) TooManyCells (Makes m _) (λ room.
    placed-kept n m r h refl refl (put-alike section index r n.sections) refl kind refl room (λ w. sum-put w section index r n.sections h.section_numbers.1 there) bin)))

-- a deleted cell
kept-delete_cell : (n : Parts) (id : ℕ) (o : Option Cell) → found id (section_cells n) ≡ o → IsNotebook n → Keeps n (delete_cell n o)
kept-delete_cell n id None e h = tt
kept-delete_cell n id (Some c) e h =
    let m : Parts = record n { sections = cut_cell c.id n.sections; bin = n.bin ++ c ∷ [] } in
    let p = found-split id (section_cells n) c e in
    let less : (w : Cell → ℕ) → total w (section_cells n) ≡ w c + total w (section_cells m) =
    λ w.
    let a = sum-but_cell w id (section_cells n) c (distinct-cells n h) e in
    let b : total w (section_cells m) ≡ total w (but_cell id (section_cells n)) =
    ap (total w) (cut-cells c.id n.sections) ∙ ap (λ (k : ℕ). total w (but_cell k (section_cells n))) p.number in
    omega (arith, a, b) in
    let all : (w : Cell → ℕ) → total w (numbered_cells m) ≤ total w (numbered_cells n) =
    λ w.
    let a = total-append w (section_cells m) (n.bin ++ c ∷ []) in
    let b = total-append w (section_cells n) n.bin in
    let d : total w (n.bin ++ c ∷ []) ≡ total w n.bin + (w c + 0) = total-append w n.bin (c ∷ []) in
    omega (arith, a, b, d, less w) in
    kept n m h refl refl refl (fewer-cells n m h refl (λ w. omega (arith, less w)) all) (same-sections n m h refl (alike-cut c.id n.sections))

-- a moved cell
kept-move_cell : (n : Parts) (id section index : ℕ) (o : Option Cell) → found id (section_cells n) ≡ o → IsNotebook n → Keeps n (move_cell n section index o)
kept-move_cell n id section index None e h = tt
kept-move_cell n id section index (Some c) e h =
    let others : List Section = cut_cell c.id n.sections in
    let ss : List Section = put_cell section index c others in
    let m : Parts = record n { sections = ss } in
    let p = found-split id (section_cells n) c e in
    keep-if n (lacks section others) NoSection _ (λ there.
    keep-if n (nat_lt (length (cells_in section others)) index) (BadIndex (length (cells_in section others))) (Makes m _) (λ past.
    let cells : (w : Cell → ℕ) → total w (section_cells m) ≡ total w (section_cells n) =
    λ w.
    let a = sum-but_cell w id (section_cells n) c (distinct-cells n h) e in
    let b : total w (flat_map cells_of others) ≡ total w (but_cell id (section_cells n)) =
    ap (total w) (cut-cells c.id n.sections) ∙ ap (λ (k : ℕ). total w (but_cell k (section_cells n))) p.number in
    let d = sum-put w section index c others (subst (λ (ns : List ℕ). AreDistinct ns) (sym (cut-numbers c.id n.sections)) h.section_numbers.1) there in
    omega (arith, a, b, d) in
    let all : (w : Cell → ℕ) → total w (numbered_cells m) ≤ total w (numbered_cells n) =
    λ w. let a = total-append w (section_cells m) n.bin in let b = total-append w (section_cells n) n.bin in omega (arith, a, b, cells w) in
    kept n m h refl refl refl (fewer-cells n m h refl (λ w. omega (arith, cells w)) all) (same-sections n m h refl (alike-join ss others n.sections (put-alike section index c others) (alike-cut c.id n.sections)))))

-- each change
pub change-kept : (n : Parts) (asked : Change) → IsNotebook n → Keeps n (change n asked)
change-kept n (SetName name) h = kept-name n name h
change-kept n (InsertSection index name) h = kept-insert_section n index name h
change-kept n (SetSectionName section name) h = kept-section_name n section name h
change-kept n (DeleteSection section) h = kept-delete_section n section h
change-kept n (MoveSection section index) h = kept-move_section n section index (find (is_section section) n.sections) refl h
change-kept n (SetParent section parent) h = kept-set_parent n section parent h
change-kept n (InsertCell section index kind) h = kept-insert_cell n section index (kind_of kind) (section-kind kind) h
change-kept n (DeleteCell cell) h = kept-delete_cell n cell (found cell (section_cells n)) refl h
change-kept n (RestoreCell cell section index) h = kept-restore_cell n cell section index (found cell n.bin) refl h
change-kept n (MoveCell cell section index) h = kept-move_cell n cell section index (found cell (section_cells n)) refl h

-- the laws for the layers above
pub change-keeps-all : (n m : Parts) (asked : Change) (made : Changed) → IsNotebook n → change n asked ≡ Makes m made → IsKept n m
change-keeps-all n m asked made h e = subst (λ (a : Attempt). Keeps n a) e (change-kept n asked h)

pub change-keeps : (n m : Parts) (asked : Change) (made : Changed) → IsNotebook n → change n asked ≡ Makes m made → IsNotebook m
change-keeps n m asked made h e = (change-keeps-all n m asked made h e).rules

pub change-setup : (n m : Parts) (asked : Change) (made : Changed) → IsNotebook n → change n asked ≡ Makes m made → m.setup ≡ n.setup
change-setup n m asked made h e = (change-keeps-all n m asked made h e).setup

pub change-counts : (n m : Parts) (asked : Change) (made : Changed) → IsNotebook n → change n asked ≡ Makes m made → (n.next_cell ≤ m.next_cell) × (m.next_cell ≤ n.next_cell + 1) × (n.next_section ≤ m.next_section) × (m.next_section ≤ n.next_section + 1)
change-counts n m asked made h e =
    let k = change-keeps-all n m asked made h e in
    (k.cell_low, k.cell_high, k.section_low, k.section_high)

-- by the answer of a call
pub answered-keeps : (n m : Parts) (asked : Change) (r : Result Changed NoteError) → IsNotebook n → IsAnswered n asked m r → IsNotebook m
answered-keeps n m asked (Ok made) h a = change-keeps n m asked made h a
answered-keeps n m asked (Err e) h a = subst (λ (k : Parts). IsNotebook k) (sym a.1) h

pub answered-made : (n m : Parts) (asked : Change) (r : Result Changed NoteError) → IsAnswered n asked m r → IfOk r (λ made. change n asked ≡ Makes m made)
answered-made n m asked (Ok made) a = a
answered-made n m asked (Err e) a = tt

pub answered-cause : (n m : Parts) (asked : Change) (r : Result Changed NoteError) → IsAnswered n asked m r → IfErr r (Refuses n asked)
answered-cause n m asked (Ok made) a = tt
answered-cause n m asked (Err e) a = a.0

pub answered-refused : (n m : Parts) (asked : Change) (r : Result Changed NoteError) → IsAnswered n asked m r → OnErr r (m ≡ n)
answered-refused n m asked (Ok made) a = tt
answered-refused n m asked (Err e) a = a.1
