-- The notebook that the items of a written book make.
use Rattle.std.proofs.Common.{◌≡◌, inl, inr, ℕ, ◌+◌, suc, Bool, true, false, ◌&&◌, cond, List, [], ◌∷◌, ◌++◌, Option, Some, None, length, refl, sym, ap, ◌∙◌, arith, append_assoc, length-append}
use Rattle.std.specs.Prelude.{chars, encode_utf8_all}
use Rattle.std.specs.List.{AllByRecursion, flat_map, fold}
use Rattle.std.proofs.lemmas.List.{append-nil}
use Rattle.notebook.specs.declared.parts.Cell.{Cell}
use Rattle.notebook.specs.declared.parts.Saved.{Saved}
use Rattle.notebook.specs.declared.parts.Section.{Section}
use Rattle.notebook.specs.declared.parts.Parts.{Parts}
use Rattle.notebook.specs.declared.parts.Kind.{Kind}
use Rattle.notebook.specs.declared.parts.Kind.TheVariants as cell
use Rattle.notebook.specs.Book.{cells_of, empty_setup, untitled}
use Rattle.notebook.specs.Rules.{IsSectionKind}
use Rattle.livemd_lines.specs.declared.metadata.Metadata.TheVariants as metadata
use Rattle.blanks.specs.Blanks.{is_empty}
use Rattle.livemd_lines.specs.Meanings.{metadata_of}
use Rattle.livemd_format.specs.Items as item
use Rattle.livemd_format.specs.Items.{Item}
use Rattle.livemd_format.specs.Made.{notebook_of, notices_of}
use Rattle.livemd_format.specs.RoundTrip.{EndsWithoutStamp}
use Rattle.livemd_format.specs.Settled.{settle, settled}
use Rattle.livemd_format.specs.Tidy.{is_markdown}
use Rattle.livemd_format.specs.Walk.{Draft, drafted, finished, take_branch, with_item}
use Rattle.livemd_format.proofs.Adding.{cell_added, cell_of, output_added, parts_at}
use Rattle.livemd_format.proofs.Books.{book_items, branch_items, break_items, cell_items, first_at, kept_item, kept_items, other_ats, own_items, saved_items, section_items, sections_items, setup_items}
use Rattle.livemd_format.proofs.Tidiness.{AreTidyCells, AreTidyKept, AreTidySections, IsFound, IsTidyBook, IsTidyCode, IsTidyKept, IsTidyOwn, IsTidySaved, IsTidySection}
use Rattle.livemd_format.proofs.Walking.{notebook_is_walked, notices_are_walked}

-- what items add to a draft, settled
abbrev run : Draft → List Item → Draft
run d is = fold with_item d (settled is)

-- a draft without notices
abbrev draft : Parts → Option ℕ → List (List ℕ) → Draft
draft n parent waiting = record { parts = n; parent = parent; waiting = waiting; notices = [] }

-- ---- kept lines

some_left : {X : Type 0} (xs ys : List X) → is_empty ys ≡ false → is_empty (xs ++ ys) ≡ false
some_left [] ys h = h
some_left (x ∷ xs) ys h = refl

-- one that something follows is kept
settles_kept : (line : List ℕ) (rest : List Item) → IsTidyKept line → is_empty rest ≡ false → settle (kept_item line) rest ≡ item.Kept (encode_utf8_all line)
settles_kept line rest h some =
    elim h.unknown [
      | inl e ↦ rw e refl
      | inr e ↦ rw (e, some) refl
    ]

run_step : (n : Parts) (o : Option ℕ) (w : List (List ℕ)) (line : List ℕ) (i : Item) (rest : List Item) → IsTidyKept line → settle i rest ≡ item.Kept (encode_utf8_all line) → run (draft n o w) (i ∷ rest) ≡ run (draft n o (w ++ line ∷ [])) rest
run_step n o w line i rest h e = ap (λ j. fold with_item (with_item (draft n o w) j) (settled rest)) e ∙ ap (λ t. run (draft n o (w ++ t ∷ [])) rest) h.text

run_kept : (n : Parts) (o : Option ℕ) (w ls : List (List ℕ)) (rest : List Item) → AreTidyKept ls → is_empty rest ≡ false → run (draft n o w) (kept_items ls ++ rest) ≡ run (draft n o (w ++ ls)) rest
run_kept n o w [] rest h some = ap (λ v. run (draft n o v) rest) (sym (append-nil w))
run_kept n o w (l ∷ ls) rest h some =
    run_step n o w l (kept_item l) (kept_items ls ++ rest) h.0 (settles_kept l (kept_items ls ++ rest) h.0 (some_left (kept_items ls) rest some))
    ∙ (run_kept n o (w ++ l ∷ []) ls rest h.1 some ∙ ap (λ v. run (draft n o v) rest) (append_assoc w (l ∷ []) ls))

settles_last : (line : List ℕ) → IsTidyKept line → ¬ (metadata_of (encode_utf8_all line) ≡ Some metadata.Stamp) → settle (kept_item line) [] ≡ item.Kept (encode_utf8_all line)
settles_last line h no_stamp =
    elim h.unknown [
      | inl e ↦ rw e refl
      | inr e ↦ absurd (no_stamp e)
    ]

run_last : (n : Parts) (o : Option ℕ) (w ls : List (List ℕ)) → AreTidyKept ls → EndsWithoutStamp ls → run (draft n o w) (kept_items ls) ≡ draft n o (w ++ ls)
run_last n o w [] h s = ap (draft n o) (sym (append-nil w))
run_last n o w (l ∷ []) h s = run_step n o w l (kept_item l) [] h.0 (settles_last l h.0 s)
run_last n o w (l ∷ k ∷ ls) h s =
    run_step n o w l (kept_item l) (kept_items (k ∷ ls)) h.0 (settles_kept l (kept_items (k ∷ ls)) h.0 refl)
    ∙ (run_last n o (w ++ l ∷ []) (k ∷ ls) h.1 s ∙ ap (draft n o) (append_assoc w (l ∷ []) (k ∷ ls)))

-- ---- cells

-- the draft whose last section has these cells
abbrev at_cells : Parts → List Section → Section → List Cell → ℕ → ℕ → List (List ℕ) → Draft
at_cells n front s cs next_cell next_section w = draft (parts_at n (front ++ record s { cells = cs } ∷ []) next_cell next_section) None w

saved_same : (o : Saved) (info text : List ℕ) → info ≡ o.info → text ≡ o.text → record { info = info; text = text } ≡ o
saved_same o info text e f = ap (λ i. record { info = i; text = text }) e ∙ ap (λ t. record { info = o.info; text = t }) f

run_saved : (n : Parts) (front : List Section) (s : Section) (cs : List Cell) (nc ns id : ℕ) (kind : Kind) (source : List ℕ) (before : List (List ℕ)) (had os : List Saved) (rest : List Item) → AllByRecursion IsTidySaved os
    → run (at_cells n front s (cs ++ cell_of id kind source before had ∷ []) nc ns []) (saved_items os ++ rest) ≡ run (at_cells n front s (cs ++ cell_of id kind source before (had ++ os) ∷ []) nc ns []) rest
run_saved n front s cs nc ns id kind source before had [] rest h = ap (λ v. run (at_cells n front s (cs ++ cell_of id kind source before v ∷ []) nc ns []) rest) (sym (append-nil had))
run_saved n front s cs nc ns id kind source before had (o ∷ os) rest h =
    let shown : Saved = record { info = chars (encode_utf8_all o.info); text = chars (encode_utf8_all o.text) } in
    ap (λ p. run (draft p None []) (saved_items os ++ rest)) (output_added n front s cs (cell_of id kind source before had) nc ns shown)
    ∙ (ap (λ v. run (at_cells n front s (cs ++ cell_of id kind source before (had ++ v ∷ []) ∷ []) nc ns []) (saved_items os ++ rest)) (saved_same o (chars (encode_utf8_all o.info)) (chars (encode_utf8_all o.text)) h.0.info_text h.0.text.text)
    ∙ (run_saved n front s cs nc ns id kind source before (had ++ o ∷ []) os rest h.1
    ∙ ap (λ v. run (at_cells n front s (cs ++ cell_of id kind source before v ∷ []) nc ns []) rest) (append_assoc had (o ∷ []) os)))

run_own : (n : Parts) (front : List Section) (s : Section) (cs : List Cell) (nc ns : ℕ) (kind : Kind) (source : List ℕ) (before : List (List ℕ)) (saved : List Saved) (rest : List Item) → IsSectionKind kind → IsTidyOwn kind source saved
    → run (at_cells n front s cs nc ns before) (own_items (cell_of nc kind source before saved) ++ rest) ≡ run (at_cells n front s (cs ++ cell_of nc kind source before saved ∷ []) (nc + 1) ns []) rest
run_own n front s cs nc ns cell.Setup source before saved rest k h = absurd k
run_own n front s cs nc ns cell.Markdown source before saved rest k h =
    ap (λ p. run (draft p None []) rest) (cell_added n front s cs nc ns cell.Markdown (chars (encode_utf8_all source)) before)
    ∙ (ap (λ t. run (at_cells n front s (cs ++ cell_of nc cell.Markdown t before [] ∷ []) (nc + 1) ns []) rest) h.source_text.text
    ∙ ap (λ v. run (at_cells n front s (cs ++ cell_of nc cell.Markdown source before v ∷ []) (nc + 1) ns []) rest) (sym h.outputs))
run_own n front s cs nc ns cell.Code source before saved rest k h =
    ap (λ p. run (draft p None []) (saved_items saved ++ rest)) (cell_added n front s cs nc ns cell.Code (chars (encode_utf8_all source)) before)
    ∙ (ap (λ t. run (at_cells n front s (cs ++ cell_of nc cell.Code t before [] ∷ []) (nc + 1) ns []) (saved_items saved ++ rest)) h.source_text.text
    ∙ run_saved n front s cs (nc + 1) ns nc cell.Code source before [] saved rest h.outputs)

some_own : (m : Bool) (i : Item) (j : Item) (is rest : List Item) → is_empty (cond m (i ∷ []) (j ∷ is) ++ rest) ≡ false
some_own true i j is rest = refl
some_own false i j is rest = refl

run_break : (b : Bool) (d : Draft) (rest : List Item) → run d (cond b (item.Dropped ∷ []) [] ++ rest) ≡ run d rest
run_break true d rest = refl
run_break false d rest = refl

one_more : (n : ℕ) → suc n ≡ n + 1
one_more n = omega arith

run_cells : (n : Parts) (front : List Section) (s : Section) (cs : List Cell) (nc ns : ℕ) (after : Bool) (ds : List Cell) (rest : List Item) → AreTidyCells nc ds
    → run (at_cells n front s cs nc ns []) (cell_items after ds ++ rest) ≡ run (at_cells n front s (cs ++ ds) (nc + length ds) ns []) rest
run_cells n front s cs nc ns after [] rest h =
    let z : nc ≡ nc + 0 = omega arith in
    ap (λ k. run (at_cells n front s cs k ns []) rest) z ∙ ap (λ v. run (at_cells n front s v (nc + 0) ns []) rest) (sym (append-nil cs))
run_cells n front s cs nc ns after (d ∷ ds) rest h =
    let m : Bool = is_markdown d.kind in
    let next : List Item = cell_items m ds ++ rest in
    let own : List Item = own_items d ++ next in
    let grouped : cell_items after (d ∷ ds) ++ rest ≡ break_items after d ++ (kept_items d.before ++ own) =
    append_assoc (break_items after d) (kept_items d.before ++ (own_items d ++ cell_items m ds)) rest
    ∙ ap (λ w. break_items after d ++ w) (append_assoc (kept_items d.before) (own_items d ++ cell_items m ds) rest ∙ ap (λ w. kept_items d.before ++ w) (append_assoc (own_items d) (cell_items m ds) rest)) in
    let d0 : Draft = at_cells n front s cs nc ns [] in
    let here : cell_of nc d.kind d.source d.before d.saved ≡ d = ap (λ i. cell_of i d.kind d.source d.before d.saved) (sym h.0.id) in
    let count : (nc + 1) + length ds ≡ nc + length (d ∷ ds) = omega arith in
    let cells : AreTidyCells (nc + 1) ds = rw (← one_more nc) h.1 in
    ap (run d0) grouped
    ∙ (run_break (after && (m && is_empty d.before)) d0 (kept_items d.before ++ own)
    ∙ (run_kept (parts_at n (front ++ record s { cells = cs } ∷ []) nc ns) None [] d.before own h.0.before (some_own m (item.Markdown (encode_utf8_all d.source)) (item.Code (encode_utf8_all d.source)) (saved_items d.saved) next)
    ∙ (run_own n front s cs nc ns d.kind d.source d.before d.saved next h.0.kinds h.0.own
    ∙ (ap (λ c. run (at_cells n front s (cs ++ c ∷ []) (nc + 1) ns []) next) here
    ∙ (run_cells n front s (cs ++ d ∷ []) (nc + 1) ns m ds rest cells
    ∙ (ap (λ v. run (at_cells n front s v ((nc + 1) + length ds) ns []) rest) (append_assoc cs (d ∷ []) ds)
    ∙ ap (λ k. run (at_cells n front s (cs ++ d ∷ ds) k ns []) rest) count))))))

-- ---- sections

run_branch : (n : Parts) (all front : List Section) (nc ns at : ℕ) (o : Option ℕ) (w : List (List ℕ)) (name : List ℕ) (rest : List Item) → IsFound all front o
    → run (draft (parts_at n front nc ns) None w) (branch_items all o at ++ item.Section name ∷ rest) ≡ run (draft (parts_at n front nc ns) o w) (item.Section name ∷ rest)
run_branch n all front nc ns at None w name rest h = refl
run_branch n all front nc ns at (Some parent) w name rest h = ap (λ p. run (take_branch at p (draft (parts_at n front nc ns) None w)) (item.Section name ∷ rest)) h.0

some_section : (all : List Section) (o : Option ℕ) (at : ℕ) (name : List ℕ) (rest : List Item) → is_empty (branch_items all o at ++ item.Section name ∷ rest) ≡ false
some_section all None at name rest = refl
some_section all (Some parent) at name rest = refl

section_same : (s : Section) (id : ℕ) (name : List ℕ) → id ≡ s.id → name ≡ s.name → record { id = id; name = name; before = s.before; parent = s.parent; cells = [] } ≡ record s { cells = [] }
section_same s id name e f = ap (λ i. record { id = i; name = name; before = s.before; parent = s.parent; cells = [] }) e ∙ ap (λ t. record { id = s.id; name = t; before = s.before; parent = s.parent; cells = [] }) f

run_section : (n : Parts) (all front : List Section) (nc ns at : ℕ) (s : Section) (rest : List Item) → IsTidySection all front ns nc s
    → run (draft (parts_at n front nc ns) None []) (section_items all s at ++ rest) ≡ run (draft (parts_at n (front ++ s ∷ []) (nc + length s.cells) (ns + 1)) None []) rest
run_section n all front nc ns at s rest h =
    let name : List ℕ = encode_utf8_all s.name in
    let cells : List Item = cell_items false s.cells ++ rest in
    let head : List Item = branch_items all s.parent at ++ item.Section name ∷ cells in
    let grouped : section_items all s at ++ rest ≡ kept_items s.before ++ head =
    append_assoc (kept_items s.before) (branch_items all s.parent at ++ item.Section name ∷ cell_items false s.cells) rest
    ∙ ap (λ w. kept_items s.before ++ w) (append_assoc (branch_items all s.parent at) (item.Section name ∷ cell_items false s.cells) rest) in
    ap (run (draft (parts_at n front nc ns) None [])) grouped
    ∙ (run_kept (parts_at n front nc ns) None [] s.before head h.before (some_section all s.parent at name cells)
    ∙ (run_branch n all front nc ns at s.parent s.before name cells h.parent
    ∙ (ap (λ t. run (draft (parts_at n (front ++ t ∷ []) nc (ns + 1)) None []) cells) (section_same s ns (chars name) (sym h.id) h.name.text)
    ∙ run_cells n front s [] nc (ns + 1) false s.cells rest h.cells)))

run_sections : (n : Parts) (all front : List Section) (nc ns : ℕ) (ss : List Section) (ats : List ℕ) (rest : List Item) → AreTidySections all front ns nc ss
    → run (draft (parts_at n front nc ns) None []) (sections_items all ss ats ++ rest) ≡ run (draft (parts_at n (front ++ ss) (nc + length (flat_map cells_of ss)) (ns + length ss)) None []) rest
run_sections n all front nc ns [] ats rest h =
    let c : nc ≡ nc + 0 = omega arith in
    let z : ns ≡ ns + 0 = omega arith in
    ap (λ k. run (draft (parts_at n front k ns) None []) rest) c
    ∙ (ap (λ k. run (draft (parts_at n front (nc + 0) k) None []) rest) z ∙ ap (λ us. run (draft (parts_at n us (nc + 0) (ns + 0)) None []) rest) (sym (append-nil front)))
run_sections n all front nc ns (s ∷ ss) ats rest h =
    let at : ℕ = first_at ats in
    let others : List ℕ = other_ats ats in
    let cells : length (s.cells ++ flat_map cells_of ss) ≡ length s.cells + length (flat_map cells_of ss) = length-append s.cells (flat_map cells_of ss) in
    let count : (nc + length s.cells) + length (flat_map cells_of ss) ≡ nc + length (flat_map cells_of (s ∷ ss)) = omega (arith, cells) in
    let number : (ns + 1) + length ss ≡ ns + length (s ∷ ss) = omega arith in
    let more : AreTidySections all (front ++ s ∷ []) (ns + 1) (nc + length s.cells) ss = rw (← one_more ns) h.1 in
    ap (run (draft (parts_at n front nc ns) None [])) (append_assoc (section_items all s at) (sections_items all ss others) rest)
    ∙ (run_section n all front nc ns at s (sections_items all ss others ++ rest) h.0
    ∙ (run_sections n all (front ++ s ∷ []) (nc + length s.cells) (ns + 1) ss others rest more
    ∙ (ap (λ us. run (draft (parts_at n us ((nc + length s.cells) + length (flat_map cells_of ss)) ((ns + 1) + length ss)) None []) rest) (append_assoc front (s ∷ []) ss)
    ∙ (ap (λ k. run (draft (parts_at n (front ++ s ∷ ss) k ((ns + 1) + length ss)) None []) rest) count
    ∙ ap (λ k. run (draft (parts_at n (front ++ s ∷ ss) (nc + length (flat_map cells_of (s ∷ ss))) k) None []) rest) number))))

-- ---- the setup cell

-- a notebook of a name and a setup cell
abbrev opened : List ℕ → List (List ℕ) → Cell → Parts
opened name before setup = record { name = name; before = before; setup = setup; sections = []; bin = []; after = []; next_cell = 1; next_section = 1 }

run_setup_saved : (name : List ℕ) (lines : List (List ℕ)) (source : List ℕ) (before : List (List ℕ)) (had os : List Saved) (rest : List Item) → AllByRecursion IsTidySaved os
    → run (draft (opened name lines (cell_of 0 cell.Setup source before had)) None []) (saved_items os ++ rest) ≡ run (draft (opened name lines (cell_of 0 cell.Setup source before (had ++ os))) None []) rest
run_setup_saved name lines source before had [] rest h = ap (λ v. run (draft (opened name lines (cell_of 0 cell.Setup source before v)) None []) rest) (sym (append-nil had))
run_setup_saved name lines source before had (o ∷ os) rest h =
    ap (λ v. run (draft (opened name lines (cell_of 0 cell.Setup source before (had ++ v ∷ []))) None []) (saved_items os ++ rest)) (saved_same o (chars (encode_utf8_all o.info)) (chars (encode_utf8_all o.text)) h.0.info_text h.0.text.text)
    ∙ (run_setup_saved name lines source before (had ++ o ∷ []) os rest h.1
    ∙ ap (λ v. run (draft (opened name lines (cell_of 0 cell.Setup source before v)) None []) rest) (append_assoc had (o ∷ []) os))

nothing : {X : Type 0} (xs : List X) → is_empty xs ≡ true → xs ≡ []
nothing [] h = refl
nothing (x ∷ xs) h = absurd cc

three_of : (a b c : Bool) → (a && (b && c)) ≡ true → (a ≡ true) × (b ≡ true) × (c ≡ true)
three_of true true c h = (refl, refl, h)
three_of true false c h = absurd cc
three_of false b c h = absurd cc

run_setup_by : (b : Bool) (name : List ℕ) (lines : List (List ℕ)) (source : List ℕ) (before : List (List ℕ)) (saved : List Saved) (rest : List Item) → (is_empty source && (is_empty before && is_empty saved)) ≡ b → AreTidyKept before → IsTidyCode source saved
    → run (draft (opened name lines empty_setup) None []) (cond b [] (kept_items before ++ item.Setup (encode_utf8_all source) ∷ saved_items saved) ++ rest) ≡ run (draft (opened name lines (cell_of 0 cell.Setup source before saved)) None []) rest
run_setup_by true name lines source before saved rest e h o =
    let t = three_of (is_empty source) (is_empty before) (is_empty saved) e in
    ap (λ v. run (draft (opened name lines (cell_of 0 cell.Setup v [] [])) None []) rest) (sym (nothing source t.0))
    ∙ (ap (λ v. run (draft (opened name lines (cell_of 0 cell.Setup source v [])) None []) rest) (sym (nothing before t.1))
    ∙ ap (λ v. run (draft (opened name lines (cell_of 0 cell.Setup source before v)) None []) rest) (sym (nothing saved t.2)))
run_setup_by false name lines source before saved rest e h o =
    ap (run (draft (opened name lines empty_setup) None [])) (append_assoc (kept_items before) (item.Setup (encode_utf8_all source) ∷ saved_items saved) rest)
    ∙ (run_kept (opened name lines empty_setup) None [] before (item.Setup (encode_utf8_all source) ∷ (saved_items saved ++ rest)) h refl
    ∙ (ap (λ t. run (draft (opened name lines (cell_of 0 cell.Setup t before [])) None []) (saved_items saved ++ rest)) o.source_text.text
    ∙ run_setup_saved name lines source before [] saved rest o.outputs))

-- ---- the whole notebook

book_same : (n : Parts) (name : List ℕ) (setup : Cell) (next_cell next_section : ℕ) → name ≡ n.name → setup ≡ n.setup → n.bin ≡ [] → next_cell ≡ n.next_cell → next_section ≡ n.next_section
    → record { name = name; before = n.before; setup = setup; sections = n.sections; bin = []; after = n.after; next_cell = next_cell; next_section = next_section } ≡ n
book_same n name setup nc ns e f g p q =
    ap (λ v. record { name = v; before = n.before; setup = setup; sections = n.sections; bin = []; after = n.after; next_cell = nc; next_section = ns }) e
    ∙ (ap (λ v. record { name = n.name; before = n.before; setup = v; sections = n.sections; bin = []; after = n.after; next_cell = nc; next_section = ns }) f
    ∙ (ap (λ v. record { name = n.name; before = n.before; setup = n.setup; sections = n.sections; bin = v; after = n.after; next_cell = nc; next_section = ns }) (sym g)
    ∙ (ap (λ v. record { name = n.name; before = n.before; setup = n.setup; sections = n.sections; bin = n.bin; after = n.after; next_cell = v; next_section = ns }) p
    ∙ ap (λ v. record { name = n.name; before = n.before; setup = n.setup; sections = n.sections; bin = n.bin; after = n.after; next_cell = n.next_cell; next_section = v }) q)))

setup_same : (c : Cell) → c.id ≡ 0 → c.kind ≡ cell.Setup → cell_of 0 cell.Setup c.source c.before c.saved ≡ c
setup_same c e f = ap (λ i. cell_of i cell.Setup c.source c.before c.saved) (sym e) ∙ ap (λ k. cell_of c.id k c.source c.before c.saved) (sym f)

book_drafted : (n : Parts) (ats : List ℕ) → IsTidyBook n
    → drafted (book_items n ats) ≡ draft (parts_at (opened (chars (encode_utf8_all n.name)) n.before (cell_of 0 cell.Setup n.setup.source n.setup.before n.setup.saved)) n.sections (1 + length (flat_map cells_of n.sections)) (1 + length n.sections)) None n.after
book_drafted n ats h =
    let name : List ℕ = chars (encode_utf8_all n.name) in
    let last : List Item = kept_items n.after in
    let parts : List Item = sections_items n.sections n.sections ats ++ last in
    let with_setup : Parts = opened name n.before (cell_of 0 cell.Setup n.setup.source n.setup.before n.setup.saved) in
    run_kept untitled None [] n.before (item.Name (encode_utf8_all n.name) ∷ (setup_items n.setup ++ parts)) h.before refl
    ∙ (run_setup_by (is_empty n.setup.source && (is_empty n.setup.before && is_empty n.setup.saved)) name n.before n.setup.source n.setup.before n.setup.saved parts refl h.setup_before h.setup
    ∙ (run_sections with_setup n.sections [] 1 1 n.sections ats last h.sections
    ∙ run_last (parts_at with_setup n.sections (1 + length (flat_map cells_of n.sections)) (1 + length n.sections)) None [] n.after h.after h.last))

pub book_notebook : (n : Parts) (ats : List ℕ) → IsTidyBook n → n ≡ notebook_of (book_items n ats)
book_notebook n ats h =
    let cells : 1 + length (flat_map cells_of n.sections) ≡ n.next_cell = omega (arith, h.next_cell) in
    let sections : 1 + length n.sections ≡ n.next_section = omega (arith, h.next_section) in
    sym (notebook_is_walked (book_items n ats)
    ∙ (ap finished (book_drafted n ats h)
    ∙ book_same n (chars (encode_utf8_all n.name)) (cell_of 0 cell.Setup n.setup.source n.setup.before n.setup.saved) (1 + length (flat_map cells_of n.sections)) (1 + length n.sections) h.name.text (setup_same n.setup h.setup_number h.setup_kind) h.bin cells sections))

pub book_notices : (n : Parts) (ats : List ℕ) → IsTidyBook n → [] ≡ notices_of (book_items n ats)
book_notices n ats h = sym (notices_are_walked (book_items n ats) ∙ ap (λ d. d.notices) (book_drafted n ats h))
