-- The items of a written book: those of its parts, one after the other.
use Rattle.std.proofs.Common.{◌≡◌, inl, inr, ℕ, ◌+◌, suc, zero, Bool, true, false, ◌&&◌, cond, List, [], ◌∷◌, ◌++◌, Option, Some, None, codes, length, map, refl, sym, ap, ◌∙◌, append_assoc}
use Rattle.std.specs.Prelude.{if◌then◌else◌, encode_utf8_all}
use Rattle.std.specs.List.{AllByRecursion, flat_map, fold, list_all}
use Rattle.std.proofs.lemmas.List.{append-nil}
use Rattle.notebook.specs.declared.parts.Cell.{Cell}
use Rattle.notebook.specs.declared.parts.Saved.{Saved}
use Rattle.notebook.specs.declared.parts.Section.{Section}
use Rattle.notebook.specs.declared.parts.Parts.{Parts}
use Rattle.notebook.specs.declared.parts.Kind.{Kind}
use Rattle.notebook.specs.declared.parts.Kind.TheVariants as cell
use Rattle.livemd_lines.specs.declared.fences.Mark.TheVariants.{Backtick}
use Rattle.livemd_lines.specs.declared.metadata.Metadata.{Metadata}
use Rattle.livemd_lines.specs.declared.metadata.Metadata.TheVariants as metadata
use Rattle.blanks.specs.Blanks.{is_blank, is_empty}
use Rattle.livemd_lines.specs.Lines.{joined}
use Rattle.livemd_lines.specs.Kinds.{Kind as LineKind, Opens, Meta, Heading1, Heading2, Kinded, kind_of, kinds_in, open_after}
use Rattle.livemd_lines.specs.Meanings.{metadata_of}
use Rattle.livemd_lines.specs.Written.{ticks}
use Rattle.livemd_lines.proofs.Stretches.{ticks_open}
use Rattle.livemd_format.specs.Items as item
use Rattle.livemd_format.specs.Items.{Item, after_code, at_name, at_setup, code_after, code_item, cut_by, is_before_setup, is_force, is_metadata, items, may_stand, one_line}
use Rattle.livemd_format.specs.Tidy.{is_markdown, number_from}
use Rattle.livemd_format.specs.Write.{Block, blocks, branch_blocks, branch_line, break_blocks, break_line, cell_blocks, code_blocks, fence_len, forced_lines, kept_blocks, line_block, markdown_block, own_blocks, saved_blocks, section_blocks, setup_blocks}
use Rattle.livemd_format.proofs.LineKinds.{branch_is, break_is, metadata_kind, metadata_text, name_kind, section_kind}
use Rattle.livemd_format.proofs.Steps.{ReadsOn, Stops, code_read, elixir_info, kinds_behind, line_read, markdown_read, reads_as, reads_to, saved_read, three_ticks}
use Rattle.livemd_format.proofs.Tidiness.{AreTidyCells, AreTidyKept, AreTidySections, IsFound, IsTidyBook, IsTidyCode, IsTidyKept, IsTidyMarkdown, IsTidyName, IsTidyOwn, IsTidySaved, IsTidySection}

-- ---- the items that parts are written as

abbrev kept_as : Option Metadata → List ℕ → Item
kept_as (Some metadata.Stamp) line = item.Stamp line
kept_as other line = item.Kept line

abbrev pub kept_item : List ℕ → Item
kept_item line = kept_as (metadata_of (encode_utf8_all line)) (encode_utf8_all line)

abbrev pub kept_items : List (List ℕ) → List Item
kept_items ls = map kept_item ls

abbrev saved_item : Saved → Item
saved_item o = item.Saved (encode_utf8_all o.info) (encode_utf8_all o.text)

abbrev pub saved_items : List Saved → List Item
saved_items os = map saved_item os

abbrev pub own_items : Cell → List Item
own_items c = if is_markdown c.kind then item.Markdown (encode_utf8_all c.source) ∷ [] else item.Code (encode_utf8_all c.source) ∷ saved_items c.saved

abbrev pub break_items : Bool → Cell → List Item
break_items after_markdown c = if after_markdown && (is_markdown c.kind && is_empty c.before) then item.Dropped ∷ [] else []

abbrev pub cell_items : Bool → List Cell → List Item
cell_items after_markdown [] = []
cell_items after_markdown (c ∷ cs) = break_items after_markdown c ++ (kept_items c.before ++ (own_items c ++ cell_items (is_markdown c.kind) cs))

abbrev pub setup_items : Cell → List Item
setup_items c = if is_empty c.source && (is_empty c.before && is_empty c.saved) then [] else kept_items c.before ++ item.Setup (encode_utf8_all c.source) ∷ saved_items c.saved

-- a branch line has the number of its line
abbrev pub branch_items : List Section → Option ℕ → ℕ → List Item
branch_items all None at = []
branch_items all (Some parent) at = item.Branch at (number_from 0 parent all) ∷ []

abbrev pub section_items : List Section → Section → ℕ → List Item
section_items all s at = kept_items s.before ++ (branch_items all s.parent at ++ item.Section (encode_utf8_all s.name) ∷ cell_items false s.cells)

-- with the line numbers of their branch lines
abbrev pub first_at : List ℕ → ℕ
first_at [] = 0
first_at (at ∷ ats) = at

abbrev pub other_ats : List ℕ → List ℕ
other_ats [] = []
other_ats (at ∷ ats) = ats

abbrev pub sections_items : List Section → List Section → List ℕ → List Item
sections_items all [] ats = []
sections_items all (s ∷ ss) ats = section_items all s (first_at ats) ++ sections_items all ss (other_ats ats)

abbrev pub book_items : Parts → List ℕ → List Item
book_items n ats = kept_items n.before ++ item.Name (encode_utf8_all n.name) ∷ (setup_items n.setup ++ (sections_items n.sections n.sections ats ++ kept_items n.after))

-- ---- blocks that give items

abbrev Gives : List Item → List Block → List Item → List Block → Type 0
Gives done bs is rest = (number : ℕ) → ReadsOn (items done number zero (kinds_behind bs)) (done ++ is) (kinds_behind rest)

gives_none : (done : List Item) (bs : List Block) → Gives done bs [] bs
gives_none done bs = λ number. (number, ap (λ d. items d number zero (kinds_behind bs)) (sym (append-nil done)))

gives_then : (done : List Item) (bs mid rest : List Block) (xs ys : List Item) → Gives done bs xs mid → Gives (done ++ xs) mid ys rest → Gives done bs (xs ++ ys) rest
gives_then done bs mid rest xs ys f g = λ number.
    let a = f number in
    let b = g a.0 in
    (b.0, a.1 ∙ (b.1 ∙ ap (λ d. items d b.0 zero (kinds_behind rest)) (append_assoc done xs ys)))

gives_at : (done : List Item) (bs cs rest : List Block) (is : List Item) → bs ≡ cs → Gives done cs is rest → Gives done bs is rest
gives_at done bs cs rest is e g = λ number. let r = g number in (r.0, ap (λ w. items done number zero (kinds_behind w)) e ∙ r.1)

gives_as : (done : List Item) (bs rest : List Block) (is js : List Item) → is ≡ js → Gives done bs is rest → Gives done bs js rest
gives_as done bs rest is js e g = λ number. let r = g number in (r.0, r.1 ∙ ap (λ w. items (done ++ w) r.0 zero (kinds_behind rest)) e)

-- where the items depend on what is read
abbrev GivesBy : {A : Type 0} → List Item → List Block → (A → List Item) → List Block → Type 0
GivesBy {A} done bs is rest = (number : ℕ) → (a : A) × ReadsOn (items done number zero (kinds_behind bs)) (done ++ is a) (kinds_behind rest)

by_first : {A : Type 0} (done : List Item) (bs mid rest : List Block) (xs : List Item) (ys : A → List Item) → Gives done bs xs mid → GivesBy (done ++ xs) mid ys rest → GivesBy done bs (λ a. xs ++ ys a) rest
by_first done bs mid rest xs ys f g = λ number.
    let a = f number in
    let b = g a.0 in
    (b.0, (b.1.0, a.1 ∙ (b.1.1 ∙ ap (λ d. items d b.1.0 zero (kinds_behind rest)) (append_assoc done xs (ys b.0)))))

by_last : {A : Type 0} (done : List Item) (bs mid rest : List Block) (xs : A → List Item) (ys : List Item) → GivesBy done bs xs mid → ((a : A) → Gives (done ++ xs a) mid ys rest) → GivesBy done bs (λ a. xs a ++ ys) rest
by_last done bs mid rest xs ys f g = λ number.
    let a = f number in
    let b = g a.0 a.1.0 in
    (a.0, (b.0, a.1.1 ∙ (b.1 ∙ ap (λ d. items d b.0 zero (kinds_behind rest)) (append_assoc done (xs a.0) ys))))

by_at : {A : Type 0} (done : List Item) (bs cs rest : List Block) (is : A → List Item) → bs ≡ cs → GivesBy done cs is rest → GivesBy done bs is rest
by_at done bs cs rest is e g = λ number. let r = g number in (r.0, (r.1.0, ap (λ w. items done number zero (kinds_behind w)) e ∙ r.1.1))

line_gives : (done : List Item) (l : List ℕ) (k : LineKind) (i : Item) (bs : List Block) → is_blank l ≡ false → kind_of l ≡ k → open_after None k ≡ None → ((n : ℕ) (rest : List Kinded) → cut_by k done n (record { kind = k; text = l }) rest ≡ one_line i)
    → Gives done (line_block l ∷ bs) (i ∷ []) bs
line_gives done l k i bs b e o h = λ number. (suc (suc number), line_read done l k (λ n. i) bs number b e o h)

-- ---- kept lines

kept_line : (done : List Item) (line : List ℕ) (bs : List Block) → IsTidyKept line → Gives done (line_block (encode_utf8_all line) ∷ bs) (kept_item line ∷ []) bs
kept_line done line bs h =
    let l : List ℕ = encode_utf8_all line in
    elim h.unknown [
      | inl e ↦ gives_as done (line_block l ∷ bs) bs (item.Kept l ∷ []) (kept_item line ∷ []) (ap (λ o. kept_as o l ∷ []) (sym e)) (line_gives done l (Meta metadata.Unknown) (item.Kept l) bs (metadata_text l metadata.Unknown e) (metadata_kind l metadata.Unknown e) refl (λ n rest. ap (λ w. one_line (item.Kept w)) h.end))
      | inr e ↦ gives_as done (line_block l ∷ bs) bs (item.Stamp l ∷ []) (kept_item line ∷ []) (ap (λ o. kept_as o l ∷ []) (sym e)) (line_gives done l (Meta metadata.Stamp) (item.Stamp l) bs (metadata_text l metadata.Stamp e) (metadata_kind l metadata.Stamp e) refl (λ n rest. ap (λ w. one_line (item.Stamp w)) h.end))
    ]

kept_gives : (done : List Item) (ls : List (List ℕ)) (bs : List Block) → AreTidyKept ls → Gives done (kept_blocks ls ++ bs) (kept_items ls) bs
kept_gives done [] bs h = gives_none done bs
kept_gives done (l ∷ ls) bs h = gives_then done (kept_blocks (l ∷ ls) ++ bs) (kept_blocks ls ++ bs) bs (kept_item l ∷ []) (kept_items ls) (kept_line done l (kept_blocks ls ++ bs) h.0) (kept_gives (done ++ kept_item l ∷ []) ls bs h.1)

-- ---- what was cut before

fold_last : {X Y : Type 0} (f : Y → X → Y) (y : Y) (xs : List X) (x : X) → fold f y (xs ++ x ∷ []) ≡ f (fold f y xs) x
fold_last f y [] x = refl
fold_last f y (z ∷ xs) x = fold_last f (f y z) xs x

no_more : {X : Type 0} (p : X → Bool) (xs ys : List X) → list_all p xs ≡ false → list_all p (xs ++ ys) ≡ false
no_more p [] ys h = absurd cc
no_more p (x ∷ xs) ys h = step (p x) (list_all p xs) (list_all p (xs ++ ys)) (no_more p xs ys) h where
  step : (a b c : Bool) → (b ≡ false → c ≡ false) → (a && b) ≡ false → (a && c) ≡ false
  step true b c f e = f e
  step false b c f e = refl

and_false : (a : Bool) → (a && false) ≡ false
and_false true = refl
and_false false = refl

none_there : {X : Type 0} (p : X → Bool) (xs : List X) (x : X) → p x ≡ false → list_all p (xs ++ x ∷ []) ≡ false
none_there p [] x h = rw h refl
none_there p (y ∷ xs) x h = rw (none_there p xs x h) (and_false (p y))

all_there : {X : Type 0} (p : X → Bool) (xs ys : List X) → list_all p xs ≡ true → list_all p ys ≡ true → list_all p (xs ++ ys) ≡ true
all_there p [] ys h k = k
all_there p (x ∷ xs) ys h k = step (p x) (list_all p xs) (list_all p (xs ++ ys)) (λ e. all_there p xs ys e k) h where
  step : (a b c : Bool) → (b ≡ true → c ≡ true) → (a && b) ≡ true → (a && c) ≡ true
  step true b c f e = f e
  step false b c f e = absurd cc

-- past the front: no name and no setup cell comes
record IsPast (done : List Item) : Type 0 where
  name : at_name done ≡ false
  setup : at_setup done ≡ false

past_more : (done more : List Item) → IsPast done → IsPast (done ++ more)
past_more done more p = record { name = no_more is_metadata done more p.name; setup = no_more is_before_setup done more p.setup }

past_section : (done : List Item) (name : List ℕ) → IsPast (done ++ item.Section name ∷ [])
past_section done name = record { name = none_there is_metadata done (item.Section name) refl; setup = none_there is_before_setup done (item.Section name) refl }

-- ---- code and saved outputs

saved_gives : (done : List Item) (os : List Saved) (bs : List Block) → after_code done ≡ true → AllByRecursion IsTidySaved os → Gives done (flat_map saved_blocks os ++ bs) (saved_items os) bs
saved_gives done [] bs a h = gives_none done bs
saved_gives done (o ∷ os) bs a h =
    gives_then done (flat_map saved_blocks (o ∷ os) ++ bs) (flat_map saved_blocks os ++ bs) bs (saved_item o ∷ []) (saved_items os)
    (λ number. saved_read done (encode_utf8_all o.info) (encode_utf8_all o.text) (flat_map saved_blocks os ++ bs) number a h.0.info)
    (saved_gives (done ++ saved_item o ∷ []) os bs (fold_last code_after false done (saved_item o)) h.1)

code_gives : (done : List Item) (c : Cell) (i : Item) (bs : List Block) → code_item done (encode_utf8_all c.source) ≡ i → after_code (done ++ i ∷ []) ≡ true → IsTidyCode c.source c.saved → Gives done (code_blocks c ++ bs) (i ∷ saved_items c.saved) bs
code_gives done c i bs e a h =
    gives_then done (code_blocks c ++ bs) (flat_map saved_blocks c.saved ++ bs) bs (i ∷ []) (saved_items c.saved)
    (λ number. reads_to _ (done ++ code_item done (encode_utf8_all c.source) ∷ []) (done ++ i ∷ []) (kinds_behind (flat_map saved_blocks c.saved ++ bs)) (ap (λ j. done ++ j ∷ []) e) (code_read done (encode_utf8_all c.source) (flat_map saved_blocks c.saved ++ bs) number))
    (saved_gives (done ++ i ∷ []) c.saved bs a h.outputs)

cell_code : (done : List Item) (c : Cell) (bs : List Block) → IsPast done → IsTidyCode c.source c.saved → Gives done (code_blocks c ++ bs) (item.Code (encode_utf8_all c.source) ∷ saved_items c.saved) bs
cell_code done c bs p h = code_gives done c (item.Code (encode_utf8_all c.source)) bs (rw p.setup refl) (fold_last code_after false done (item.Code (encode_utf8_all c.source))) h

-- ---- Markdown text

markdown_gives : (done : List Item) (source : List ℕ) (bs : List Block) → at_name done ≡ false → IsTidyMarkdown source → Stops bs → Gives done (markdown_block (encode_utf8_all source) ∷ bs) (item.Markdown (encode_utf8_all source) ∷ []) bs
markdown_gives done source bs n h st = λ number.
    reads_as _ _ (done ++ item.Markdown (encode_utf8_all source) ∷ []) (kinds_behind bs) (ap (λ ls. items done number zero (kinds_behind (forced_lines (kinds_in None ls) ∷ bs))) h.cut)
    (reads_to _ (done ++ item.Markdown (joined (h.first ∷ h.more)) ∷ []) (done ++ item.Markdown (encode_utf8_all source) ∷ []) (kinds_behind bs) (ap (λ w. done ++ item.Markdown w ∷ []) h.whole)
    (markdown_read done h.first h.more bs number n h.begin h.end h.closed st))

-- ---- what ends Markdown text

abbrev EndsBy : LineKind → Type 0
EndsBy k = (is_force k ≡ false) × (may_stand k ≡ false)

ends_by : (k other : LineKind) → k ≡ other → EndsBy other → EndsBy k
ends_by k other e h = (ap is_force e ∙ h.0, ap may_stand e ∙ h.1)

kept_ends : (line : List ℕ) → IsTidyKept line → EndsBy (kind_of (encode_utf8_all line))
kept_ends line h =
    let l : List ℕ = encode_utf8_all line in
    elim h.unknown [
      | inl e ↦ ends_by (kind_of l) (Meta metadata.Unknown) (metadata_kind l metadata.Unknown e) (refl, refl)
      | inr e ↦ ends_by (kind_of l) (Meta metadata.Stamp) (metadata_kind l metadata.Stamp e) (refl, refl)
    ]

break_ends : EndsBy (kind_of break_line)
break_ends = ends_by (kind_of break_line) (Meta metadata.BreakMarkdown) (metadata_kind break_line metadata.BreakMarkdown break_is) (refl, refl)

fence_ends : (text : List ℕ) → EndsBy (kind_of (ticks (fence_len text) ++ codes "elixir"))
fence_ends text =
    let n : ℕ = fence_len text in
    ends_by (kind_of (ticks n ++ codes "elixir")) (Opens (record { mark = Backtick; count = n }) (codes "elixir")) (ticks_open n (codes "elixir") (three_ticks text) elixir_info) (refl, refl)

kept_stop : (ls : List (List ℕ)) (bs : List Block) → AreTidyKept ls → Stops bs → Stops (kept_blocks ls ++ bs)
kept_stop [] bs h st = st
kept_stop (l ∷ ls) bs h st = kept_ends l h.0

own_stops : (m : Bool) (c : Cell) (text rest bs : List Block) → m ≡ false → Stops ((cond m text (code_blocks c) ++ rest) ++ bs)
own_stops true c text rest bs e = absurd cc
own_stops false c text rest bs e = fence_ends (encode_utf8_all c.source)

next_stops : (m : Bool) (before : List (List ℕ)) (more bs : List Block) → AreTidyKept before → (m ≡ false → Stops (more ++ bs)) → Stops ((cond (m && is_empty before) (line_block break_line ∷ []) [] ++ (kept_blocks before ++ more)) ++ bs)
next_stops true [] more bs h st = break_ends
next_stops false [] more bs h st = st refl
next_stops true (l ∷ ls) more bs h st = kept_ends l h.0
next_stops false (l ∷ ls) more bs h st = kept_ends l h.0

cells_stop : (cs : List Cell) (bs : List Block) (next : ℕ) → AreTidyCells next cs → Stops bs → Stops (cell_blocks true cs ++ bs)
cells_stop [] bs next h st = st
cells_stop (c ∷ cs) bs next h st = next_stops (is_markdown c.kind) c.before (own_blocks c ++ cell_blocks (is_markdown c.kind) cs) bs h.0.before (λ e. own_stops (is_markdown c.kind) c (markdown_block (encode_utf8_all c.source) ∷ []) (cell_blocks (is_markdown c.kind) cs) bs e)

-- ---- cells

own_by : (k : Kind) (done : List Item) (c : Cell) (bs : List Block) → IsPast done → IsTidyOwn k c.source c.saved → (is_markdown k ≡ true → Stops bs)
    → Gives done (cond (is_markdown k) (markdown_block (encode_utf8_all c.source) ∷ []) (code_blocks c) ++ bs) (cond (is_markdown k) (item.Markdown (encode_utf8_all c.source) ∷ []) (item.Code (encode_utf8_all c.source) ∷ saved_items c.saved)) bs
own_by cell.Markdown done c bs p h st = markdown_gives done c.source bs p.name h.source_text (st refl)
own_by cell.Code done c bs p h st = cell_code done c bs p h
own_by cell.Setup done c bs p h st = cell_code done c bs p h

break_by : (b : Bool) (done : List Item) (bs : List Block) → Gives done (cond b (line_block break_line ∷ []) [] ++ bs) (cond b (item.Dropped ∷ []) []) bs
break_by true done bs = line_gives done break_line (Meta metadata.BreakMarkdown) item.Dropped bs refl (metadata_kind break_line metadata.BreakMarkdown break_is) refl (λ n rest. refl)
break_by false done bs = gives_none done bs

cells_grouped : (a b c d e : List Block) → (a ++ (b ++ (c ++ d))) ++ e ≡ a ++ (b ++ (c ++ (d ++ e)))
cells_grouped a b c d e = append_assoc a (b ++ (c ++ d)) e ∙ ap (λ w. a ++ w) (append_assoc b (c ++ d) e ∙ ap (λ w. b ++ w) (append_assoc c d e))

stops_if : (m : Bool) (cs : List Cell) (bs : List Block) (next : ℕ) → AreTidyCells next cs → Stops bs → m ≡ true → Stops (cell_blocks m cs ++ bs)
stops_if true cs bs next h st e = cells_stop cs bs next h st
stops_if false cs bs next h st e = absurd cc

cells_give : (done : List Item) (after : Bool) (cs : List Cell) (bs : List Block) (next : ℕ) → IsPast done → AreTidyCells next cs → Stops bs → Gives done (cell_blocks after cs ++ bs) (cell_items after cs) bs
cells_give done after [] bs next p h st = gives_none done bs
cells_give done after (c ∷ cs) bs next p h st =
    let m : Bool = is_markdown c.kind in
    let rest : List Block = cell_blocks m cs ++ bs in
    let own : List Block = own_blocks c ++ rest in
    let done1 : List Item = done ++ break_items after c in
    let done2 : List Item = done1 ++ kept_items c.before in
    let done3 : List Item = done2 ++ own_items c in
    let p2 : IsPast done2 = past_more done1 (kept_items c.before) (past_more done (break_items after c) p) in
    gives_at done (cell_blocks after (c ∷ cs) ++ bs) (break_blocks after c ++ (kept_blocks c.before ++ own)) bs (cell_items after (c ∷ cs)) (cells_grouped (break_blocks after c) (kept_blocks c.before) (own_blocks c) (cell_blocks m cs) bs)
    (gives_then done (break_blocks after c ++ (kept_blocks c.before ++ own)) (kept_blocks c.before ++ own) bs (break_items after c) (kept_items c.before ++ (own_items c ++ cell_items m cs)) (break_by (after && (m && is_empty c.before)) done (kept_blocks c.before ++ own))
    (gives_then done1 (kept_blocks c.before ++ own) own bs (kept_items c.before) (own_items c ++ cell_items m cs) (kept_gives done1 c.before own h.0.before)
    (gives_then done2 own rest bs (own_items c) (cell_items m cs) (own_by c.kind done2 c rest p2 h.0.own (stops_if m cs bs (suc next) h.1 st))
    (cells_give done3 m cs bs (suc next) (past_more done2 (own_items c) p2) h.1 st))))

-- ---- sections

branch_gives : (done : List Item) (all front : List Section) (o : Option ℕ) (bs : List Block) → IsFound all front o → GivesBy done (branch_blocks all o ++ bs) (branch_items all o) bs
branch_gives done all front None bs h = λ number. (0, gives_none done bs number)
branch_gives done all front (Some parent) bs h = λ number.
    let index : ℕ = number_from 0 parent all in
    let is = branch_is index h.1 in
    (suc number, (suc (suc number), line_read done (branch_line index) (Meta (metadata.BranchParentIndex index)) (λ n. item.Branch n index) bs number (metadata_text (branch_line index) (metadata.BranchParentIndex index) is) (metadata_kind (branch_line index) (metadata.BranchParentIndex index) is) refl (λ n rest. refl)))

heading_gives : (done : List Item) (name : List ℕ) (bs : List Block) → IsTidyName name → Gives done (line_block (codes "## " ++ encode_utf8_all name) ∷ bs) (item.Section (encode_utf8_all name) ∷ []) bs
heading_gives done name bs h = line_gives done (codes "## " ++ encode_utf8_all name) (Heading2 (encode_utf8_all name)) (item.Section (encode_utf8_all name)) bs refl (section_kind (encode_utf8_all name) h.front h.end) refl (λ n rest. refl)

branch_ends : (all front : List Section) (parent : ℕ) → IsFound all front (Some parent) → EndsBy (kind_of (branch_line (number_from 0 parent all)))
branch_ends all front parent h =
    let index : ℕ = number_from 0 parent all in
    ends_by (kind_of (branch_line index)) (Meta (metadata.BranchParentIndex index)) (metadata_kind (branch_line index) (metadata.BranchParentIndex index) (branch_is index h.1)) (refl, refl)

heading_ends : (name : List ℕ) → IsTidyName name → EndsBy (kind_of (codes "## " ++ encode_utf8_all name))
heading_ends name h = ends_by (kind_of (codes "## " ++ encode_utf8_all name)) (Heading2 (encode_utf8_all name)) (section_kind (encode_utf8_all name) h.front h.end) (refl, refl)

section_stops : (all front : List Section) (before : List (List ℕ)) (o : Option ℕ) (name : List ℕ) (cs more bs : List Block) → AreTidyKept before → IsFound all front o → IsTidyName name
    → Stops (((kept_blocks before ++ (branch_blocks all o ++ line_block (codes "## " ++ encode_utf8_all name) ∷ cs)) ++ more) ++ bs)
section_stops all front (l ∷ ls) o name cs more bs h f n = kept_ends l h.0
section_stops all front [] None name cs more bs h f n = heading_ends name n
section_stops all front [] (Some parent) name cs more bs h f n = branch_ends all front parent f

sections_stop : (all front ss : List Section) (number next : ℕ) (bs : List Block) → AreTidySections all front number next ss → Stops bs → Stops (flat_map (section_blocks all) ss ++ bs)
sections_stop all front [] number next bs h st = st
sections_stop all front (s ∷ ss) number next bs h st = section_stops all front s.before s.parent s.name (cell_blocks false s.cells) (flat_map (section_blocks all) ss) bs h.0.before h.0.parent h.0.name

section_grouped : (a b : List Block) (l : Block) (c d : List Block) → (a ++ (b ++ l ∷ c)) ++ d ≡ a ++ (b ++ l ∷ (c ++ d))
section_grouped a b l c d = append_assoc a (b ++ l ∷ c) d ∙ ap (λ w. a ++ w) (append_assoc b (l ∷ c) d)

section_gives : (done : List Item) (all front : List Section) (number next : ℕ) (s : Section) (bs : List Block) → IsTidySection all front number next s → Stops bs → GivesBy done (section_blocks all s ++ bs) (section_items all s) bs
section_gives done all front number next s bs h st =
    let head : List Block = line_block (codes "## " ++ encode_utf8_all s.name) ∷ (cell_blocks false s.cells ++ bs) in
    let named : List Item = item.Section (encode_utf8_all s.name) ∷ [] in
    let done1 : List Item = done ++ kept_items s.before in
    by_at done (section_blocks all s ++ bs) (kept_blocks s.before ++ (branch_blocks all s.parent ++ head)) bs (section_items all s) (section_grouped (kept_blocks s.before) (branch_blocks all s.parent) (line_block (codes "## " ++ encode_utf8_all s.name)) (cell_blocks false s.cells) bs)
    (by_first done (kept_blocks s.before ++ (branch_blocks all s.parent ++ head)) (branch_blocks all s.parent ++ head) bs (kept_items s.before) (λ at. branch_items all s.parent at ++ item.Section (encode_utf8_all s.name) ∷ cell_items false s.cells) (kept_gives done s.before (branch_blocks all s.parent ++ head) h.before)
    (by_last done1 (branch_blocks all s.parent ++ head) head bs (branch_items all s.parent) (item.Section (encode_utf8_all s.name) ∷ cell_items false s.cells) (branch_gives done1 all front s.parent head h.parent)
    (λ at.
    let done2 : List Item = done1 ++ branch_items all s.parent at in
    gives_then done2 head (cell_blocks false s.cells ++ bs) bs named (cell_items false s.cells) (heading_gives done2 s.name (cell_blocks false s.cells ++ bs) h.name) (cells_give (done2 ++ named) false s.cells bs next (past_section done2 (encode_utf8_all s.name)) h.cells st))))

sections_give : (done : List Item) (all front : List Section) (number next : ℕ) (ss : List Section) (bs : List Block) → AreTidySections all front number next ss → Stops bs → GivesBy done (flat_map (section_blocks all) ss ++ bs) (sections_items all ss) bs
sections_give done all front number next [] bs h st = λ n. ([], gives_none done bs n)
sections_give done all front number next (s ∷ ss) bs h st = λ n.
    let more : List Block = flat_map (section_blocks all) ss ++ bs in
    let a = section_gives done all front number next s more h.0 (sections_stop all (front ++ s ∷ []) ss (suc number) (next + length s.cells) bs h.1 st) n in
    let b = sections_give (done ++ section_items all s a.0) all (front ++ s ∷ []) (suc number) (next + length s.cells) ss bs h.1 st a.1.0 in
    (a.0 ∷ b.0, (b.1.0, ap (λ w. items done n zero (kinds_behind w)) (append_assoc (section_blocks all s) (flat_map (section_blocks all) ss) bs) ∙ (a.1.1 ∙ (b.1.1 ∙ ap (λ d. items d b.1.0 zero (kinds_behind bs)) (append_assoc done (section_items all s a.0) (sections_items all ss b.0))))))

-- ---- the whole book

kept_before : (ls : List (List ℕ)) → AreTidyKept ls → (at_name (kept_items ls) ≡ true) × (at_setup (kept_items ls) ≡ true)
kept_before [] h = (refl, refl)
kept_before (l ∷ ls) h =
    let r = kept_before ls h.1 in
    elim h.0.unknown [
      | inl e ↦ rw (e, r.0, r.1) (refl, refl)
      | inr e ↦ rw (e, r.0, r.1) (refl, refl)
    ]

name_gives : (done : List Item) (name : List ℕ) (bs : List Block) → at_name done ≡ true → IsTidyName name → Gives done (line_block (codes "# " ++ encode_utf8_all name) ∷ bs) (item.Name (encode_utf8_all name) ∷ []) bs
name_gives done name bs n h = line_gives done (codes "# " ++ encode_utf8_all name) (Heading1 (encode_utf8_all name)) (item.Name (encode_utf8_all name)) bs refl (name_kind (encode_utf8_all name) h.front h.end) refl (λ m rest. rw n refl)

setup_by : (b : Bool) (done : List Item) (c : Cell) (bs : List Block) → at_setup done ≡ true → AreTidyKept c.before → IsTidyCode c.source c.saved
    → Gives done (cond b [] (kept_blocks c.before ++ code_blocks c) ++ bs) (cond b [] (kept_items c.before ++ item.Setup (encode_utf8_all c.source) ∷ saved_items c.saved)) bs
setup_by true done c bs a h o = gives_none done bs
setup_by false done c bs a h o =
    let done1 : List Item = done ++ kept_items c.before in
    let first : at_setup done1 ≡ true = all_there is_before_setup done (kept_items c.before) a (kept_before c.before h).1 in
    gives_at done ((kept_blocks c.before ++ code_blocks c) ++ bs) (kept_blocks c.before ++ (code_blocks c ++ bs)) bs (kept_items c.before ++ item.Setup (encode_utf8_all c.source) ∷ saved_items c.saved) (append_assoc (kept_blocks c.before) (code_blocks c) bs)
    (gives_then done (kept_blocks c.before ++ (code_blocks c ++ bs)) (code_blocks c ++ bs) bs (kept_items c.before) (item.Setup (encode_utf8_all c.source) ∷ saved_items c.saved) (kept_gives done c.before (code_blocks c ++ bs) h)
    (code_gives done1 c (item.Setup (encode_utf8_all c.source)) bs (rw first refl) (fold_last code_after false done1 (item.Setup (encode_utf8_all c.source))) o))

pub book_gives : (n : Parts) → IsTidyBook n → (ats : List ℕ) × (items [] 0 zero (kinds_behind (blocks n)) ≡ book_items n ats)
book_gives n h =
    let end : List Block = kept_blocks n.after ++ [] in
    let parts : List Block = flat_map (section_blocks n.sections) n.sections ++ end in
    let setups : List Block = setup_blocks n.setup ++ parts in
    let head : Block = line_block (codes "# " ++ encode_utf8_all n.name) in
    let name : Item = item.Name (encode_utf8_all n.name) in
    let done1 : List Item = kept_items n.before in
    let done2 : List Item = done1 ++ name ∷ [] in
    let done3 : List Item = done2 ++ setup_items n.setup in
    let k = kept_before n.before h.before in
    let whole : blocks n ≡ kept_blocks n.before ++ head ∷ setups = ap (λ w. kept_blocks n.before ++ head ∷ (setup_blocks n.setup ++ (flat_map (section_blocks n.sections) n.sections ++ w))) (sym (append-nil (kept_blocks n.after))) in
    let r = by_at [] (blocks n) (kept_blocks n.before ++ head ∷ setups) [] (book_items n) whole
    (by_first [] (kept_blocks n.before ++ head ∷ setups) (head ∷ setups) [] (kept_items n.before) (λ ats. name ∷ (setup_items n.setup ++ (sections_items n.sections n.sections ats ++ kept_items n.after))) (kept_gives [] n.before (head ∷ setups) h.before)
    (by_first done1 (head ∷ setups) setups [] (name ∷ []) (λ ats. setup_items n.setup ++ (sections_items n.sections n.sections ats ++ kept_items n.after)) (name_gives done1 n.name setups k.0 h.name)
    (by_first done2 setups parts [] (setup_items n.setup) (λ ats. sections_items n.sections n.sections ats ++ kept_items n.after) (setup_by (is_empty n.setup.source && (is_empty n.setup.before && is_empty n.setup.saved)) done2 n.setup parts (all_there is_before_setup done1 (name ∷ []) k.1 refl) h.setup_before h.setup)
    (by_last done3 parts end [] (sections_items n.sections n.sections) (kept_items n.after) (sections_give done3 n.sections [] 1 1 n.sections end h.sections (kept_stop n.after [] h.after tt))
    (λ ats. kept_gives (done3 ++ sections_items n.sections n.sections ats) n.after [] h.after)))))
    0 in
    (r.0, r.1.1)
