-- The lines of a tidy notebook's blocks are written and read as they are.
use Rattle.std.proofs.Common.{◌≡◌, ℕ, ◌+◌, suc, zero, Bool, true, false, ◌&&◌, cond, List, [], ◌∷◌, ◌++◌, Option, Some, None, codes, length, refl, sym, ap, ◌∙◌}
use Rattle.std.specs.Prelude.{encode_utf8_all}
use Rattle.std.specs.List.{AllByRecursion, flat_map}
use Rattle.std.proofs.lemmas.List.{append-nil}
use Rattle.notebook.specs.declared.parts.Cell.{Cell}
use Rattle.notebook.specs.declared.parts.Saved.{Saved}
use Rattle.notebook.specs.declared.parts.Section.{Section}
use Rattle.notebook.specs.declared.parts.Parts.{Parts}
use Rattle.notebook.specs.declared.parts.Kind.{Kind}
use Rattle.notebook.specs.declared.parts.Kind.TheVariants as cell
use Rattle.livemd_lines.specs.declared.fences.Fence.{Fence}
use Rattle.blanks.specs.Blanks.{is_empty}
use Rattle.livemd_lines.specs.Kinds.{kind_in, kinds_in, kinds_of, open_after}
use Rattle.livemd_lines.specs.Written.{IsLine, ticks}
use Rattle.livemd_lines.proofs.Feeds.{lines-text_of_lines}
use Rattle.livemd_format.specs.Items.{items}
use Rattle.livemd_format.specs.Reads.{items_of}
use Rattle.livemd_format.specs.Tidy.{is_markdown, number_from, pieces}
use Rattle.livemd_format.specs.Write.{Block, block_lines, blocks, branch_blocks, break_line, cell_blocks, code_blocks, fence_block, fence_len, force_line, forced_lines, kept_blocks, line_block, markdown_block, needs_force, saved_blocks, section_blocks, setup_blocks, text_of}
use Rattle.livemd_format.proofs.LineKinds.{branch_line-IsLine, break_line-IsLine, force_line-IsLine, output_line-IsLine, plain_line}
use Rattle.livemd_format.proofs.Steps.{kinds_behind, more_blocks}
use Rattle.livemd_format.proofs.Tidiness.{AreTidyCells, AreTidyKept, AreTidySections, IsFound, IsTidyBook, IsTidyCode, IsTidyMarkdown, IsTidyOwn, IsTidySaved, IsTidySection}
use Rattle.livemd_format.proofs.Trimming.{all_more}

abbrev AreLines : List (List ℕ) → Type 0
AreLines ls = AllByRecursion IsLine ls

abbrev AreLineBlocks : List Block → Type 0
AreLineBlocks bs = AllByRecursion AreLines bs

-- ---- the blocks of each part

kept_all : (ls : List (List ℕ)) → AreTidyKept ls → AreLineBlocks (kept_blocks ls)
kept_all [] h = tt
kept_all (l ∷ ls) h = ((h.0.line, tt), kept_all ls h.1)

ticks_line : (n : ℕ) (info : List ℕ) → IsLine info → IsLine (ticks n ++ info)
ticks_line zero info h = h
ticks_line (suc n) info h = let k = ticks_line n info h in ((refl, k.0), ap (λ w. 96 ∷ w) k.1)

fence_all : (info text : List ℕ) → IsLine info → AreLines (pieces text) → AreLines (fence_block info text)
fence_all info text i h =
    let n : ℕ = fence_len text in
    let last : IsLine (ticks n) = rw append-nil at (ticks_line n [] (tt, refl)) in
    (ticks_line n info i, all_more IsLine (pieces text) (ticks n ∷ []) h (last, tt))

elixir_line : IsLine (codes "elixir")
elixir_line = plain_line (codes "elixir") refl

saved_all : (os : List Saved) → AllByRecursion IsTidySaved os → AreLineBlocks (flat_map saved_blocks os)
saved_all [] h = tt
saved_all (o ∷ os) h = ((output_line-IsLine, tt), (fence_all (encode_utf8_all o.info) (encode_utf8_all o.text) h.0.line h.0.text.lines, saved_all os h.1))

code_all : (c : Cell) → IsTidyCode c.source c.saved → AreLineBlocks (code_blocks c)
code_all c h = (fence_all (codes "elixir") (encode_utf8_all c.source) elixir_line h.source_text.lines, saved_all c.saved h.outputs)

force_all : (b : Bool) (l : List ℕ) (ls : List (List ℕ)) → IsLine l → AreLines ls → AreLines (cond b (force_line ∷ [] ∷ []) [] ++ l ∷ ls)
force_all true l ls h k = (force_line-IsLine, ((tt, refl), (h, k)))
force_all false l ls h k = (h, k)

forced_all : (around : Option Fence) (ls : List (List ℕ)) → AreLines ls → AreLines (forced_lines (kinds_in around ls))
forced_all around [] h = tt
forced_all around (l ∷ ls) h = force_all (needs_force (kind_in around l)) l (forced_lines (kinds_in (open_after around (kind_in around l)) ls)) h.0 (forced_all (open_after around (kind_in around l)) ls h.1)

markdown_all : (source : List ℕ) → IsTidyMarkdown source → AreLines (markdown_block (encode_utf8_all source))
markdown_all source h = rw h.cut (forced_all None (h.first ∷ h.more) h.all)

own_all : (k : Kind) (c : Cell) → IsTidyOwn k c.source c.saved → AreLineBlocks (cond (is_markdown k) (markdown_block (encode_utf8_all c.source) ∷ []) (code_blocks c))
own_all cell.Markdown c h = (markdown_all c.source h.source_text, tt)
own_all cell.Code c h = code_all c h
own_all cell.Setup c h = code_all c h

break_all : (b : Bool) → AreLineBlocks (cond b (line_block break_line ∷ []) [])
break_all true = ((break_line-IsLine, tt), tt)
break_all false = tt

cells_all : (after : Bool) (cs : List Cell) (next : ℕ) → AreTidyCells next cs → AreLineBlocks (cell_blocks after cs)
cells_all after [] next h = tt
cells_all after (c ∷ cs) next h =
    let m : Bool = is_markdown c.kind in
    all_more AreLines (cond (after && (m && is_empty c.before)) (line_block break_line ∷ []) []) _ (break_all (after && (m && is_empty c.before)))
    (all_more AreLines (kept_blocks c.before) _ (kept_all c.before h.0.before) (all_more AreLines (cond m (markdown_block (encode_utf8_all c.source) ∷ []) (code_blocks c)) (cell_blocks m cs) (own_all c.kind c h.0.own) (cells_all m cs (suc next) h.1)))

setup_all : (b : Bool) (c : Cell) → AreTidyKept c.before → IsTidyCode c.source c.saved → AreLineBlocks (cond b [] (kept_blocks c.before ++ code_blocks c))
setup_all true c h o = tt
setup_all false c h o = all_more AreLines (kept_blocks c.before) (code_blocks c) (kept_all c.before h) (code_all c o)

branch_all : (all front : List Section) (o : Option ℕ) → IsFound all front o → AreLineBlocks (branch_blocks all o)
branch_all all front None h = tt
branch_all all front (Some parent) h = ((branch_line-IsLine (number_from 0 parent all) h.1, tt), tt)

heading_line : (l : List ℕ) → IsLine l → IsLine (codes "## " ++ l)
heading_line l h = ((refl, (refl, (refl, h.0))), ap (λ w. codes "## " ++ w) h.1)

name_line : (l : List ℕ) → IsLine l → IsLine (codes "# " ++ l)
name_line l h = ((refl, (refl, h.0)), ap (λ w. codes "# " ++ w) h.1)

section_all : (all front : List Section) (number next : ℕ) (s : Section) → IsTidySection all front number next s → AreLineBlocks (section_blocks all s)
section_all all front number next s h =
    all_more AreLines (kept_blocks s.before) _ (kept_all s.before h.before)
    (all_more AreLines (branch_blocks all s.parent) _ (branch_all all front s.parent h.parent) ((heading_line (encode_utf8_all s.name) h.name.line, tt), cells_all false s.cells next h.cells))

sections_all : (all front : List Section) (number next : ℕ) (ss : List Section) → AreTidySections all front number next ss → AreLineBlocks (flat_map (section_blocks all) ss)
sections_all all front number next [] h = tt
sections_all all front number next (s ∷ ss) h = all_more AreLines (section_blocks all s) _ (section_all all front number next s h.0) (sections_all all (front ++ s ∷ []) (suc number) (next + length s.cells) ss h.1)

book_all : (n : Parts) → IsTidyBook n → AreLineBlocks (blocks n)
book_all n h =
    all_more AreLines (kept_blocks n.before) _ (kept_all n.before h.before) (
      (name_line (encode_utf8_all n.name) h.name.line, tt),
      all_more AreLines (setup_blocks n.setup) _ (setup_all (is_empty n.setup.source && (is_empty n.setup.before && is_empty n.setup.saved)) n.setup h.setup_before h.setup)
          (all_more AreLines (flat_map (section_blocks n.sections) n.sections) (kept_blocks n.after) (sections_all n.sections [] 1 1 n.sections h.sections) (kept_all n.after h.after)),
    )

-- ---- the lines of all blocks

lines_of_blocks : (b : Block) (bs : List Block) → block_lines (b ∷ bs) ≡ b ++ more_blocks bs
lines_of_blocks b [] = sym (append-nil b)
lines_of_blocks b (c ∷ bs) = ap (λ w. b ++ [] ∷ w) (lines_of_blocks c bs)

all_block_lines : (bs : List Block) → AreLineBlocks bs → AreLines (block_lines bs)
all_block_lines [] h = tt
all_block_lines (b ∷ []) h = h.0
all_block_lines (b ∷ c ∷ bs) h = all_more IsLine b ([] ∷ block_lines (c ∷ bs)) h.0 ((tt, refl), all_block_lines (c ∷ bs) h.1)

-- the first block stands as if an empty line stood before it
some_blocks : (xs : List Block) (y : Block) (ys : List Block) → items [] 1 0 (kinds_of (block_lines (xs ++ y ∷ ys))) ≡ items [] 0 zero (kinds_behind (xs ++ y ∷ ys))
some_blocks [] y ys = ap (λ ls. items [] 1 0 (kinds_in None ls)) (lines_of_blocks y ys)
some_blocks (x ∷ xs) y ys = ap (λ ls. items [] 1 0 (kinds_in None ls)) (lines_of_blocks x (xs ++ y ∷ ys))

pub book_items_of : (n : Parts) → IsTidyBook n → items_of (text_of n) ≡ items [] 0 zero (kinds_behind (blocks n))
book_items_of n h =
    ap (λ ls. items [] 1 0 (kinds_of ls)) (lines-text_of_lines (block_lines (blocks n)) (all_block_lines (blocks n) (book_all n h)))
    ∙ some_blocks (kept_blocks n.before) (line_block (codes "# " ++ encode_utf8_all n.name)) (setup_blocks n.setup ++ (flat_map (section_blocks n.sections) n.sections ++ kept_blocks n.after))
