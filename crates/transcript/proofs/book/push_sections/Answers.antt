use Rattle.std.proofs.Common.{◌≡◌, ◌∷◌, ◌+◌, ◌++◌, ℕ, List, drop, subst, sym, ◌∙◌, ap, map, string_bytes}
use Rattle.notebook.specs.declared.parts.Cell.{Cell}
use Rattle.notebook.specs.declared.parts.Section.{Section}
use Rattle.notebook.specs.Rules.{cell_number, AreDistinct}
use Rattle.transcript.specs.Left.{LeavesOthers}
use Rattle.transcript.specs.Texts.{rev_in, cell_lines, as_text}
use Rattle.transcript.proofs.Revisions.{SectionsStand, sections_turn, distinct_here, drop-at}
use Rattle.transcript.proofs.book.push_sections.Goals as goal

pub push_cells-requires : goal.push_cells-requires
push_cells-requires c =
    let sections : List Section = c.args.sections.now in
    let x : Section = c.section-item.result in
    let rest : List Section = drop (c.loop-section.section-index + 1) sections in
    let front : drop c.loop-section.section-index sections ≡ x ∷ rest = drop-at sections c.loop-section.section-index x c.loop-section-test.true c.section-item.is in
    let stood = subst (λ (r : List Section). SectionsStand sections r c.args.revs.now c.loop-section.left.now (string_bytes c.args.out.now) (string_bytes c.loop-section.out)) front c.loop-section.invariant in
    subst (λ (cells : List Cell). AreDistinct (map cell_number cells)) (sym c.as_slice.ensures) (distinct_here rest x stood.distinct)

pub loop-section-preserved : goal.loop-section-preserved
loop-section-preserved c =
    let sections : List Section = c.args.sections.now in
    let x : Section = c.section-item.result in
    let rest : List Section = drop (c.loop-section.section-index + 1) sections in
    let front : drop c.loop-section.section-index sections ≡ x ∷ rest = drop-at sections c.loop-section.section-index x c.loop-section-test.true c.section-item.is in
    let stood = subst (λ (r : List Section). SectionsStand sections r c.args.revs.now c.loop-section.left.now (string_bytes c.args.out.now) (string_bytes c.loop-section.out)) front c.loop-section.invariant in
    let leaves : LeavesOthers x.cells c.loop-section.left.now c.in_ok-left.left.now = subst (λ (cells : List Cell). LeavesOthers cells c.loop-section.left.now c.in_ok-left.left.now) c.as_slice.ensures c.in_ok-left.ensures.left in
    let lines : List ℕ = as_text (cell_lines (rev_in c.loop-section.left.now) x.cells) in
    let put = c.in_ok-left.ensures.text
    ∙ ap (λ (cells : List Cell). string_bytes c.push_heading.new.out ++ as_text (cell_lines (rev_in c.loop-section.left.now) cells)) c.as_slice.ensures
    ∙ ap (λ (t : List ℕ). t ++ lines) c.in_ok-push_heading.ensures in
    sections_turn sections rest x c.args.revs.now c.loop-section.left.now c.in_ok-left.left.now (string_bytes c.args.out.now) (string_bytes c.loop-section.out) _ stood leaves put
