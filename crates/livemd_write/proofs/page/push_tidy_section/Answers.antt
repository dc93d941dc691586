use Rattle.std.proofs.Common.{List, ◌++◌, ◌∷◌, [], ap, codes, map, subst}
use Rattle.std.specs.Prelude.{encode_utf8_all, false}
use Rattle.std.specs.List.{AllByRecursion}
use Rattle.notebook.specs.declared.parts.Cell.{Cell}
use Rattle.utf16_text.specs.Units.{AreScalars}
use Rattle.livemd_format.specs.RoundTrip.{AreCellTexts}
use Rattle.livemd_format.specs.Tidy.{changed, tidy_before, tidy_cells, tidy_name}
use Rattle.livemd_format.specs.Write.{branch_blocks, cell_blocks, kept_blocks, line_block}
use Rattle.livemd_write.specs.Told.{told_cell}
use Rattle.livemd_write.proofs.Blocks.{puts_same, puts_then}
use Rattle.livemd_write.proofs.page.push_tidy_section.Goals as goal

pub returns : goal.returns
returns c = record {
  ok = puts_then
      _
      _
      _
      (kept_blocks (tidy_before c.args.section.now.before))
      _
      (puts_same _ _ _ _ (ap (λ ls. kept_blocks (tidy_before ls)) c.as_slice.ensures) c.in_ok-push_tidy_kept.ensures.ok)
      (puts_then
      _
      _
      _
      (branch_blocks c.args.all.now c.args.section.now.parent)
      _
      c.in_ok-push_branch.ensures.ok
      (puts_then
      _
      _
      _
      (line_block (codes "## " ++ encode_utf8_all (changed tidy_name c.args.section.now.name)) ∷ [])
      (cell_blocks false (tidy_cells c.args.section.now.cells))
      c.in_ok-push_tidy_heading.ensures.ok
      (puts_same _ _ _ _ (ap (λ cs. cell_blocks false (tidy_cells cs)) c.as_slice-2.ensures) c.in_ok-push_tidy_cells.ensures.ok)));
  characters = record {
    name = c.in_ok-push_tidy_heading.ensures.characters;
    before = subst (AllByRecursion AreScalars) c.as_slice.ensures c.in_ok-push_tidy_kept.ensures.characters;
    cells = subst (λ (cs : List Cell). AllByRecursion AreCellTexts (map told_cell cs)) c.as_slice-2.ensures c.in_ok-push_tidy_cells.ensures.characters;
  };
}
