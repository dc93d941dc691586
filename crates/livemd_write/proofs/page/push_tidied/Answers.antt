use Rattle.std.proofs.Common.{List, ◌++◌, ◌∷◌, [], ap, codes, map, subst, ◌∙◌}
use Rattle.std.specs.Prelude.{encode_utf8_all}
use Rattle.std.specs.List.{AllByRecursion, flat_map}
use Rattle.notebook.specs.declared.parts.Section.{Section}
use Rattle.utf16_text.specs.Units.{AreScalars}
use Rattle.livemd_format.specs.RoundTrip.{AreSectionTexts}
use Rattle.livemd_format.specs.Tidy.{changed, tidied, tidy_before, tidy_cell, tidy_name}
use Rattle.livemd_format.specs.Write.{kept_blocks, line_block, section_blocks, setup_blocks}
use Rattle.livemd_write.specs.Pages.{tidy_section_blocks}
use Rattle.livemd_write.specs.Told.{told_section}
use Rattle.livemd_write.proofs.Blocks.{puts_same, puts_then}
use Rattle.livemd_write.proofs.Streaming.{same_blocks}
use Rattle.livemd_write.proofs.page.push_tidied.Goals as goal

pub returns : goal.returns
returns c = record {
  ok = puts_then
      _
      _
      _
      (kept_blocks (tidy_before c.args.book.now.before))
      _
      (puts_same _ _ _ _ (ap (λ ls. kept_blocks (tidy_before ls)) c.as_slice.ensures) c.in_ok-push_tidy_kept.ensures.ok)
      (puts_then
      _
      _
      _
      (line_block (codes "# " ++ encode_utf8_all (changed tidy_name c.args.book.now.name)) ∷ [])
      _
      c.in_ok-push_tidy_heading.ensures.ok
      (puts_then
      _
      _
      _
      (setup_blocks (tidy_cell c.args.book.now.setup))
      _
      c.in_ok-push_tidy_setup.ensures.ok
      (puts_then
      _
      _
      _
      (flat_map (section_blocks (tidied c.args.book.now).sections) (tidied c.args.book.now).sections)
      (kept_blocks (tidy_before c.args.book.now.after))
      (puts_same _ _ _ _ (ap (λ ss. flat_map (tidy_section_blocks ss) ss) c.as_slice-2.ensures ∙ same_blocks c.args.book.now.sections) c.in_ok-push_tidy_sections.ensures.ok)
      (puts_same _ _ _ _ (ap (λ ls. kept_blocks (tidy_before ls)) c.as_slice-3.ensures) c.in_ok-push_tidy_kept-2.ensures.ok))));
  characters = record {
    name = c.in_ok-push_tidy_heading.ensures.characters;
    before = subst (AllByRecursion AreScalars) c.as_slice.ensures c.in_ok-push_tidy_kept.ensures.characters;
    setup = c.in_ok-push_tidy_setup.ensures.characters;
    sections = subst (λ (ss : List Section). AllByRecursion AreSectionTexts (map told_section ss)) c.as_slice-2.ensures c.in_ok-push_tidy_sections.ensures.characters;
    after = subst (AllByRecursion AreScalars) c.as_slice-3.ensures c.in_ok-push_tidy_kept-2.ensures.characters;
  };
}
