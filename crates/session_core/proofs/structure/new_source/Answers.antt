use Rattle.std.proofs.Common.{◌≡◌, Some, None, sym, ap, subst, ◌∙◌}
use Rattle.std.specs.Prelude.{find}
use Rattle.notebook.specs.Flow.{is_cell}
use Rattle.session_core.proofs.StructureLaws.{restores}
use Rattle.session_core.proofs.structure.new_source.Goals as goal

pub returns-in-None : goal.returns-in-None
returns-in-None c =
    let r = c.in-RestoreCell in
    sym (restores c.args.book.now c.args.change.now r.cell r.section r.index None r.is (subst (λ cs. None ≡ find (is_cell r.cell) cs) c.as_slice.ensures c.in-None.ensures))

pub returns-in_ok-copy-in-Some : goal.returns-in_ok-copy-in-Some
returns-in_ok-copy-in-Some c =
    let r = c.in-RestoreCell in
    let there = c.in-Some.found.now in
    ap Some c.in_ok-copy-in-Some.ensures ∙ sym (restores c.args.book.now c.args.change.now r.cell r.section r.index (Some there) r.is (subst (λ cs. Some there ≡ find (is_cell r.cell) cs) c.as_slice.ensures c.in-Some.ensures))
