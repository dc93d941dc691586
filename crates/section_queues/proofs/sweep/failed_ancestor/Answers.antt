use Rattle.std.proofs.Common.{ap, sym, ◌∙◌, find}
use Rattle.section_queues.specs.Facts.{has_failed, known}
use Rattle.section_queues.proofs.Earlier.{earlier-is}
use Rattle.section_queues.proofs.sweep.failed_ancestor.Goals as goal

pub returns-in-Some : goal.returns-in-Some
returns-in-Some g c =
    c.first_failed.ensures
    ∙ ap (find (has_failed (known (g.F.CellFacts.evaluated_cells c.args.facts.now) (g.F.CellFacts.faulty_cells c.args.facts.now)))) (sym (earlier-is _ _ _ c.in-Some.ensures))
