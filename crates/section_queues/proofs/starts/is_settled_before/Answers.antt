use Rattle.std.proofs.Common.{ap, sym, ◌∙◌}
use Rattle.std.specs.List.{list_all}
use Rattle.section_queues.specs.Facts.{known}
use Rattle.section_queues.specs.Starts.{is_settled}
use Rattle.section_queues.proofs.Earlier.{earlier-is}
use Rattle.section_queues.proofs.starts.is_settled_before.Goals as goal

pub returns-in-Some : goal.returns-in-Some
returns-in-Some g c =
    c.are_settled.ensures
    ∙ ap (list_all (is_settled (known (g.F.CellFacts.evaluated_cells c.args.facts.now) (g.F.CellFacts.faulty_cells c.args.facts.now)) c.args.wants.now)) (sym (earlier-is _ _ _ c.in-Some.ensures))
