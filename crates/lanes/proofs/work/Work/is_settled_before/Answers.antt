use Rattle.std.proofs.Common.{ap, sym, ◌∙◌}
use Rattle.std.specs.List.{list_all}
use Rattle.lanes.specs.Work.{is_settled}
use Rattle.lanes.proofs.Earlier.{earlier-is}
use Rattle.lanes.proofs.work.Work.is_settled_before.Goals as goal

pub returns-in-Some : goal.returns-in-Some
returns-in-Some c = c.are_settled.ensures ∙ ap (list_all (is_settled c.args.book.now c.args.self.now)) (sym (earlier-is _ _ _ c.in-Some.ensures))
