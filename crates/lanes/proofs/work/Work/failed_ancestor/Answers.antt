use Rattle.std.proofs.Common.{ap, sym, ◌∙◌, find}
use Rattle.lanes.specs.Work.{has_failed}
use Rattle.lanes.proofs.Earlier.{earlier-is}
use Rattle.lanes.proofs.work.Work.failed_ancestor.Goals as goal

pub returns-in-Some : goal.returns-in-Some
returns-in-Some c = c.first_failed.ensures ∙ ap (find (has_failed c.args.book.now c.args.self.now)) (sym (earlier-is _ _ _ c.in-Some.ensures))
