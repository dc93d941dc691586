use Rattle.std.proofs.Common.{sym, ◌∙◌}
use Rattle.lanes.proofs.Sweeping.{unswept}
use Rattle.lanes.proofs.work.Work.sweep_at.Goals as goal

pub returns-else-is_lost-clause-mark : goal.returns-else-is_lost-clause-mark
returns-else-is_lost-clause-mark c = λ m e.
    unswept c.args.book.now c.args.self.now c.args.at m c.index-as_slice-at.result c.as_slice.result.now c.as_slice.ensures e c.index-as_slice-at.is (sym c.is_lost.ensures ∙ c.if-is_lost.false)
