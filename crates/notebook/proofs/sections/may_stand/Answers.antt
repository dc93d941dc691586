use Rattle.std.proofs.Common.{sym, ◌∙◌}
use Rattle.notebook.proofs.Orders.{may-stands, may-not}
use Rattle.notebook.proofs.sections.may_stand.Goals as goal

pub returns-then-stands_after : goal.returns-then-stands_after
returns-then-stands_after c =
    may-stands _ _ _ _ _ _ c.requires.place c.index-sections-at.is c.requires.ordered c.end_before.ensures (sym c.stands_after.ensures ∙ c.if-stands_after.true) c.has_branches.ensures

pub returns-else-stands_after : goal.returns-else-stands_after
returns-else-stands_after c =
    may-not _ _ _ _ _ _ c.requires.place c.index-sections-at.is c.requires.ordered c.end_before.ensures c.stands_after.ensures c.if-stands_after.false
