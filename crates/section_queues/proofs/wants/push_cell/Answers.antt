use Rattle.std.proofs.Common.{sym, subst}
use Rattle.section_queues.specs.Apart.{AreApart}
use Rattle.section_queues.specs.Facts.{same_number}
use Rattle.section_queues.proofs.Apart.{more-apart}
use Rattle.section_queues.proofs.wants.push_cell.Goals as goal

-- a cell that isn't among the others is put at the end
pub returns-clause-once : goal.returns-clause-once
returns-clause-once c = subst (λ ks. AreApart same_number ks) (sym c.in_ok-push.ensures.ok) (more-apart same_number c.args.cells.now c.args.cell c.requires.new c.requires.once)
