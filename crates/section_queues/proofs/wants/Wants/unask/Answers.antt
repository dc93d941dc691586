use Rattle.std.proofs.Common.{rules}
use Rattle.section_queues.proofs.Missing.{not-queued}
use Rattle.section_queues.proofs.wants.Wants.unask.Goals as goal

pub returns-clause-otherwise : goal.returns-clause-otherwise
returns-clause-otherwise c = not-queued c.args.self.now _ c.args.cell _ (search rules) (search rules)
