use Rattle.std.proofs.Common.{rules}
use Rattle.section_queues.proofs.Missing.{not-running}
use Rattle.section_queues.proofs.wants.Wants.take_away.Goals as goal

pub returns-clause-otherwise : goal.returns-clause-otherwise
returns-clause-otherwise c = not-running c.args.self.now _ c.args.cell _ (search rules) (search rules)
