use Rattle.std.proofs.Common.{rules}
use Rattle.section_queues.proofs.Missing.{not-run}
use Rattle.section_queues.proofs.wants.Wants.end.Goals as goal

pub returns-clause-otherwise : goal.returns-clause-otherwise
returns-clause-otherwise c = not-run c.args.self.now _ c.args.eval _ (search rules) (search rules)
