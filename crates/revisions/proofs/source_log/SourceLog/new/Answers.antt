use Rattle.std.proofs.Common.{refl}
use Rattle.revisions.proofs.Keeping.{made-new}
use Rattle.revisions.proofs.source_log.SourceLog.new.Goals as goal

pub returns : goal.returns
returns c = made-new c.args.source c.args.clients.now _ refl refl refl c.new.ensures c.in_ok-at_zero.ensures
