use Rattle.std.proofs.Common.{refl}
use Rattle.session_ops.specs.declared.entry.Call.TheVariants.{Client as ByClient}
use Rattle.session_core.proofs.Calls.{answered-over}
use Rattle.driver.proofs.player.Player.call.Goals as goal

pub returns : goal.returns
returns c = λ n0 is. record {
  answered = answered-over n0 0 (ByClient c.args.client c.args.op) c.args.self.now.session c.apply.new.self c.in_ok-reply.reply is c.in_ok-reply.ensures.ok;
  clients = refl;
  marks = refl;
}
