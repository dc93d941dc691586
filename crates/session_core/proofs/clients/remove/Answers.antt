use Rattle.std.proofs.Common.{rules}
use Rattle.std.proofs.lemmas.Fn.{filter_same}
use Rattle.session_ops.specs.Numbers.{is_other}
use Rattle.session_core.proofs.clients.remove.Goals as goal

pub returns : goal.returns
returns c = filter_same _ (is_other c.args.client) _ (λ x b f' k. search rules) _ _ c.retain.ensures.filtered
