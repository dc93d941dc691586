use Rattle.std.proofs.Common.{rules}
use Rattle.std.proofs.lemmas.Fn.{filter_same}
use Rattle.session_core.specs.Logs.{log_lives}
use Rattle.session_core.proofs.logs.drop_dead.Goals as goal

pub returns : goal.returns
returns c = filter_same _ (log_lives c.args.book.now) _ (λ x b f' k. search rules) _ _ c.retain.ensures.filtered
