use Rattle.std.proofs.Common.{None, Some, ap, ◌∙◌}
use Rattle.std.specs.Option.{option_copied}
use Rattle.client_sync.proofs.Viewing.{text-held}
use Rattle.client_sync.proofs.client.Client.text.Goals as goal

pub returns-in_err-own : goal.returns-in_err-own
returns-in_err-own c = λ n0 m is. ap option_copied c.from_residual.ensures ∙ text-held n0 c.args.self.now m c.args.cell None is c.in_err-own.ensures

pub returns : goal.returns
returns c = λ n0 m is. text-held n0 c.args.self.now m c.args.cell (Some c.in_ok-own.own.now) is c.in_ok-own.ensures
