use Rattle.std.proofs.Common.{◌++◌, sym, ap, ◌∙◌, string_bytes}
use Rattle.std.proofs.lemmas.List.{append-nil}
use Rattle.driver.proofs.StatusLaws.{setup-some}
use Rattle.driver.proofs.statuses.push_setup.Goals as goal

pub returns : goal.returns
returns c = λ n w t some. c.in_ok-push_cell.ensures n w t some ∙ ap (λ x. string_bytes c.args.out.now ++ x) (sym (setup-some n w c.args.setup.now c.if-is_empty.ensures ∙ append-nil _))
