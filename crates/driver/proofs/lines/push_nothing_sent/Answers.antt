use Rattle.std.proofs.Common.{◌++◌, ap, ◌∙◌, string_bytes, codes}
use Rattle.driver.proofs.AnswerLaws.{on-ok}
use Rattle.driver.proofs.Lined.{name-line}
use Rattle.driver.proofs.lines.push_nothing_sent.Goals as goal

pub returns : goal.returns
returns c = on-ok c.push_plain-2.result (λ e. e ∙ (ap (λ x. x ++ codes " sent: nothing\n") c.in_ok-push_plain.ensures ∙ name-line (string_bytes c.args.out.now) c.args.name.now (codes " sent: nothing"))) c.push_plain-2.ensures
