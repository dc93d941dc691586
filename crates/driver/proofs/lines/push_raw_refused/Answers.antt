use Rattle.std.proofs.Common.{◌++◌, ap, ◌∙◌, string_bytes, codes}
use Rattle.driver.proofs.AnswerLaws.{on-ok}
use Rattle.driver.proofs.Lined.{name-line}
use Rattle.driver.proofs.lines.push_raw_refused.Goals as goal

pub returns : goal.returns
returns c = on-ok c.push_plain-2.result (λ e. e ∙ (ap (λ x. x ++ codes " raw: refused HasClient\n") c.in_ok-push_plain.ensures ∙ name-line (string_bytes c.args.out.now) c.args.name.now (codes " raw: refused HasClient"))) c.push_plain-2.ensures
