use Rattle.std.proofs.Common.{◌++◌, ap, ◌∙◌, subst, sym, string_bytes}
use Rattle.transcript.specs.Texts.{as_text}
use Rattle.std.proofs.lemmas.List.{append-nil}
use Rattle.driver.specs.Statuses.{HasPathIfCode, line_of_kind}
use Rattle.driver.proofs.statuses.push_code.Goals as goal

pub returns-in_ok-push_cell-in-Code : goal.returns-in_ok-push_cell-in-Code
returns-in_ok-push_cell-in-Code c = λ n w t some.
    c.in_ok-push_cell-in-Code.ensures n w t (subst (HasPathIfCode n c.args.cell.now) c.in-Code.is some)
    ∙ (ap (λ x. string_bytes c.args.out.now ++ x) (sym (append-nil _)) ∙ ap (λ k. string_bytes c.args.out.now ++ as_text (line_of_kind n w c.args.home c.args.cell.now k)) (sym c.in-Code.is))
