use Rattle.std.proofs.Common.{◌++◌, ap, ◌∙◌, subst, string_bytes}
use Rattle.transcript.specs.Texts.{ended_line}
use Rattle.session_core.proofs.Calls.{told-over}
use Rattle.driver.proofs.StatusLaws.{row-line, no-row, told-row, IsRowOf}
use Rattle.driver.proofs.statuses.push_cell.Goals as goal

pub returns-in-None : goal.returns-in-None
returns-in-None c = λ n w t some. absurd (no-row n c.args.cell some (subst (IsRowOf n w c.args.cell) c.in-None.is (told-row n w c.args.session.now c.args.cell c.row.result t (told-over (λ st. IsRowOf st.book st.work c.args.cell c.row.result) t.opening c.args.session.now t.session c.row.ensures))))

pub returns-in_ok-push_state-in-Some : goal.returns-in_ok-push_state-in-Some
returns-in_ok-push_state-in-Some c = λ n w t some.
    c.in_ok-push_state-in-Some.ensures
    ∙ ap (λ x. string_bytes c.args.out.now ++ ended_line x)
    (row-line n w c.args.home c.args.cell c.in-Some.field-0 (subst (IsRowOf n w c.args.cell) c.in-Some.is (told-row n w c.args.session.now c.args.cell c.row.result t (told-over (λ st. IsRowOf st.book st.work c.args.cell c.row.result) t.opening c.args.session.now t.session c.row.ensures))))
