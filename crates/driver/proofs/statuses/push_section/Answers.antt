use Rattle.std.proofs.Common.{◌≡◌, ◌++◌, sym, subst, string_bytes}
use Rattle.transcript.specs.Texts.{as_text}
use Rattle.driver.specs.Statuses.{AllHavePaths, code_lines}
use Rattle.driver.proofs.statuses.push_section.Goals as goal

pub returns : goal.returns
returns c = λ n w t all.
    subst (λ home. string_bytes c.push_cells.new.out ≡ string_bytes c.args.out.now ++ as_text (code_lines n w home c.args.section.now.cells)) c.lane_of.ensures
    (subst (λ cs. string_bytes c.push_cells.new.out ≡ string_bytes c.args.out.now ++ as_text (code_lines n w c.lane_of.result cs)) c.as_slice.ensures (c.in_ok-push_cells.ensures n w t (subst (AllHavePaths n) (sym c.as_slice.ensures) all)))
