use Rattle.std.proofs.Common.{◌≡◌, ◌++◌, sym, ap, subst, ◌∙◌, append_assoc, string_bytes}
use Rattle.std.proofs.lemmas.Grind.{flat_map-append}
use Rattle.transcript.specs.Texts.{as_text, ended_line}
use Rattle.driver.specs.Statuses.{AllSectionsHavePaths, setup_line, section_code_lines}
use Rattle.driver.proofs.StatusLaws.{all-paths, setup-path}
use Rattle.driver.proofs.statuses.push_statuses.Goals as goal

pub returns : goal.returns
returns c = λ w t.
    let n = c.args.book.now in
    let a = c.in_ok-push_setup.ensures n w t (setup-path n) in
    let b = subst (λ ss. string_bytes c.push_sections.new.out ≡ string_bytes c.push_setup.new.out ++ as_text (section_code_lines n w ss)) c.as_slice.ensures (c.in_ok-push_sections.ensures n w t (subst (AllSectionsHavePaths n) (sym c.as_slice.ensures) (all-paths n))) in
    b ∙ (ap (λ x. x ++ as_text (section_code_lines n w n.sections)) a
    ∙ (append_assoc (string_bytes c.args.out.now) _ _ ∙ ap (λ x. string_bytes c.args.out.now ++ x) (sym (flat_map-append ended_line (setup_line n w n.setup) (section_code_lines n w n.sections)))))
