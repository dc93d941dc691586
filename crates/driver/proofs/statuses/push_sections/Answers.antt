use Rattle.std.proofs.Common.{◌∙◌, ap, ◌++◌, sym, arith, string_bytes}
use Rattle.std.proofs.lemmas.List.{append-nil, drop_all}
use Rattle.transcript.specs.Texts.{as_text}
use Rattle.driver.specs.Statuses.{section_code_lines}
use Rattle.driver.proofs.StatusLaws.{sections-more, section-paths-at}
use Rattle.driver.proofs.statuses.push_sections.Goals as goal

pub loop-section-preserved : goal.loop-section-preserved
loop-section-preserved c = λ n w t all.
    let inv = c.loop-section.invariant n w t all in
    let at = section-paths-at n c.args.sections.now c.loop-section.section-index c.section-item.result inv.1 c.loop-section-test.true c.section-item.is in (
      rw (c.in_ok-push_section.ensures n w t at.0) (sections-more n w c.args.sections.now c.loop-section.section-index c.section-item.result (string_bytes c.loop-section.out) c.loop-section-test.true c.section-item.is ∙ inv.0),
      at.1,
    )

pub returns : goal.returns
returns c = λ n w t all.
    let inv = c.loop-section.invariant n w t all in
    sym (append-nil (string_bytes c.loop-section.out)) ∙ (ap (λ ss. string_bytes c.loop-section.out ++ as_text (section_code_lines n w ss)) (sym (drop_all c.loop-section.section-index c.args.sections.now (omega (arith, c.loop-section-test.false)))) ∙ inv.0)
