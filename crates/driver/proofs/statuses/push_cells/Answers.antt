use Rattle.std.proofs.Common.{◌∙◌, ap, ◌++◌, sym, arith, string_bytes}
use Rattle.std.proofs.lemmas.List.{append-nil, drop_all}
use Rattle.transcript.specs.Texts.{as_text}
use Rattle.driver.specs.Statuses.{code_lines}
use Rattle.driver.proofs.StatusLaws.{cells-more, paths-at}
use Rattle.driver.proofs.statuses.push_cells.Goals as goal

pub loop-cell-preserved : goal.loop-cell-preserved
loop-cell-preserved c = λ n w t all.
    let inv = c.loop-cell.invariant n w t all in
    let at = paths-at n c.args.cells.now c.loop-cell.cell-index c.cell-item.result inv.1 c.loop-cell-test.true c.cell-item.is in (
      rw (c.in_ok-push_code.ensures n w t at.0) (cells-more n w c.args.home c.args.cells.now c.loop-cell.cell-index c.cell-item.result (string_bytes c.loop-cell.out) c.loop-cell-test.true c.cell-item.is ∙ inv.0),
      at.1,
    )

pub returns : goal.returns
returns c = λ n w t all.
    let inv = c.loop-cell.invariant n w t all in
    sym (append-nil (string_bytes c.loop-cell.out)) ∙ (ap (λ cs. string_bytes c.loop-cell.out ++ as_text (code_lines n w c.args.home cs)) (sym (drop_all c.loop-cell.cell-index c.args.cells.now (omega (arith, c.loop-cell-test.false)))) ∙ inv.0)
