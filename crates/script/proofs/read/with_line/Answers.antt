use Rattle.std.proofs.Common.{◌≡◌, ◌∙◌, ap, sym, false}
use Rattle.script.specs.Lines.{said, is_skipped}
use Rattle.script.proofs.Reading.{read-from_taken}
use Rattle.script.proofs.read.with_line.Goals as goal

pub returns : goal.returns
returns c =
    let text : c.said-text.result.now ≡ said c.args.line.now = c.said-text.ensures ∙ ap said c.in-Ok.ensures.cases.0 in
    let kept : is_skipped (said c.args.line.now) ≡ false = ap is_skipped (sym text) ∙ sym c.is_skipped.ensures ∙ c.if-is_skipped.false in
    read-from_taken c.args.line.now c.args.script c.with.result c.in-Ok.ensures.cases.1 kept (rw text at c.with.ensures)
