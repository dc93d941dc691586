use Rattle.std.proofs.Common.{◌≡◌, ◌-◌, ◌∙◌, sym, ap, take, drop, length}
use Rattle.ex_grammar.specs.Names.{mark_follows}
use Rattle.ex_lexer.proofs.Bytes.{rest_from}
use Rattle.ex_lexer.proofs.NameRuns.{name_boundary_at}
use Rattle.ex_lexer.proofs.names.name_len.Goals as goal

pub returns-then-mark_follows-clause-boundary : goal.returns-then-mark_follows-clause-boundary
returns-then-mark_follows-clause-boundary c =
    let bs = c.as_bytes.result.now in
    let n = c.word_len-len.result in
    let e : take (length bs - n) (drop n bs) ≡ drop n c.args.text.now = rest_from bs n ∙ ap (drop n) c.as_bytes.ensures.value in
    name_boundary_at c.args.text.now n c.utf8.text (ap mark_follows (sym e) ∙ (sym c.mark_follows.ensures ∙ c.if-mark_follows.true))
