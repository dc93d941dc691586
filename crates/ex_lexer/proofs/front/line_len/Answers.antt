use Rattle.std.proofs.Common.{sym, arith}
use Rattle.ex_lexer.proofs.FrontCode as X
use Rattle.std.proofs.lemmas.List.Sums.{prefix_len_is}
use Rattle.ex_grammar.specs.Lexing.{is_in_line}
use Rattle.ex_lexer.proofs.front.line_len.Goals as goal

pub returns-else-bytes-len-ne10 : goal.returns-else-bytes-len-ne10
returns-else-bytes-len-ne10 c = sym (prefix_len_is is_in_line c.args.bytes.now c.loop-len.len 0 c.loop-len.invariant.within c.loop-len.invariant.passes (λ _. X.feed_ends _ c.if-bytes-len-ne10.false))

pub returns-after-loop-len : goal.returns-after-loop-len
returns-after-loop-len c = sym (prefix_len_is is_in_line c.args.bytes.now c.loop-len.len 0 c.loop-len.invariant.within c.loop-len.invariant.passes (λ h. absurd (omega arith)))
