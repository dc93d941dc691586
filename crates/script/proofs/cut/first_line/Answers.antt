use Rattle.std.proofs.Common.{arith}
use Rattle.script.proofs.Cuts.{lines-first, lines-whole}
use Rattle.script.proofs.cut.first_line.Goals as goal

pub returns-then-at-bytes-clause-lines : goal.returns-then-at-bytes-clause-lines
returns-then-at-bytes-clause-lines c = lines-first c.args.bytes.now c.line_len-at.result c.line_len-at.ensures (omega arith)

pub returns-else-at-bytes-clause-lines : goal.returns-else-at-bytes-clause-lines
returns-else-at-bytes-clause-lines c = lines-whole c.args.bytes.now c.requires (omega arith)
