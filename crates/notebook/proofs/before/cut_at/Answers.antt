use Rattle.std.proofs.Common.{refl}
use Rattle.notebook.proofs.Standing.{cut-made}
use Rattle.notebook.proofs.before.cut_at.Goals as goal

pub returns-then-cell-id : goal.returns-then-cell-id
returns-then-cell-id c = cut-made _ _ _ _ _ c.loop-at-test.true c.index-cells-at.is refl refl refl c.loop-at.invariant (cc (c.is_code.ensures, c.if-is_code.true)) c.if-cell-id.true
