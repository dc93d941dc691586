use Rattle.delta_laws.proofs.Laws.{composed_law}
use Rattle.delta_laws.proofs.applied_at_once.Goals as goal

pub applied-requires : goal.applied-requires
applied-requires c = rw c.in_ok-both.ensures (composed_law c.args.a.now c.args.b.now c.args.text.now c.requires.a_fits c.requires.b_fits).fits
