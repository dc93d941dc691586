use Rattle.std.proofs.Common.{true}
use Rattle.delta_laws.proofs.Laws.{moved_law}
use Rattle.delta_laws.proofs.b_first.Goals as goal

pub applied-requires-2 : goal.applied-requires-2
applied-requires-2 c =
    rw (c.in_ok-moved.ensures, c.in_ok-after.ensures) (moved_law true c.args.b.now c.args.a.now c.args.text.now c.requires.b_fits c.requires.a_fits).right_fits
