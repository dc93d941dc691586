use Rattle.std.proofs.Common.{false}
use Rattle.delta_laws.proofs.Laws.{moved_law}
use Rattle.delta_laws.proofs.a_first.Goals as goal

pub applied-requires-2 : goal.applied-requires-2
applied-requires-2 c =
    rw (c.in_ok-moved.ensures, c.in_ok-after.ensures) (moved_law false c.args.a.now c.args.b.now c.args.text.now c.requires.a_fits c.requires.b_fits).right_fits
