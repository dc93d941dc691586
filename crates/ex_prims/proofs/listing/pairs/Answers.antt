use Rattle.std.proofs.Common.{arith}
use Rattle.ex_prims.specs.Lists.{pairs}
use Rattle.ex_prims.proofs.ListPairs.{all-paired}
use Rattle.ex_prims.proofs.listing.pairs.Goals as goal

pub returns : goal.returns
returns c = all-paired c.args.left.now c.args.right.now c.loop-place.together.items (pairs c.args.left.now c.args.right.now) c.loop-place.place (omega (arith, c.min-place-end.ensures)) c.loop-place.invariant
