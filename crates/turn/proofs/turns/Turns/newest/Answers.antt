use Rattle.std.proofs.Common.{rules}
use Rattle.turn.proofs.Steps.{tells}
use Rattle.turn.proofs.turns.Turns.newest.Goals as goal

pub load-requires : goal.load-requires
load-requires g c = let i = c.pass.invariant.0 in (search rules, search rules, tells g.S.Kept.list g.S.Kept.opening g.S.Kept.number_of _ _ _ _ _ i.live i.turn)
