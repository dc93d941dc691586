use Rattle.std.proofs.Common.{rules}
use Rattle.turn.proofs.Steps.{publishes, serves}
use Rattle.turn.proofs.turns.Turns.leave.Goals as goal

pub store-requires : goal.store-requires
store-requires g c = (search rules, search rules, publishes g.S.Kept.list g.S.Kept.opening g.S.Kept.number_of _ _ _ _ _ c.args.state _ (search rules) (search rules) (search rules) (search rules) (search rules))

pub fetch_add-requires : goal.fetch_add-requires
fetch_add-requires g c = (search rules, search rules, serves g.S.Kept.list g.S.Kept.opening g.S.Kept.number_of _ _ _ _ _ c.args.state (search rules) (search rules) (search rules) (search rules))
