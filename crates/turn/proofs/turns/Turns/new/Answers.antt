use Rattle.std.proofs.Common.{length, ap, sym, subst, arith}
use Rattle.std.specs.Prelude.{All}
use Rattle.turn.specs.Passes.{Pass, Lock, Belongs}
use Rattle.turn.proofs.Opening.{length-fresh_passes, fresh_belong}
use Rattle.turn.proofs.turns.Turns.new.Goals as goal

pub returns-clause-count : goal.returns-clause-count
returns-clause-count g c = let dealt = c.in_ok-passes.ensures in let n = length-fresh_passes g.row.S-Opening.Denot g.row.S-Entry.Denot c.in_ok-board.board.shared.table_id (g.S.Kept.opening c.in_ok-board.board.shared.key.state.value) c.args.seats in
    let e = ap length dealt in let ok = c.in_ok-passes.passes.ok in omega arith

pub returns-clause-belong : goal.returns-clause-belong
returns-clause-belong g c = let t : Lock g.row.S-Opening.Denot = record { home = c.in_ok-board.board.shared.table_id; opening = g.S.Kept.opening c.in_ok-board.board.shared.key.state.value; seats = c.args.seats } in
    subst (All (λ (p : Pass g.row.S-Opening.Denot g.row.S-Entry.Denot). Belongs p t)) (sym c.in_ok-passes.ensures) (fresh_belong t c.args.seats)
