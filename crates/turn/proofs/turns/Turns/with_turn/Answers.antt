use Rattle.std.proofs.Common.{List, subst, sym}
use Rattle.turn.specs.Histories.{MayFind}
use Rattle.turn.specs.Passes.{Pass}
use Rattle.turn.proofs.turns.Turns.with_turn.Goals as goal

pub run-answer-requires-clause-condition : goal.run-answer-requires-clause-condition
run-answer-requires-clause-condition g c = let P : Pass g.row.S-Opening.Denot g.row.S-Entry.Denot → Type 0 = λ p.
    (log : List g.row.S-Entry.Denot) → MayFind g.S.Kept.number_of p.number p.seen p.known log → g.A.Act.condition c.args.self.now.opening p.number log c.args.act.now in
    subst P (sym c.pass.view_is) c.requires.condition
