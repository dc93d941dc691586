use Rattle.std.proofs.Common.{sym, ◌∙◌}
use Rattle.ex_parser.proofs.StepTurns.{have_takes, have_ends, have_no_infix}
use Rattle.ex_parser.proofs.parser.Parser.have.Goals.{in_default-via-in-Some+else-floor-level, in_default-via-in_default}
use Rattle.ex_parser.proofs.parser.Parser.have.Goals as goal

pub returns-in_ok-moved-in-Some : goal.returns-in_ok-moved-in-Some
returns-in_ok-moved-in-Some c = λ s v k i.
    have_takes s v c.args.at c.floor.result c.level.result c.in-Some.infix (sym c.in-Some.is ∙ c.infix_at.ensures.value) (c.floor.ensures _ s k) c.level.ensures c.if-floor-level.true (c.in_ok-moved-in-Some.ensures s v k i)

pub returns-in_ok-moved-in_default : goal.returns-in_ok-moved-in_default
returns-in_ok-moved-in_default c = λ s v k i.
    elim c.in_default.branch [
      | in_default-via-in-Some+else-floor-level w ↦ have_ends s v c.args.at w.floor.result w.level.result w.in-Some.infix (sym w.in-Some.is ∙ c.infix_at.ensures.value) (w.floor.ensures _ s k) w.level.ensures w.if-floor-level.false (c.in_ok-moved-in_default.ensures s v k i)
      | in_default-via-in_default w ↦ have_no_infix s v c.args.at (sym w.in_default.is ∙ c.infix_at.ensures.value) (c.in_ok-moved-in_default.ensures s v k i)
    ]
