use Rattle.session_core.specs.Session.{StayOut}
use Rattle.check_session.proofs.calls.follow_lines.Given as goal

-- what was out is out still
abbrev pub invariant-loop-line : goal.invariant-loop-line
invariant-loop-line l = StayOut l.initial.session l.session
