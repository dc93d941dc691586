use Rattle.notebook.specs.declared.parts.Parts.{Parts}
use Rattle.session_core.specs.Session.{IsSession}
use Rattle.driver.specs.Settling.{HasGoneOn}
use Rattle.driver.proofs.settling.settle.Given as goal

-- only evaluations were made so far
abbrev pub invariant-loop : goal.invariant-loop
invariant-loop g l = (n0 : Parts) → IsSession n0 l.initial.session → HasGoneOn n0 l.by l.initial.session l.session
