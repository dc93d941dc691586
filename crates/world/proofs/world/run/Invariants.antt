use Rattle.std.proofs.Common.{take}
use Rattle.world.specs.World.{run}
use Rattle.world.specs.Plays.{Plays}
use Rattle.world.proofs.world.run.Given as goal

-- what the events up to this one make of the session is played
abbrev pub invariant-loop-event : goal.invariant-loop-event
invariant-loop-event l = Plays (run l.fn.book (take l.event-index l.event-items)) l.world
