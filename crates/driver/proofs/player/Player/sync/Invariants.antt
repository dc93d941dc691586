use Rattle.std.proofs.Common.{string_bytes}
use Rattle.notebook.specs.declared.parts.Parts.{Parts}
use Rattle.driver.specs.Player.{Stage}
use Rattle.driver.specs.Standing.{Stands}
use Rattle.driver.proofs.Looking.{IsSyncing}
use Rattle.driver.proofs.player.Player.sync.Given as goal

-- the rounds so far were made
abbrev pub invariant-loop : goal.invariant-loop
invariant-loop g l = (n0 : Parts) (s : Stage) → Stands (record { opening = n0; names = l.names }) l.initial.self s → IsSyncing (record { opening = n0; names = l.names }) l.initial.self l.self s (string_bytes l.initial.out) (string_bytes l.out)
