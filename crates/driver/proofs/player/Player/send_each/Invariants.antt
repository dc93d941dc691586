use Rattle.std.proofs.Common.{drop, string_bytes}
use Rattle.notebook.specs.declared.parts.Parts.{Parts}
use Rattle.driver.specs.Player.{Stage, send_each}
use Rattle.driver.specs.Standing.{Stands, Leads}
use Rattle.driver.proofs.player.Player.send_each.Given as goal

-- the clients so far have sent all
abbrev pub invariant-loop-number : goal.invariant-loop-number
invariant-loop-number l = (n0 : Parts) (s : Stage) → Stands (record { opening = n0; names = l.names }) l.initial.self s
    → Leads (record { opening = n0; names = l.names }) (send_each (record { opening = n0; names = l.names }) l.numbers) (send_each (record { opening = n0; names = l.names }) (drop l.number-index l.numbers)) l.initial.self l.self s (string_bytes l.initial.out) (string_bytes l.out)
