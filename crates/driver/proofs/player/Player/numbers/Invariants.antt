use Rattle.std.proofs.Common.{◌≡◌, ◌++◌, drop, map}
use Rattle.client_sync.specs.Stands.{number_in}
use Rattle.driver.proofs.player.Player.numbers.Given as goal

-- the numbers so far and those that are left are all
abbrev pub invariant-loop-client : goal.invariant-loop-client
invariant-loop-client l = l.numbers.items ++ map number_in (drop l.client-index l.client-items) ≡ map number_in l.client-items
