use Rattle.std.proofs.Common.{List}
use Rattle.std.specs.List.{AllByRecursion}
use Rattle.driver.specs.Clients.{IsLawful}
use Rattle.client_sync.specs.Client.{Client as Holder}
use Rattle.world.specs.Waiting.{IsHonest}
use Rattle.driver.specs.Player.{Game}
use Rattle.driver.specs.Clients.{AreMirrors}
use Rattle.driver.proofs.Receiving.{first_received}
use Rattle.driver.proofs.clients.deliver_all.Given as goal

-- the clients so far have received all
abbrev pub invariant-loop-at : goal.invariant-loop-at
invariant-loop-at l = (g : Game) (cs : List Holder) → IsLawful g.opening l.history → AllByRecursion (IsHonest g.opening l.history) cs → AreMirrors g.opening l.initial.clients cs → AreMirrors g.opening l.clients (first_received l.at g l.history cs)
