use Rattle.notebook.specs.declared.parts.Parts.{Parts}
use Rattle.driver.specs.Clients.{IsLawful}
use Rattle.client_sync.specs.Client.{Client as Holder}
use Rattle.client_sync.specs.Stands.{Mirrors}
use Rattle.world.specs.Waiting.{IsHonest}
use Rattle.driver.specs.Clients.{HasReceived}
use Rattle.driver.proofs.clients.deliver.Given as goal

-- so many entries were received
abbrev pub invariant-loop : goal.invariant-loop
invariant-loop l = (n0 : Parts) (m : Holder) → IsLawful n0 l.history → IsHonest n0 l.history m → Mirrors n0 l.initial.client m → HasReceived n0 l.history l.counter m l.client
