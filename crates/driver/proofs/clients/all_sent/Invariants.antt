use Rattle.std.proofs.Common.{◌≡◌, List, drop}
use Rattle.notebook.specs.declared.parts.Parts.{Parts}
use Rattle.client_sync.specs.Client.{Client as Holder}
use Rattle.driver.specs.Player.{all_sent}
use Rattle.driver.specs.Clients.{AreMirrors}
use Rattle.driver.proofs.clients.all_sent.Given as goal

-- the clients so far have sent all
abbrev pub invariant-loop-client : goal.invariant-loop-client
invariant-loop-client l = (n0 : Parts) (cs : List Holder) → AreMirrors n0 l.clients cs → all_sent cs ≡ all_sent (drop l.client-index cs)
