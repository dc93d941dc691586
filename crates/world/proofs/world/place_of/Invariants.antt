use Rattle.std.proofs.Common.{◌≡◌, List, drop, map, take, None}
use Rattle.notebook.specs.declared.parts.Parts.{Parts}
use Rattle.client_sync.specs.Client.{Client as Holder, client_of}
use Rattle.client_sync.specs.Stands.{number_in}
use Rattle.world.specs.Plays.{AreMirrors, later, place_in}
use Rattle.world.proofs.world.place_of.Given as goal

-- no earlier client has the number, so the place is among those that are left
abbrev pub invariant-loop-place : goal.invariant-loop-place
invariant-loop-place l = record {
  nobody : (n0 : Parts) → (ms : List Holder) → AreMirrors n0 l.clients ms → client_of l.number (take l.place ms) ≡ None;
  first : place_in l.number (map number_in l.clients) ≡ later l.place (place_in l.number (map number_in (drop l.place l.clients)));
}
