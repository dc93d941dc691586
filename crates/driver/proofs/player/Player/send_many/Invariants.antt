use Rattle.std.proofs.Common.{◌≡◌, string_bytes}
use Rattle.driver.specs.Player.{Game, Stage, name_of}
use Rattle.driver.specs.Standing.{Stands}
use Rattle.driver.proofs.Sending.{IsSending}
use Rattle.driver.proofs.player.Player.send_many.Given as goal

-- the messages so far were sent
abbrev pub invariant-loop : goal.invariant-loop
invariant-loop l = (g : Game) (s : Stage) → l.name ≡ name_of g l.client → Stands g l.initial.self s → IsSending g l.client l.many l.counter l.initial.self l.self s (string_bytes l.initial.out) (string_bytes l.out)
