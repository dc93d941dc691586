use Rattle.std.proofs.Common.{◌<◌, length, sym, subst, arith}
use Rattle.std.proofs.lemmas.Bool.Decides.{nat_tests}
use Rattle.std.specs.Prelude.{OnOk}
use Rattle.client_sync.specs.Stands.{Mirrors}
use Rattle.world.specs.Plays.{received_first}
use Rattle.world.proofs.Playing.{HasRest, rest-at}
use Rattle.world.proofs.world.receive_next.Goals as goal

pub returns-in-Some : goal.returns-in-Some
returns-in-Some c = λ n0 m is next.
    let within : c.cursor.result < length c.args.history.now = grind (arith, nat_tests, c.in-Some.ensures.lookup.0) in
    let r : HasRest c.args.history.now (length m.seen) c.in-Some.entry.now = subst (λ i. HasRest c.args.history.now i c.in-Some.entry.now) (c.cursor.ensures n0 m is) (rest-at c.args.history.now c.cursor.result c.in-Some.entry.now within c.in-Some.ensures.lookup.1) in
    subst (λ es. OnOk c.receive.result (Mirrors n0 c.receive.new.self (received_first n0 m es))) (sym r.parts) (c.receive.ensures n0 m is (next c.in-Some.entry.now r.rest r.parts))
