use Rattle.std.proofs.Common.{◌<◌, length, arith}
use Rattle.std.proofs.lemmas.Bool.Decides.{nat_tests}
use Rattle.driver.proofs.Receiving.{next-some}
use Rattle.driver.proofs.clients.deliver_next.Goals as goal

pub returns-in_ok-receive-in-Some : goal.returns-in_ok-receive-in-Some
returns-in_ok-receive-in-Some c = λ n0 m l is mir.
    let within : c.cursor.result < length c.args.history.now = grind (arith, nat_tests, c.in-Some.ensures.lookup.0) in
    next-some n0 c.args.history.now m c.args.client.now c.receive.new.self c.cursor.result c.in-Some.entry.now l is (c.cursor.ensures n0 m mir) within c.in-Some.ensures.lookup.1 mir (λ next. c.in_ok-receive-in-Some.ensures n0 m mir next)
