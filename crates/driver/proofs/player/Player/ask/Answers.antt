use Rattle.driver.proofs.player.Player.ask.Goals as goal

pub returns : goal.returns
returns c = λ n0 is.
    let called = c.in_ok-reply.ensures n0 is in
    record { reply = c.in_ok-reply.reply; answered = called.answered; clients = called.clients; marks = called.marks; printed = c.in_ok-push_sent.ensures }
