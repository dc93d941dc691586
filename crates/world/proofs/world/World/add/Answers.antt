use Rattle.std.proofs.Common.{length, refl}
use Rattle.session_core.specs.Session.{history_of}
use Rattle.session_core.proofs.Calls.{snapshot-over}
use Rattle.world.proofs.Playing.{added-plays, session-touches}
use Rattle.world.proofs.world.World.add.Goals as goal

pub returns : goal.returns
returns c = λ w is.
    let s = c.args.self.now.session in
    added-plays w c.args.self.now (record { session = s; clients = c.push.new.self }) c.args.number c.in_ok-client.client is refl c.in_ok-push.ensures.items
    (c.in_ok-client.ensures w.opening (history_of s) (snapshot-over w.opening s (length (history_of s)) c.in_ok-snapshot.snapshot is.session c.in_ok-snapshot.ensures) (session-touches w.opening s is.session))
