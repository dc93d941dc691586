use Rattle.std.proofs.Common.{length, refl}
use Rattle.session_core.specs.Session.{history_of}
use Rattle.session_core.proofs.Calls.{snapshot-over}
use Rattle.world.proofs.Playing.{session-touches}
use Rattle.driver.proofs.player.Player.admit.Goals as goal

pub returns : goal.returns
returns c = λ n0 is.
    let s = c.args.self.now.session in
    record {
      own = c.in_ok-own.own;
      clients = c.in_ok-push.ensures.items;
      mirrors = c.in_ok-own.ensures n0 (history_of s) (snapshot-over n0 s (length (history_of s)) c.in_ok-snapshot.snapshot is c.in_ok-snapshot.ensures) (session-touches n0 s is);
      session = refl;
      marks = refl;
    }
