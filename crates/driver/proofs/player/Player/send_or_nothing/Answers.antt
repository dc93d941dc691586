use Rattle.std.proofs.Common.{refl}
use Rattle.driver.proofs.Still.{nothing-to-send}
use Rattle.driver.proofs.player.Player.send_or_nothing.Goals as goal

pub returns-then-many-eq0 : goal.returns-then-many-eq0
returns-then-many-eq0 c = λ g s nm st. nothing-to-send g c.args.self.now _ s c.args.client c.args.many c.args.name.now _ _ nm st refl c.if-many-eq0.true c.in_ok-push_nothing_sent.ensures
