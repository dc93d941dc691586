use Rattle.driver.proofs.Looking.{received-some}
use Rattle.driver.proofs.player.receive_own.Goals as goal

pub returns : goal.returns
returns c = λ g m l is mir.
    received-some g c.args.count c.args.history.now m c.args.own.now c.deliver.new.client c.cursor.result c.saturating_sub-unseen.result c.how_many.result c.cursor-2.result c.args.name.now _ _ (c.cursor.ensures g.opening m mir) c.saturating_sub-unseen.ensures c.how_many.ensures
    (c.in_ok-deliver.ensures g.opening m l is mir) (λ own x. c.cursor-2.ensures g.opening own x) c.in_ok-push_received.ensures
