use Rattle.std.proofs.Common.{sym, ◌∙◌, true, false}
use Rattle.driver.specs.Player.{Game}
use Rattle.driver.proofs.Looking.{syncing-none, syncing-next, sync-played, sent-known}
use Rattle.driver.proofs.player.Player.sync.Goals as goal

pub loop-init : goal.loop-init
loop-init g c = λ n0 s st. let k : Game = record { opening = n0; names = c.args.names.now } in syncing-none k c.args.self.now s _ st

pub returns-then-all_sent : goal.returns-then-all_sent
returns-then-all_sent g c = λ n0 s st.
    let k : Game = record { opening = n0; names = c.args.names.now } in
    let i = c.loop.invariant n0 s st in
    let r = c.in_ok-at.ensures n0 i.stage i.stands in
    sync-played k c.args.self.now c.loop.self c.round.new.self s c.in_ok-at.at _ _ _ _ i r (sent-known k c.round.new.self r.stage c.deref.result.now true r.stands c.deref.ensures.value (λ cs m. sym c.if-all_sent.true ∙ c.all_sent.ensures k.opening cs m)) c.in_ok-push_sync.ensures

pub loop-preserved : goal.loop-preserved
loop-preserved g c = λ n0 s st.
    let k : Game = record { opening = n0; names = c.args.names.now } in
    let i = c.loop.invariant n0 s st in
    let r = c.in_ok-at.ensures n0 i.stage i.stands in
    syncing-next k c.args.self.now c.loop.self c.round.new.self s c.in_ok-at.at _ _ _ i r (sent-known k c.round.new.self r.stage c.deref.result.now false r.stands c.deref.ensures.value (λ cs m. sym c.if-all_sent.false ∙ c.all_sent.ensures k.opening cs m))
