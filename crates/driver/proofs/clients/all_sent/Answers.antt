use Rattle.std.proofs.Common.{refl}
use Rattle.driver.proofs.Receiving.{sent-not, sent-more, sent-end}
use Rattle.driver.proofs.clients.all_sent.Goals as goal

pub loop-client-init : goal.loop-client-init
loop-client-init c = λ n0 cs m. refl

pub returns-then-outbox_len-ne0 : goal.returns-then-outbox_len-ne0
returns-then-outbox_len-ne0 c = λ n0 cs m.
    sent-not n0 c.args.clients.now cs c.loop-client.client-index c.outbox_len.result c.client-item.result c.loop-client-test.true m c.client-item.is (λ own is. c.outbox_len.ensures n0 own is) c.if-outbox_len-ne0.true (c.loop-client.invariant n0 cs m)

pub loop-client-preserved : goal.loop-client-preserved
loop-client-preserved c = λ n0 cs m.
    sent-more n0 c.args.clients.now cs c.loop-client.client-index c.outbox_len.result c.client-item.result c.loop-client-test.true m c.client-item.is (λ own is. c.outbox_len.ensures n0 own is) c.if-outbox_len-ne0.false (c.loop-client.invariant n0 cs m)

pub returns : goal.returns
returns c = λ n0 cs m. sent-end n0 c.args.clients.now cs c.loop-client.client-index c.loop-client-test.false m (c.loop-client.invariant n0 cs m)
