use Rattle.std.proofs.Common.{◌≡◌, None, Some, map, sym, ap, subst, ◌∙◌}
use Rattle.std.specs.Prelude.{OnOk}
use Rattle.client_sync.specs.Client.{pending_of}
use Rattle.session_ops.specs.Deeds.{FitsCell, book_after}
use Rattle.client_sync.specs.Stands.{HasEdits, HaveServerTexts, IsPendingAt, pending_in}
use Rattle.client_sync.proofs.Noting.{pending-here}
use Rattle.client_sync.proofs.client.Client.take_own.Goals as goal

pub returns-in-None-clause-texts : goal.returns-in-None-clause-texts
returns-in-None-clause-texts c = λ n m p h e there f.
    let us = ap (λ x. x.pending) c.raise.ensures in
    let none : pending_of c.args.cell (map pending_in c.args.self.now.pending) ≡ None = subst (λ vs. pending_of c.args.cell (map pending_in vs) ≡ None) (c.as_slice.ensures ∙ us) c.in-None.ensures in
    let both : None ≡ Some p = sym none ∙ (ap (pending_of c.args.cell) e.pending ∙ there) in
    absurd (cc both)

pub returns-in-Some-clause-texts : goal.returns-in-Some-clause-texts
returns-in-Some-clause-texts c = λ n m p h e there f.
    let vs = c.raise.new.self.pending in
    let us : vs ≡ c.args.self.now.pending = ap (λ x. x.pending) c.raise.ensures in
    let os : c.raise.new.self.outbox ≡ c.args.self.now.outbox = ap (λ x. x.outbox) c.raise.ensures in
    let q : IsPendingAt vs c.args.cell c.in-Some.at = subst (λ ws. IsPendingAt ws c.args.cell c.in-Some.at) c.as_slice.ensures c.in-Some.ensures in
    let e1 : HasEdits vs c.raise.new.self.outbox m = record { pending = ap (map pending_in) us ∙ e.pending; outbox = os ∙ e.outbox; apart = e.apart } in
    let both : Some (pending_in q.here) ≡ Some p = sym (pending-here vs c.args.cell c.in-Some.at m.pending q e1.pending) ∙ there in
    let same : pending_in q.here ≡ p = cc both in
    let flight : q.here.flight ≡ p.flight = ap (λ x. x.flight) same in
    subst (λ x. OnOk c.acknowledge.result (HaveServerTexts (book_after c.args.cell x n) c.acknowledge.new.self.pending)) flight
    (c.acknowledge.ensures.texts n m q (subst (HaveServerTexts n) (sym us) h) e1 (subst (FitsCell n c.args.cell) (sym flight) f))
