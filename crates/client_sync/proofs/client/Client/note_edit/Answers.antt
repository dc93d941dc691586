use Rattle.std.proofs.Common.{◌≡◌, ap, subst, map, None}
use Rattle.std.proofs.lemmas.Result.{on_ok_weaker}
use Rattle.client_sync.specs.Client.{pending_of}
use Rattle.client_sync.specs.Stands.{IsPendingAt, pending_in}
use Rattle.client_sync.proofs.Noting.{posted-has, buffered-has}
use Rattle.client_sync.proofs.Texts.{texts-posted, texts-buffered}
use Rattle.client_sync.proofs.client.Client.note_edit.Goals as goal

pub returns-in-None-clause-noted : goal.returns-in-None-clause-noted
returns-in-None-clause-noted c = λ m own h there.
    let none : pending_of c.args.cell (map pending_in c.args.self.now.pending) ≡ None = subst (λ us. pending_of c.args.cell (map pending_in us) ≡ None) c.as_slice.ensures c.in-None.ensures in
    on_ok_weaker c.begin_edit.result (λ e. posted-has c.args.self.now.pending _ c.args.self.now.outbox _ m c.args.cell c.args.base own.source c.args.delta.now h none (ap (λ x. x.pending) e) (ap (λ x. x.outbox) e)) (c.begin_edit.ensures.posted own there)

pub returns-in-None-clause-texts : goal.returns-in-None-clause-texts
returns-in-None-clause-texts c = λ n own h there quiet.
    let none : pending_of c.args.cell (map pending_in c.args.self.now.pending) ≡ None = subst (λ us. pending_of c.args.cell (map pending_in us) ≡ None) c.as_slice.ensures c.in-None.ensures in
    on_ok_weaker c.begin_edit.result (λ e. texts-posted n c.args.self.now.pending _ c.args.cell own.source c.args.delta.now h (quiet none) (ap (λ x. x.pending) e)) (c.begin_edit.ensures.posted own there)

pub returns-in-Some-clause-noted : goal.returns-in-Some-clause-noted
returns-in-Some-clause-noted c = λ m own h there.
    let p : IsPendingAt c.args.self.now.pending c.args.cell c.in-Some.at = subst (λ us. IsPendingAt us c.args.cell c.in-Some.at) c.as_slice.ensures c.in-Some.ensures in
    on_ok_weaker c.buffer_edit.result (λ e. buffered-has c.args.self.now.pending _ c.args.self.now.outbox _ m c.args.cell c.in-Some.at c.args.base c.args.delta.now h p (ap (λ x. x.pending) e) (ap (λ x. x.outbox) e)) (c.buffer_edit.ensures.joined p.front p.back p.here p.parts p.place)

pub returns-in-Some-clause-texts : goal.returns-in-Some-clause-texts
returns-in-Some-clause-texts c = λ n own h there quiet.
    let p : IsPendingAt c.args.self.now.pending c.args.cell c.in-Some.at = subst (λ us. IsPendingAt us c.args.cell c.in-Some.at) c.as_slice.ensures c.in-Some.ensures in
    on_ok_weaker c.buffer_edit.result (λ e. texts-buffered n c.args.self.now.pending _ p.front p.back p.here _ h p.parts (ap (λ x. x.pending) e)) (c.buffer_edit.ensures.joined p.front p.back p.here p.parts p.place)
