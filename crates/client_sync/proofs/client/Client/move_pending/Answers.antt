use Rattle.std.proofs.Common.{◌≡◌, refl, ap, subst, ◌∙◌, map, None}
use Rattle.std.specs.Prelude.{IfOk, Result, Ok, Err}
use Rattle.std.proofs.lemmas.Result.{IfOk-weaker}
use Rattle.client_sync.specs.Client.{pending_of}
use Rattle.client_sync.specs.Moving.{over_pending}
use Rattle.client_sync.specs.Stands.{IsPendingAt, pending_in}
use Rattle.client_sync.proofs.Returning.{moved-has, unmoved-has, there-moved, item-is}
use Rattle.client_sync.proofs.Texts.{texts-kept, texts-written, source-beside}
use Rattle.client_sync.proofs.client.Client.move_pending.Goals as goal

-- what holds of a call that was done, where it is told in two ways
if-both : {T E R : Type 0} (r : Result T E) (P Q : T → Type 0) → (A : Type 0) → ((A → R) → (x : T) → P x → Q x) → IfOk r P → (A → IfOk r (λ _. R)) → IfOk r Q
if-both (Ok x) P Q A f p g = f g x p
if-both (Err x) P Q A f p g = tt

pub returns-in-None-clause-moved : goal.returns-in-None-clause-moved
returns-in-None-clause-moved c = λ m h.
    let none : pending_of c.args.cell (map pending_in c.args.self.now.pending) ≡ None = subst (λ us. pending_of c.args.cell (map pending_in us) ≡ None) c.as_slice.ensures c.in-None.ensures in
    IfOk-weaker c.copy.result _ _ (λ y e. unmoved-has c.args.self.now.pending c.args.self.now.outbox m c.args.cell c.args.delta.now y h none e) c.copy.ensures

pub returns-in-None-clause-texts : goal.returns-in-None-clause-texts
returns-in-None-clause-texts c = λ n m h e f.
    let none : pending_of c.args.cell (map pending_in c.args.self.now.pending) ≡ None = subst (λ us. pending_of c.args.cell (map pending_in us) ≡ None) c.as_slice.ensures c.in-None.ensures in
    IfOk-weaker c.copy.result _ _ (λ y w. texts-kept n _ c.args.cell c.args.self.now.pending (source-beside n c.args.cell c.args.delta.now) none h) c.copy.ensures

pub returns-in-Some-clause-moved : goal.returns-in-Some-clause-moved
returns-in-Some-clause-moved c = λ m h.
    let us = c.args.self.now.pending in
    let item = c.item_mut.result.now in
    let p : IsPendingAt us c.args.cell c.in-Some.at = subst (λ vs. IsPendingAt vs c.args.cell c.in-Some.at) c.as_slice.ensures c.in-Some.ensures in
    let got = c.item_mut.ensures.value in
    IfOk-weaker c.move_over.result _ _
    (λ y e. moved-has us _ c.args.self.now.outbox _ m c.args.cell c.in-Some.at c.args.delta.now y c.move_over.new.edits.server h p
    (e.0 ∙ ap (λ u. over_pending c.args.delta.now (pending_in u)) (item-is us p.front p.back p.here item c.in-Some.at p.parts p.place got))
    (there-moved us p.front p.back p.here item c.move_over.new.edits c.in-Some.at c.args.delta.now c.move_over.new.edits.server p.parts p.place got e.1) refl)
    c.move_over.ensures.moved

pub returns-in-Some-clause-texts : goal.returns-in-Some-clause-texts
returns-in-Some-clause-texts c = λ n m h e f.
    let us = c.args.self.now.pending in
    let item = c.item_mut.result.now in
    let p : IsPendingAt us c.args.cell c.in-Some.at = subst (λ vs. IsPendingAt vs c.args.cell c.in-Some.at) c.as_slice.ensures c.in-Some.ensures in
    if-both c.move_over.result _ _ _
    (λ server y moved. texts-written n us c.args.self.now.outbox m c.args.cell c.in-Some.at c.args.delta.now p item c.move_over.new.edits h e f c.item_mut.ensures.value moved.1 server)
    c.move_over.ensures.moved c.move_over.ensures.server
