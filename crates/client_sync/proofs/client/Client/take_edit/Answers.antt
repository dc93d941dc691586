use Rattle.std.specs.Prelude.{◌≡◌, Some, OnOk, Result, Ok, Err}
use Rattle.std.proofs.lemmas.Result.{on_ok_weaker}
use Rattle.client_sync.specs.Client.{Pending, delivered, pending_of}
use Rattle.session_ops.specs.Deeds.{CellEdit, FitsCell, book_after, edit_in}
use Rattle.client_sync.specs.Stands.{HasEdits, HaveServerTexts}
use Rattle.client_sync.proofs.Receiving.{IsForeign, is-foreign, fits-cell, own-mirrors, foreign-mirrors, seen_more}
use Rattle.client_sync.proofs.client.Client.take_edit.Goals as goal

-- what holds where three facts of a call that was done are known, one of them under premises
all-ok : {T E P R S : Type 0} {X : Type 0} (Q : X → Type 0) (A : X → Type 0) (r : Result T E) → (P → ((x : X) → A x → Q x) → R → S) → OnOk r P → ((x : X) → A x → OnOk r (Q x)) → OnOk r R → OnOk r S
all-ok Q A (Ok x) f p q s = f p q s
all-ok Q A (Err x) f p q s = tt

pub returns-then-edit-self : goal.returns-then-edit-self
returns-then-edit-self c = λ n0 m is e next came.
    let a : CellEdit = edit_in c.args.edit.now in
    let has : HasEdits c.args.self.now.pending c.args.self.now.outbox m = record { pending = is.pending; outbox = is.outbox; apart = is.apart } in
    all-ok (λ (p : Pending). HaveServerTexts (book_after a.cell p.flight (delivered n0 m).book) c.take_own.new.self.pending) (λ p. (pending_of a.cell m.pending ≡ Some p) × FitsCell (delivered n0 m).book a.cell p.flight) c.take_own.result
    (λ edits texts rest. own-mirrors n0 c.args.self.now c.take_own.new.self m e a is next came c.if-edit-self.true edits (λ p there fits. texts p (there, fits)) rest)
    (c.take_own.ensures.taken (seen_more m e) (record { pending = is.pending; outbox = is.outbox; apart = is.apart }))
    (λ p w. c.take_own.ensures.texts (delivered n0 m).book m p is.texts has w.0 w.1) c.take_own.ensures.rest

pub returns-else-edit-self : goal.returns-else-edit-self
returns-else-edit-self c = λ n0 m is e next came.
    let a : CellEdit = edit_in c.args.edit.now in
    let f : IsForeign n0 c.args.self.now m a.cell a.delta = is-foreign n0 c.args.self.now m e a is next came in
    on_ok_weaker c.take_foreign.result (λ moved. foreign-mirrors n0 c.args.self.now c.take_foreign.new.self m e a is next came c.if-edit-self.false f moved)
    (c.take_foreign.ensures n0 m is (record { server = fits-cell n0 m e a next came; own = record { own = f.own; there = f.there; fits = f.fits } }))
