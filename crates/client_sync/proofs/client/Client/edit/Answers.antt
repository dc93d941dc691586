use Rattle.std.proofs.Common.{rules, ◌≡◌, true, Some, sym, ap, subst, ◌∙◌}
use Rattle.std.specs.Prelude.{OnOk, Result, Ok, Err}
use Rattle.std.specs.Result.{is_ok}
use Rattle.notebook.specs.Book.{with_source}
use Rattle.session_ops.specs.Snapshot.{listed_revision}
use Rattle.client_sync.specs.Client.{delivered}
use Rattle.client_sync.specs.declared.edit_error.EditError.TheVariants.{NoCell, OutOfMemory}
use Rattle.client_sync.proofs.Editing.{edit-refused, edit-empty, edit-done, has-steps, no-steps, server-text}
use Rattle.client_sync.proofs.Viewing.{unknown-cell}
use Rattle.client_sync.proofs.client.Client.edit.Goals as goal

-- what holds where a call was done
where-ok : {T E P : Type 0} (r : Result T E) → is_ok r ≡ true → OnOk r P → P
where-ok (Ok x) e h = h
where-ok (Err x) e h = absurd (cc e)

pub returns-in_default-clause-edited : goal.returns-in_default-clause-edited
returns-in_default-clause-edited c = λ n0 m is.
    edit-refused n0 c.args.self.now m c.args.cell c.args.delta.now NoCell is
    (unknown-cell n0 c.args.self.now m c.args.cell is (sym c.in_default.is ∙ (c.rev_in.ensures ∙ ap (listed_revision c.args.cell) c.as_slice.ensures)))

pub returns-clause-edited : goal.returns-clause-edited
returns-clause-edited c = λ n0 m is.
    let rest = c.note_edit.ensures.rest in
    let f = c.in_ok-text.ensures in
    let base : Some c.in-Some.base ≡ listed_revision c.args.cell c.args.self.now.revs = sym c.in-Some.is ∙ (c.rev_in.ensures ∙ ap (listed_revision c.args.cell) c.as_slice.ensures) in
    edit-done n0 c.args.self.now _ m c.args.cell c.in-Some.base c.args.delta.now c.in_ok-text.text is f (has-steps c.args.delta.now c.if-is_empty.ensures) base
    (λ h has. where-ok c.note_edit.result c.if-is_err.ensures.negation (c.note_edit.ensures.noted h f.own has f.there))
    (where-ok c.note_edit.result c.if-is_err.ensures.negation (c.note_edit.ensures.texts (delivered n0 m).book f.own is.texts f.there (server-text n0 c.args.self.now m c.args.cell f.own is f.there)))
    (record { number = ap (λ x. x.number) rest; cursor = ap (λ x. x.cursor) rest; revs = ap (λ x. x.revs) rest; nothing = ap (λ x. x.nothing) rest })
    (subst (λ b. c.set_source.new.self ≡ with_source c.args.cell c.in_ok-text.text b) (ap (λ x. x.book) rest) c.set_source.ensures.set)

pub returns-then-is_empty-clause-edited : goal.returns-then-is_empty-clause-edited
returns-then-is_empty-clause-edited c = λ n0 m is. (m, (edit-empty n0 c.args.self.now m c.args.cell c.args.delta.now c.in_ok-text.text is c.in_ok-text.ensures (no-steps c.args.delta.now c.if-is_empty.ensures), is))

pub returns-in_err-text-clause-edited : goal.returns-in_err-text-clause-edited
returns-in_err-text-clause-edited c = search (rules, edit-refused)

pub returns-then-is_err-clause-edited : goal.returns-then-is_err-clause-edited
returns-then-is_err-clause-edited c = λ n0 m is.
    let f = c.in_ok-text.ensures in
    edit-refused n0 c.args.self.now m c.args.cell c.args.delta.now OutOfMemory is (record { own = f.own; there = f.there; short = f.short })
