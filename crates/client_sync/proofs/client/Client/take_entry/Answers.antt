use Rattle.std.proofs.Common.{◌≡◌, sym, ap, ◌∙◌}
use Rattle.std.proofs.lemmas.Result.{on_ok_weaker}
use Rattle.session_ops.specs.Deeds.{Changes, Edits, IsMade, Nothing, deed, deed_in, edit_in}
use Rattle.session_ops.proofs.Deeds.{change-made}
use Rattle.client_sync.specs.Client.{delivered}
use Rattle.client_sync.proofs.Changing.{over-of-mirror, pending-below, change-mirrors, still-mirrors}
use Rattle.client_sync.proofs.client.Client.take_entry.Goals as goal

pub returns-in-Nothing : goal.returns-in-Nothing
returns-in-Nothing c = λ n0 m is next.
    let e = c.args.entry.now in
    let did : deed e.call e.reply ≡ Nothing = sym c.in_ok-deed.ensures ∙ ap deed_in c.in-Nothing.is in
    still-mirrors n0 c.args.self.now m e is did

pub returns-in-Edits : goal.returns-in-Edits
returns-in-Edits c = λ n0 m is next.
    let e = c.args.entry.now in
    let did : deed e.call e.reply ≡ Edits (edit_in c.in-Edits.edit) = sym c.in_ok-deed.ensures ∙ ap deed_in c.in-Edits.is in
    c.take_edit.ensures n0 m is e next did

pub returns-in-Changes : goal.returns-in-Changes
returns-in-Changes c = λ n0 m is next.
    let e = c.args.entry.now in
    let asked = c.in-Changes.asked in
    let did : deed e.call e.reply ≡ Changes asked = sym c.in_ok-deed.ensures ∙ ap deed_in c.in-Changes.is in
    let w : IsMade (delivered n0 m).book asked = change-made (delivered n0 m) e.call e.reply asked did next.right in
    on_ok_weaker c.take_change.result
    (λ has. change-mirrors n0 c.args.self.now c.take_change.new.self m e asked w.book w.made is did w.makes has)
    (c.take_change.ensures (delivered n0 m).book w.book m.pending w.made (over-of-mirror n0 c.args.self.now m is) (pending-below n0 c.args.self.now m is) w.makes)
