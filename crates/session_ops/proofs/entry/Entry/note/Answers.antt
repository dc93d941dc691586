use Rattle.std.proofs.Common.{◌≡◌, sym, ap, subst, ◌∙◌}
use Rattle.std.proofs.lemmas.Result.{on_ok_weaker}
use Rattle.session_ops.specs.Deeds.{CanBeDone, deed, deed_in, noted}
use Rattle.session_ops.proofs.Deeds.{call-noted, can-be-done}
use Rattle.session_ops.proofs.entry.Entry.note.Goals as goal

pub returns-clause-noted : goal.returns-clause-noted
returns-clause-noted c = λ s next.
    let e = c.args.self.now in
    let n = c.args.book.now in
    let did : deed_in c.in_ok-deed.field-0 ≡ deed e.call e.reply = c.in_ok-deed.ensures in
    let can : CanBeDone (deed_in c.in_ok-deed.field-0) n = subst (λ d. CanBeDone d n) (sym did) (subst (CanBeDone (deed e.call e.reply)) (sym next.book) (can-be-done s e.call e.reply next.right)) in
    on_ok_weaker c.note.result (λ w. w ∙ (ap (λ d. noted d n) did ∙ (ap (noted (deed e.call e.reply)) next.book ∙ sym (call-noted s e.call e.reply)))) (c.note.ensures.noted can)
