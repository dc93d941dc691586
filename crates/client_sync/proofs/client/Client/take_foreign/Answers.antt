use Rattle.std.proofs.Common.{◌≡◌, map, sym, ap, subst, ◌∙◌}
use Rattle.std.proofs.lemmas.Result.{on_ok_weaker}
use Rattle.session_ops.specs.Deeds.{FitsCell}
use Rattle.client_sync.specs.Client.{delivered}
use Rattle.client_sync.specs.Stands.{HasEdits, HaveServerTexts, pending_in}
use Rattle.client_sync.proofs.Returning.{moved-same}
use Rattle.client_sync.proofs.client.Client.take_foreign.Goals as goal

pub returns : goal.returns
returns c = λ n0 m is fits.
    let raised = c.raise.ensures in
    let us = ap (λ x. x.pending) raised in
    let e1 : HasEdits c.raise.new.self.pending c.raise.new.self.outbox m = record { pending = ap (map pending_in) us ∙ is.pending; outbox = ap (λ x. x.outbox) raised ∙ is.outbox; apart = is.apart } in
    let moved = c.in_ok-shown.ensures.moved m e1 in
    let rest = c.in_ok-shown.ensures.rest in
    let book : c.move_pending.new.self.book ≡ c.args.self.now.book = ap (λ x. x.book) rest ∙ ap (λ x. x.book) raised in
    let own : FitsCell c.move_pending.new.self.book c.args.cell c.in_ok-shown.shown = subst (λ n. FitsCell n c.args.cell c.in_ok-shown.shown) (sym book) (subst (FitsCell c.args.self.now.book c.args.cell) (sym moved.0) fits.own) in
    on_ok_weaker c.edit_source.result
    (λ done. record {
      edits = moved.1;
      texts = c.in_ok-shown.ensures.texts (delivered n0 m).book m (subst (HaveServerTexts (delivered n0 m).book) (sym us) is.texts) e1 fits.server;
      same = moved-same c.args.self.now c.raise.new.self c.move_pending.new.self c.edit_source.new.book c.args.cell c.args.rev _ c.in_ok-shown.shown raised rest done moved.0;
    })
    (c.edit_source.ensures.edited own)
