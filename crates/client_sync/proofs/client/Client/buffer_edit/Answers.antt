use Rattle.std.proofs.Common.{get_or, ap, ◌∙◌}
use Rattle.client_sync.proofs.Noting.{there-read, buffer-written}
use Rattle.client_sync.proofs.client.Client.buffer_edit.Goals as goal

pub returns-clause-joined : goal.returns-clause-joined
returns-clause-joined c = λ front back here parts place.
    let read = c.index-as_slice-at.result in
    buffer-written c.args.self.now front back here c.item_mut.result.now (get_or c.as_slice.result.now c.args.at read) c.args.at c.in_ok-buffer.buffer c.args.delta.now parts place c.item_mut.ensures.value
    (ap (λ us. get_or us c.args.at read) c.as_slice.ensures ∙ there-read c.args.self.now.pending front back here c.args.at read parts place) c.in_ok-buffer.ensures
