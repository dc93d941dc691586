use Rattle.std.proofs.Common.{◌≡◌, None, map, ap, subst, ◌∙◌}
use Rattle.notebook.specs.Book.{with_source}
use Rattle.client_sync.specs.Client.{pending_of}
use Rattle.client_sync.specs.Stands.{IsPendingAt, pending_in}
use Rattle.client_sync.proofs.Going.{over-none, over-dropped}
use Rattle.client_sync.proofs.client.Client.drop_pending.Goals as goal

pub returns-in-Some-clause-over : goal.returns-in-Some-clause-over
returns-in-Some-clause-over c = λ n ps is.
    let us = c.args.self.now.pending in
    let p : IsPendingAt us c.args.cell c.in-Some.at = subst (λ vs. IsPendingAt vs c.args.cell c.in-Some.at) c.as_slice.ensures c.in-Some.ensures in
    let out = c.take_out-edits.ensures.taken p.front p.back p.here p.parts p.place in
    over-dropped n c.args.self.now _ ps c.args.cell c.in-Some.at p is out.1
    (c.set_source.ensures.set
    ∙ (ap (λ u. with_source c.args.cell u.server c.take_out-edits.new.self.book) out.0 ∙ ap (λ x. with_source c.args.cell p.here.server x.book) c.take_out-edits.ensures.rest))

pub returns-in_default-clause-over : goal.returns-in_default-clause-over
returns-in_default-clause-over c = λ n ps is. over-none n c.args.self.now ps c.args.cell is (subst (λ us. pending_of c.args.cell (map pending_in us) ≡ None) c.as_slice.ensures c.in_default.ensures)
