use Rattle.std.proofs.Common.{◌≡◌, ◌∙◌, ap, sym, map, Some}
use Rattle.client_sync.specs.Client.{pending_of}
use Rattle.client_sync.specs.Stands.{pending_in}
use Rattle.client_sync.proofs.Places.{pending-there, here-at}
use Rattle.client_sync.proofs.client.Client.pending_edits.Goals as goal

pub returns-in-Some : goal.returns-in-Some
returns-in-Some c = λ none.
    let us = c.as_slice-pending.result.now in
    let here = here-at us c.args.cell c.in-Some.at c.in-Some.ensures in
    let there : pending_of c.args.cell (map pending_in c.args.self.now.pending) ≡ Some (pending_in c.in-Some.ensures.here) = ap (λ xs. pending_of c.args.cell (map pending_in xs)) (sym c.as_slice-pending.ensures) ∙ pending-there us c.args.cell c.in-Some.at c.in-Some.ensures in
    rw there (ap (λ u. Some u.flight) (here c.index-pending-at.result), ap (λ u. u.buffer) (here c.index-pending-at-in-Some.result))
