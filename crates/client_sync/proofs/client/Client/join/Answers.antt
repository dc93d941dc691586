use Rattle.std.proofs.Common.{refl, ap, subst}
use Rattle.notebook.specs.Rules.{IsNotebook}
use Rattle.client_sync.proofs.Joining.{join-mirrors}
use Rattle.client_sync.proofs.client.Client.join.Goals as goal

pub returns : goal.returns
returns c = λ n0 seen is made.
    let parts = c.into_parts-book.ensures.parts in
    let book = ap (λ x. x.0) parts in
    join-mirrors n0 seen c.args.snapshot _ c.args.number is (subst IsNotebook book c.keeps_rules.ensures) made refl (ap (λ x. x.2) parts) book (ap (λ x. x.1) parts) c.new.ensures c.new-2.ensures c.nothing.ensures.steps
