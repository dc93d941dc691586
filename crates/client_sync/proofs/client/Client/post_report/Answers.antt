use Rattle.std.proofs.Common.{◌≡◌, Some, refl, sym, ap, subst, IsSome, ◌∙◌}
use Rattle.session_ops.specs.Snapshot.{listed_revision}
use Rattle.session_ops.specs.declared.entry.Op.TheVariants.{Report}
use Rattle.client_sync.specs.Client.{with_message}
use Rattle.client_sync.proofs.Reporting.{posted-mirrors, report-known, report-unknown}
use Rattle.client_sync.proofs.client.Client.post_report.Goals as goal

pub returns-in_default-clause-posted : goal.returns-in_default-clause-posted
returns-in_default-clause-posted c = λ n0 m is. report-unknown n0 c.args.self.now m c.args.cell is (sym c.in_default.is ∙ (c.rev_in.ensures ∙ ap (listed_revision c.args.cell) c.as_slice.ensures))

pub returns-in-Ok-clause-posted : goal.returns-in-Ok-clause-posted
returns-in-Ok-clause-posted c = λ n0 m is.
    let known : Some c.in-Some.rev ≡ listed_revision c.args.cell c.args.self.now.revs = sym c.in-Some.is ∙ (c.rev_in.ensures ∙ ap (listed_revision c.args.cell) c.as_slice.ensures) in
    (with_message m (Report c.args.cell c.in-Some.rev), (report-known n0 c.args.self.now m c.args.cell c.in-Some.rev is known, posted-mirrors n0 c.args.self.now _ m (Report c.args.cell c.in-Some.rev) is refl c.in-Ok.ensures.ok))

pub returns-in-Err-clause-posted : goal.returns-in-Err-clause-posted
returns-in-Err-clause-posted c = λ n0 m is.
    let known : Some c.in-Some.rev ≡ listed_revision c.args.cell c.args.self.now.revs = sym c.in-Some.is ∙ (c.rev_in.ensures ∙ ap (listed_revision c.args.cell) c.as_slice.ensures) in
    subst IsSome (sym (report-known n0 c.args.self.now m c.args.cell c.in-Some.rev is known)) refl
