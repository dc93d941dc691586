use Rattle.std.proofs.Common.{◌∙◌, ap, refl, drop}
use Rattle.revisions.proofs.Keeping.{let-go}
use Rattle.revisions.proofs.source_log.SourceLog.let_go.Goals as goal

pub returns-clause-log : goal.returns-clause-log
returns-clause-log c = λ s h up.
    let-go s c.args.self.now _ h up refl refl refl c.lowest-least.ensures
    (c.drop_first.ensures ∙ ap (λ n. drop n c.args.self.now.kept) c.saturating_sub.ensures)
