use Rattle.std.proofs.Common.{◌≡◌, Some, refl, sym, subst, ap, ◌∙◌, arith}
use Rattle.notebook.specs.Book.{cells, found}
use Rattle.session_core.specs.Stands.{StandsFor, source_in}
use Rattle.session_core.specs.declared.logs.CellLog.{CellLog}
use Rattle.session_core.specs.Held.{state_of}
use Rattle.session_core.proofs.Owners.{placed, place-within, put-back}
use Rattle.session_core.proofs.HistoryLaws.{grown-after}
use Rattle.session_core.proofs.SessionLaws.{as-before, untouched, on-err, refused-err}
use Rattle.session_core.proofs.SourceLaws.{reported-session, report-refused}
use Rattle.session_core.proofs.Standing.{stands-reported}
use Rattle.session_core.proofs.held.Held.report_at.Goals as goal

pub index_mut-requires : goal.index_mut-requires
index_mut-requires c = omega (arith, place-within c.args.cell c.args.at c.args.self.now.logs.items c.requires, c.args.self.now.logs.ok.0)

pub returns-in_err-make_room-clause-err : goal.returns-in_err-make_room-clause-err
returns-in_err-make_room-clause-err c = λ n0 is member. on-err _ _ (untouched n0 c.args.self.now _ is c.make_room.ensures.kept refl refl refl refl)

pub returns-in-Ok-clause-ok : goal.returns-in-Ok-clause-ok
returns-in-Ok-clause-ok c = λ n0 is member.
    let s = c.args.self.now in
    let st = state_of n0 s in
    let p = placed st c.args.cell c.args.at s.logs.items c.index_mut.result.now is.logs.logs c.requires c.index_mut.ensures.value in
    let there : found c.args.cell (cells st.book) ≡ Some p.is.owner = ap (λ n. found n (cells st.book)) (sym p.named) ∙ p.is.is_found in
    let stands : StandsFor st c.args.cell p.is.owner.source c.index_mut.result.now.log = subst (λ n. StandsFor st n p.is.owner.source c.index_mut.result.now.log) p.named p.is.stands in
    let l : CellLog = record { cell = c.index_mut.result.now.cell; log = c.report.new.self } in
    let done = c.in-Ok.ensures.answer (source_in st c.args.cell p.is.owner.source) stands.log_of in
    reported-session n0 s _ c.args.by c.args.client c.args.cell c.args.rev c.args.at p.is.owner l is member there done.0 (stands-reported st c.args.cell c.args.client c.args.rev p.is.owner.source _ c.report.new.self stands done.0 done.1) c.requires p.named (grown-after s.history c.make_room.new.self _ _ c.make_room.ensures.kept c.append.ensures) refl refl refl refl

pub returns-in-Err-clause-ok : goal.returns-in-Err-clause-ok
returns-in-Err-clause-ok c = λ n0 is member.
    let s = c.args.self.now in
    let st = state_of n0 s in
    let p = placed st c.args.cell c.args.at s.logs.items c.index_mut.result.now is.logs.logs c.requires c.index_mut.ensures.value in
    let there : found c.args.cell (cells st.book) ≡ Some p.is.owner = ap (λ n. found n (cells st.book)) (sym p.named) ∙ p.is.is_found in
    let stands : StandsFor st c.args.cell p.is.owner.source c.index_mut.result.now.log = subst (λ n. StandsFor st n p.is.owner.source c.index_mut.result.now.log) p.named p.is.stands in
    let l : CellLog = record { cell = c.index_mut.result.now.cell; log = c.report.new.self } in
    let cause = c.in-Err.ensures.answer (source_in st c.args.cell p.is.owner.source) stands.log_of in
    let same : StandsFor st c.args.cell p.is.owner.source c.report.new.self = subst (StandsFor st c.args.cell p.is.owner.source) (sym c.in-Err.ensures.err) stands in
    report-refused n0 s _ _ c.args.by c.args.client c.args.cell c.args.rev p.is.owner c.told_report.result _ is member there (c.told_report.ensures st c.args.cell p.is.owner c.args.rev cause)
    (as-before n0 s _ is c.make_room.ensures.kept refl refl (put-back st c.args.cell c.args.at p.is.owner s.logs.items l is.logs c.requires there p.named same) refl)
    (c.refuse.ensures.ok n0)

pub returns-in-Err-clause-err : goal.returns-in-Err-clause-err
returns-in-Err-clause-err c = λ n0 is member.
    let s = c.args.self.now in
    let st = state_of n0 s in
    let p = placed st c.args.cell c.args.at s.logs.items c.index_mut.result.now is.logs.logs c.requires c.index_mut.ensures.value in
    let there : found c.args.cell (cells st.book) ≡ Some p.is.owner = ap (λ n. found n (cells st.book)) (sym p.named) ∙ p.is.is_found in
    let stands : StandsFor st c.args.cell p.is.owner.source c.index_mut.result.now.log = subst (λ n. StandsFor st n p.is.owner.source c.index_mut.result.now.log) p.named p.is.stands in
    let l : CellLog = record { cell = c.index_mut.result.now.cell; log = c.report.new.self } in
    let same : StandsFor st c.args.cell p.is.owner.source c.report.new.self = subst (StandsFor st c.args.cell p.is.owner.source) (sym c.in-Err.ensures.err) stands in
    refused-err n0 s _ _ _
    (as-before n0 s _ is c.make_room.ensures.kept refl refl (put-back st c.args.cell c.args.at p.is.owner s.logs.items l is.logs c.requires there p.named same) refl)
    (c.refuse.ensures.err n0)
