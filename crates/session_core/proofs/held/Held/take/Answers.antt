use Rattle.std.proofs.Common.{◌≡◌, ◌+◌, Some, refl, sym, subst, ap, ◌∙◌, arith}
use Rattle.notebook.specs.Book.{cells, found, with_source}
use Rattle.session_ops.specs.State.{revision}
use Rattle.session_core.specs.Stands.{StandsFor, source_in}
use Rattle.session_core.specs.declared.logs.CellLog.{CellLog}
use Rattle.session_core.specs.Held.{state_of}
use Rattle.session_core.proofs.Owners.{placed, place-within, same-owner, put-back}
use Rattle.session_core.proofs.HistoryLaws.{grown-after}
use Rattle.session_core.proofs.SessionLaws.{as-before, untouched, on-err}
use Rattle.session_core.proofs.SourceLaws.{taken-session}
use Rattle.session_core.proofs.held.Held.take.Goals as goal

pub index-requires : goal.index-requires
index-requires c = omega (arith, place-within c.args.edit.cell c.args.at c.args.self.now.logs.items c.requires, c.args.self.now.logs.ok.0)

pub index_mut-requires : goal.index_mut-requires
index_mut-requires c = omega (arith, place-within c.args.edit.cell c.args.at c.args.self.now.logs.items c.requires, c.args.self.now.logs.ok.0)

pub returns-in_err-make_room-clause-err : goal.returns-in_err-make_room-clause-err
returns-in_err-make_room-clause-err c = λ n0 x is member f m. on-err _ _ (untouched n0 c.args.self.now _ is c.make_room.ensures.kept refl refl refl refl)

pub returns-clause-ok : goal.returns-clause-ok
returns-clause-ok c = λ n0 x is member f m.
    let s = c.args.self.now in
    let st = state_of n0 s in
    let e = c.args.edit in
    let read = placed st e.cell c.args.at s.logs.items c.index.result.now is.logs.logs c.requires c.index.ensures in
    let own = placed st e.cell c.args.at s.logs.items c.index_mut.result.now is.logs.logs c.requires c.index_mut.ensures.value in
    let there : found e.cell (cells st.book) ≡ Some x = subst (λ n. found e.cell (cells n) ≡ Some x) is.book f in
    let stands : StandsFor st e.cell x.source c.index_mut.result.now.log = same-owner st e.cell x c.index_mut.result.now there own.named own.is in
    let stands_read : StandsFor st e.cell x.source c.index.result.now.log = same-owner st e.cell x c.index.result.now there read.named read.is in
    let l : CellLog = record { cell = c.index_mut.result.now.cell; log = c.take.new.self } in
    let next : c.in-Some.rev ≡ c.rev.result + 1 = search arith in
    let rev : c.in-Some.rev ≡ revision st e.cell + 1 = next ∙ ap (λ k. k + 1) (c.rev.ensures (source_in st e.cell x.source) stands_read.log_of) in
    taken-session n0 s _ c.args.by e.client e.cell e.base c.in-Some.rev c.args.at e.delta c.in_ok-kept.kept x c.args.moved c.in_ok-accepted.accepted _ l is member f m stands
    (c.in_ok-accepted.ensures.ok (source_in st e.cell x.source) stands.log_of m.moves) rev (c.in_ok-kept.ensures ∙ c.delta-2.ensures) c.requires own.named (grown-after s.history c.make_room.new.self _ _ c.make_room.ensures.kept c.append.ensures)
    (subst (λ t. c.set_source.new.self ≡ with_source e.cell t s.book) (c.in_ok-source.ensures ∙ c.text.ensures) c.set_source.ensures.set) refl refl c.sweep.ensures

pub returns-in_err-accepted-clause-err : goal.returns-in_err-accepted-clause-err
returns-in_err-accepted-clause-err c = λ n0 x is member f m.
    let s = c.args.self.now in
    let st = state_of n0 s in
    let e = c.args.edit in
    let own = placed st e.cell c.args.at s.logs.items c.index_mut.result.now is.logs.logs c.requires c.index_mut.ensures.value in
    let there : found e.cell (cells st.book) ≡ Some x = subst (λ n. found e.cell (cells n) ≡ Some x) is.book f in
    let stands : StandsFor st e.cell x.source c.index_mut.result.now.log = same-owner st e.cell x c.index_mut.result.now there own.named own.is in
    let stands : StandsFor st e.cell x.source c.index_mut.result.now.log = same-owner st e.cell x c.index_mut.result.now there own.named own.is in
    let l : CellLog = record { cell = c.index_mut.result.now.cell; log = c.take.new.self } in
    on-err _ _ (as-before n0 s _ is c.make_room.ensures.kept refl refl
    (put-back st e.cell c.args.at x s.logs.items l is.logs c.requires there own.named (subst (StandsFor st e.cell x.source) (sym c.in_err-accepted.ensures.err) stands)) refl)
