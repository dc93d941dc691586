use Rattle.std.proofs.Common.{◌≡◌, Some, sym, subst, ap, ◌∙◌, arith}
use Rattle.notebook.specs.Book.{cells, found}
use Rattle.session_core.specs.Stands.{StandsFor, source_in}
use Rattle.session_core.specs.Held.{state_of}
use Rattle.session_core.proofs.Owners.{placed, place-within}
use Rattle.session_core.proofs.SourceLaws.{delta-answer, told-cause}
use Rattle.session_core.proofs.Standing.{moved-in}
use Rattle.session_core.proofs.held.Held.edit_at.Goals as goal

pub index-requires : goal.index-requires
index-requires c = omega (arith, place-within c.args.edit.cell c.args.at c.args.self.now.logs.items c.requires, c.args.self.now.logs.ok.0)

pub returns-in-Ok-clause-ok : goal.returns-in-Ok-clause-ok
returns-in-Ok-clause-ok c = λ n0 is member.
    let s = c.args.self.now in
    let st = state_of n0 s in
    let e = c.args.edit in
    let p = placed st e.cell c.args.at s.logs.items c.index.result.now is.logs.logs c.requires c.index.ensures in
    let there : found e.cell (cells s.book) ≡ Some p.is.owner = ap (λ n. found e.cell (cells n)) is.book ∙ (ap (λ n. found n (cells st.book)) (sym p.named) ∙ p.is.is_found) in
    let stands : StandsFor st e.cell p.is.owner.source c.index.result.now.log = subst (λ n. StandsFor st n p.is.owner.source c.index.result.now.log) p.named p.is.stands in
    c.take.ensures.ok n0 p.is.owner is member there (moved-in st e.cell e.base e.delta p.is.owner _ _ stands (c.in-Ok.ensures (source_in st e.cell p.is.owner.source) stands.log_of))

pub returns-in-Ok-clause-err : goal.returns-in-Ok-clause-err
returns-in-Ok-clause-err c = λ n0 is member.
    let s = c.args.self.now in
    let st = state_of n0 s in
    let e = c.args.edit in
    let p = placed st e.cell c.args.at s.logs.items c.index.result.now is.logs.logs c.requires c.index.ensures in
    let there : found e.cell (cells s.book) ≡ Some p.is.owner = ap (λ n. found e.cell (cells n)) is.book ∙ (ap (λ n. found n (cells st.book)) (sym p.named) ∙ p.is.is_found) in
    let stands : StandsFor st e.cell p.is.owner.source c.index.result.now.log = subst (λ n. StandsFor st n p.is.owner.source c.index.result.now.log) p.named p.is.stands in
    c.take.ensures.err n0 p.is.owner is member there (moved-in st e.cell e.base e.delta p.is.owner _ _ stands (c.in-Ok.ensures (source_in st e.cell p.is.owner.source) stands.log_of))

pub returns-in-Some-clause-ok : goal.returns-in-Some-clause-ok
returns-in-Some-clause-ok c = λ n0 is member.
    let s = c.args.self.now in
    let st = state_of n0 s in
    let e = c.args.edit in
    let p = placed st e.cell c.args.at s.logs.items c.index.result.now is.logs.logs c.requires c.index.ensures in
    let there : found e.cell (cells st.book) ≡ Some p.is.owner = ap (λ n. found n (cells st.book)) (sym p.named) ∙ p.is.is_found in
    let stands : StandsFor st e.cell p.is.owner.source c.index.result.now.log = subst (λ n. StandsFor st n p.is.owner.source c.index.result.now.log) p.named p.is.stands in
    c.refuse_edit.ensures.ok n0 is (delta-answer n0 s e.client e.cell e.base e.delta (Some p.is.owner) is member there ∙ told-cause st e.cell p.is.owner e.base e.delta _ c.in-Err.fault c.in-Some.why stands (c.in-Err.ensures (source_in st e.cell p.is.owner.source) stands.log_of) c.in-Some.ensures)
