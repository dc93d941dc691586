use Rattle.std.proofs.Common.{◌≡◌, None, Some, subst, arith}
use Rattle.session_core.specs.Logs.{place_in}
use Rattle.session_core.specs.Held.{state_of}
use Rattle.session_core.specs.Stands.{source_in}
use Rattle.session_core.proofs.Owners.{placed, absent, place-within}
use Rattle.session_core.proofs.ReaderLaws.{revision-found, revision-absent}
use Rattle.session_core.proofs.held.Held.rev.Goals as goal

pub index-requires : goal.index-requires
index-requires c = omega (arith, place-within c.args.cell c.in-Some.at c.as_slice.result.now c.in-Some.ensures, c.as_slice.ensures.len)

pub returns-in-None : goal.returns-in-None
returns-in-None c = λ n0 is.
    let s = c.args.self.now in
    revision-absent (state_of n0 s) c.args.cell (absent (state_of n0 s) c.args.cell s.logs.items is.logs (subst (λ ls. None ≡ place_in c.args.cell ls) c.as_slice.ensures.value c.in-None.ensures))

pub returns-in-Some : goal.returns-in-Some
returns-in-Some c = λ n0 is.
    let s = c.args.self.now in
    let st = state_of n0 s in
    let at = c.in-Some.at in
    let p = placed st c.args.cell at s.logs.items c.index.result.now is.logs.logs (subst (λ ls. Some at ≡ place_in c.args.cell ls) c.as_slice.ensures.value c.in-Some.ensures) c.index.ensures in
    revision-found st c.args.cell c.rev.result c.index.result.now p.named p.is (c.rev.ensures (source_in st c.index.result.now.cell p.is.owner.source) p.is.stands.log_of)
