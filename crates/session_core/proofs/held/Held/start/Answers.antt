use Rattle.std.proofs.Common.{◌≡◌, Some, sym}
use Rattle.lanes.specs.Work.{may_start}
use Rattle.notebook.specs.Before.{left}
use Rattle.session_core.specs.Jobs.{IsAlongTo}
use Rattle.session_core.proofs.EvaluationLaws.{has-lane, base-stands, along-to}
use Rattle.session_core.proofs.held.Held.start.Goals as goal

pub returns-in_default-before-clause-ok : goal.returns-in_default-before-clause-ok
returns-in_default-before-clause-ok c = λ n0 is. absurd (has-lane n0 c.args.self.now c.args.lane c.in-Some.cell is (sym c.in-Some.ensures) c.in_default-before.ensures)

pub returns-clause-ok : goal.returns-clause-ok
returns-clause-ok c = λ n0 is.
    let s = c.args.self.now in
    let cell = c.in-Some.cell in
    let b = c.in-Some-before.before in
    let h = c.in-Some-before.ensures in
    let may : may_start s.book s.work c.args.lane ≡ Some cell = sym c.in-Some.ensures in
    let along : IsAlongTo s.book cell c.in_ok-source.source c.in_ok-base.base =
    along-to s.book cell (left b.earlier) b.cell.now c.in_ok-source.source c.in_ok-base.base h.ahead h.number c.in_ok-source.ensures (c.in_ok-base.ensures (base-stands n0 s c.args.lane cell (left b.earlier) b.cell.now is may h.ahead h.number)) in
    c.in_ok-job.ensures.ok n0 is may along
