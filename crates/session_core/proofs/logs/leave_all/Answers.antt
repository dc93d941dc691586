use Rattle.std.proofs.Common.{◌≡◌, ◌+◌, ◌<◌, ◌≤◌, length, set, get_or, suc, sym, subst, ap, ◌∙◌, arith}
use Rattle.session_ops.specs.State.{State, once_left}
use Rattle.session_core.specs.Logs.{ArePast, IsLogIn}
use Rattle.session_core.specs.declared.logs.CellLog.{CellLog}
use Rattle.session_core.proofs.LogLaws.{cells-set, past-at, past-forth, past-all}
use Rattle.session_core.proofs.Standing.{stands-left}
use Rattle.session_core.proofs.logs.leave_all.Goals as goal

pub loop-at-preserved : goal.loop-at-preserved
loop-at-preserved c =
    let at = c.loop-at.at in
    let ls = c.loop-at.logs in
    let x = c.index-logs-at.result in
    let lt : at < length ls = omega arith in
    let l : CellLog = record { cell = (get_or ls at x).cell; log = c.left.new.self } in (
      cells-set ls at x l lt c.index-logs-at.is (ap (λ (y : CellLog). y.cell) (sym c.index-logs-at.is)) ∙ c.loop-at.invariant.0,
      λ s h.
          let t : State = once_left c.args.client s in
          let k : IsLogIn s (get_or ls at x) = subst (IsLogIn s) c.index-logs-at.is (past-at (IsLogIn t) (IsLogIn s) at ls x (c.loop-at.invariant.1 s h) lt c.index-logs-at.is) in
          let up : suc at ≡ at + 1 = omega arith in
          subst (λ n. ArePast (IsLogIn t) (IsLogIn s) n (set ls at l)) up (past-forth (IsLogIn t) (IsLogIn s) at ls l (c.loop-at.invariant.1 s h) lt (record { owner = k.owner; is_found = k.is_found; stands = stands-left s _ c.args.client k.owner.source _ c.left.new.self k.stands (c.left.ensures.gone _ k.stands.log_of) })),
    )

pub returns-clause-logs : goal.returns-clause-logs
returns-clause-logs c = λ s h.
    let up : length c.loop-at.logs ≤ c.loop-at.at = omega arith in
    past-all (IsLogIn (once_left c.args.client s)) (IsLogIn s) c.loop-at.at c.loop-at.logs (c.loop-at.invariant.1 s h) up
