use Rattle.std.proofs.Common.{◌≡◌, ◌+◌, ◌<◌, ◌≤◌, length, set, get_or, suc, sym, subst, ap, ◌∙◌, arith}
use Rattle.session_ops.specs.State.{State}
use Rattle.session_core.specs.Logs.{ArePast, IsLogIn, once_joined}
use Rattle.session_core.specs.Stands.{StandsFor}
use Rattle.session_core.specs.declared.logs.CellLog.{CellLog}
use Rattle.session_core.proofs.LogLaws.{cells-set, past-at, past-forth, past-stay, past-all}
use Rattle.session_core.proofs.Owners.{found-some}
use Rattle.session_core.proofs.Standing.{stands-joined}
use Rattle.session_core.proofs.logs.join_all.Goals as goal

pub loop-at-preserved : goal.loop-at-preserved
loop-at-preserved c =
    let at = c.loop-at.at in
    let ls = c.loop-at.logs in
    let x = c.index-logs-at.result in
    let lt : at < length ls = omega arith in
    let l : CellLog = record { cell = (get_or ls at x).cell; log = c.joined.new.self } in (
      cells-set ls at x l lt c.index-logs-at.is (ap (λ (y : CellLog). y.cell) (sym c.index-logs-at.is)) ∙ c.loop-at.invariant.0,
      λ s out h.
          let t : State = once_joined c.args.client s in
          let k : IsLogIn s (get_or ls at x) = subst (IsLogIn s) c.index-logs-at.is (past-at (IsLogIn t) (IsLogIn s) at ls x (c.loop-at.invariant.1 s out h) lt c.index-logs-at.is) in
          let up : suc at ≡ at + 1 = omega arith in
          subst (λ n. ArePast (IsLogIn t) (IsLogIn s) n (set ls at l)) up (past-forth (IsLogIn t) (IsLogIn s) at ls l (c.loop-at.invariant.1 s out h) lt (record { owner = k.owner; is_found = k.is_found; stands = stands-joined s _ c.args.client k.owner.source _ c.joined.new.self k.stands out (found-some _ k.owner k.is_found) (c.in_default.ensures.ok _ k.stands.log_of) })),
    )

pub returns-in-Err-clause-err : goal.returns-in-Err-clause-err
returns-in-Err-clause-err c = λ s out h.
    let at = c.loop-at.at in
    let ls = c.loop-at.logs in
    let x = c.index-logs-at.result in
    let lt : at < length ls = omega arith in
    let t : State = once_joined c.args.client s in
    let k : IsLogIn s (get_or ls at x) = subst (IsLogIn s) c.index-logs-at.is (past-at (IsLogIn t) (IsLogIn s) at ls x (c.loop-at.invariant.1 s out h) lt c.index-logs-at.is) in
    c.leave_first.ensures.logs s out (past-stay (IsLogIn t) (IsLogIn s) at ls _ (c.loop-at.invariant.1 s out h) lt (record { owner = k.owner; is_found = k.is_found; stands = subst (StandsFor s _ k.owner.source) (sym c.in-Err.ensures.err) k.stands }))

pub returns-in-Err-clause-cells : goal.returns-in-Err-clause-cells
returns-in-Err-clause-cells c =
    let at = c.loop-at.at in
    let ls = c.loop-at.logs in
    let x = c.index-logs-at.result in
    let lt : at < length ls = omega arith in
    let l : CellLog = record { cell = (get_or ls at x).cell; log = c.joined.new.self } in
    c.leave_first.ensures.cells ∙ (cells-set ls at x l lt c.index-logs-at.is (ap (λ (y : CellLog). y.cell) (sym c.index-logs-at.is)) ∙ c.loop-at.invariant.0)

pub returns-clause-ok : goal.returns-clause-ok
returns-clause-ok c = λ s out h.
    let up : length c.loop-at.logs ≤ c.loop-at.at = omega arith in
    past-all (IsLogIn (once_joined c.args.client s)) (IsLogIn s) c.loop-at.at c.loop-at.logs (c.loop-at.invariant.1 s out h) up
