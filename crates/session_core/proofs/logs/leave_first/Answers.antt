use Rattle.std.proofs.Common.{◌≡◌, ◌-◌, ◌<◌, length, get_or, suc, sym, subst, ap, ◌∙◌, arith}
use Rattle.std.proofs.lemmas.List.{length-set}
use Rattle.session_ops.specs.State.{State}
use Rattle.session_core.specs.Logs.{ArePast, IsLogIn, once_joined}
use Rattle.session_core.specs.declared.logs.CellLog.{CellLog}
use Rattle.session_core.proofs.LogLaws.{cells-set, past-last, past-back}
use Rattle.session_core.proofs.Owners.{found-some}
use Rattle.session_core.proofs.Standing.{stands-again}
use Rattle.session_core.proofs.logs.leave_first.Goals as goal

pub loop-left-preserved : goal.loop-left-preserved
loop-left-preserved c =
    let n = c.loop-left.left - 1 in
    let ls = c.loop-left.logs in
    let x = c.index-logs-left.result in
    let low : n < length ls = omega (arith, c.loop-left.invariant.0, c.loop-left-test.true) in
    let l : CellLog = record { cell = (get_or ls n x).cell; log = c.left.new.self } in (
      omega (arith, length-set ls n l, low),
      (
        cells-set ls n x l low c.index-logs-left.is (ap (λ (y : CellLog). y.cell) (sym c.index-logs-left.is)) ∙ c.loop-left.invariant.1.0,
        λ s out h.
            let up : c.loop-left.left ≡ suc n = omega (arith, c.loop-left-test.true) in
            let t : State = once_joined c.args.client s in
            let past = subst (λ k. ArePast (IsLogIn t) (IsLogIn s) k ls) up (c.loop-left.invariant.1.1 s out h) in
            let k : IsLogIn t (get_or ls n x) = subst (IsLogIn t) c.index-logs-left.is (past-last (IsLogIn t) (IsLogIn s) n ls x past low c.index-logs-left.is) in
            past-back (IsLogIn t) (IsLogIn s) n ls l past low (record { owner = k.owner; is_found = k.is_found; stands = stands-again s _ c.args.client k.owner.source _ c.left.new.self k.stands out (found-some _ k.owner k.is_found) (c.left.ensures.gone _ k.stands.log_of) }),
      ),
    )
