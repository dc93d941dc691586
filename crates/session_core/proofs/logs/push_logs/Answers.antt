use Rattle.std.proofs.Common.{◌++◌, ◌∷◌, [], sym, subst, ap, ◌∙◌, append_assoc, take}
use Rattle.std.proofs.lemmas.List.{append-nil, take_all}
use Rattle.session_ops.specs.State.{opening}
use Rattle.session_core.specs.Logs.{LineUp, BeginsIn}
use Rattle.session_core.proofs.LogLaws.{all-at, take-next}
use Rattle.session_core.proofs.logs.push_logs.Goals as goal

pub loop-cell-init : goal.loop-cell-init
loop-cell-init c = λ n before a h. subst (λ cs. LineUp (opening n) cs c.args.logs.now.items) (sym (append-nil before)) h

pub loop-cell-preserved : goal.loop-cell-preserved
loop-cell-preserved c = λ n before a h.
    let i = c.loop-cell.cell-index in
    let x = c.cell-item.result in
    let cs = c.args.cells.now in
    let more = c.in_ok-push_log.ensures n (before ++ take i cs) (all-at (BeginsIn n) cs i x a c.loop-cell-test.true c.cell-item.is) (c.loop-cell.invariant n before a h) in
    subst (λ ys. LineUp (opening n) ys c.push_log.new.logs.items) (append_assoc before (take i cs) (x ∷ []) ∙ ap (λ ys. before ++ ys) (sym (take-next cs i x c.loop-cell-test.true c.cell-item.is))) more

pub returns : goal.returns
returns c = λ n before a h.
    subst (λ ys. LineUp (opening n) (before ++ ys) c.loop-cell.logs.items) (take_all c.loop-cell.cell-index c.args.cells.now c.loop-cell-test.false) (c.loop-cell.invariant n before a h)
