use Rattle.std.proofs.Common.{◌++◌, ◌∷◌, [], map, sym, ap, ◌∙◌}
use Rattle.std.proofs.lemmas.List.{take_all}
use Rattle.session_core.specs.Logs.{IsLogIn, log_cell, with_revision}
use Rattle.session_core.specs.Stands.{source_in}
use Rattle.session_core.proofs.LogLaws.{all-at, revisions-next}
use Rattle.session_core.proofs.logs.revisions.Goals as goal

pub loop-log-preserved : goal.loop-log-preserved
loop-log-preserved c = λ s h.
    let l = c.log-item.result in
    let ls = c.args.logs.now in
    let i = c.loop-log.log-index in
    let is : IsLogIn s l = all-at (IsLogIn s) ls i l h c.loop-log-test.true c.log-item.is in
    c.in_ok-push.ensures.ok
    ∙ (ap (λ rs. rs ++ (l.cell, c.rev.result) ∷ []) (c.loop-log.invariant s h) ∙ sym (revisions-next s ls i l c.rev.result c.loop-log-test.true c.log-item.is (c.rev.ensures (source_in s l.cell is.owner.source) is.stands.log_of)))

pub returns : goal.returns
returns c = λ s h. c.loop-log.invariant s h ∙ ap (λ ls. map (with_revision s) (map log_cell ls)) (take_all c.loop-log.log-index c.args.logs.now c.loop-log-test.false)
