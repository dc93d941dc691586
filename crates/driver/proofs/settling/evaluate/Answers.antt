use Rattle.std.proofs.Common.{◌≡◌, Some, subst, sym, ◌∙◌}
use Rattle.session_core.specs.Session.{HasStarted, HasTriedStart, ready_lane}
use Rattle.session_core.proofs.Calls.{told-over, tried-over, handed-own}
use Rattle.driver.specs.Settling.{HasGoneOn}
use Rattle.driver.proofs.AnswerLaws.{on-ok}
use Rattle.driver.proofs.Evaluating.{gone-by-one}
use Rattle.driver.proofs.Settled.{gone-nowhere}
use Rattle.driver.proofs.settling.evaluate.Goals as goal

-- the job that was handed out is the one that is answered
pub answer-requires : goal.answer-requires
answer-requires c =
    let old = c.args.session.now in
    let new = c.start.new.self in
    let s : HasStarted old.opening c.args.by _ old new c.in-Some-2.job = subst (HasTriedStart old.opening c.args.by _ old new) c.in-Some-2.is c.in_ok-start.ensures.ok in
    handed-own old.opening new c.args.by c.in-Some-2.job s.answered.session s.handed

-- no lane may start
pub returns-in_default : goal.returns-in_default
returns-in_default c = λ n0 is. gone-nowhere n0 c.args.by c.args.session.now is

-- the lane that was ready first did
pub returns-in-Some-2 : goal.returns-in-Some-2
returns-in-Some-2 c = λ n0 is.
    let old = c.args.session.now in
    let new = c.start.new.self in
    let s : HasStarted n0 c.args.by _ old new c.in-Some-2.job = tried-over n0 c.args.by _ old new (Some c.in-Some-2.job) is (subst (HasTriedStart old.opening c.args.by _ old new) c.in-Some-2.is c.in_ok-start.ensures.ok) in
    on-ok c.answer.result (λ r. gone-by-one n0 c.args.by _ old new c.answer.new.session c.in-Some-2.job (sym (told-over (λ st. c.ready_lane.result ≡ ready_lane st) n0 old is c.ready_lane.ensures.lane) ∙ c.in-Some.is) s r) (c.answer.ensures n0 s.answered.session)

pub returns-in-None : goal.returns-in-None
returns-in-None c = λ n0 is.
    let old = c.args.session.now in
    let new = c.start.new.self in
    subst (HasGoneOn n0 c.args.by old) (sym (subst (HasTriedStart old.opening c.args.by _ old new) c.in-None.is c.in_ok-start.ensures.ok).1) (gone-nowhere n0 c.args.by old is)
