-- What one evaluation makes of a session.
use Rattle.std.proofs.Common.{◌≡◌, ℕ, List, [], ◌∷◌, ◌++◌, Option, Some, None, refl, sym, ap, subst, ◌∙◌, append_assoc}
use Rattle.ex_model.specs.declared.ran.Shown.{Shown}
use Rattle.notebook.specs.declared.parts.Parts.{Parts}
use Rattle.notebook.specs.declared.states.Lane.{Lane}
use Rattle.session_core.specs.declared.job.PlainJob.{PlainJob}
use Rattle.session_ops.specs.declared.entry.Call.TheVariants.{Start, Respond}
use Rattle.session_ops.specs.declared.entry.Reply.{Reply}
use Rattle.session_ops.specs.declared.entry.Reply.TheVariants.{Started}
use Rattle.session_ops.specs.declared.entry.Entry.{Entry}
use Rattle.lanes.specs.declared.work.Running.{Running}
use Rattle.lanes.specs.Changes.{running_eval}
use Rattle.session_ops.specs.State.{respond_reply}
use Rattle.session_core.specs.Session.{Session, HasAnswered, HasStarted, history_of, state_of, entry_of, ready_lane}
use Rattle.driver.specs.Headline.{AllAnswered, IsFollowed}
use Rattle.driver.specs.Settling.{HasGoneOn, HasResponded}
use Rattle.driver.proofs.Marks.{followed-more}
use Rattle.driver.proofs.Readying.{ready-append, ready-start, ready-response}

-- an evaluation is answered as stored or as late
ends-here : (eval : ℕ) (o : Option Running) → IsFollowed (respond_reply eval o) []
ends-here eval None = tt
ends-here eval (Some r) = tt

-- a start with its answer at the end
abbrev both-entries : Lane → ℕ → PlainJob → Shown → Reply → List Entry
both-entries lane by job shown answer = entry_of by (Start lane) (Started job.eval job.cell) ∷ entry_of by (Respond job.eval shown) answer ∷ []

followed-two : (lane : Lane) (r : Reply) (h : List Entry) (by : ℕ) (job : PlainJob) (shown : Shown) (answer : Reply) → IsFollowed r h → IsFollowed r (h ++ both-entries lane by job shown answer)
followed-two lane r h by job shown answer f =
    let start : Entry = entry_of by (Start lane) (Started job.eval job.cell) in
    let end : Entry = entry_of by (Respond job.eval shown) answer in
    subst (IsFollowed r) (append_assoc h (start ∷ []) (end ∷ [])) (followed-more r (h ++ start ∷ []) end (followed-more r h start f))

answered-two : (lane : Lane) (h : List Entry) (by : ℕ) (job : PlainJob) (shown : Shown) (answer : Reply) → IsFollowed answer [] → AllAnswered h → AllAnswered (h ++ both-entries lane by job shown answer)
answered-two lane [] by job shown answer f all = (refl, (f, tt))
answered-two lane (x ∷ h) by job shown answer f all = (followed-two lane x.reply h by job shown answer all.0, answered-two lane h by job shown answer f all.1)

-- a job of the lane that was ready first was handed out and answered
pub gone-by-one : (n0 : Parts) (by : ℕ) (lane : Lane) (a b c : Session) (job : PlainJob) → ready_lane (state_of n0 a) ≡ Some lane → HasStarted n0 by lane a b job → HasResponded n0 by job.eval b c → HasGoneOn n0 by a c
gone-by-one n0 by lane a b c job first s r =
    let shown : Shown = r.0 in
    let answer : Reply = r.1.0 in
    let done : HasAnswered n0 by (Respond job.eval shown) b c answer = r.1.1 in
    let start : Entry = entry_of by (Start lane) (Started job.eval job.cell) in
    let end : Entry = entry_of by (Respond job.eval shown) answer in
    let grown : history_of c ≡ history_of a ++ both-entries lane by job shown answer = done.history ∙ (ap (λ h. h ++ end ∷ []) s.answered.history ∙ append_assoc (history_of a) (start ∷ []) (end ∷ [])) in
    record {
      more = both-entries lane by job shown answer;
      history = grown;
      evaluations = (refl, (tt, (refl, (tt, tt))));
      ready = ready-append n0 by (history_of a) (start ∷ []) (end ∷ []) (ready-start n0 by (history_of a) lane (Started job.eval job.cell) first) (ready-response n0 by (history_of a ++ start ∷ []) by job.eval shown answer);
      answered = λ all. subst AllAnswered (sym grown) (answered-two lane (history_of a) by job shown answer (subst (λ x. IsFollowed x []) (sym done.right) (ends-here job.eval (running_eval (state_of n0 b).work job.eval))) all);
      session = done.session;
    }
