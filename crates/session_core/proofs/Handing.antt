-- A job that is out stays handed out while other things are asked.
use Rattle.std.proofs.Common.{◌≡◌, ℕ, ◌==◌, true, false, if◌then◌else◌, List, [], ◌∷◌, ◌++◌, Option, Some, None, sym, ap, subst, ◌∙◌, arith}
use Rattle.std.specs.Prelude.{find, Result, Ok, Err, IfOk, OnErr}
use Rattle.std.proofs.lemmas.Bool.Decides.{nat_tests}
use Rattle.notebook.specs.declared.parts.Parts.{Parts}
use Rattle.notebook.specs.declared.states.Lane.{Lane}
use Rattle.session_ops.specs.declared.entry.Call.{Call}
use Rattle.session_ops.specs.declared.entry.Call.TheVariants.{Client, Start, Respond}
use Rattle.session_ops.specs.declared.entry.Reply.{Reply}
use Rattle.session_ops.specs.declared.entry.Reply.TheVariants.{Started}
use Rattle.session_ops.specs.declared.entry.Entry.{Entry}
use Rattle.session_ops.specs.State.{State, Job, is_job, is_other_job, jobs, jobs_after, state}
use Rattle.session_ops.proofs.Growing.{jobs-append}
use Rattle.session_ops.proofs.Lists.{find-kept}
use Rattle.session_core.specs.declared.job.PlainJob.{PlainJob}
use Rattle.session_core.specs.Session.{Session, IsHandedOut, HasAnswered, HasTriedStart, history_of, entry_of}
use Rattle.session_core.proofs.Calls.{handed-own}

-- the call isn't the answer of this evaluation
abbrev pub NotAnswer : ℕ → Call → Type 0
NotAnswer eval (Respond e shown) = (e == eval) ≡ false
NotAnswer eval call = Unit {0}

some-more : (eval : ℕ) (js more : List Job) (j : Job) → find (is_job eval) js ≡ Some j → find (is_job eval) (js ++ more) ≡ Some j
some-more eval [] more j e = absurd (cc e)
some-more eval (x ∷ js) more j e =
    elim (is_job eval x)
    as (λ b. (if b then Some x else find (is_job eval) js) ≡ Some j → (if b then Some x else find (is_job eval) (js ++ more)) ≡ Some j)
    [ true ↦ λ k. k | false ↦ λ k. some-more eval js more j k ]
    e

job-stays : (s : State) (js : List Job) (by eval : ℕ) (j : Job) (call : Call) (answer : Reply) → NotAnswer eval call → find (is_job eval) js ≡ Some j → find (is_job eval) (jobs_after s js by call answer) ≡ Some j
job-stays s js by eval j (Client n op) answer other e = e
job-stays s js by eval j (Start lane) (Started k cell) other e = some-more eval js _ j e
job-stays s js by eval j (Respond k shown) answer other e = find-kept (is_job eval) (is_other_job k) (λ x t. grind (arith, nat_tests, other, t)) js ∙ e
job-stays s js by eval j (Start lane) answer other e = e

-- entries that aren't this evaluation's answer leave a job handed out
handed-stays : (n0 : Parts) (s s' : Session) (by : ℕ) (job : PlainJob) (e : Entry) → history_of s' ≡ history_of s ++ e ∷ [] → NotAnswer job.eval e.call → IsHandedOut n0 s by job → IsHandedOut n0 s' by job
handed-stays n0 s s' by job e grown other h = record {
  out = h.out;
  is_out = ap (λ k. find (is_job job.eval) (jobs n0 k)) grown ∙ (ap (find (is_job job.eval)) (jobs-append n0 (history_of s) e) ∙ job-stays (state n0 (history_of s)) (jobs n0 (history_of s)) e.by job.eval h.out e.call e.reply other h.is_out);
  number = h.number;
  along = h.along;
}

-- a job that is out stays handed out while other calls are answered
pub handed-answered : (n0 : Parts) (s s' : Session) (owner by : ℕ) (job : PlainJob) (call : Call) (answer : Reply) → HasAnswered n0 by call s s' answer → NotAnswer job.eval call → IsHandedOut n0 s owner job → IsHandedOut n0 s' owner job
handed-answered n0 s s' owner by job call answer done other h = handed-stays n0 s s' owner job (entry_of by call answer) done.history other h

-- the same over a session's own opening
pub own-answered : (s s' : Session) (owner by : ℕ) (job : PlainJob) (call : Call) (answer : Reply) → HasAnswered s.opening by call s s' answer → NotAnswer job.eval call → IsHandedOut s.opening s owner job → IsHandedOut s'.opening s' owner job
own-answered s s' owner by job call answer done other h = handed-own s.opening s' owner job done.session (handed-answered s.opening s s' owner by job call answer done other h)

own-same : (s s' : Session) (owner : ℕ) (job : PlainJob) → s' ≡ s → IsHandedOut s.opening s owner job → IsHandedOut s'.opening s' owner job
own-same s s' owner job same h = subst (λ (t : Session). IsHandedOut t.opening t owner job) (sym same) h

-- whatever came of a call that isn't its answer
pub out-answered : {E : Type 0} (s s' : Session) (owner by : ℕ) (job : PlainJob) (call : Call) (r : Result Reply E) → NotAnswer job.eval call → IfOk r (HasAnswered s.opening by call s s') → OnErr r (s' ≡ s) → IsHandedOut s.opening s owner job → IsHandedOut s'.opening s' owner job
out-answered s s' owner by job call (Ok answer) other done same h = own-answered s s' owner by job call answer done other h
out-answered s s' owner by job call (Err x) other done same h = own-same s s' owner job same h

-- and of a start
own-tried : (s s' : Session) (owner by : ℕ) (lane : Lane) (job : PlainJob) (started : Option PlainJob) → HasTriedStart s.opening by lane s s' started → IsHandedOut s.opening s owner job → IsHandedOut s'.opening s' owner job
own-tried s s' owner by lane job None tried h = own-same s s' owner job tried.1 h
own-tried s s' owner by lane job (Some x) tried h = own-answered s s' owner by job (Start lane) (Started x.eval x.cell) tried.answered tt h

pub out-tried : {E : Type 0} (s s' : Session) (owner by : ℕ) (lane : Lane) (job : PlainJob) (r : Result (Option PlainJob) E) → IfOk r (HasTriedStart s.opening by lane s s') → OnErr r (s' ≡ s) → IsHandedOut s.opening s owner job → IsHandedOut s'.opening s' owner job
out-tried s s' owner by lane job (Ok started) tried same h = own-tried s s' owner by lane job started tried h
out-tried s s' owner by lane job (Err x) tried same h = own-same s s' owner job same h
