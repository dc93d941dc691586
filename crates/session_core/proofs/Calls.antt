-- What is said of a session over its own opening, said over the notebook with which it opened.
use Rattle.std.proofs.Common.{◌≡◌, ℕ, Option, sym, ap, subst}
use Rattle.std.specs.Prelude.{Result, IfOk}
use Rattle.notebook.specs.declared.parts.Parts.{Parts}
use Rattle.notebook.specs.declared.states.Lane.{Lane}
use Rattle.session_ops.specs.declared.entry.Call.{Call}
use Rattle.session_ops.specs.declared.entry.Reply.{Reply}
use Rattle.session_ops.specs.Snapshot.{IsSnapshot, Snapshot}
use Rattle.session_ops.specs.State.{State}
use Rattle.session_core.specs.declared.job.PlainJob.{PlainJob}
use Rattle.session_core.specs.Session.{Session, IsSession, HasAnswered, HasTriedStart, IsHandedOut, state_of}

-- the state
pub state-over : (n0 : Parts) (s : Session) → IsSession n0 s → state_of s.opening s ≡ state_of n0 s
state-over n0 s is = ap (λ n. state_of n s) is.of

-- what the state says
pub told-over : (P : State → Type 0) (n0 : Parts) (s : Session) → IsSession n0 s → P (state_of s.opening s) → P (state_of n0 s)
told-over P n0 s is h = subst P (state-over n0 s is) h

-- an answer
pub answered-over : (n0 : Parts) (by : ℕ) (call : Call) (s s' : Session) (answer : Reply) → IsSession n0 s → HasAnswered s.opening by call s s' answer → HasAnswered n0 by call s s' answer
answered-over n0 by call s s' answer is done = subst (λ n. HasAnswered n by call s s' answer) is.of done

pub answered-ok-over : {E : Type 0} (n0 : Parts) (by : ℕ) (call : Call) (s s' : Session) (r : Result Reply E) → IsSession n0 s → IfOk r (HasAnswered s.opening by call s s') → IfOk r (HasAnswered n0 by call s s')
answered-ok-over n0 by call s s' r is done = subst (λ n. IfOk r (HasAnswered n by call s s')) is.of done

-- a start
pub tried-over : (n0 : Parts) (by : ℕ) (lane : Lane) (s s' : Session) (job : Option PlainJob) → IsSession n0 s → HasTriedStart s.opening by lane s s' job → HasTriedStart n0 by lane s s' job
tried-over n0 by lane s s' job is tried = subst (λ n. HasTriedStart n by lane s s' job) is.of tried

-- a job that is out, both ways
pub handed-over : (n0 : Parts) (s : Session) (by : ℕ) (job : PlainJob) → IsSession n0 s → IsHandedOut s.opening s by job → IsHandedOut n0 s by job
handed-over n0 s by job is h = subst (λ n. IsHandedOut n s by job) is.of h

pub handed-own : (n0 : Parts) (s : Session) (by : ℕ) (job : PlainJob) → IsSession n0 s → IsHandedOut n0 s by job → IsHandedOut s.opening s by job
handed-own n0 s by job is h = subst (λ n. IsHandedOut n s by job) (sym is.of) h

-- a snapshot
pub snapshot-over : (n0 : Parts) (s : Session) (count : ℕ) (x : Snapshot) → IsSession n0 s → IsSnapshot (state_of s.opening s) count x → IsSnapshot (state_of n0 s) count x
snapshot-over n0 s count x is h = subst (λ st. IsSnapshot st count x) (state-over n0 s is) h
