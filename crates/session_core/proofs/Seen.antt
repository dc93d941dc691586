-- What the calls make of what a session holds, said of the session as it is seen.
use Rattle.std.proofs.Common.{◌≡◌, ℕ, List, Option, Some, None, refl, ap, subst, ◌∙◌}
use Rattle.std.specs.Prelude.{Result, Ok, Err, IfOk, OnErr}
use Rattle.notebook.specs.declared.parts.Parts.{Parts}
use Rattle.notebook.specs.declared.states.Lane.{Lane}
use Rattle.session_ops.specs.declared.entry.Call.{Call}
use Rattle.session_ops.specs.declared.entry.Call.TheVariants.{Start}
use Rattle.session_ops.specs.declared.entry.Reply.{Reply}
use Rattle.session_ops.specs.declared.entry.Reply.TheVariants.{Started}
use Rattle.session_ops.specs.declared.entry.Entry.{Entry}
use Rattle.session_ops.specs.State.{State, ChangesNothing}
use Rattle.session_core.specs.declared.job.PlainJob.{PlainJob}
use Rattle.session_core.specs.declared.held.Held.{Held}
use Rattle.session_core.specs.Held as held
use Rattle.session_core.specs.Session.{Session, IsSession, HasAnswered, HasTriedStart, IsHandedOut, LeavesState, state_of}

-- a session with this opening and this history
abbrev pub told_by : Parts → List Entry → Session
told_by n0 h = record { opening = n0; history = h }

-- what is seen of a session that opened with this notebook and holds this
abbrev pub seen : Parts → Held → Session
seen n0 h = told_by n0 (held.history_of h)

pub seen-session : (n0 : Parts) (h : Held) → held.IsHeld n0 h → IsSession n0 (seen n0 h)
seen-session n0 h is = record { of = refl; opening = is.opening; legal = is.legal }

-- the same, of a session that is seen so
pub own-session : (n0 : Parts) (h : Held) (s : Session) → seen n0 h ≡ s → held.IsHeld n0 h → IsSession s.opening s
own-session n0 h s e is = subst (λ (t : Session). IsSession t.opening t) e (seen-session n0 h is)

-- what the state says
pub told-seen : (P : State → Type 0) (n0 : Parts) (h : Held) (s : Session) → seen n0 h ≡ s → P (held.state_of n0 h) → P (state_of s.opening s)
told-seen P n0 h s e is = subst (λ (t : Session). P (state_of t.opening t)) e is

-- a job that is out, both ways
seen-handed : (n0 : Parts) (h : Held) (by : ℕ) (job : PlainJob) → held.IsHandedOut n0 h by job → IsHandedOut n0 (seen n0 h) by job
seen-handed n0 h by job is = record { out = is.out; is_out = is.is_out; number = is.number; along = is.along }

held-handed : (n0 : Parts) (h : Held) (by : ℕ) (job : PlainJob) → IsHandedOut n0 (seen n0 h) by job → held.IsHandedOut n0 h by job
held-handed n0 h by job is = record { out = is.out; is_out = is.is_out; number = is.number; along = is.along }

pub handed-held : (n0 : Parts) (h : Held) (s : Session) (by : ℕ) (job : PlainJob) → s ≡ seen n0 h → IsHandedOut s.opening s by job → held.IsHandedOut n0 h by job
handed-held n0 h s by job e is = held-handed n0 h by job (subst (λ (t : Session). IsHandedOut t.opening t by job) e is)

-- an answer
seen-answered : (n0 : Parts) (by : ℕ) (call : Call) (h h' : Held) (answer : Reply) → held.HasAnswered n0 by call h h' answer → HasAnswered n0 by call (seen n0 h) (seen n0 h') answer
seen-answered n0 by call h h' answer done = record { right = done.right; history = done.history; session = seen-session n0 h' done.session }

pub one-answered-seen : (n0 : Parts) (by : ℕ) (call : Call) (h h' : Held) (s : Session) (answer : Reply) → seen n0 h ≡ s → held.HasAnswered n0 by call h h' answer → HasAnswered s.opening by call s (seen n0 h') answer
one-answered-seen n0 by call h h' s answer e done = subst (λ (t : Session). HasAnswered t.opening by call t (seen n0 h') answer) e (seen-answered n0 by call h h' answer done)

pub answered-seen : {E : Type 0} (n0 : Parts) (by : ℕ) (call : Call) (h h' : Held) (s : Session) (r : Result Reply E) → seen n0 h ≡ s → IfOk r (held.HasAnswered n0 by call h h') → IfOk r (HasAnswered s.opening by call s (seen n0 h'))
answered-seen n0 by call h h' s (Ok answer) e done = one-answered-seen n0 by call h h' s answer e done
answered-seen n0 by call h h' s (Err x) e done = tt

-- an answer that leaves the state
pub one-left-seen : (n0 : Parts) (h h' : Held) (s : Session) → seen n0 h ≡ s → held.LeavesState n0 h h' → LeavesState s.opening s (seen n0 h')
one-left-seen n0 h h' s e same = subst (λ (t : Session). LeavesState t.opening t (seen n0 h')) e same

pub left-seen : {E : Type 0} (n0 : Parts) (call : Call) (h h' : Held) (s : Session) (r : Result Reply E) → seen n0 h ≡ s → IfOk r (λ answer. ChangesNothing call answer → held.LeavesState n0 h h') → IfOk r (λ answer. ChangesNothing call answer → LeavesState s.opening s (seen n0 h'))
left-seen n0 call h h' s (Ok answer) e same = λ k. one-left-seen n0 h h' s e (same k)
left-seen n0 call h h' s (Err x) e same = tt

-- nothing was appended
seen-before : (n0 : Parts) (h h' : Held) → held.IsAsBefore n0 h h' → seen n0 h' ≡ seen n0 h
seen-before n0 h h' is = ap (told_by n0) is.history

pub before-seen : {A E : Type 0} (n0 : Parts) (h h' : Held) (s : Session) (r : Result A E) → seen n0 h ≡ s → OnErr r (held.IsAsBefore n0 h h') → OnErr r (seen n0 h' ≡ s)
before-seen n0 h h' s (Ok x) e is = tt
before-seen n0 h h' s (Err x) e is = seen-before n0 h h' is ∙ e

-- a start
seen-tried : (n0 : Parts) (by : ℕ) (lane : Lane) (h h' : Held) (job : Option PlainJob) → held.HasTriedStart n0 by lane h h' job → HasTriedStart n0 by lane (seen n0 h) (seen n0 h') job
seen-tried n0 by lane h h' None is = (is.0, seen-before n0 h h' is.1)
seen-tried n0 by lane h h' (Some job) is =
    record {
      may = is.may;
      answered = seen-answered n0 by (Start lane) h h' (Started job.eval job.cell) is.answered;
      handed = seen-handed n0 h' by job is.handed;
    }

pub tried-seen : {E : Type 0} (n0 : Parts) (by : ℕ) (lane : Lane) (h h' : Held) (s : Session) (r : Result (Option PlainJob) E) → seen n0 h ≡ s → IfOk r (held.HasTriedStart n0 by lane h h') → IfOk r (HasTriedStart s.opening by lane s (seen n0 h'))
tried-seen n0 by lane h h' s (Ok job) e is = subst (λ (t : Session). HasTriedStart t.opening by lane t (seen n0 h') job) e (seen-tried n0 by lane h h' job is)
tried-seen n0 by lane h h' s (Err x) e is = tt

-- whatever came of a call, what is held stands for its history
pub still-held : {E : Type 0} (n0 : Parts) (by : ℕ) (call : Call) (h h' : Held) (r : Result Reply E) → IfOk r (held.HasAnswered n0 by call h h') → OnErr r (held.IsAsBefore n0 h h') → held.IsHeld n0 h'
still-held n0 by call h h' (Ok answer) done same = done.session
still-held n0 by call h h' (Err x) done same = same.session

started-held : (n0 : Parts) (by : ℕ) (lane : Lane) (h h' : Held) (job : Option PlainJob) → held.HasTriedStart n0 by lane h h' job → held.IsHeld n0 h'
started-held n0 by lane h h' None is = is.1.session
started-held n0 by lane h h' (Some job) is = is.answered.session

pub still-started : {E : Type 0} (n0 : Parts) (by : ℕ) (lane : Lane) (h h' : Held) (r : Result (Option PlainJob) E) → IfOk r (held.HasTriedStart n0 by lane h h') → OnErr r (held.IsAsBefore n0 h h') → held.IsHeld n0 h'
still-started n0 by lane h h' (Ok job) is same = started-held n0 by lane h h' job is
still-started n0 by lane h h' (Err x) is same = same.session
