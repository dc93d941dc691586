-- A history that grows by an entry.
use Rattle.std.proofs.Common.{◌≡◌, List, [], ◌∷◌, ◌++◌, refl}
use Rattle.notebook.specs.declared.parts.Parts.{Parts}
use Rattle.session_ops.specs.declared.entry.Entry.{Entry}
use Rattle.session_ops.specs.State.{State, Job, state, state_from, after, opening, reply, jobs, jobs_from, jobs_after, MayCall, Legal, HasReplies}

from-append : (s : State) (h : List Entry) (e : Entry) → state_from s (h ++ e ∷ []) ≡ after (state_from s h) e
from-append s [] e = refl
from-append s (x ∷ h) e = from-append (after s x) h e

-- the state after one entry more
pub state-append : (n0 : Parts) (h : List Entry) (e : Entry) → state n0 (h ++ e ∷ []) ≡ after (state n0 h) e
state-append n0 h e = from-append (opening n0) h e

jobs-from-append : (s : State) (js : List Job) (h : List Entry) (e : Entry) → jobs_from s js (h ++ e ∷ []) ≡ jobs_after (state_from s h) (jobs_from s js h) e.by e.call e.reply
jobs-from-append s js [] e = refl
jobs-from-append s js (x ∷ h) e = jobs-from-append (after s x) (jobs_after s js x.by x.call x.reply) h e

-- the jobs that are out after one entry more
pub jobs-append : (n0 : Parts) (h : List Entry) (e : Entry) → jobs n0 (h ++ e ∷ []) ≡ jobs_after (state n0 h) (jobs n0 h) e.by e.call e.reply
jobs-append n0 h e = jobs-from-append (opening n0) [] h e

replies-from : (s : State) (js : List Job) (h : List Entry) (e : Entry) → HasReplies s js h → MayCall (state_from s h) (jobs_from s js h) e.by e.call → e.reply ≡ reply (state_from s h) e.call → HasReplies s js (h ++ e ∷ [])
replies-from s js [] e l m r = (m, (r, tt))
replies-from s js (x ∷ h) e l m r = (l.0, (l.1.0, replies-from (after s x) (jobs_after s js x.by x.call x.reply) h e l.1.1 m r))

-- a legal history stays legal by one more call that may be made, with its answer
pub legal-append : (n0 : Parts) (h : List Entry) (e : Entry) → Legal n0 h → MayCall (state n0 h) (jobs n0 h) e.by e.call → e.reply ≡ reply (state n0 h) e.call → Legal n0 (h ++ e ∷ [])
legal-append n0 h e l m r = record { replies = replies-from (opening n0) [] h e l.replies m r }
