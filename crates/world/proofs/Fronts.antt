-- A front of a legal history is a legal history.
use Rattle.std.proofs.Common.{ℕ, zero, suc, List, [], ◌∷◌, take}
use Rattle.notebook.specs.declared.parts.Parts.{Parts}
use Rattle.session_ops.specs.declared.entry.Entry.{Entry}
use Rattle.session_ops.specs.State.{State, Job, HasReplies, Legal, opening, after, jobs_after}
use Rattle.session_ops.proofs.Shown.{evaluated-shows}
use Rattle.world.specs.Claims.{FrontsShow}

front-replies : (k : ℕ) (s : State) (js : List Job) (h : List Entry) → HasReplies s js h → HasReplies s js (take k h)
front-replies zero s js h r = tt
front-replies (suc k) s js [] r = tt
front-replies (suc k) s js (e ∷ es) r = (r.0, (r.1.0, front-replies k (after s e) (jobs_after s js e.by e.call e.reply) es r.1.1))

front-legal : (n0 : Parts) (h : List Entry) (k : ℕ) → Legal n0 h → Legal n0 (take k h)
front-legal n0 h k l = record { replies = front-replies k (opening n0) [] h l.replies }

-- after each front of a legal history, what is evaluated shows what one thread gives
pub fronts-show : (n0 : Parts) (h : List Entry) → Legal n0 h → FrontsShow n0 h
fronts-show n0 h l k = evaluated-shows n0 (take k h) (front-legal n0 h k l)
