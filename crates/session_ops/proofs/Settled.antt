-- The states of a history are swept, and a call that is refused leaves its state as it is.
use Rattle.std.proofs.Common.{◌≡◌, ℕ, List, [], ◌∷◌, refl, ap, ◌∙◌}
use Rattle.ex_model.specs.declared.ran.Shown.{Shown}
use Rattle.notebook.specs.declared.parts.Parts.{Parts}
use Rattle.lanes.specs.declared.work.Work.{Work}
use Rattle.lanes.specs.Changes.{swept}
use Rattle.session_ops.specs.declared.entry.Op.{Op}
use Rattle.session_ops.specs.declared.entry.Call.{Call}
use Rattle.session_ops.specs.declared.entry.Call.TheVariants.{Client, Respond}
use Rattle.session_ops.specs.declared.entry.Refusal.{Refusal}
use Rattle.session_ops.specs.declared.entry.Reply.{Reply}
use Rattle.session_ops.specs.declared.entry.Reply.TheVariants.{Late, Refused}
use Rattle.session_ops.specs.declared.entry.Entry.{Entry}
use Rattle.session_ops.specs.State.{State, ChangesNothing, refused_call, late_answer, opening, state, state_from, after, after_call}
use Rattle.session_ops.proofs.Steps.{once_swept}
use Rattle.session_ops.proofs.Sweeps.{AreHopeful, swept-hope, swept-same}

from-hopeful : (s : State) (h : List Entry) → AreHopeful s.book s.work → AreHopeful (state_from s h).book (state_from s h).work
from-hopeful s [] k = k
from-hopeful s (e ∷ es) k =
    let t : State = after_call s e.call e.reply in
    from-hopeful (after s e) es (swept-hope t.book t.work)

-- no queued cell stands on one that failed
pub hopeful-state : (n0 : Parts) (h : List Entry) → AreHopeful (state n0 h).book (state n0 h).work
hopeful-state n0 h = from-hopeful (opening n0) h tt

-- with the work that the state has
same-work : (s : State) (w : Work) → w ≡ s.work → record s { work = w } ≡ s
same-work s w e = λ i. record s { work = e i }

-- a call that changes nothing, in a state that is swept
pub after-same : (s : State) (e : Entry) → AreHopeful s.book s.work → after_call s e.call e.reply ≡ s → after s e ≡ s
after-same s e h same =
    let both : once_swept (after_call s e.call e.reply) ≡ once_swept s = ap once_swept same in
    both ∙ same-work s (swept s.book s.work) (swept-same s.book s.work h)

-- a refused call changes nothing
pub refused-same : (n0 : Parts) (h : List Entry) (by n : ℕ) (op : Op) (why : Refusal) → after (state n0 h) (record { by = by; call = Client n op; reply = Refused why }) ≡ state n0 h
refused-same n0 h by n op why = after-same (state n0 h) (record { by = by; call = Client n op; reply = Refused why }) (hopeful-state n0 h) refl

-- nor does a late answer
pub late-same : (n0 : Parts) (h : List Entry) (by eval e : ℕ) (shown : Shown) → after (state n0 h) (record { by = by; call = Respond eval shown; reply = Late e }) ≡ state n0 h
late-same n0 h by eval e shown = after-same (state n0 h) (record { by = by; call = Respond eval shown; reply = Late e }) (hopeful-state n0 h) refl

-- the state after an answer that changes nothing is the state before
pub nothing-changed : (n0 : Parts) (h : List Entry) (by : ℕ) (call : Call) (answer : Reply) → ChangesNothing call answer → after (state n0 h) (record { by = by; call = call; reply = answer }) ≡ state n0 h
nothing-changed n0 h by call answer (refused_call n op why) = refused-same n0 h by n op why
nothing-changed n0 h by call answer (late_answer eval late shown) = late-same n0 h by eval late shown
