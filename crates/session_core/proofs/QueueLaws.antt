-- Cells that are asked for, and cancelled.
use Rattle.std.proofs.Common.{◌≡◌, ℕ, Bool, true, false, if◌then◌else◌, Option, Some, None, refl, sym, ap, subst, ◌∙◌}
use Rattle.std.specs.Prelude.{◌||◌}
use Rattle.notebook.specs.declared.parts.Cell.{Cell}
use Rattle.notebook.specs.declared.parts.Parts.{Parts}
use Rattle.notebook.specs.declared.parts.Kind.{Kind}
use Rattle.notebook.specs.declared.parts.Kind.TheVariants.{Setup, Code, Markdown}
use Rattle.notebook.specs.Book.{cells, found}
use Rattle.lanes.specs.declared.work.Work.{Work}
use Rattle.lanes.specs.Work.{failed_ancestor, is_queued, is_running}
use Rattle.lanes.specs.Changes.{asked, cancelled, swept}
use Rattle.session_ops.specs.declared.entry.Op.TheVariants.{Queue, Cancel}
use Rattle.session_ops.specs.declared.entry.Call.TheVariants.{Client}
use Rattle.session_ops.specs.declared.entry.Refusal.{Refusal}
use Rattle.session_ops.specs.declared.entry.Refusal.TheVariants.{NotJoined}
use Rattle.session_ops.specs.declared.entry.Reply.{Reply}
use Rattle.session_ops.specs.declared.entry.Reply.TheVariants.{Accepted, Refused}
use Rattle.session_ops.specs.Numbers.{is_in}
use Rattle.session_ops.specs.State.{State, reply, code_reply, queue_reply, queue_reply_by, cancel_reply, cancel_reply_by}
use Rattle.session_core.specs.History.{Grows}
use Rattle.session_core.specs.declared.held.Held.{Held}
use Rattle.session_core.specs.Logs.{AreLogs}
use Rattle.session_core.specs.Held.{IsHeld, HasAnswered, state_of}
use Rattle.session_core.specs.Session.{entry_of, refused_by}
use Rattle.session_core.proofs.Owners.{logs-work}
use Rattle.session_core.proofs.SessionLaws.{answered-session, member-reply, outsider-reply}

-- a stranger, and a cell that doesn't live
pub stranger-queue : (n0 : Parts) (s : Held) (client cell : ℕ) → IsHeld n0 s → is_in client s.joined.items ≡ false → Some NotJoined ≡ refused_by (reply (state_of n0 s) (Client client (Queue cell)))
stranger-queue n0 s client cell is e = sym (ap refused_by (outsider-reply n0 s client (Queue cell) is e))

pub stranger-cancel : (n0 : Parts) (s : Held) (client cell : ℕ) → IsHeld n0 s → is_in client s.joined.items ≡ false → Some NotJoined ≡ refused_by (reply (state_of n0 s) (Client client (Cancel cell)))
stranger-cancel n0 s client cell is e = sym (ap refused_by (outsider-reply n0 s client (Cancel cell) is e))

pub member-queue : (n0 : Parts) (s : Held) (client cell : ℕ) (o : Option Cell) (why : Option Refusal) → IsHeld n0 s → is_in client s.joined.items ≡ true → found cell (cells s.book) ≡ o → why ≡ refused_by (queue_reply (state_of n0 s) cell o) → why ≡ refused_by (reply (state_of n0 s) (Client client (Queue cell)))
member-queue n0 s client cell o why is e f h =
    let there : found cell (cells (state_of n0 s).book) ≡ o = subst (λ n. found cell (cells n) ≡ o) is.book f in
    h ∙ sym (ap refused_by (member-reply n0 s client (Queue cell) is e ∙ ap (queue_reply (state_of n0 s) cell) there))

pub member-cancel : (n0 : Parts) (s : Held) (client cell : ℕ) (o : Option Cell) (why : Option Refusal) → IsHeld n0 s → is_in client s.joined.items ≡ true → found cell (cells s.book) ≡ o → why ≡ refused_by (cancel_reply (state_of n0 s) cell o) → why ≡ refused_by (reply (state_of n0 s) (Client client (Cancel cell)))
member-cancel n0 s client cell o why is e f h =
    let there : found cell (cells (state_of n0 s).book) ≡ o = subst (λ n. found cell (cells n) ≡ o) is.book f in
    h ∙ sym (ap refused_by (member-reply n0 s client (Cancel cell) is e ∙ ap (cancel_reply (state_of n0 s) cell) there))

-- a live cell of a kind, by the session's own notebook and work
pub queue-kind : (n0 : Parts) (s : Held) (cell : ℕ) (c : Cell) (why : Option Refusal) → IsHeld n0 s → why ≡ refused_by (code_reply c.kind (queue_reply_by (failed_ancestor s.book s.work cell))) → why ≡ refused_by (queue_reply (state_of n0 s) cell (Some c))
queue-kind n0 s cell c why is h =
    h ∙ (ap (λ n. refused_by (code_reply c.kind (queue_reply_by (failed_ancestor n s.work cell)))) is.book ∙ ap (λ w. refused_by (code_reply c.kind (queue_reply_by (failed_ancestor (state_of n0 s).book w cell)))) is.work)

pub cancel-kind : (n0 : Parts) (s : Held) (cell : ℕ) (c : Cell) (why : Option Refusal) → IsHeld n0 s → why ≡ refused_by (code_reply c.kind (cancel_reply_by (is_queued s.work cell || is_running s.work cell))) → why ≡ refused_by (cancel_reply (state_of n0 s) cell (Some c))
cancel-kind n0 s cell c why is h = h ∙ ap (λ w. refused_by (code_reply c.kind (cancel_reply_by (is_queued w cell || is_running w cell)))) is.work

-- what isn't refused is accepted
pub refusal-is : (r : Reply) (why : Refusal) → Some why ≡ refused_by r → r ≡ Refused why
refusal-is (Refused other) why e = let same : Some why ≡ Some other = e in ap Refused (sym (cc same))
refusal-is r why e = absurd (cc e)

code-accepted : (k : Kind) (r : Reply) → refused_by (code_reply k r) ≡ None → (refused_by r ≡ None → r ≡ Accepted) → code_reply k r ≡ Accepted
code-accepted Setup r e h = h e
code-accepted Code r e h = h e
code-accepted Markdown r e h = absurd (cc e)

queue-by : (o : Option ℕ) → refused_by (queue_reply_by o) ≡ None → queue_reply_by o ≡ Accepted
queue-by None e = refl
queue-by (Some k) e = absurd (cc e)

cancel-by : (b : Bool) → refused_by (cancel_reply_by b) ≡ None → cancel_reply_by b ≡ Accepted
cancel-by true e = refl
cancel-by false e = absurd (cc e)

queue-of : (s : State) (cell : ℕ) (o : Option Cell) → refused_by (queue_reply s cell o) ≡ None → queue_reply s cell o ≡ Accepted
queue-of s cell None e = absurd (cc e)
queue-of s cell (Some c) e = code-accepted c.kind (queue_reply_by (failed_ancestor s.book s.work cell)) e (queue-by (failed_ancestor s.book s.work cell))

cancel-of : (s : State) (cell : ℕ) (o : Option Cell) → refused_by (cancel_reply s cell o) ≡ None → cancel_reply s cell o ≡ Accepted
cancel-of s cell None e = absurd (cc e)
cancel-of s cell (Some c) e = code-accepted c.kind (cancel_reply_by (is_queued s.work cell || is_running s.work cell)) e (cancel-by (is_queued s.work cell || is_running s.work cell))

queue-accepted : (s : State) (client cell : ℕ) (b : Bool) → refused_by (if b then queue_reply s cell (found cell (cells s.book)) else Refused NotJoined) ≡ None → (if b then queue_reply s cell (found cell (cells s.book)) else Refused NotJoined) ≡ Accepted
queue-accepted s client cell true e = queue-of s cell (found cell (cells s.book)) e
queue-accepted s client cell false e = absurd (cc e)

cancel-accepted : (s : State) (client cell : ℕ) (b : Bool) → refused_by (if b then cancel_reply s cell (found cell (cells s.book)) else Refused NotJoined) ≡ None → (if b then cancel_reply s cell (found cell (cells s.book)) else Refused NotJoined) ≡ Accepted
cancel-accepted s client cell true e = cancel-of s cell (found cell (cells s.book)) e
cancel-accepted s client cell false e = absurd (cc e)

pub queued-session : (n0 : Parts) (s s' : Held) (by client cell : ℕ) (w : Work) → IsHeld n0 s → refused_by (reply (state_of n0 s) (Client client (Queue cell))) ≡ None → Grows s.history (entry_of by (Client client (Queue cell)) Accepted) s'.history
    → s'.book ≡ s.book → s'.joined.items ≡ s.joined.items → s'.logs.items ≡ s.logs.items → w ≡ asked cell s.work → s'.work ≡ swept s.book w → HasAnswered n0 by (Client client (Queue cell)) s s' Accepted
queued-session n0 s s' by client cell w is none grown eb ej el ew es =
    let st : State = state_of n0 s in
    answered-session n0 s s' by (Client client (Queue cell)) Accepted is tt
    (sym (queue-accepted st client cell (is_in client st.joined) none))
    grown
    (eb ∙ is.book)
    (ej ∙ is.joined)
    (subst (AreLogs (record st { work = asked cell st.work })) (sym el) (logs-work st (asked cell st.work) s.logs.items is.logs))
    (es ∙ (ap (swept s.book) (ew ∙ ap (asked cell) is.work) ∙ ap (λ n. swept n (asked cell st.work)) is.book))

pub cancelled-session : (n0 : Parts) (s s' : Held) (by client cell : ℕ) (w : Work) → IsHeld n0 s → refused_by (reply (state_of n0 s) (Client client (Cancel cell))) ≡ None → Grows s.history (entry_of by (Client client (Cancel cell)) Accepted) s'.history
    → s'.book ≡ s.book → s'.joined.items ≡ s.joined.items → s'.logs.items ≡ s.logs.items → w ≡ cancelled cell s.work → s'.work ≡ swept s.book w → HasAnswered n0 by (Client client (Cancel cell)) s s' Accepted
cancelled-session n0 s s' by client cell w is none grown eb ej el ew es =
    let st : State = state_of n0 s in
    answered-session n0 s s' by (Client client (Cancel cell)) Accepted is tt
    (sym (cancel-accepted st client cell (is_in client st.joined) none))
    grown
    (eb ∙ is.book)
    (ej ∙ is.joined)
    (subst (AreLogs (record st { work = cancelled cell st.work })) (sym el) (logs-work st (cancelled cell st.work) s.logs.items is.logs))
    (es ∙ (ap (swept s.book) (ew ∙ ap (cancelled cell) is.work) ∙ ap (λ n. swept n (cancelled cell st.work)) is.book))
