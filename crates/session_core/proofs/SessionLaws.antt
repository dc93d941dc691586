-- A session goes on standing for the state of its history.
use Rattle.std.proofs.Common.{◌≡◌, ℕ, Bool, true, false, if◌then◌else◌, [], ◌∷◌, ◌++◌, map, refl, sym, ap, subst, ◌∙◌}
use Rattle.std.specs.Prelude.{filter, length, Result, Ok, Err, OnErr, IfOk}
use Rattle.std.specs.List.{AllByRecursion}
use Rattle.notebook.specs.declared.parts.Parts.{Parts}
use Rattle.notebook.specs.Rules.{IsNotebook}
use Rattle.notebook.specs.Book.{cells}
use Rattle.lanes.specs.Work.{no_work}
use Rattle.lanes.specs.Changes.{swept}
use Rattle.session_ops.specs.declared.entry.Op.{Op}
use Rattle.session_ops.specs.declared.entry.Op.TheVariants.{Join, Leave}
use Rattle.session_ops.specs.declared.entry.Call.{Call}
use Rattle.session_ops.specs.declared.entry.Call.TheVariants.{Client}
use Rattle.session_ops.specs.declared.entry.Refusal.{Refusal}
use Rattle.session_ops.specs.declared.entry.Reply.{Reply}
use Rattle.session_ops.specs.declared.entry.Reply.TheVariants.{Accepted, Refused}
use Rattle.session_ops.specs.declared.entry.Entry.{Entry}
use Rattle.session_ops.specs.Numbers.{is_in, is_other, without_number}
use Rattle.session_ops.specs.State.{State, ChangesNothing, state, jobs, jobs_after, opening, after, after_call, reply, joined_reply, stranger_reply, once_left, MayCall, Legal}
use Rattle.session_ops.proofs.Growing.{state-append, jobs-append, legal-append}
use Rattle.session_ops.proofs.Shown.{faithful-work}
use Rattle.session_ops.proofs.Sweeps.{swept-same}
use Rattle.session_ops.proofs.Settled.{hopeful-state, nothing-changed}
use Rattle.session_core.specs.declared.held.Held.{Held}
use Rattle.session_core.specs.History.{AreApart, Grows, HasRoom, KeepsEntries, owed_after}
use Rattle.session_core.specs.Logs.{AreLogs, IsLogIn, LineUp, log_cell, once_joined}
use Rattle.session_core.specs.Held.{IsHeld, Holds, HasAnswered, LeavesState, IsAsBefore, history_of, state_of}
use Rattle.session_core.specs.Session.{entry_of}
use Rattle.session_core.proofs.HistoryLaws.{apart-still, owed-still, owes-room}
use Rattle.session_core.proofs.Owners.{logs-work, logs-kept, opening-logs}

-- a session that was asked one thing more
pub answered-session : (n0 : Parts) (s s' : Held) (by : ℕ) (call : Call) (answer : Reply) → IsHeld n0 s → MayCall (state_of n0 s) (jobs n0 (history_of s)) by call → answer ≡ reply (state_of n0 s) call
    → Grows s.history (entry_of by call answer) s'.history → s'.book ≡ (after_call (state_of n0 s) call answer).book → s'.joined.items ≡ (after_call (state_of n0 s) call answer).joined
    → AreLogs (after_call (state_of n0 s) call answer) s'.logs.items → s'.work ≡ swept (after_call (state_of n0 s) call answer).book (after_call (state_of n0 s) call answer).work → HasAnswered n0 by call s s' answer
answered-session n0 s s' by call answer is may right grown eb ej al ew =
    let e : Entry = entry_of by call answer in
    let t : State = after_call (state_of n0 s) call answer in
    let st : state_of n0 s' ≡ after (state_of n0 s) e = ap (state n0) grown.entries ∙ state-append n0 (history_of s) e in
    let js : jobs n0 (history_of s') ≡ jobs_after (state_of n0 s) (jobs n0 (history_of s)) by call answer = ap (jobs n0) grown.entries ∙ jobs-append n0 (history_of s) e in
    let enough : owed_after s.history.owed call answer ≡ length (jobs_after (state_of n0 s) (jobs n0 (history_of s)) by call answer) = owed-still (state_of n0 s) (jobs n0 (history_of s)) s.history.owed by call answer may is.apart is.owed in
    let below = (faithful-work n0 (history_of s) is.legal).out in
    record {
      right = right;
      history = grown.entries;
      session =
          record {
            legal = subst (Legal n0) (sym grown.entries) (legal-append n0 (history_of s) e is.legal may right);
            opening = is.opening;
            book = eb ∙ sym (ap (λ x. x.book) st);
            joined = ej ∙ sym (ap (λ x. x.joined) st);
            logs = subst (λ x. AreLogs x s'.logs.items) (sym st) (logs-work t (swept t.book t.work) s'.logs.items al);
            work = ew ∙ sym (ap (λ x. x.work) st);
            owed = grown.owed ∙ (enough ∙ ap length (sym js));
            apart = subst AreApart (sym js) (apart-still (state_of n0 s) (jobs n0 (history_of s)) by call answer right below is.apart);
            room = owes-room s'.history _ grown.owed grown.room;
          };
    }

-- an answer that changes nothing leaves the state
pub same-state : (n0 : Parts) (s s' : Held) (by : ℕ) (call : Call) (answer : Reply) → HasAnswered n0 by call s s' answer → ChangesNothing call answer → LeavesState n0 s s'
same-state n0 s s' by call answer h k = ap (state n0) h.history ∙ (state-append n0 (history_of s) (entry_of by call answer) ∙ nothing-changed n0 (history_of s) by call answer k)

pub same-state-ok : {E : Type 0} (n0 : Parts) (s s' : Held) (by : ℕ) (call : Call) (r : Result Reply E) → IfOk r (HasAnswered n0 by call s s') → IfOk r (λ answer. ChangesNothing call answer → LeavesState n0 s s')
same-state-ok n0 s s' by call (Ok answer) h = same-state n0 s s' by call answer h
same-state-ok n0 s s' by call (Err e) h = tt

-- the same, by what the session holds
pub answered-holding : (n0 : Parts) (s s' : Held) (by : ℕ) (call : Call) (answer : Reply) → IsHeld n0 s → MayCall (state_of n0 s) (jobs n0 (history_of s)) by call → answer ≡ reply (state_of n0 s) call
    → Grows s.history (entry_of by call answer) s'.history → Holds (record (after_call (state_of n0 s) call answer) { work = swept (after_call (state_of n0 s) call answer).book (after_call (state_of n0 s) call answer).work }) s' → HasAnswered n0 by call s s' answer
answered-holding n0 s s' by call answer is may right grown h =
    let t : State = after_call (state_of n0 s) call answer in
    answered-session n0 s s' by call answer is may right grown h.book h.joined (logs-work (record t { work = swept t.book t.work }) t.work s'.logs.items h.logs) h.work

-- a session to which nothing was appended
pub as-before : (n0 : Parts) (s s' : Held) → IsHeld n0 s → KeepsEntries s.history s'.history → s'.book ≡ s.book → s'.joined.items ≡ s.joined.items → AreLogs (state_of n0 s) s'.logs.items → s'.work ≡ s.work → IsAsBefore n0 s s'
as-before n0 s s' is eh eb ej al ew =
    let st : state_of n0 s ≡ state_of n0 s' = ap (state n0) (sym eh.entries) in
    record {
      history = eh.entries;
      session =
          record {
            legal = subst (Legal n0) (sym eh.entries) is.legal;
            opening = is.opening;
            book = eb ∙ (is.book ∙ ap (λ x. x.book) st);
            joined = ej ∙ (is.joined ∙ ap (λ x. x.joined) st);
            logs = subst (λ x. AreLogs x s'.logs.items) st al;
            work = ew ∙ (is.work ∙ ap (λ x. x.work) st);
            owed = eh.owed ∙ (is.owed ∙ ap (λ h. length (jobs n0 h)) (sym eh.entries));
            apart = subst (λ h. AreApart (jobs n0 h)) (sym eh.entries) is.apart;
            room = eh.room is.room;
          };
    }

pub before-holding : (n0 : Parts) (s s' : Held) → IsHeld n0 s → KeepsEntries s.history s'.history → Holds (state_of n0 s) s' → IsAsBefore n0 s s'
before-holding n0 s s' is eh h = as-before n0 s s' is eh (h.book ∙ sym is.book) (h.joined ∙ sym is.joined) h.logs (h.work ∙ sym is.work)

-- the same, where at most the history's room changed
pub untouched : (n0 : Parts) (s s' : Held) → IsHeld n0 s → KeepsEntries s.history s'.history → s'.book ≡ s.book → s'.joined.items ≡ s.joined.items → s'.logs.items ≡ s.logs.items → s'.work ≡ s.work → IsAsBefore n0 s s'
untouched n0 s s' is eh eb ej el ew = as-before n0 s s' is eh eb ej (subst (AreLogs (state_of n0 s)) (sym el) is.logs) ew

-- a failed call leaves what is so anyway
pub on-err : {A E : Type 0} (r : Result A E) (P : Type 0) → P → OnErr r P
on-err (Ok x) P p = tt
on-err (Err e) P p = p

-- what is asked of a session that is as before is asked of the one before
pub before-trans : (n0 : Parts) (s m s' : Held) → IsAsBefore n0 s m → IsAsBefore n0 m s' → IsAsBefore n0 s s'
before-trans n0 s m s' a b = record { history = b.history ∙ a.history; session = b.session }

pub answered-from : (n0 : Parts) (s m s' : Held) (by : ℕ) (call : Call) (answer : Reply) → IsAsBefore n0 s m → HasAnswered n0 by call m s' answer → HasAnswered n0 by call s s' answer
answered-from n0 s m s' by call answer a h = record {
  right = h.right ∙ ap (λ k. reply (state n0 k) call) a.history;
  history = h.history ∙ ap (λ k. k ++ entry_of by call answer ∷ []) a.history;
  session = h.session;
}

-- a call that is refused
pub refused-session : (n0 : Parts) (s s' : Held) (by client : ℕ) (op : Op) (why : Refusal) → IsHeld n0 s → reply (state_of n0 s) (Client client op) ≡ Refused why → Grows s.history (entry_of by (Client client op) (Refused why)) s'.history
    → s'.book ≡ s.book → s'.joined.items ≡ s.joined.items → s'.logs.items ≡ s.logs.items → s'.work ≡ s.work → HasAnswered n0 by (Client client op) s s' (Refused why)
refused-session n0 s s' by client op why is r grown eb ej el ew =
    answered-session n0 s s' by (Client client op) (Refused why) is tt (sym r) grown
    (eb ∙ is.book)
    (ej ∙ is.joined)
    (subst (AreLogs (state_of n0 s)) (sym el) is.logs)
    (ew ∙ (is.work ∙ sym (swept-same (state_of n0 s).book (state_of n0 s).work (hopeful-state n0 (history_of s)))))

-- the clients that have joined, in the session and in the state
pub member-of : (n0 : Parts) (s : Held) (client : ℕ) (b : Bool) → IsHeld n0 s → is_in client s.joined.items ≡ b → is_in client (state_of n0 s).joined ≡ b
member-of n0 s client b is e = subst (λ js. is_in client js ≡ b) is.joined e

-- what a client that has joined, and one that hasn't, is answered
pub member-reply : (n0 : Parts) (s : Held) (client : ℕ) (op : Op) → IsHeld n0 s → is_in client s.joined.items ≡ true → reply (state_of n0 s) (Client client op) ≡ joined_reply (state_of n0 s) op
member-reply n0 s client op is e = ap (λ b. if b then joined_reply (state_of n0 s) op else stranger_reply op) (member-of n0 s client true is e)

pub outsider-reply : (n0 : Parts) (s : Held) (client : ℕ) (op : Op) → IsHeld n0 s → is_in client s.joined.items ≡ false → reply (state_of n0 s) (Client client op) ≡ stranger_reply op
outsider-reply n0 s client op is e = ap (λ b. if b then joined_reply (state_of n0 s) op else stranger_reply op) (member-of n0 s client false is e)

-- joining and leaving
pub joined-session : (n0 : Parts) (s s' : Held) (by client : ℕ) → IsHeld n0 s → is_in client s.joined.items ≡ false → Grows s.history (entry_of by (Client client Join) Accepted) s'.history
    → s'.book ≡ s.book → s'.joined.items ≡ s.joined.items ++ client ∷ [] → map log_cell s'.logs.items ≡ map log_cell s.logs.items → AllByRecursion (IsLogIn (once_joined client (state_of n0 s))) s'.logs.items → s'.work ≡ s.work → HasAnswered n0 by (Client client Join) s s' Accepted
joined-session n0 s s' by client is e grown eb ej ec al ew =
    answered-session n0 s s' by (Client client Join) Accepted is tt
    (sym (outsider-reply n0 s client Join is e))
    grown
    (eb ∙ is.book)
    (ej ∙ ap (λ js. js ++ client ∷ []) is.joined)
    (logs-kept (state_of n0 s) (once_joined client (state_of n0 s)) s.logs.items s'.logs.items is.logs refl ec al)
    (ew ∙ (is.work ∙ sym (swept-same (state_of n0 s).book (state_of n0 s).work (hopeful-state n0 (history_of s)))))

pub left-session : (n0 : Parts) (s s' : Held) (by client : ℕ) → IsHeld n0 s → is_in client s.joined.items ≡ true → Grows s.history (entry_of by (Client client Leave) Accepted) s'.history
    → s'.book ≡ s.book → s'.joined.items ≡ filter (is_other client) s.joined.items → map log_cell s'.logs.items ≡ map log_cell s.logs.items → AllByRecursion (IsLogIn (once_left client (state_of n0 s))) s'.logs.items → s'.work ≡ s.work → HasAnswered n0 by (Client client Leave) s s' Accepted
left-session n0 s s' by client is e grown eb ej ec al ew =
    answered-session n0 s s' by (Client client Leave) Accepted is tt
    (sym (member-reply n0 s client Leave is e))
    grown
    (eb ∙ is.book)
    (ej ∙ ap (without_number client) is.joined)
    (logs-kept (state_of n0 s) (once_left client (state_of n0 s)) s.logs.items s'.logs.items is.logs refl ec al)
    (ew ∙ (is.work ∙ sym (swept-same (state_of n0 s).book (state_of n0 s).work (hopeful-state n0 (history_of s)))))

-- the opening
pub opening-session : (n0 : Parts) (s : Held) → IsNotebook n0 → s.book ≡ n0 → s.joined.items ≡ [] → LineUp (opening n0) (cells n0) s.logs.items → s.work ≡ no_work → history_of s ≡ [] → s.history.owed ≡ 0 → HasRoom s.history.owed s.history → IsHeld n0 s
opening-session n0 s is eb ej al ew eh none room =
    let st : opening n0 ≡ state_of n0 s = ap (state n0) (sym eh) in
    record {
      legal = subst (Legal n0) (sym eh) (record { replies = tt });
      opening = is;
      book = eb ∙ ap (λ x. x.book) st;
      joined = ej ∙ ap (λ x. x.joined) st;
      logs = subst (λ x. AreLogs x s.logs.items) st (opening-logs n0 s.logs.items is al);
      work = ew ∙ ap (λ x. x.work) st;
      owed = none ∙ ap (λ h. length (jobs n0 h)) (sym eh);
      apart = subst (λ h. AreApart (jobs n0 h)) (sym eh) tt;
      room = room;
    }

-- answers that come after nothing was appended
pub before-err : {A E : Type 0} (n0 : Parts) (s m s' : Held) (r : Result A E) → IsAsBefore n0 s m → OnErr r (IsAsBefore n0 m s') → OnErr r (IsAsBefore n0 s s')
before-err n0 s m s' (Ok x) a h = tt
before-err n0 s m s' (Err e) a h = before-trans n0 s m s' a h

pub answered-ok : {E : Type 0} (n0 : Parts) (s m s' : Held) (by : ℕ) (call : Call) (r : Result Reply E) → IsAsBefore n0 s m → IfOk r (HasAnswered n0 by call m s') → IfOk r (HasAnswered n0 by call s s')
answered-ok n0 s m s' by call (Ok x) a h = answered-from n0 s m s' by call x a h
answered-ok n0 s m s' by call (Err e) a h = tt

pub refused-err : {A E : Type 0} (n0 : Parts) (s m s' : Held) (r : Result A E) → IsAsBefore n0 s m → (IsHeld n0 m → OnErr r (IsAsBefore n0 m s')) → OnErr r (IsAsBefore n0 s s')
refused-err n0 s m s' r a h = before-err n0 s m s' r a (h a.session)
