-- A delta that a cell's log takes, and a report, beside the logs of the others.
use Rattle.std.proofs.Common.{◌≡◌, ℕ, ◌+◌, ◌≤◌, ◌==◌, true, false, if◌then◌else◌, List, Option, Some, None, refl, sym, ap, subst, ◌∙◌, arith, eq-eqb}
use Rattle.std.proofs.Common.{set}
use Rattle.std.specs.Prelude.{IsSome, is_some, nat_lt, Result, IfOk}
use Rattle.std.specs.Option.{option_map}
use Rattle.std.proofs.lemmas.Bool.Decides.{nat_tests}
use Rattle.delta.specs.declared.Step.{Step}
use Rattle.delta.specs.Moves.{text_after}
use Rattle.notebook.specs.declared.parts.Cell.{Cell}
use Rattle.notebook.specs.declared.parts.Parts.{Parts}
use Rattle.notebook.specs.Book.{cells, found, resourced, resourced_cell, with_source}
use Rattle.notebook.specs.Rules.{IsNotebook}
use Rattle.notebook.proofs.Sources.{found-resourced}
use Rattle.lanes.specs.Changes.{swept}
use Rattle.session_ops.specs.declared.entry.Op.TheVariants.{Delta, Report}
use Rattle.session_ops.specs.declared.entry.Call.TheVariants.{Client}
use Rattle.session_ops.specs.declared.entry.Reply.TheVariants.{Accepted, Applied, Refused}
use Rattle.session_ops.specs.declared.entry.Refusal.{Refusal}
use Rattle.session_ops.specs.declared.entry.Refusal.TheVariants.{NoCell}
use Rattle.session_ops.specs.declared.entry.Refusal.TheVariants as refusal
use Rattle.session_ops.specs.declared.entry.Reply.{Reply}
use Rattle.session_ops.specs.Deeds.{moved_source}
use Rattle.session_ops.specs.State.{State, state, after_call, reply, delta_reply, report_reply, revision}
use Rattle.session_ops.specs.Numbers.{is_in}
use Rattle.session_ops.proofs.Live.{found-number, live-apart}
use Rattle.session_ops.proofs.Orderly.{orderly-state}
use Rattle.session_ops.proofs.Sources.{ChangesOne, with-one}
use Rattle.session_ops.proofs.Sweeps.{swept-same}
use Rattle.session_ops.proofs.Settled.{hopeful-state}
use Rattle.revisions.specs.declared.errors.RevError.{RevError}
use Rattle.revisions.specs.declared.errors.RevError.TheVariants.{TooNew, TooOld, PastEnd, SplitsPair, OutOfMemory}
use Rattle.revisions.specs.declared.moved.Move.{Move}
use Rattle.revisions.specs.declared.source_log.Accepted.{Accepted as Taken}
use Rattle.revisions.specs.declared.source_log.SourceLog.{SourceLog}
use Rattle.revisions.specs.Answer.{IsCause}
use Rattle.revisions.specs.Log.{IsLog, HasTaken}
use Rattle.revisions.specs.Source.{taking}
use Rattle.session_core.specs.History.{Grows}
use Rattle.session_core.specs.declared.logs.CellLog.{CellLog}
use Rattle.session_core.specs.declared.held.Held.{Held}
use Rattle.session_core.specs.Logs.{AreLogs, IsLogIn, place_in}
use Rattle.session_core.specs.Stands.{StandsFor, IsMovedIn, as_reply, source_in}
use Rattle.session_core.specs.Held.{IsHeld, HasAnswered, IsAsBefore, history_of, state_of}
use Rattle.session_core.specs.Session.{entry_of, told}
use Rattle.session_core.proofs.Others.{taken-beside, reported-beside}
use Rattle.session_core.proofs.Owners.{StaysElsewhere, replaced}
use Rattle.session_core.proofs.SessionLaws.{answered-session, member-reply, answered-ok}
use Rattle.session_core.proofs.Standing.{answers, stands-taken}

-- what a joined client's delta is answered, by the cell that is found
pub delta-answer : (n0 : Parts) (s : Held) (client cell base : ℕ) (d : List Step) (o : Option Cell) → IsHeld n0 s → is_in client s.joined.items ≡ true → found cell (cells (state_of n0 s).book) ≡ o → reply (state_of n0 s) (Client client (Delta cell base d)) ≡ delta_reply (state_of n0 s) cell base d o
delta-answer n0 s client cell base d o is e f = member-reply n0 s client (Delta cell base d) is e ∙ ap (delta_reply (state_of n0 s) cell base d) f

pub report-answer : (n0 : Parts) (s : Held) (client cell rev : ℕ) (o : Option Cell) → IsHeld n0 s → is_in client s.joined.items ≡ true → found cell (cells (state_of n0 s).book) ≡ o → reply (state_of n0 s) (Client client (Report cell rev)) ≡ report_reply (state_of n0 s) cell rev o
report-answer n0 s client cell rev o is e f = member-reply n0 s client (Report cell rev) is e ∙ ap (report_reply (state_of n0 s) cell rev) f

-- a cause that a client is told is the session's refusal
pub told-cause : (s : State) (cell : ℕ) (c : Cell) (base : ℕ) (d : List Step) (log : SourceLog) (e : RevError) (why : Refusal) → StandsFor s cell c.source log → IsCause (source_in s cell c.source) base d e → Some why ≡ told e → delta_reply s cell base d (Some c) ≡ Refused why
told-cause s cell c base d log (TooNew now) why h q k = sym (answers s cell base d c log h) ∙ (ap as_reply q ∙ ap Refused (sym (cc k)))
told-cause s cell c base d log (TooOld kept) why h q k = sym (answers s cell base d c log h) ∙ (ap as_reply q ∙ ap Refused (sym (cc k)))
told-cause s cell c base d log (PastEnd len) why h q k = sym (answers s cell base d c log h) ∙ (ap as_reply q ∙ ap Refused (sym (cc k)))
told-cause s cell c base d log (SplitsPair at) why h q k = sym (answers s cell base d c log h) ∙ (ap as_reply q ∙ ap Refused (sym (cc k)))
told-cause s cell c base d log OutOfMemory why h q k = absurd (cc k)

changes-one : (cell : ℕ) (d : List Step) → ChangesOne (moved_source cell d) cell (text_after d)
changes-one cell d = record { one = λ c e. ap (λ b. if b then text_after d c.source else c.source) e; others = λ c e. ap (λ b. if b then text_after d c.source else c.source) e }

-- each other cell's log stays as it is
stays-else : (s : State) (client cell base rev : ℕ) (d x : List Step) → StaysElsewhere s (after_call s (Client client (Delta cell base d)) (Applied rev x)) cell
stays-else s client cell base rev d x = record {
  stays = λ l e h.
      let t : State = after_call s (Client client (Delta cell base d)) (Applied rev x) in
      let other : (cell == l.cell) ≡ false = grind (arith, nat_tests, e) in
      let here : found l.cell (cells t.book) ≡ Some (resourced_cell (moved_source cell x) h.owner) = found-resourced (moved_source cell x) l.cell s.book ∙ ap (option_map (resourced_cell (moved_source cell x))) h.is_found in
      let number : h.owner.id ≡ l.cell = found-number l.cell (cells s.book) h.owner h.is_found in
      let apart : (h.owner.id == cell) ≡ false = subst (λ n. (n == cell) ≡ false) (sym number) e in
      let source : moved_source cell x h.owner ≡ h.owner.source = ap (λ b. if b then text_after x h.owner.source else h.owner.source) apart in
      record { owner = resourced_cell (moved_source cell x) h.owner; is_found = here; stands = subst (λ text. StandsFor t l.cell text l.log) (sym source) (taken-beside s t l.cell cell client rev x h.owner.source l.log h.stands other refl refl refl refl) };
}

some-before : (f : Cell → List ℕ) (o : Option Cell) → is_some (option_map (resourced_cell f) o) ≡ true → is_some o ≡ true
some-before f None h = h
some-before f (Some c) h = refl

live-before : (f : Cell → List ℕ) (n : Parts) (cell : ℕ) → IsSome (found cell (cells (resourced f n))) → IsSome (found cell (cells n))
live-before f n cell h = some-before f (found cell (cells n)) (subst (λ o. is_some o ≡ true) (found-resourced f cell n) h)

-- the log of the cell that took the delta
own-log : (s t : State) (cell : ℕ) (x : List Step) (c : Cell) (l : CellLog) → t.book ≡ resourced (moved_source cell x) s.book → found cell (cells s.book) ≡ Some c → l.cell ≡ cell → StandsFor t cell (text_after x c.source) l.log → IsLogIn t l
own-log s t cell x c l eb f named h =
    let number : c.id ≡ cell = found-number cell (cells s.book) c f in
    let source : text_after x c.source ≡ moved_source cell x c = sym (ap (λ b. if b then text_after x c.source else c.source) (eq-eqb c.id cell number)) in
    let here : found cell (cells t.book) ≡ Some (resourced_cell (moved_source cell x) c) = ap (λ n. found cell (cells n)) eb ∙ (found-resourced (moved_source cell x) cell s.book ∙ ap (option_map (resourced_cell (moved_source cell x))) f) in
    record {
      owner = resourced_cell (moved_source cell x) c;
      is_found = ap (λ n. found n (cells t.book)) named ∙ here;
      stands = subst (λ n. StandsFor t n (moved_source cell x c) l.log) (sym named) (subst (λ text. StandsFor t cell text l.log) source h);
    }

pub taken-session : (n0 : Parts) (s s' : Held) (by client cell base rev at : ℕ) (d kept : List Step) (c : Cell) (m : Move) (a : Taken) (old : SourceLog) (l' : CellLog) → IsHeld n0 s → is_in client s.joined.items ≡ true → found cell (cells s.book) ≡ Some c
    → IsMovedIn (state_of n0 s) cell c base d m → StandsFor (state_of n0 s) cell c.source old → HasTaken (source_in (state_of n0 s) cell c.source) client m.delta a l'.log → rev ≡ revision (state_of n0 s) cell + 1 → kept ≡ m.delta → Some at ≡ place_in cell s.logs.items → l'.cell ≡ cell
    → Grows s.history (entry_of by (Client client (Delta cell base d)) (Applied rev kept)) s'.history → s'.book ≡ with_source cell m.text s.book → s'.joined.items ≡ s.joined.items → s'.logs.items ≡ set s.logs.items at l' → s'.work ≡ swept s'.book s.work
    → HasAnswered n0 by (Client client (Delta cell base d)) s s' (Applied rev a.delta)
taken-session n0 s s' by client cell base rev at d kept c m a old l' is member is_found moved stands taken r k place named grown eb ej el ew =
    let st : State = state_of n0 s in
    let x : m.delta ≡ a.delta = sym taken.delta in
    let answered : delta_reply st cell base d (Some c) ≡ Applied rev a.delta = moved.answered ∙ (ap (λ n. Applied n m.delta) (sym r) ∙ ap (Applied rev) x) in
    let entry : Applied rev kept ≡ Applied rev a.delta = ap (Applied rev) (k ∙ x) in
    let t : State = after_call st (Client client (Delta cell base d)) (Applied rev a.delta) in
    let text : m.text ≡ text_after a.delta c.source = moved.moves.makes ∙ ap (λ y. text_after y c.source) x in
    let there : found cell (cells st.book) ≡ Some c = subst (λ n. found cell (cells n) ≡ Some c) is.book is_found in
    let notebook : IsNotebook st.book = (orderly-state n0 (history_of s) is.opening is.legal).book in
    let book : s'.book ≡ t.book =
    eb ∙ (ap (λ y. with_source cell y s.book) text ∙ (ap (with_source cell (text_after a.delta c.source)) is.book ∙ sym (with-one (moved_source cell a.delta) cell (text_after a.delta) st.book c (changes-one cell a.delta) (live-apart st.book notebook) there))) in
    let after : StandsFor t cell (text_after a.delta c.source) l'.log =
    stands-taken st cell client base rev d a.delta c.source old l'.log stands r (subst (λ y. IsLog (taking client y (source_in st cell c.source)) l'.log) x taken.after) in
    let own : IsLogIn t l' = own-log st t cell a.delta c l' refl there named after in
    let logs : AreLogs t (set s.logs.items at l') = replaced st t cell at s.logs.items l' is.logs (stays-else st client cell base rev d a.delta) place named own (λ j l. live-before (moved_source cell a.delta) st.book j l) in
    answered-session n0 s s' by (Client client (Delta cell base d)) (Applied rev a.delta) is tt
    (sym (delta-answer n0 s client cell base d (Some c) is member there ∙ answered))
    (subst (λ y. Grows s.history (entry_of by (Client client (Delta cell base d)) y) s'.history) entry grown)
    book
    (ej ∙ is.joined)
    (subst (AreLogs t) (sym el) logs)
    (ew ∙ (ap (λ n. swept n s.work) book ∙ ap (swept t.book) is.work))

-- a report
stays-report : (s : State) (client cell rev : ℕ) → StaysElsewhere s (after_call s (Client client (Report cell rev)) Accepted) cell
stays-report s client cell rev = record {
  stays = λ l e h.
      let other : (cell == l.cell) ≡ false = grind (arith, nat_tests, e) in
      record { owner = h.owner; is_found = h.is_found; stands = reported-beside s (after_call s (Client client (Report cell rev)) Accepted) l.cell cell client rev h.owner.source l.log h.stands other refl refl refl refl };
}

pub reported-session : (n0 : Parts) (s s' : Held) (by client cell rev at : ℕ) (c : Cell) (l' : CellLog) → IsHeld n0 s → is_in client s.joined.items ≡ true → found cell (cells (state_of n0 s).book) ≡ Some c → rev ≤ revision (state_of n0 s) cell
    → StandsFor (after_call (state_of n0 s) (Client client (Report cell rev)) Accepted) cell c.source l'.log → Some at ≡ place_in cell s.logs.items → l'.cell ≡ cell
    → Grows s.history (entry_of by (Client client (Report cell rev)) Accepted) s'.history → s'.book ≡ s.book → s'.joined.items ≡ s.joined.items → s'.logs.items ≡ set s.logs.items at l' → s'.work ≡ s.work
    → HasAnswered n0 by (Client client (Report cell rev)) s s' Accepted
reported-session n0 s s' by client cell rev at c l' is member there low stands place named grown eb ej el ew =
    let st : State = state_of n0 s in
    let t : State = after_call st (Client client (Report cell rev)) Accepted in
    let not_new : nat_lt (revision st cell) rev ≡ false = grind (arith, nat_tests, low) in
    let own : IsLogIn t l' = record { owner = c; is_found = ap (λ n. found n (cells st.book)) named ∙ there; stands = subst (λ n. StandsFor t n c.source l'.log) (sym named) stands } in
    answered-session n0 s s' by (Client client (Report cell rev)) Accepted is tt
    (sym (report-answer n0 s client cell rev (Some c) is member there ∙ ap (λ b. if b then Refused (refusal.TooNew (revision st cell)) else Accepted) not_new))
    grown
    (eb ∙ is.book)
    (ej ∙ is.joined)
    (subst (AreLogs t) (sym el) (replaced st t cell at s.logs.items l' is.logs (stays-report st client cell rev) place named own (λ j l. l)))
    (ew ∙ (is.work ∙ sym (swept-same st.book st.work (hopeful-state n0 (history_of s)))))

-- a report that isn't noted, after all is as it was
pub report-refused : (n0 : Parts) (s m s' : Held) (by client cell rev : ℕ) (c : Cell) (why : Refusal) {E : Type 0} (r : Result Reply E) → IsHeld n0 s → is_in client s.joined.items ≡ true → found cell (cells (state_of n0 s).book) ≡ Some c → report_reply (state_of n0 s) cell rev (Some c) ≡ Refused why
    → IsAsBefore n0 s m → (IsHeld n0 m → reply (state_of n0 m) (Client client (Report cell rev)) ≡ Refused why → IfOk r (HasAnswered n0 by (Client client (Report cell rev)) m s')) → IfOk r (HasAnswered n0 by (Client client (Report cell rev)) s s')
report-refused n0 s m s' by client cell rev c why r is member there told a told_so =
    let same : reply (state_of n0 m) (Client client (Report cell rev)) ≡ Refused why = ap (λ k. reply (state n0 k) (Client client (Report cell rev))) a.history ∙ (report-answer n0 s client cell rev (Some c) is member there ∙ told) in
    answered-ok n0 s m s' by (Client client (Report cell rev)) r a (told_so a.session same)
