-- Where nothing runs and some cell is queued, some lane may start.
use Rattle.std.proofs.Common.{◌≡◌, ℕ, Bool, true, false, List, [], Option, Some, None, refl, subst, eqb-true}
use Rattle.std.specs.Prelude.{◌&&◌, is_some, IsSome}
use Rattle.std.specs.List.{AllByRecursion}
use Rattle.notebook.specs.declared.parts.Parts.{Parts}
use Rattle.notebook.specs.declared.parts.Passed.{Passed}
use Rattle.notebook.specs.declared.states.Lane.{Lane}
use Rattle.notebook.specs.Rules.{IsNotebook}
use Rattle.notebook.specs.Flow.{path}
use Rattle.lanes.specs.declared.work.Mark.{Mark}
use Rattle.lanes.specs.declared.work.Work.{Work}
use Rattle.lanes.specs.Work.{is_mark_of, mark_of, queued_by, is_queued, failed_ancestor, ready_lane}
use Rattle.lanes.specs.Changes.{is_hopeless}
use Rattle.lanes.proofs.Ready.{some-lane}
use Rattle.session_ops.specs.declared.entry.Entry.{Entry}
use Rattle.session_ops.specs.Orderly.{IsCodeLive, IsLiveMark, IsOrderly}
use Rattle.session_ops.specs.State.{State, state, Legal}
use Rattle.session_ops.proofs.Lists.{find-is, find-passes}
use Rattle.session_ops.proofs.Live.{live-path}
use Rattle.session_ops.proofs.Orderly.{orderly-state}
use Rattle.session_ops.proofs.Settled.{hopeful-state}
use Rattle.session_ops.proofs.Sweeps.{HasHope, AreHopeful}

-- the mark of a queued cell
record IsQueuedBy (cell : ℕ) (w : Work) : Type 0 where
  mark : Mark
  is_found : mark_of w cell ≡ Some mark
  number : mark.cell ≡ cell
  queued : mark.queued ≡ true

queued-mark : (w : Work) (cell : ℕ) (o : Option Mark) → mark_of w cell ≡ o → queued_by o ≡ true → IsQueuedBy cell w
queued-mark w cell None e q = absurd (cc q)
queued-mark w cell (Some m) e q = record { mark = m; is_found = e; number = eqb-true m.cell cell (find-passes (is_mark_of cell) w.marks m e); queued = q }

-- a queued cell is a live setup or code cell
pub queued-live : (n : Parts) (w : Work) (cell : ℕ) → AllByRecursion (IsLiveMark n) w.marks → is_queued w cell ≡ true → IsCodeLive n cell
queued-live n w cell h e =
    let q : IsQueuedBy cell w = queued-mark w cell (mark_of w cell) refl e in
    subst (IsCodeLive n) q.number (find-is (is_mark_of cell) (IsLiveMark n) w.marks q.mark h q.is_found)

none-failed : (o : Option ℕ) → is_some o ≡ false → o ≡ None
none-failed None e = refl
none-failed (Some c) e = absurd (cc e)

and-second : (a b : Bool) → a ≡ true → (a && b) ≡ false → b ≡ false
and-second true b t e = e
and-second false b t e = absurd (cc t)

-- and, where none is hopeless, has no ancestor that failed
pub queued-hope : (n : Parts) (w : Work) (cell : ℕ) → AreHopeful n w → is_queued w cell ≡ true → failed_ancestor n w cell ≡ None
queued-hope n w cell h e =
    let q : IsQueuedBy cell w = queued-mark w cell (mark_of w cell) refl e in
    let hope : is_hopeless n w q.mark.cell ≡ false = and-second q.mark.queued (is_hopeless n w q.mark.cell) q.queued (find-is (is_mark_of cell) (HasHope n w) w.marks q.mark h q.is_found) in
    none-failed (failed_ancestor n w cell) (subst (λ c. is_hopeless n w c ≡ false) q.number hope)

by-path : (n : Parts) (w : Work) (cell : ℕ) (o : Option (List Passed)) → path n cell ≡ o → IsSome o → IsNotebook n → w.running ≡ [] → is_queued w cell ≡ true → failed_ancestor n w cell ≡ None → (lane : Lane) × (ready_lane n w ≡ Some lane)
by-path n w cell None e is book rests queued unfailed = absurd (cc is)
by-path n w cell (Some p) e is book rests queued unfailed = some-lane n w cell p book rests queued e unfailed

-- in every state of a legal history: where nothing runs and the cell is queued, some lane may start
pub waiting-starts : (n0 : Parts) (h : List Entry) (cell : ℕ) → IsNotebook n0 → Legal n0 h → (state n0 h).work.running ≡ [] → is_queued (state n0 h).work cell ≡ true → (lane : Lane) × (ready_lane (state n0 h).book (state n0 h).work ≡ Some lane)
waiting-starts n0 h cell is legal rests queued =
    let s : State = state n0 h in
    let orderly : IsOrderly s = orderly-state n0 h is legal in
    let live : IsCodeLive s.book cell = queued-live s.book s.work cell orderly.marks queued in
    by-path s.book s.work cell (path s.book cell) refl (live-path s.book cell orderly.book live) orderly.book rests queued (queued-hope s.book s.work cell (hopeful-state n0 h) queued)
