-- What a session tells of its cells and lanes.
use Rattle.std.proofs.Common.{◌≡◌, ℕ, ◌==◌, true, false, if◌then◌else◌, List, [], ◌∷◌, map, Option, Some, None, zero, suc, refl, sym, ap, subst, ◌∙◌, arith, eqb-true, eq-eqb}
use Rattle.std.proofs.Common.{get_or}
use Rattle.std.specs.Prelude.{Contains, length, ◌<◌, IsSome}
use Rattle.std.specs.Option.{option_map, option_copied}
use Rattle.std.specs.List.{AllByRecursion}
use Rattle.notebook.specs.declared.parts.Cell.{Cell}
use Rattle.notebook.specs.declared.parts.Parts.{Parts}
use Rattle.notebook.specs.declared.states.Lane.{Lane}
use Rattle.notebook.specs.Book.{cells, found}
use Rattle.notebook.specs.Rules.{AreDistinct}
use Rattle.notebook.specs.Flow.{path}
use Rattle.lanes.specs.declared.work.Work.{Work}
use Rattle.lanes.specs.declared.judge.Row.{Row}
use Rattle.lanes.specs.Rows.{IsRow}
use Rattle.lanes.specs.Work.{ready_lane}
use Rattle.session_ops.specs.Numbers.{is_in, AreOnce}
use Rattle.session_ops.specs.State.{State, revision}
use Rattle.session_ops.specs.Snapshot.{live_revision, revision_if, listed_revision, listed_cell, HasRevisions}
use Rattle.session_ops.proofs.Live.{found-number}
use Rattle.session_ops.proofs.Ready.{waiting-starts}
use Rattle.session_core.specs.declared.logs.CellLog.{CellLog}
use Rattle.session_core.specs.declared.held.Held.{Held}
use Rattle.session_core.specs.Logs.{AreLogs, IsLogIn, log_cell, with_revision}
use Rattle.session_core.specs.Held.{IsHeld, history_of, state_of}
use Rattle.session_core.specs.Session.{IsWaiting, status_of, status_on, validity_of, validity_on, shown_of, shown_if}

-- what a session's notebook and work tell, its state's tell
pub by-state : (P : Parts → Work → Type 0) (n0 : Parts) (s : Held) → IsHeld n0 s → P s.book s.work → P (state_of n0 s).book (state_of n0 s).work
by-state P n0 s is h = subst (λ n. P n (state_of n0 s).work) is.book (subst (P s.book) is.work h)

-- the lane that is ready, where nothing runs and some cell is queued
is-ready : (o : Option Lane) → ((lane : Lane) × (o ≡ Some lane)) → IsSome o
is-ready None h = absurd (cc h.1)
is-ready (Some lane) h = search

pub some-ready : (n0 : Parts) (s : Held) (o : Option Lane) → IsHeld n0 s → o ≡ ready_lane s.book s.work → IsWaiting (state_of n0 s) → IsSome o
some-ready n0 s o is e waits =
    let st : State = state_of n0 s in
    let same : o ≡ ready_lane st.book st.work = by-state (λ n w. o ≡ ready_lane n w) n0 s is e in
    let ready : (lane : Lane) × (ready_lane st.book st.work ≡ Some lane) = waiting-starts n0 (history_of s) waits.cell is.opening is.legal waits.rests waits.queued in
    is-ready o (ready.0, same ∙ ready.1)

-- the revision of a cell
pub revision-absent : (s : State) (cell : ℕ) → found cell (cells s.book) ≡ None → None ≡ live_revision s cell
revision-absent s cell e = sym (ap (revision_if s) e)

pub revision-found : (s : State) (cell rev : ℕ) (l : CellLog) → l.cell ≡ cell → IsLogIn s l → rev ≡ revision s l.cell → Some rev ≡ live_revision s cell
revision-found s cell rev l named h e =
    let there : found cell (cells s.book) ≡ Some h.owner = ap (λ n. found n (cells s.book)) (sym named) ∙ h.is_found in
    let number : h.owner.id ≡ cell = found-number cell (cells s.book) h.owner there in
    ap Some (e ∙ ap (revision s) (named ∙ sym number)) ∙ sym (ap (revision_if s) there)

-- each live cell once, with its revision
listed-none : (s : State) (cell : ℕ) (ns : List ℕ) → is_in cell ns ≡ false → listed_revision cell (map (with_revision s) ns) ≡ None
listed-none s cell [] e = refl
listed-none s cell (n ∷ ns) e =
    elim (n == cell)
    as (λ b. (if b then true else is_in cell ns) ≡ false → (if b then Some (revision s n) else listed_revision cell (map (with_revision s) ns)) ≡ None)
    [ true ↦ λ k. absurd (cc k) | false ↦ λ k. listed-none s cell ns k ]
    e

listed-some : (s : State) (cell : ℕ) (ns : List ℕ) → is_in cell ns ≡ true → listed_revision cell (map (with_revision s) ns) ≡ Some (revision s cell)
listed-some s cell [] e = absurd (cc e)
listed-some s cell (n ∷ ns) e =
    elim (n == cell)
    as (λ b. (n == cell) ≡ b → (if b then true else is_in cell ns) ≡ true → (if b then Some (revision s n) else listed_revision cell (map (with_revision s) ns)) ≡ Some (revision s cell))
    [ true ↦ λ t k. ap (λ m. Some (revision s m)) (eqb-true n cell t) | false ↦ λ t k. listed-some s cell ns k ]
    refl
    e

in-logs : (s : State) (cell : ℕ) (ls : List CellLog) → AllByRecursion (IsLogIn s) ls → is_in cell (map log_cell ls) ≡ true → IsSome (found cell (cells s.book))
in-logs s cell [] h e = absurd (cc e)
in-logs s cell (l ∷ ls) h e =
    elim (l.cell == cell)
    as (λ b. (l.cell == cell) ≡ b → (if b then true else is_in cell (map log_cell ls)) ≡ true → IsSome (found cell (cells s.book)))
    [ true ↦ λ t k. subst (λ n. IsSome (found n (cells s.book))) (eqb-true l.cell cell t) (subst IsSome (sym h.0.is_found) (search)) | false ↦ λ t k. in-logs s cell ls h.1 k ]
    refl
    e

live-of : (s : State) (cell : ℕ) (o : Option Cell) → found cell (cells s.book) ≡ o → IsSome o → revision_if s o ≡ Some (revision s cell)
live-of s cell None e h = absurd (cc h)
live-of s cell (Some c) e h = ap (λ n. Some (revision s n)) (found-number cell (cells s.book) c e)

dead-of : (s : State) (cell : ℕ) (o : Option Cell) → (IsSome o → ⊥) → revision_if s o ≡ None
dead-of s cell None h = refl
dead-of s cell (Some c) h = absurd (h refl)

each-revision : (s : State) (ls : List CellLog) (cell : ℕ) → AreLogs s ls → listed_revision cell (map (with_revision s) (map log_cell ls)) ≡ live_revision s cell
each-revision s ls cell h =
    elim (is_in cell (map log_cell ls))
    as (λ b. is_in cell (map log_cell ls) ≡ b → listed_revision cell (map (with_revision s) (map log_cell ls)) ≡ live_revision s cell) [
      | true ↦ λ t. listed-some s cell (map log_cell ls) t ∙ sym (live-of s cell (found cell (cells s.book)) refl (in-logs s cell ls h.logs t))
      | false ↦ λ t. listed-none s cell (map log_cell ls) t ∙ sym (dead-of s cell (found cell (cells s.book)) (λ l. let live : is_in cell (map log_cell ls) ≡ true = h.live cell l in cc (t, live)))
    ]
    refl

-- numbers that stand once are distinct
contained : (n : ℕ) (ns : List ℕ) (k : ℕ) → k < length ns → get_or ns k n ≡ n → is_in n ns ≡ true
contained n [] k within at = absurd (omega (arith, within))
contained n (m ∷ ns) zero within at = ap (λ b. if b then true else is_in n ns) (eq-eqb m n at)
contained n (m ∷ ns) (suc k) within at = elim (m == n) as (λ b. (if b then true else is_in n ns) ≡ true) [ true ↦ refl | false ↦ contained n ns k (omega (arith, within)) at ]

not-contained : (n : ℕ) (ns : List ℕ) → is_in n ns ≡ false → ¬ Contains ns n
not-contained n ns e = λ k. let there : is_in n ns ≡ true = contained n ns k.0 k.1 k.2 in cc (e, there)

distinct-of : (ns : List ℕ) → AreOnce ns → AreDistinct ns
distinct-of [] h = tt
distinct-of (n ∷ ns) h = (not-contained n ns h.0, distinct-of ns h.1)

cells-of-revisions : (s : State) (ns : List ℕ) → map listed_cell (map (with_revision s) ns) ≡ ns
cells-of-revisions s [] = refl
cells-of-revisions s (n ∷ ns) = ap (λ ms. n ∷ ms) (cells-of-revisions s ns)

pub has-revisions : (s : State) (ls : List CellLog) (revs : List (ℕ × ℕ)) → AreLogs s ls → revs ≡ map (with_revision s) (map log_cell ls) → HasRevisions s revs
has-revisions s ls revs h e = record {
  apart = subst AreDistinct (sym (ap (map listed_cell) e ∙ cells-of-revisions s (map log_cell ls))) (distinct-of (map log_cell ls) h.once);
  each = λ cell. ap (listed_revision cell) e ∙ each-revision s ls cell h;
}

-- rows
pub status-none : (s : State) (cell : ℕ) → path s.book cell ≡ None → None ≡ status_of s cell
status-none s cell e = sym (ap (option_map (status_on s cell)) e)

pub validity-none : (s : State) (cell : ℕ) → path s.book cell ≡ None → None ≡ validity_of s cell
validity-none s cell e = sym (ap (option_map (validity_on s cell)) e)

pub shown-none : (s : State) (cell : ℕ) → path s.book cell ≡ None → None ≡ shown_of s cell
shown-none s cell e = sym (ap (shown_if s cell) e)

pub status-some : (s : State) (cell : ℕ) (r : Row) → IsRow s.book s.work cell r → Some r.status ≡ status_of s cell
status-some s cell r h = ap Some h.status ∙ sym (ap (option_map (status_on s cell)) h.live)

pub validity-some : (s : State) (cell : ℕ) (r : Row) → IsRow s.book s.work cell r → Some r.validity ≡ validity_of s cell
validity-some s cell r h = ap Some h.validity ∙ sym (ap (option_map (validity_on s cell)) h.live)

pub shown-some : (s : State) (cell : ℕ) (r : Row) → IsRow s.book s.work cell r → option_copied r.shown ≡ shown_of s cell
shown-some s cell r h = h.shown ∙ sym (ap (shown_if s cell) h.live)
