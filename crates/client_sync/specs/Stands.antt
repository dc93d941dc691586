-- What a client in memory stands for.
use Rattle.std.specs.Prelude.{◌≡◌, ℕ, true, List, [], ◌∷◌, ◌++◌, length, map, Option, Some, None}
use Rattle.std.specs.Option.{option_copied}
use Rattle.std.specs.List.{AllByRecursion}
use Rattle.delta.specs.declared.Step.{Step}
use Rattle.notebook.specs.declared.parts.Cell.{Cell}
use Rattle.notebook.specs.declared.parts.Parts.{Parts}
use Rattle.notebook.specs.Rules.{AreDistinct, IsNotebook}
use Rattle.session_ops.specs.declared.entry.Op.{Op}
use Rattle.session_ops.specs.declared.entry.Op.TheVariants.{Delta}
use Rattle.session_ops.specs.Structure.{is_postable}
use Rattle.session_ops.specs.declared.entry.Entry.{Entry}
use Rattle.session_ops.specs.Deeds.{Deed, Nothing, Edits, Changes, deed}
use Rattle.session_ops.specs.Born.{TouchesMadeCells}
use Rattle.session_ops.specs.State.{reply}
use Rattle.session_ops.specs.Snapshot.{HasRevisions}
use Rattle.client_sync.specs.Client.{Client as Holder, Pending, pending_of, held, delivered}
use Rattle.client_sync.specs.Fits.{HasSource, FitsHere}
use Rattle.client_sync.specs.declared.client.Client.{Client}
use Rattle.client_sync.specs.declared.pending.PendingEdits.{PendingEdits}
use Rattle.client_sync.specs.declared.pending.Unconfirmed.{Unconfirmed}

-- the text that the server had at the client's last delivery, kept beside a cell's unconfirmed edits
abbrev pub HasServerText : Parts → Unconfirmed → Type 0
HasServerText n u = HasSource n u.cell u.server

abbrev pub HaveServerTexts : Parts → List Unconfirmed → Type 0
HaveServerTexts n us = AllByRecursion (HasServerText n) us

-- a cell's unconfirmed edits
abbrev pub pending_in : Unconfirmed → Pending
pending_in u = record { cell = u.cell; flight = u.flight; buffer = u.buffer }

-- an edit that is in flight, with nothing edited since
abbrev pub in_flight : ℕ → List ℕ → List Step → Unconfirmed
in_flight cell server d = record { cell = cell; server = server; flight = d; buffer = [] }

-- the message that posts an edit
abbrev pub edit_message : ℕ → ℕ → List Step → Op
edit_message cell base d = Delta cell base d

-- the cell that pending edits are of
abbrev pub pending_cell : Pending → ℕ
pending_cell p = p.cell

-- these pending edits and messages in memory are this client's
pub record HasEdits (us : List Unconfirmed) (ops : List Op) (m : Holder) : Type 0 where
  pub pending : map pending_in us ≡ m.pending
  pub outbox : ops ≡ m.outbox
  pub apart : AreDistinct (map pending_cell m.pending)

-- the first of some pending edits that is of the cell stands at the place
pub record IsPendingAt (us : List Unconfirmed) (k at : ℕ) : Type 0 where
  pub front : List Unconfirmed
  pub here : Unconfirmed
  pub back : List Unconfirmed
  pub parts : us ≡ front ++ here ∷ back
  pub number : here.cell ≡ k
  pub place : at ≡ length front
  pub first : pending_of k (map pending_in front) ≡ None

-- the client in memory stands for this one: its notebook is what this one holds, its revisions are those at the last delivery, all that is pending fits there, and it keeps the server's text of each cell that has something pending
pub record Mirrors (n0 : Parts) (c : Client) (m : Holder) : Type 0 where
  pub number : c.number ≡ m.number
  pub cursor : c.cursor ≡ length m.seen
  pub book : c.book ≡ held n0 m
  pub revs : HasRevisions (delivered n0 m) c.revs
  pub pending : map pending_in c.pending ≡ m.pending
  pub outbox : c.outbox ≡ m.outbox
  pub nothing : c.nothing ≡ []
  pub apart : AreDistinct (map pending_cell m.pending)
  pub fits : (k : ℕ) (p : Pending) → pending_of k m.pending ≡ Some p → FitsHere (delivered n0 m) k p
  pub texts : HaveServerTexts (delivered n0 m).book c.pending
  pub notebook : IsNotebook (delivered n0 m).book
  pub made : TouchesMadeCells (delivered n0 m)

-- what holds at each opening notebook and client of the definitions for which the one in memory stands
abbrev pub ForEachHolder : Client → (Parts → Holder → Type 0) → Type 0
ForEachHolder c P = (n0 : Parts) (m : Holder) → Mirrors n0 c m → P n0 m

-- an operation that may be posted as it is
abbrev pub IsPostable : Op → Type 0
IsPostable op = is_postable op ≡ true

-- a delta of the client's own that came back is what it has in flight
abbrev pub IsOwnFlight : Holder → Deed → Type 0
IsOwnFlight m Nothing = Unit {0}
IsOwnFlight m (Edits e) = e.client ≡ m.number → (p : Pending) × ((pending_of e.cell m.pending ≡ Some p) × (e.delta ≡ p.flight))
IsOwnFlight m (Changes asked) = Unit {0}

-- the next entry of the history, as the session answered it
pub record IsNextEntry (n0 : Parts) (m : Holder) (e : Entry) : Type 0 where
  pub right : e.reply ≡ reply (delivered n0 m) e.call
  pub own : IsOwnFlight m (deed e.call e.reply)

-- the message at the outbox's front was taken out, if there was one
abbrev pub HasTaken : Parts → Holder → Client → Option Op → Type 0
HasTaken n0 m new None = (m.outbox ≡ []) × Mirrors n0 new m
HasTaken n0 m new (Some op) = (ops : List Op) × ((m.outbox ≡ op ∷ ops) × Mirrors n0 new (record m { outbox = ops }))

-- what is shown of a cell's pending edits: nothing in flight and an empty buffer where there are none
abbrev pub IsViewOf : PendingEdits → Option Pending → Type 0
IsViewOf v None = (v.inflight ≡ None) × (v.buffer.now ≡ [])
IsViewOf v (Some p) = (option_copied v.inflight ≡ Some p.flight) × (v.buffer.now ≡ p.buffer)

-- the same, for a cell that lives, and nothing for a number that no live cell has
abbrev pub IsPendingOf : Option Cell → Option PendingEdits → Option Pending → Type 0
IsPendingOf None None o = Unit {0}
IsPendingOf None (Some v) o = ⊥
IsPendingOf (Some c) None o = ⊥
IsPendingOf (Some c) (Some v) o = IsViewOf v o

-- the number of a client in memory
abbrev pub number_in : Client → ℕ
number_in c = c.number
