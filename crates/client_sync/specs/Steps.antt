-- What the steps of a client's calls leave in memory.
use Rattle.std.specs.Prelude.{◌≡◌, ◌+◌, ℕ, false, true, List, [], ◌∷◌, ◌++◌, length, map, Some, None}
use Rattle.delta.specs.declared.Step.{Step}
use Rattle.delta.specs.Moves.{transformed}
use Rattle.notebook.specs.declared.change.Change.{Change}
use Rattle.notebook.specs.declared.change.Changed.{Changed}
use Rattle.notebook.specs.declared.parts.Cell.{Cell}
use Rattle.notebook.specs.declared.parts.Parts.{Parts}
use Rattle.notebook.specs.Book.{cells, found}
use Rattle.notebook.specs.Change.{Makes, change}
use Rattle.notebook.specs.Living.{gone_cells}
use Rattle.notebook.specs.Rules.{cell_number}
use Rattle.session_ops.specs.declared.entry.Entry.{Entry}
use Rattle.client_sync.specs.Client.{Client as Holder, Pending, pending_of, received_entry, with_own}
use Rattle.client_sync.specs.Fits.{HasSource}
use Rattle.client_sync.specs.Going.{HasChanged, without_numbers}
use Rattle.client_sync.specs.Revisions.{raised, with_made}
use Rattle.client_sync.specs.Stands.{HasEdits, HaveServerTexts, Mirrors, edit_message, in_flight, pending_in}
use Rattle.client_sync.specs.declared.client.Client.{Client}
use Rattle.client_sync.specs.declared.pending.Unconfirmed.{Unconfirmed}

-- the pending edits and messages of a client in memory are this one's
abbrev pub HoldsEdits : Client → Holder → Type 0
HoldsEdits c m = HasEdits c.pending c.outbox m

-- the same, for each whose they are
abbrev pub ForItsEdits : Client → (Holder → Type 0) → Type 0
ForItsEdits c P = (m : Holder) → HoldsEdits c m → P m

-- the server's texts that it keeps are this notebook's
abbrev pub KeepsTexts : Parts → Client → Type 0
KeepsTexts n c = HaveServerTexts n c.pending

-- its own live cell of a number
abbrev pub HasCell : Client → ℕ → Cell → Type 0
HasCell c cell own = found cell (cells c.book) ≡ Some own

-- where nothing is pending for a cell, this is the server's source of it
abbrev pub IsServersIfQuiet : Parts → Client → ℕ → List ℕ → Type 0
IsServersIfQuiet n c cell source = pending_of cell (map pending_in c.pending) ≡ None → HasSource n cell source

-- nothing but the pending edits and the messages changed
abbrev pub ChangesEditsAlone : Client → Client → Type 0
ChangesEditsAlone c c' = c' ≡ record c { pending = c'.pending; outbox = c'.outbox }

-- the same, with a cell's revision raised
abbrev pub HasRaised : Client → Client → ℕ → ℕ → Type 0
HasRaised c c' cell rev = c' ≡ record c { revs = raised cell rev c.revs; pending = c'.pending; outbox = c'.outbox }

-- an edit is in flight over this text of the server's, and its message at the outbox's end
abbrev pub HasPosted : Client → Client → ℕ → ℕ → List ℕ → List Step → Type 0
HasPosted c c' cell base server d = c' ≡ record c { pending = c.pending ++ in_flight cell server d ∷ []; outbox = c.outbox ++ edit_message cell base d ∷ [] }

-- what holds of the pending edits at a place, and of those before and behind them
abbrev pub AtPlace : List Unconfirmed → ℕ → (List Unconfirmed → Unconfirmed → List Unconfirmed → Type 0) → Type 0
AtPlace us at P = (front back : List Unconfirmed) (here : Unconfirmed) → us ≡ front ++ here ∷ back → at ≡ length front → P front here back

-- pending edits that were moved over another's delta, with this text of the server's
abbrev pub moved_over : List Step → List ℕ → Unconfirmed → Unconfirmed
moved_over x server u = record u { server = server; flight = transformed false x u.flight; buffer = transformed false (transformed true u.flight x) u.buffer }

-- the client once its own delta of a cell came back
abbrev pub acknowledged : Holder → ℕ → ℕ → Holder
acknowledged m cell rev = with_own m cell rev (pending_of cell m.pending)

-- the client in memory has taken in an entry, but for the cursor
abbrev pub HasTakenIn : Parts → Client → Holder → Entry → Type 0
HasTakenIn n0 c m e = Mirrors n0 (record c { cursor = length m.seen + 1 }) (received_entry n0 m e)

-- the client in memory has the change made, with these edits pending before: those of the cells that it takes away went
abbrev pub HasTakenChange : Parts → Parts → Client → Client → List Pending → Change → Changed → Type 0
HasTakenChange n n' c c' ps asked made =
    let gone : List ℕ = map cell_number (gone_cells n asked) in
    HasChanged n n' c c' (without_numbers gone ps) gone made

-- a change was made of the client's own notebook, and the list of revisions follows
abbrev pub HasMade : Client → Client → Change → Type 0
HasMade c c' asked = (n' : Parts) × ((made : Changed) × ((change c.book asked ≡ Makes n' made) × (c' ≡ record c { book = n'; revs = with_made made c.revs })))
