-- A client: how far it has received, and what of its own is not yet confirmed.
use Rattle.std.specs.Prelude.{ℕ, ◌==◌, nat_lt, if◌then◌else◌, true, false, List, [], ◌∷◌, ◌++◌, Option, Some, None}
use Rattle.delta.specs.declared.Step.{Step}
use Rattle.delta.specs.Steps.{inserted_by}
use Rattle.delta.specs.Moves.{text_after, transformed, composed}
use Rattle.delta_laws.specs.Misfits.{Misfit, misfit}
use Rattle.limits.specs.Limits.{most_inserted}
use Rattle.notebook.specs.declared.parts.Cell.{Cell}
use Rattle.notebook.specs.declared.parts.Parts.{Parts}
use Rattle.notebook.specs.Book.{cells, found, resourced}
use Rattle.session_ops.specs.declared.entry.Op.{Op}
use Rattle.session_ops.specs.declared.entry.Op.TheVariants.{Delta, Report}
use Rattle.session_ops.specs.declared.entry.Entry.{Entry}
use Rattle.session_ops.specs.Deeds.{Deed, Nothing, Edits, Changes, deed}
use Rattle.session_ops.specs.State.{State, state, revision}
use Rattle.notebook.specs.Living.{gone_cells}

-- a cell with a delta in flight, and what was edited since
pub record Pending : Type 0 where
  pub cell : ℕ
  pub flight : List Step
  pub buffer : List Step

-- the entries that the client has received, whose number is its cursor; its pending edits; the messages that the server hasn't taken yet
pub record Client : Type 0 where
  pub number : ℕ
  pub seen : List Entry
  pub pending : List Pending
  pub outbox : List Op

abbrev pub pending_of : ℕ → List Pending → Option Pending
pending_of cell [] = None
pending_of cell (p ∷ ps) = if p.cell == cell then Some p else pending_of cell ps

-- a text after a buffer, which may be empty and then leaves it
abbrev pub after_buffer : List Step → List ℕ → List ℕ
after_buffer [] t = t
after_buffer (s ∷ b) t = text_after (s ∷ b) t

-- a text with what is in flight and then what is buffered done to it
abbrev pub with_pending : Option Pending → List ℕ → List ℕ
with_pending None t = t
with_pending (Some p) t = after_buffer p.buffer (text_after p.flight t)

abbrev pub own_source : List Pending → Cell → List ℕ
own_source ps c = with_pending (pending_of c.id ps) c.source

-- the server's state as of the client's last delivery
abbrev pub delivered : Parts → Client → State
delivered n0 c = state n0 c.seen

-- the server's notebook as of the client's last delivery, with its own unconfirmed edits done to it
abbrev pub held : Parts → Client → Parts
held n0 c = resourced (own_source c.pending) (delivered n0 c).book

-- what an edit makes of a client, or why it refuses
pub data Edited : Type 0 where
  Done : Client → Edited
  NoCell : Edited
  EditTooLong : Edited
  Unfit : Misfit → Edited

abbrev pub buffered : ℕ → List Step → List Pending → List Pending
buffered cell d [] = []
buffered cell d (p ∷ ps) = (if p.cell == cell then record p { buffer = composed p.buffer d } else p) ∷ buffered cell d ps

-- with nothing in flight the edit is posted with the cell's revision; else it goes into the buffer
abbrev pub with_edit : Client → ℕ → ℕ → List Step → Option Pending → Client
with_edit c cell rev d None = record c { pending = c.pending ++ record { cell = cell; flight = d; buffer = [] } ∷ []; outbox = c.outbox ++ Delta cell rev d ∷ [] }
with_edit c cell rev d (Some p) = record c { pending = buffered cell d c.pending }

-- an edit that may be too long or unfit for the client's own text; an empty one does nothing
abbrev pub with_fitting : Client → ℕ → ℕ → List Step → Option Misfit → Edited
with_fitting c cell rev [] None = Done c
with_fitting c cell rev (s ∷ d) None = Done (with_edit c cell rev (s ∷ d) (pending_of cell c.pending))
with_fitting c cell rev d (Some why) = Unfit why

abbrev pub edited_cell : Client → ℕ → ℕ → List Step → Option Cell → Edited
edited_cell c cell rev d None = NoCell
edited_cell c cell rev d (Some own) = if nat_lt most_inserted (inserted_by d) then EditTooLong else with_fitting c cell rev d (misfit d own.source)

-- an edit, judged by the client's own text
abbrev pub edited : Parts → Client → ℕ → List Step → Edited
edited n0 c cell d = edited_cell c cell (revision (delivered n0 c) cell) d (found cell (cells (held n0 c)))

-- one more message at the outbox's end
abbrev pub with_message : Client → Op → Client
with_message c op = record c { outbox = c.outbox ++ op ∷ [] }

abbrev pub without : ℕ → List Pending → List Pending
without cell [] = []
without cell (p ∷ ps) = if p.cell == cell then without cell ps else p ∷ without cell ps

-- what was buffered is posted, unless it is empty
abbrev pub reposted : Client → ℕ → ℕ → List Step → Client
reposted c cell rev [] = record c { pending = without cell c.pending }
reposted c cell rev (s ∷ b) =
    record c { pending = without cell c.pending ++ record { cell = cell; flight = s ∷ b; buffer = [] } ∷ []; outbox = c.outbox ++ Delta cell rev (s ∷ b) ∷ [] }

-- the client's own delta came back
abbrev pub with_own : Client → ℕ → ℕ → Option Pending → Client
with_own c cell rev None = c
with_own c cell rev (Some p) = reposted c cell rev p.buffer

-- another's delta moves what is pending for its cell, and goes first in every tie
abbrev pub moved : ℕ → List Step → Pending → Pending
moved cell x p =
    if p.cell == cell
    then record p { flight = transformed false x p.flight; buffer = transformed false (transformed true p.flight x) p.buffer }
    else p

abbrev pub all_moved : ℕ → List Step → List Pending → List Pending
all_moved cell x [] = []
all_moved cell x (p ∷ ps) = moved cell x p ∷ all_moved cell x ps

-- a client's report of a cell's revision at its last delivery; nothing where it has no such cell
abbrev pub with_report : Client → ℕ → ℕ → Option Cell → Option Client
with_report c cell rev None = None
with_report c cell rev (Some own) = Some (with_message c (Report cell rev))

abbrev pub reported : Parts → Client → ℕ → Option Client
reported n0 c cell = with_report c cell (revision (delivered n0 c) cell) (found cell (cells (held n0 c)))

-- without what is pending for these cells
abbrev pub without_cells : List Cell → List Pending → List Pending
without_cells [] ps = ps
without_cells (own ∷ cs) ps = without_cells cs (without own.id ps)

-- what an entry makes of the pending edits and the outbox, where this was the notebook before
abbrev pub with_deed : Parts → Client → Deed → Client
with_deed n c Nothing = c
with_deed n c (Edits e) =
    if e.client == c.number then with_own c e.cell e.rev (pending_of e.cell c.pending) else record c { pending = all_moved e.cell e.delta c.pending }
with_deed n c (Changes asked) = record c { pending = without_cells (gone_cells n asked) c.pending }

-- the client after the next entry of the history that the notebook opened
abbrev pub received_entry : Parts → Client → Entry → Client
received_entry n0 c e = with_deed (delivered n0 c).book (record c { seen = c.seen ++ e ∷ [] }) (deed e.call e.reply)

abbrev pub received : Parts → Client → List Entry → Client
received n0 c [] = c
received n0 c (e ∷ es) = received n0 (received_entry n0 c e) es

-- a client that joined with these entries
abbrev pub joined_client : ℕ → List Entry → Client
joined_client n seen = record { number = n; seen = seen; pending = []; outbox = [] }

-- the clients without the one of a number
abbrev pub without_client : ℕ → List Client → List Client
without_client n [] = []
without_client n (c ∷ cs) = if c.number == n then without_client n cs else c ∷ without_client n cs

-- the client of a number, and a client put in the place of the one of its number
abbrev pub client_of : ℕ → List Client → Option Client
client_of n [] = None
client_of n (c ∷ cs) = if c.number == n then Some c else client_of n cs

abbrev pub put_client : Client → List Client → List Client
put_client c [] = []
put_client c (d ∷ ds) = (if d.number == c.number then c else d) ∷ put_client c ds
