-- A session and its clients, and what each event makes of them.
use Rattle.std.specs.Prelude.{ℕ, if◌then◌else◌, List, [], ◌∷◌, ◌++◌, length, drop, Option, Some, None}
use Rattle.notebook.specs.declared.parts.Parts.{Parts}
use Rattle.session_ops.specs.declared.entry.Op.{Op}
use Rattle.session_ops.specs.declared.entry.Op.TheVariants.{Join as Joins, Leave as Leaves}
use Rattle.session_ops.specs.declared.entry.Call.{Call}
use Rattle.session_ops.specs.declared.entry.Call.TheVariants.{Client as ByClient}
use Rattle.session_ops.specs.declared.entry.Reply.{Reply}
use Rattle.session_ops.specs.declared.entry.Reply.TheVariants.{Accepted}
use Rattle.session_ops.specs.declared.entry.Entry.{Entry}
use Rattle.session_ops.specs.State.{state, reply}
use Rattle.client_sync.specs.Client.{Client, Edited, Done, NoCell, EditTooLong, Unfit, edited, reported, received_entry, joined_client, with_message, client_of, put_client, without_client}
use Rattle.session_ops.specs.Structure.{is_postable}
use Rattle.world.specs.declared.event.Event.{Event}
use Rattle.world.specs.declared.event.Event.TheVariants.{Join, Leave, Edit, Post, Report, Take, Receive, RawJoin, Raw}

-- the notebook with which the session opened, its history, and the clients in the order of their joining
pub record World : Type 0 where
  pub opening : Parts
  pub history : List Entry
  pub clients : List Client

-- nothing has happened yet
abbrev pub first_world : Parts → World
first_world n0 = record { opening = n0; history = []; clients = [] }

-- a call as the next entry, with the answer that the session gives to it
abbrev pub next_entry : World → Call → Entry
next_entry w call = record { by = 0; call = call; reply = reply (state w.opening w.history) call }

abbrev pub called : World → Call → World
called w call = record w { history = w.history ++ next_entry w call ∷ [] }

-- the client in the place of the one of its number
abbrev pub with_client : World → Client → World
with_client w c = record w { clients = put_client c w.clients }

-- a number that the session has accepted holds a client from then on, which has received all up to and with its joining
abbrev pub with_joined : World → ℕ → Reply → World
with_joined w n Accepted = record w { clients = w.clients ++ joined_client n w.history ∷ [] }
with_joined w n answer = w

-- the number's client is gone, with its outbox
abbrev pub once_gone : ℕ → World → World
once_gone n w = record w { clients = without_client n w.clients }

-- an edit that the client refuses changes nothing
abbrev pub with_edited : World → Edited → World
with_edited w (Done c) = with_client w c
with_edited w NoCell = w
with_edited w EditTooLong = w
with_edited w (Unfit why) = w

-- joins, leaves, deltas and reports can't be posted as they are
abbrev pub posted : World → Client → Op → World
posted w c op = if is_postable op then with_client w (with_message c op) else w

-- a report of a cell that the client doesn't hold changes nothing
abbrev pub with_reported : World → Option Client → World
with_reported w None = w
with_reported w (Some c) = with_client w c

-- the message at the outbox's front is called and leaves the outbox; nothing happens where it is empty
abbrev pub taken : World → Client → List Op → World
taken w c [] = w
taken w c (op ∷ ops) = with_client (called w (ByClient c.number op)) (record c { outbox = ops })

-- the next of the entries that the client has not received; nothing happens where it has received all
abbrev pub delivered_next : World → Client → List Entry → World
delivered_next w c [] = w
delivered_next w c (e ∷ es) = with_client w (received_entry w.opening c e)

-- what a client of the number does, if the number holds one
abbrev pub if_held : World → Option Client → (Client → World) → World
if_held w None act = w
if_held w (Some c) act = act c

-- a call of a number that holds no client; nothing happens where it holds one
abbrev pub raw : World → ℕ → Op → Option Client → World
raw w n op None = called w (ByClient n op)
raw w n op (Some c) = w

-- what an event makes of a world
abbrev pub happens : World → Event → World
happens w (Join n) = with_joined (called w (ByClient n Joins)) n (reply (state w.opening w.history) (ByClient n Joins))
happens w (Leave n) = once_gone n (called w (ByClient n Leaves))
happens w (Edit n cell d) = if_held w (client_of n w.clients) (λ c. with_edited w (edited w.opening c cell d))
happens w (Post n op) = if_held w (client_of n w.clients) (λ c. posted w c op)
happens w (Report n cell) = if_held w (client_of n w.clients) (λ c. with_reported w (reported w.opening c cell))
happens w (Take n) = if_held w (client_of n w.clients) (λ c. taken w c c.outbox)
happens w (Receive n) = if_held w (client_of n w.clients) (λ c. delivered_next w c (drop (length c.seen) w.history))
happens w (RawJoin n) = called w (ByClient n Joins)
happens w (Raw n op) = raw w n op (client_of n w.clients)

-- what a list of events makes of a world, one after the other
abbrev pub after_events : World → List Event → World
after_events w [] = w
after_events w (e ∷ es) = after_events (happens w e) es

-- what a list of events makes of a session that opens with a notebook
abbrev pub run : Parts → List Event → World
run n0 es = after_events (first_world n0) es
