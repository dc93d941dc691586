-- A world in memory stands for a session and its clients.
use Rattle.std.specs.Prelude.{◌≡◌, ◌≤◌, ℕ, ◌+◌, ◌==◌, if◌then◌else◌, List, [], ◌∷◌, ◌++◌, drop, length, take, Option, Some, None, OnOk, Result}
use Rattle.delta.specs.declared.Step.{Step}
use Rattle.notebook.specs.declared.parts.Parts.{Parts}
use Rattle.session_ops.specs.declared.entry.Entry.{Entry}
use Rattle.client_sync.specs.Client.{Client as Holder, Edited, Done, NoCell, EditTooLong, Unfit, client_of, edited, held, joined_client, received_entry, reported}
use Rattle.client_sync.specs.declared.client.Client.{Client}
use Rattle.client_sync.specs.Stands.{Mirrors, IsNextEntry}
use Rattle.session_core.specs.Session.{IsSession, history_of}
use Rattle.world.specs.declared.event.Event.{Event}
use Rattle.world.specs.World.{World as Course, happens}
use Rattle.world.specs.Sound.{IsSound}
use Rattle.world.specs.Claims.{IsWhole, DoAgree, AreHeard, FrontsShow}
use Rattle.world.specs.Messages.{AreAnsweredFairly}
use Rattle.world.specs.Waiting.{AreHonest, AreFair}
use Rattle.world.specs.declared.world.World.{World}

-- the clients in memory stand for these, one by one in the same order
abbrev pub AreMirrors : Parts → List Client → List Holder → Type 0
AreMirrors n0 [] [] = Unit {0}
AreMirrors n0 [] (m ∷ ms) = ⊥
AreMirrors n0 (c ∷ cs) [] = ⊥
AreMirrors n0 (c ∷ cs) (m ∷ ms) = Mirrors n0 c m × AreMirrors n0 cs ms

-- the session in memory has this history over this opening notebook, and its clients are these
pub record Plays (w : Course) (x : World) : Type 0 where
  pub session : IsSession w.opening x.session
  pub history : history_of x.session ≡ w.history
  pub clients : AreMirrors w.opening x.clients.items w.clients

-- a client in memory stands for the client that a number holds; there is none where it holds none
abbrev pub IsHeldBy : Parts → Option Holder → Option Client → Type 0
IsHeldBy n0 None None = Unit {0}
IsHeldBy n0 None (Some c) = ⊥
IsHeldBy n0 (Some m) None = ⊥
IsHeldBy n0 (Some m) (Some c) = Mirrors n0 c m

-- the first client of a number, at its place
pub record IsHolderAt (n : ℕ) (ms : List Holder) (at : ℕ) : Type 0 where
  pub front : List Holder
  pub here : Holder
  pub back : List Holder
  pub parts : ms ≡ front ++ here ∷ back
  pub place : at ≡ length front
  pub number : here.number ≡ n
  pub first : client_of n front ≡ None

-- the place of a number's client, if the number holds one
abbrev pub IsPlaceOf : ℕ → List Holder → Option ℕ → Type 0
IsPlaceOf n ms None = client_of n ms ≡ None
IsPlaceOf n ms (Some at) = IsHolderAt n ms at

-- the same by its number alone: a place counted from so many before, and the first place of a number among some
abbrev pub later : ℕ → Option ℕ → Option ℕ
later n None = None
later n (Some at) = Some (n + at)

abbrev pub place_in : ℕ → List ℕ → Option ℕ
place_in n [] = None
place_in n (m ∷ ms) = if m == n then Some 0 else later 1 (place_in n ms)

-- whatever clients these stand for, the place is that of the number's
abbrev pub PlacesAmong : List Client → ℕ → Option ℕ → Type 0
PlacesAmong clients n place = (n0 : Parts) (ms : List Holder) → AreMirrors n0 clients ms → IsPlaceOf n ms place

-- the client that an edit leaves; a refused edit leaves it as it was
abbrev pub edited_or_same : Holder → Edited → Holder
edited_or_same m (Done d) = d
edited_or_same m NoCell = m
edited_or_same m EditTooLong = m
edited_or_same m (Unfit why) = m

-- the client that a report leaves; one of a cell that it doesn't hold leaves it as it was
abbrev pub reported_or_same : Holder → Option Holder → Holder
reported_or_same m None = m
reported_or_same m (Some d) = d

-- the client after the first of the entries that it has not received, if there is one
abbrev pub received_first : Parts → Holder → List Entry → Holder
received_first n0 m [] = m
received_first n0 m (e ∷ es) = received_entry n0 m e

-- whatever course the world plays, where it succeeds it plays the one that goes on with this event, or with this call
abbrev pub GoesOn : {T E : Type 0} → Result T E → Event → World → World → Type 0
GoesOn result e old new = (w : Course) → Plays w old → OnOk result (Plays (happens w e) new)

abbrev pub GoesOnSound : {T E : Type 0} → Result T E → Event → World → World → Type 0
GoesOnSound result e old new = (w : Course) → IsSound w → Plays w old → OnOk result (Plays (happens w e) new)

-- it holds the number's client, or none
abbrev pub Holds : ℕ → World → Option Client → Type 0
Holds n x answer = (w : Course) → Plays w x → IsHeldBy w.opening (client_of n w.clients) answer

-- and where a client that has just joined is put at the end
abbrev pub with_newest : ℕ → Course → Course
with_newest n w = record w { clients = w.clients ++ joined_client n w.history ∷ [] }

-- whatever the client stands for, where it succeeds it stands for what its own edit, or report, leaves
abbrev pub EditsOwn : {T E : Type 0} → Result T E → ℕ → List Step → Client → Client → Type 0
EditsOwn result cell d old new = (n0 : Parts) (m : Holder) → Mirrors n0 old m → OnOk result (Mirrors n0 new (edited_or_same m (edited n0 m cell d)))

abbrev pub ReportsOwn : {T E : Type 0} → Result T E → ℕ → Client → Client → Type 0
ReportsOwn result cell old new = (n0 : Parts) (m : Holder) → Mirrors n0 old m → OnOk result (Mirrors n0 new (reported_or_same m (reported n0 m cell)))

-- the first of the entries that it has not received, if there is one, is a next entry for it
abbrev pub IsNextOf : Parts → List Entry → Holder → Type 0
IsNextOf n0 h m = (e : Entry) (es : List Entry) → drop (length m.seen) h ≡ e ∷ es → IsNextEntry n0 m e

-- and it receives that entry
abbrev pub ReceivesNext : {T E : Type 0} → Result T E → List Entry → Client → Client → Type 0
ReceivesNext result h old new = (n0 : Parts) (m : Holder) → Mirrors n0 old m → IsNextOf n0 h m → OnOk result (Mirrors n0 new (received_first n0 m (drop (length m.seen) h)))

-- a client in memory has received the history up to its cursor, and holds what that makes of the opening notebook with its own pending edits done to it
pub record HoldsFront (n0 : Parts) (h : List Entry) (c : Client) (m : Holder) : Type 0 where
  pub cursor : c.cursor ≤ length h
  pub seen : m.seen ≡ take c.cursor h
  pub book : c.book ≡ held n0 m

-- each of them, one by one in the same order
abbrev pub DoHold : Parts → List Entry → List Client → List Holder → Type 0
DoHold n0 h [] [] = Unit {0}
DoHold n0 h [] (m ∷ ms) = ⊥
DoHold n0 h (c ∷ cs) [] = ⊥
DoHold n0 h (c ∷ cs) (m ∷ ms) = HoldsFront n0 h c m × DoHold n0 h cs ms

-- what a run leaves: the course in memory, a legal history, clients that hold what they have received, that agree with the server once they have received all, and whose messages are never refused as a stranger's or for their delta, neither those that were taken nor those that are next; and after each front of the history evaluated cells show what one thread gives
pub record IsRun (book : Parts) (es : List Event) (w : Course) (x : World) : Type 0 where
  pub opening : w.opening ≡ book
  pub plays : Plays w x
  pub whole : IsWhole w
  pub hold : DoHold w.opening w.history x.clients.items w.clients
  pub agree : DoAgree w
  pub honest : AreHonest w
  pub messages : AreAnsweredFairly book es
  pub fair : AreFair w
  pub heard : AreHeard w
  pub shown : FrontsShow w.opening w.history
