-- What holds in a world, whatever has happened.
use Rattle.std.specs.Prelude.{◌≡◌, ◌≢◌, ℕ, true, List, [], ◌++◌, length, take, Some}
use Rattle.std.specs.List.{AllByRecursion}
use Rattle.lanes.specs.declared.work.Finished.{Finished}
use Rattle.lanes.specs.Work.{last_finished, is_evaluated}
use Rattle.session_ops.specs.declared.entry.Op.{Op}
use Rattle.session_ops.specs.declared.entry.Call.TheVariants.{Client as ByClient}
use Rattle.session_ops.specs.declared.entry.Refusal.TheVariants.{NotJoined}
use Rattle.session_ops.specs.declared.entry.Reply.TheVariants.{Refused}
use Rattle.session_ops.specs.declared.entry.Entry.{Entry}
use Rattle.notebook.specs.declared.parts.Parts.{Parts}
use Rattle.notebook.specs.declared.parts.Passed.{Passed}
use Rattle.notebook.specs.Flow.{path}
use Rattle.notebook.specs.Rules.{IsNotebook}
use Rattle.session_ops.specs.Numbers.{is_in}
use Rattle.session_ops.specs.State.{State, Legal, state, reply, ShowsAlong}
use Rattle.client_sync.specs.Client.{Client, client_of, held}
use Rattle.world.specs.World.{World}

abbrev pub number_of : Client → ℕ
number_of c = c.number

-- a client has received a front of the history
abbrev pub IsBehind : List Entry → Client → Type 0
IsBehind h c = (later : List Entry) × (h ≡ c.seen ++ later)

-- the entry stands under the number 0
abbrev pub IsUnderZero : Entry → Type 0
IsUnderZero e = e.by ≡ 0

-- all of the history stands under 0
abbrev pub IsOfOneSeat : World → Type 0
IsOfOneSeat w = AllByRecursion IsUnderZero w.history

-- the session has a client's number among those that joined
abbrev pub HasJoined : Parts → List Entry → Client → Type 0
HasJoined n0 h c = is_in c.number (state n0 h).joined ≡ true

-- the session opened with a notebook that keeps the rules, the history is legal, the number of each client has joined, and each client has received a front of the history
pub record IsWhole (w : World) : Type 0 where
  pub notebook : IsNotebook w.opening
  pub legal : Legal w.opening w.history
  pub joined : AllByRecursion (HasJoined w.opening w.history) w.clients
  pub behind : AllByRecursion (IsBehind w.history) w.clients

-- no message of a client is answered as a stranger's
abbrev pub AreHeard : World → Type 0
AreHeard w = (n : ℕ) (c : Client) (op : Op) → client_of n w.clients ≡ Some c → reply (state w.opening w.history) (ByClient c.number op) ≢ Refused NotJoined

-- a client of the world whose cursor is the history's length, and which has nothing pending, holds the server's notebook
abbrev pub DoAgree : World → Type 0
DoAgree w = (n : ℕ) (c : Client) → client_of n w.clients ≡ Some c → length c.seen ≡ length w.history → c.pending ≡ [] → held w.opening c ≡ (state w.opening w.history).book

-- each cell that is evaluated shows what one thread gives along the path that it then has
abbrev pub AllShow : State → Type 0
AllShow s = (cell : ℕ) (present : List Passed) (f : Finished) → path s.book cell ≡ Some present → last_finished s.work cell ≡ Some f → is_evaluated s.book s.work cell ≡ true → ShowsAlong present f.shown

-- so it is after each front of a history
abbrev pub FrontsShow : Parts → List Entry → Type 0
FrontsShow n0 h = (k : ℕ) → AllShow (state n0 (take k h))
