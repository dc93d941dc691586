-- The clients in memory, and what they stand for.
use Rattle.std.specs.Prelude.{◌≡◌, ◌<◌, ℕ, ◌+◌, ◌==◌, if◌then◌else◌, List, [], ◌∷◌, length, take, remove, get_or, slice_set, Option, Some, None, Bool, not, map, IfOk, OnOk, Result}
use Rattle.notebook.specs.declared.parts.Parts.{Parts}
use Rattle.notebook.specs.Rules.{IsNotebook}
use Rattle.session_ops.specs.declared.entry.Entry.{Entry}
use Rattle.session_ops.specs.State.{Legal}
use Rattle.client_sync.specs.Client.{Client as Holder, received, client_of, put_client, without_client}
use Rattle.client_sync.specs.Stands.{Mirrors}
use Rattle.client_sync.specs.declared.client.Client.{Client}
use Rattle.driver.specs.Player.{Game, receive_all, unseen}
use Rattle.std.specs.List.{AllByRecursion}
use Rattle.world.specs.Claims.{number_of}
pub use Rattle.world.specs.Plays.{AreMirrors, later, place_in}
use Rattle.world.specs.Sound.{AreApart}
use Rattle.world.specs.Waiting.{IsHonest}

-- the client of the number stands at the place; another may be put there in its stead, and it may be taken out
pub record IsAt (n0 : Parts) (xs : List Client) (cs : List Holder) (n at : ℕ) : Type 0 where
  pub own : Holder
  pub there : client_of n cs ≡ Some own
  pub number : own.number ≡ n
  pub inside : at < length xs
  pub mirrors : (x : Client) → x ≡ get_or xs at x → Mirrors n0 x own
  pub kept : (x : Client) → Mirrors n0 x own → AreMirrors n0 (slice_set xs at x) cs
  pub replaced : (x : Client) (c : Holder) → c.number ≡ n → Mirrors n0 x c → AreMirrors n0 (slice_set xs at x) (put_client c cs)
  pub removed : AreMirrors n0 (remove xs at) (without_client n cs)

-- the place of the client of the number, if the number holds one
abbrev pub IsPlace : Parts → List Client → List Holder → ℕ → Option ℕ → Type 0
IsPlace n0 xs cs n None = client_of n cs ≡ None
IsPlace n0 xs cs n (Some at) = IsAt n0 xs cs n at

-- the client has received so many of the entries past its cursor
abbrev pub HasReceived : Parts → List Entry → ℕ → Holder → Client → Type 0
HasReceived n0 h many m x = Mirrors n0 x (received n0 m (take many (unseen m h)))

-- a legal history over a notebook that keeps its rules
pub record IsLawful (n0 : Parts) (h : List Entry) : Type 0 where
  pub notebook : IsNotebook n0
  pub legal : Legal n0 h

-- a number's client is taken out, whatever the clients stand for
abbrev pub TakesOut : ℕ → List Client → List Client → Type 0
TakesOut number old new = (n0 : Parts) (cs : List Holder) → AreMirrors n0 old cs → AreApart (map number_of cs) → AreMirrors n0 new (without_client number cs)

-- whatever lawful history and whatever client of it this is, it receives so many entries, or the next with word whether there was one
abbrev pub Delivers : {T E : Type 0} → Result T E → ℕ → List Entry → Client → Client → Type 0
Delivers result many h old new = (n0 : Parts) (m : Holder) → IsLawful n0 h → IsHonest n0 h m → Mirrors n0 old m → OnOk result (HasReceived n0 h many m new)

abbrev pub DeliversNext : {E : Type 0} → Result Bool E → List Entry → Client → Client → Type 0
DeliversNext result h old new =
    (n0 : Parts) (m : Holder) → IsLawful n0 h → IsHonest n0 h m → Mirrors n0 old m → IfOk result (λ more. HasReceived n0 h 1 m new × (more ≡ not (length (unseen m h) == 0)))

-- and each of some clients all entries
abbrev pub DeliversAll : {T E : Type 0} → Result T E → List Entry → List Client → List Client → Type 0
DeliversAll result h old new =
    (g : Game) (cs : List Holder) → IsLawful g.opening h → AllByRecursion (IsHonest g.opening h) cs → AreMirrors g.opening old cs → OnOk result (AreMirrors g.opening new (receive_all g h cs))
