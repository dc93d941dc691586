-- What a call of the player promises where it succeeds, at each stage where the player stands.
use Rattle.std.specs.declared.alloc.Global.{Global}
use Rattle.std.specs.Prelude.{◌≡◌, ℕ, List, [], ◌∷◌, ◌++◌, not, ◌==◌, length, Option, OnOk, IfOk, Result, String, string_bytes}
use Rattle.delta.specs.declared.Step.{Step}
use Rattle.notebook.specs.declared.parts.Parts.{Parts}
use Rattle.script.specs.declared.line.Count.{Count}
use Rattle.script.specs.declared.line.ScriptLine.{ScriptLine}
use Rattle.session_ops.specs.declared.entry.Call.{Call}
use Rattle.session_ops.specs.declared.entry.Entry.{Entry}
use Rattle.session_ops.specs.declared.entry.Op.{Op}
use Rattle.session_core.specs.Session.{IsSession}
use Rattle.client_sync.specs.Client.{Client as Holder, with_message}
use Rattle.client_sync.specs.Stands.{Mirrors}
use Rattle.client_sync.specs.declared.client.Client.{Client}
use Rattle.world.specs.Waiting.{IsHonest}
use Rattle.driver.specs.Clients.{IsLawful}
use Rattle.driver.specs.Player.{Game, Stage, name_of}
use Rattle.driver.specs.Standing.{Stands, HasAsked, HasDone, HasEdited, HasPlayed, HasPosted, HasReceivedSome, HasReported, HasRound, entries_of}
use Rattle.driver.specs.declared.player.Player.{Player}

-- a script over a notebook, with these names
abbrev pub game : Parts → List (List ℕ) → Game
game n0 names = record { opening = n0; names = names }

-- it plays the line
abbrev pub Plays : {T E : Type 0} → Result T E → ScriptLine → Player → Player → String Global → String Global → Type 0
Plays result line old new out out' = (g : Game) (s : Stage) → Stands g old s → OnOk result (HasPlayed g line old new s (string_bytes out) (string_bytes out'))

-- it plays the line of a client, which has this name
abbrev pub PlaysFor : {T E : Type 0} → Result T E → List ℕ → ℕ → ScriptLine → Player → Player → String Global → String Global → Type 0
PlaysFor result name client line old new out out' =
    (g : Game) (s : Stage) → name ≡ name_of g client → Stands g old s → OnOk result (HasPlayed g line old new s (string_bytes out) (string_bytes out'))

-- it does this for a client, which has this name
abbrev pub DoesFor : {T E : Type 0} → Result T E → List ℕ → ℕ → (Game → Stage → Option Stage) → Player → Player → String Global → String Global → Type 0
DoesFor result name client act old new out out' =
    (g : Game) (s : Stage) → name ≡ name_of g client → Stands g old s → OnOk result (HasDone g (act g) old new s (string_bytes out) (string_bytes out'))

-- the same in a game with these names
abbrev pub PlaysIn : {T E : Type 0} → Result T E → List (List ℕ) → ScriptLine → Player → Player → String Global → String Global → Type 0
PlaysIn result names line old new out out' =
    (n0 : Parts) (s : Stage) → Stands (game n0 names) old s → OnOk result (HasPlayed (game n0 names) line old new s (string_bytes out) (string_bytes out'))

abbrev pub DoesIn : {T E : Type 0} → Result T E → List (List ℕ) → (Game → Stage → Option Stage) → Player → Player → String Global → String Global → Type 0
DoesIn result names act old new out out' =
    (n0 : Parts) (s : Stage) → Stands (game n0 names) old s → OnOk result (HasDone (game n0 names) (act (game n0 names)) old new s (string_bytes out) (string_bytes out'))

-- what it prints of a line, in a game with these names
abbrev pub PrintsIn : List (List ℕ) → ScriptLine → Player → Player → String Global → Parts → Stage → Type 0
PrintsIn names line old new piece n0 s = HasPlayed (game n0 names) line old new s [] (string_bytes piece)

-- it asks for a client, and prints the answer
abbrev pub AsksFor : {T E : Type 0} → Result T E → Call → List ℕ → Player → Player → String Global → String Global → Type 0
AsksFor result call name old new out out' = (n0 : Parts) → IsSession n0 old.session → OnOk result (HasAsked n0 call name old new (string_bytes out) (string_bytes out'))

-- a client edits its own notebook, posts an operation, or posts a report
abbrev pub EditsOwn : {T E : Type 0} → Result T E → List ℕ → ℕ → List Step → Client → Client → String Global → String Global → Type 0
EditsOwn result name cell d old new out out' = (n0 : Parts) (m : Holder) → Mirrors n0 old m → OnOk result (HasEdited n0 name cell d new m (string_bytes out) (string_bytes out'))

abbrev pub PostsOwn : {T E : Type 0} → Result T E → List ℕ → Op → Client → Client → String Global → String Global → Type 0
PostsOwn result name op old new out out' = (n0 : Parts) (m : Holder) → Mirrors n0 old m → OnOk result (HasPosted n0 name op new m (string_bytes out) (string_bytes out'))

abbrev pub ReportsOwn : {T E : Type 0} → Result T E → List ℕ → ℕ → Client → Client → String Global → String Global → Type 0
ReportsOwn result name cell old new out out' = (n0 : Parts) (m : Holder) → Mirrors n0 old m → OnOk result (HasReported n0 name cell new m (string_bytes out) (string_bytes out'))

-- a client receives some entries of a history
abbrev pub ReceivesOwn : {T E : Type 0} → Result T E → Count → List Entry → List ℕ → Client → Client → String Global → String Global → Type 0
ReceivesOwn result count h name old new out out' =
    (g : Game) (m : Holder) → IsLawful g.opening h → IsHonest g.opening h m → Mirrors g.opening old m → OnOk result (HasReceivedSome g count h m new name (string_bytes out) (string_bytes out'))

-- a round of sync is made in a game with these names
abbrev pub RoundsIn : {E : Type 0} → Result ℕ E → List (List ℕ) → Player → Player → String Global → String Global → Type 0
RoundsIn result names old new out out' =
    (n0 : Parts) (s : Stage) → Stands (game n0 names) old s → IfOk result (λ at. HasRound (game n0 names) old new s at (string_bytes out) (string_bytes out'))

-- a look leaves a mark, and gives the number of entries
abbrev pub HasLooked : Player → Player → ℕ → Type 0
HasLooked old new at = (at ≡ length (entries_of old)) × (new ≡ record old { marks = old.marks ++ at ∷ [] })

-- a client's operation is posted, which may be
abbrev pub Posts : {T E : Type 0} → Result T E → Op → Client → Client → Type 0
Posts result op old new = (n0 : Parts) (m : Holder) → Mirrors n0 old m → OnOk result (Mirrors n0 new (with_message m op))
