-- How playing a script ends.
use Rattle.std.specs.declared.alloc.Global.{Global}
use Rattle.std.specs.Prelude.{◌≡◌, ℕ, ◌⊎◌, List, [], ◌∷◌, ◌++◌, length, IsErrOf, Result, String, string_bytes}
use Rattle.session_ops.specs.declared.entry.Entry.{Entry}
use Rattle.session_ops.specs.State.{state}
use Rattle.transcript.specs.Texts.{as_text}
use Rattle.driver.specs.Transcript.{end_lines}
use Rattle.driver.specs.Around.{Output, AreWritten, AreCut}
use Rattle.session_core.specs.Session.{IsSession, history_of}
use Rattle.driver.specs.Settling.{HasSettled}
use Rattle.driver.specs.declared.player.Player.{Player}
use Rattle.book_outside.specs.Outside.{Rose}
use Rattle.notebook.specs.declared.parts.Parts.{Parts}
use Rattle.script.specs.declared.content.Content.{Content}
use Rattle.driver.specs.Headline.{IsPlayed, IsBrokenOff, IsCut, HasLeftFront}
use Rattle.driver.specs.declared.outcome.Report.{Report}
use Rattle.driver.specs.declared.play.PlayFault.{PlayFault}
use Rattle.driver.specs.declared.play.PlayFault.TheVariants.{SinkFailed as SinkFault}
use Rattle.driver.specs.declared.play.Played.{Played}
use Rattle.driver.specs.declared.play.Played.TheVariants.{Done, SinkFailed, OutOfMemory}

-- a player before the first line of a script
pub record IsFresh (n0 : Parts) (p : Player) : Type 0 where
  pub session : IsSession n0 p.session
  pub history : history_of p.session ≡ []
  pub clients : p.clients.items ≡ []
  pub marks : p.marks ≡ []

-- the end settled, and left a mark
pub record HasEnded (n0 : Parts) (old new : Player) : Type 0 where
  pub settled : HasSettled n0 1 old.session new.session
  pub clients : new.clients ≡ old.clients
  pub marks : new.marks ≡ old.marks ++ length (history_of new.session) ∷ []

-- and what it prints was written, by one write
pub record EndsWritten (n0 : Parts) (old new : Player) (before after : Output) : Type 0 where
  pub ended : HasEnded n0 old new
  pub written : AreWritten (as_text (end_lines (state n0 (history_of new.session))) ∷ []) before after

-- or just a front of it
pub record EndsCut (n0 : Parts) (old new : Player) (before after : Output) : Type 0 where
  pub ended : HasEnded n0 old new
  pub written : AreCut (as_text (end_lines (state n0 (history_of new.session))) ∷ []) before after

-- the script was played, whatever notices came before it, and the pieces behind theirs were written
pub record IsPlayedAfter (n0 : Parts) (content : Content) (h : List Entry) (marks : List ℕ) (before after : Output) : Type 0 where
  pub pieces : List (List ℕ)
  pub played : (notices : List (List ℕ)) → IsPlayed n0 notices content 0 h marks (as_text notices ∷ pieces)
  pub written : AreWritten pieces before after

-- the script was played, or broke off, and just a front of the pieces behind the notices' was written
pub record IsCutAfter (n0 : Parts) (content : Content) (h : List Entry) (marks : List ℕ) (before after : Output) : Type 0 where
  pub pieces : List (List ℕ)
  pub run : (notices : List (List ℕ)) → IsPlayed n0 notices content 0 h marks (as_text notices ∷ pieces) ⊎ IsBrokenOff n0 notices content 0 h marks (as_text notices ∷ pieces)
  pub written : AreCut pieces before after

-- the script was played, and the pieces of its transcript written, of which the first has the notices' lines
pub record IsPlayedOut (n0 : Parts) (notices : List (List ℕ)) (content : Content) (h : List Entry) (marks : List ℕ) (before after : Output) : Type 0 where
  pub pieces : List (List ℕ)
  pub played : IsPlayed n0 notices content 0 h marks pieces
  pub written : AreWritten pieces before after

-- the sink failed, and took just a front of what was played, whose history the report has
pub record IsCutOff (n0 : Parts) (notices : List (List ℕ)) (content : Content) (before after : Output) (report : Report) : Type 0 where
  pub cut : IsCut n0 notices content 0 report.history report.marks before after
  pub rose : Rose before.faults after.faults

-- there was no memory for more: nothing was written, or a front of what an actual history prints
abbrev pub IsLeftSo : Parts → List (List ℕ) → Content → Output → Output → Type 0
IsLeftSo n0 notices content before after = (after ≡ before) ⊎ HasLeftFront n0 notices content 0 before after

-- the same of the end, whose write may have been asked for
abbrev pub EndsLeft : Parts → Player → Player → Output → Output → Type 0
EndsLeft n0 old new before after = (after ≡ before) ⊎ EndsCut n0 old new before after

-- the same of the script, whatever notices came before it
pub record IsLeftAfter (n0 : Parts) (content : Content) (before after : Output) : Type 0 where
  pub history : List Entry
  pub marks : List ℕ
  pub cut : IsCutAfter n0 content history marks before after

-- of a text no write was asked for, or just a front of it was written
abbrev pub IsLeftOf : List ℕ → Output → Output → Type 0
IsLeftOf text before after = (after ≡ before) ⊎ AreCut (text ∷ []) before after

-- what the end prints
abbrev pub ends_text : Parts → Player → List ℕ
ends_text n0 p = as_text (end_lines (state n0 (history_of p.session)))

-- the end settled, left a mark, and prints this
abbrev pub EndsWith : Parts → Player → Player → String Global → Type 0
EndsWith n0 old new text = HasEnded n0 old new × (string_bytes text ≡ ends_text n0 new)

-- a sink that failed has counted it
abbrev pub CountsFailure : {T : Type 0} → Result T PlayFault → ℕ → ℕ → Type 0
CountsFailure result before after = IsErrOf result SinkFault → Rose before after

abbrev pub IsPlayedSo : Parts → List (List ℕ) → Content → Output → Output → Played → Type 0
IsPlayedSo n0 notices content before after (Done report) = IsPlayedOut n0 notices content report.history report.marks before after
IsPlayedSo n0 notices content before after (SinkFailed report) = IsCutOff n0 notices content before after report
IsPlayedSo n0 notices content before after OutOfMemory = IsLeftSo n0 notices content before after
