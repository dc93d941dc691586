-- What the parts of the program answer.
use Rattle.std.specs.Prelude.{◌≡◌, ◌≢◌, ℕ, ◌≤◌, true, false, List, Option, Some, None, Result, Ok, Err}
use Rattle.book_outside.specs.Outside.{Rose, GivesFront, with_reading}
use Rattle.notebook.specs.declared.parts.Parts.{Parts}
use Rattle.livemd_format.specs.Accepts.{IsAccepted}
use Rattle.livemd_format.specs.Reads.{Reads}
use Rattle.livemd_format.specs.Tidy.{tidied}
use Rattle.livemd_format.specs.Write.{text_of}
use Rattle.livemd_read.specs.declared.types.Read.{Read}
use Rattle.livemd_read.specs.declared.types.BookError.TheVariants.{OutOfMemory as BookMemory}
use Rattle.livemd_read.specs.Causes.{IsBookCause}
use Rattle.script.specs.declared.content.Content.{Content}
use Rattle.script.specs.declared.error.ScriptError.TheVariants.{OutOfMemory as ScriptMemory}
use Rattle.script.specs.Script.{IsScriptOf, IsScriptCause}
use Rattle.driver.specs.declared.outcome.RunFault.{RunFault}
use Rattle.driver.specs.declared.outcome.RunFault.TheVariants.{Usage, BookUnread, BookRefused, ScriptUnread, ScriptRefused, SinkFailed, OutOfMemory}
use Rattle.driver.specs.declared.outcome.Outcome.{Outcome}
use Rattle.driver.specs.declared.play.Played.{Played}
use Rattle.driver.specs.declared.play.Played.TheVariants.{Done, SinkFailed as PlayCut, OutOfMemory as PlayMemory}
use Rattle.driver.specs.Around.{Input, Output, IsWrittenText, IsCutText}
use Rattle.driver.specs.Program.{IsPlay, BookIsAccepted, most_bytes, status_of}

-- the words don't ask to play where there are no names
abbrev pub WordsAnswer : {A : Type 0} → List (List ℕ) → Option A → Type 0
WordsAnswer words None = (book script : List ℕ) → ¬ IsPlay words book script
WordsAnswer words (Some names) = Unit {0}

-- the outcome of a fault with no report
abbrev pub ended_with : RunFault → Outcome
ended_with fault = record { status = status_of (Some fault); fault = Some fault; report = None }

abbrev pub outcome_of : Played → Outcome
outcome_of (Done report) = record { status = 0; fault = None; report = Some report }
outcome_of (PlayCut report) = record { status = 6; fault = Some SinkFailed; report = Some report }
outcome_of PlayMemory = ended_with OutOfMemory

-- why bytes are no book
abbrev pub IsBookFault : List ℕ → RunFault → Type 0
IsBookFault bytes Usage = ⊥
IsBookFault bytes BookUnread = ⊥
IsBookFault bytes (BookRefused why) = IsBookCause bytes why × (why ≢ BookMemory)
IsBookFault bytes ScriptUnread = ⊥
IsBookFault bytes (ScriptRefused why) = ⊥
IsBookFault bytes SinkFailed = ⊥
IsBookFault bytes OutOfMemory = Unit {0}

abbrev pub BytesAreBook : List ℕ → Result Read RunFault → Type 0
BytesAreBook bytes (Ok r) = IsAccepted bytes × Reads bytes r.notebook r.notices
BytesAreBook bytes (Err fault) = IsBookFault bytes fault

-- why bytes are no script
abbrev pub IsScriptFault : List ℕ → RunFault → Type 0
IsScriptFault bytes Usage = ⊥
IsScriptFault bytes BookUnread = ⊥
IsScriptFault bytes (BookRefused why) = ⊥
IsScriptFault bytes ScriptUnread = ⊥
IsScriptFault bytes (ScriptRefused why) = IsScriptCause bytes why × (why ≢ ScriptMemory)
IsScriptFault bytes SinkFailed = ⊥
IsScriptFault bytes OutOfMemory = Unit {0}

abbrev pub BytesAreScript : List ℕ → Result Content RunFault → Type 0
BytesAreScript bytes (Ok s) = IsScriptOf bytes s
BytesAreScript bytes (Err fault) = IsScriptFault bytes fault

-- the bytes of a name were read
pub record WereRead (held : Option (List (List ℕ × List ℕ))) (name : List ℕ) (before after : Input) (P : List ℕ → Type 0) : Type 0 where
  pub bytes : List ℕ
  pub front : GivesFront held name most_bytes bytes
  pub reads : after.readings ≡ with_reading before.readings name false
  pub so : P bytes

-- the read of a name failed
pub record IsUnread (name : List ℕ) (before after : Input) : Type 0 where
  pub reads : after.readings ≡ with_reading before.readings name true
  pub rose : Rose before.faults after.faults

abbrev pub IsBookAnswer : Option (List (List ℕ × List ℕ)) → List ℕ → Input → Input → Result Read RunFault → Type 0
IsBookAnswer held name before after (Ok r) = WereRead held name before after (λ bytes. IsAccepted bytes × Reads bytes r.notebook r.notices)
IsBookAnswer held name before after (Err Usage) = ⊥
IsBookAnswer held name before after (Err BookUnread) = IsUnread name before after
IsBookAnswer held name before after (Err (BookRefused why)) = WereRead held name before after (λ bytes. IsBookCause bytes why × (why ≢ BookMemory))
IsBookAnswer held name before after (Err ScriptUnread) = ⊥
IsBookAnswer held name before after (Err (ScriptRefused why)) = ⊥
IsBookAnswer held name before after (Err SinkFailed) = ⊥
IsBookAnswer held name before after (Err OutOfMemory) = Unit {0}

abbrev pub IsScriptAnswer : Option (List (List ℕ × List ℕ)) → List ℕ → Input → Input → Result Content RunFault → Type 0
IsScriptAnswer held name before after (Ok s) = WereRead held name before after (λ bytes. IsScriptOf bytes s)
IsScriptAnswer held name before after (Err Usage) = ⊥
IsScriptAnswer held name before after (Err BookUnread) = ⊥
IsScriptAnswer held name before after (Err (BookRefused why)) = ⊥
IsScriptAnswer held name before after (Err ScriptUnread) = IsUnread name before after
IsScriptAnswer held name before after (Err (ScriptRefused why)) = WereRead held name before after (λ bytes. IsScriptCause bytes why × (why ≢ ScriptMemory))
IsScriptAnswer held name before after (Err SinkFailed) = ⊥
IsScriptAnswer held name before after (Err OutOfMemory) = Unit {0}

-- the text of the tidy notebook was written by one write: all of it, or a front of it where the sink failed
abbrev pub IsWriting : Parts → Output → Output → Option RunFault → Type 0
IsWriting n before after None = IsWrittenText (text_of (tidied n)) before after
IsWriting n before after (Some Usage) = ⊥
IsWriting n before after (Some BookUnread) = ⊥
IsWriting n before after (Some (BookRefused why)) = ⊥
IsWriting n before after (Some ScriptUnread) = ⊥
IsWriting n before after (Some (ScriptRefused why)) = ⊥
IsWriting n before after (Some SinkFailed) = Rose before.faults after.faults × IsCutText (text_of (tidied n)) before after
IsWriting n before after (Some OutOfMemory) = after.written ≡ before.written

-- the words ask to play this script, and their book was read, with no other read, and accepted
pub record HasReadBook (words : List (List ℕ)) (held : Option (List (List ℕ × List ℕ))) (script : List ℕ) (r : Read) (before after : Input) : Type 0 where
  pub accepted : BookIsAccepted words held
  pub form : IsPlay words accepted.read.book script
  pub notebook : accepted.notebook ≡ r.notebook
  pub notices : accepted.notices ≡ r.notices
  pub reads : after.readings ≡ with_reading before.readings accepted.read.book false
  pub counts : before.faults ≤ after.faults
