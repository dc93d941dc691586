-- What the program answers.
use Rattle.limits.specs.Limits.{most_file_bytes}
use Rattle.std.specs.Prelude.{◌+◌, ◌≡◌, ◌≢◌, ℕ, ◌⊎◌, Bool, true, false, List, [], ◌∷◌, map, Option, Some, None, codes}
use Rattle.book_outside.specs.Outside.{Rose, GivesFront, with_reading}
use Rattle.notebook.specs.declared.parts.Parts.{Parts}
use Rattle.livemd_format.specs.declared.notices.Notice.{Notice}
use Rattle.livemd_format.specs.Accepts.{IsAccepted}
use Rattle.livemd_format.specs.Reads.{Reads}
use Rattle.livemd_format.specs.Tidy.{tidied}
use Rattle.livemd_format.specs.Write.{text_of}
use Rattle.livemd_read.specs.declared.types.BookError.{BookError}
use Rattle.livemd_read.specs.declared.types.BookError.TheVariants.{OutOfMemory as BookMemory}
use Rattle.livemd_read.specs.Causes.{IsBookCause}
use Rattle.script.specs.declared.content.Content.{Content}
use Rattle.script.specs.declared.error.ScriptError.{ScriptError}
use Rattle.script.specs.declared.error.ScriptError.TheVariants.{OutOfMemory as ScriptMemory}
use Rattle.script.specs.Script.{IsScriptOf, IsScriptCause}
use Rattle.driver.specs.Lines.{notice_line}
use Rattle.driver.specs.Headline.{IsPlayed, IsCut, HasLeftFront}
use Rattle.driver.specs.Around.{Around, IsWrittenText, IsCutText, AreWritten}
use Rattle.driver.specs.declared.outcome.Report.{Report}
use Rattle.driver.specs.declared.outcome.RunFault.{RunFault}
use Rattle.driver.specs.declared.outcome.RunFault.TheVariants.{Usage, BookUnread, BookRefused, ScriptUnread, ScriptRefused, SinkFailed, OutOfMemory}

-- the words `play BOOK SCRIPT`
abbrev pub IsPlay : List (List ℕ) → List ℕ → List ℕ → Type 0
IsPlay words book script = words ≡ codes "play" ∷ book ∷ script ∷ []

-- the words `format BOOK`
abbrev pub format_words : List ℕ → List (List ℕ)
format_words book = codes "format" ∷ book ∷ []

abbrev pub IsFormat : List (List ℕ) → List ℕ → Type 0
IsFormat words book = words ≡ format_words book

abbrev pub IsNoFormat : List (List ℕ) → Type 0
IsNoFormat words = (book : List ℕ) → ¬ IsFormat words book

-- the words are in one of these forms, with this book
abbrev pub NamesBook : List (List ℕ) → List ℕ → Type 0
NamesBook words book = ((script : List ℕ) × IsPlay words book script) ⊎ IsFormat words book

-- the status of a fault: its place in the list, counted from 1; 0 where there is none
abbrev pub status_of : Option RunFault → ℕ
status_of None = 0
status_of (Some Usage) = 1
status_of (Some BookUnread) = 2
status_of (Some (BookRefused why)) = 3
status_of (Some ScriptUnread) = 4
status_of (Some (ScriptRefused why)) = 5
status_of (Some SinkFailed) = 6
status_of (Some OutOfMemory) = 7

-- at most this many bytes of a file are read, which is one more than a book or a script may have
abbrev pub most_bytes : ℕ
most_bytes = most_file_bytes + 1

-- the words name a book, and its bytes were read
pub record BookIsRead (words : List (List ℕ)) (held : Option (List (List ℕ × List ℕ))) : Type 0 where
  pub book : List ℕ
  pub named : NamesBook words book
  pub bytes : List ℕ
  pub front : GivesFront held book most_bytes bytes

-- the bytes of the book are a notebook, and nothing refuses them
pub record BookIsAccepted (words : List (List ℕ)) (held : Option (List (List ℕ × List ℕ))) : Type 0 where
  pub read : BookIsRead words held
  pub accepted : IsAccepted read.bytes
  pub notebook : Parts
  pub notices : List Notice
  pub reads : Reads read.bytes notebook notices

-- the words ask to play a script over the book, and the bytes of the script were read too
pub record ScriptIsRead (words : List (List ℕ)) (held : Option (List (List ℕ × List ℕ))) : Type 0 where
  pub accepted : BookIsAccepted words held
  pub script : List ℕ
  pub form : IsPlay words accepted.read.book script
  pub bytes : List ℕ
  pub front : GivesFront held script most_bytes bytes

-- the bytes of the script are a script
pub record ScriptIsAccepted (words : List (List ℕ)) (held : Option (List (List ℕ × List ℕ))) : Type 0 where
  pub read : ScriptIsRead words held
  pub content : Content
  pub is : IsScriptOf read.bytes content

-- one read more was made, of the book, and failed or didn't
abbrev pub BookWasRead : Around → List ℕ → Bool → Type 0
BookWasRead a book failed = a.shelf_after.readings ≡ with_reading a.shelf_before.readings book failed

-- two reads more were made: of the book, which didn't fail, and then of the script, which failed or didn't
abbrev pub BothWereRead : Around → List ℕ → List ℕ → Bool → Type 0
BothWereRead a book script failed = a.shelf_after.readings ≡ with_reading (with_reading a.shelf_before.readings book false) script failed

-- no read was made
abbrev pub NothingWasRead : Around → Type 0
NothingWasRead a = a.shelf_after.readings ≡ a.shelf_before.readings

-- nothing was written, and no write asked for: the sink is as it was
abbrev pub IsUnwritten : Around → Type 0
IsUnwritten a = a.sink_after ≡ a.sink_before

-- status 1: the words are in neither form
pub record HasBadWords (words : List (List ℕ)) (a : Around) : Type 0 where
  pub no_play : (book script : List ℕ) → ¬ IsPlay words book script
  pub no_format : IsNoFormat words
  pub reads : NothingWasRead a
  pub unwritten : IsUnwritten a

-- status 2: the words are in a form, the read of their book failed, and the shelf's count rose
pub record HasUnreadBook (words : List (List ℕ)) (a : Around) : Type 0 where
  pub book : List ℕ
  pub form : NamesBook words book
  pub reads : BookWasRead a book true
  pub rose : Rose a.shelf_before.faults a.shelf_after.faults
  pub unwritten : IsUnwritten a

-- status 3: the bytes of the book are refused, for another cause than memory
pub record HasRefusedBook (words : List (List ℕ)) (a : Around) (why : BookError) : Type 0 where
  pub read : BookIsRead words a.held
  pub reads : BookWasRead a read.book false
  pub cause : IsBookCause read.bytes why
  pub named : why ≢ BookMemory
  pub unwritten : IsUnwritten a

-- status 4: the book was accepted, a script is to be played, whose read failed, and the shelf's count rose
pub record HasUnreadScript (words : List (List ℕ)) (a : Around) : Type 0 where
  pub accepted : BookIsAccepted words a.held
  pub script : List ℕ
  pub form : IsPlay words accepted.read.book script
  pub reads : BothWereRead a accepted.read.book script true
  pub rose : Rose a.shelf_before.faults a.shelf_after.faults
  pub unwritten : IsUnwritten a

-- status 5: the book was accepted, and the bytes of the script are refused, for another cause than memory
pub record HasRefusedScript (words : List (List ℕ)) (a : Around) (why : ScriptError) : Type 0 where
  pub read : ScriptIsRead words a.held
  pub reads : BothWereRead a read.accepted.read.book read.script false
  pub cause : IsScriptCause read.bytes why
  pub named : why ≢ ScriptMemory
  pub unwritten : IsUnwritten a

-- status 6 of `play`: book and script were accepted, the sink failed, and it took just a front of what was played, whose history the report has
pub record HasFailedSink (words : List (List ℕ)) (a : Around) (given : Option Report) : Type 0 where
  pub accepted : ScriptIsAccepted words a.held
  pub reads : BothWereRead a accepted.read.accepted.read.book accepted.read.script false
  pub rose : Rose a.sink_before.faults a.sink_after.faults
  pub told : Report
  pub report : given ≡ Some told
  pub cut : IsCut accepted.read.accepted.notebook (map notice_line accepted.read.accepted.notices) accepted.content 0 told.history told.marks a.sink_before a.sink_after

-- status 6 of `format`: the book was accepted, the sink failed in the one write, and it took just a front of the tidy notebook's text
pub record HasCutBook (words : List (List ℕ)) (a : Around) (given : Option Report) : Type 0 where
  pub accepted : BookIsAccepted words a.held
  pub form : IsFormat words accepted.read.book
  pub reads : BookWasRead a accepted.read.book false
  pub rose : Rose a.sink_before.faults a.sink_after.faults
  pub report : given ≡ None
  pub written : IsCutText (text_of (tidied accepted.notebook)) a.sink_before a.sink_after

-- status 0 of `play`: the program printed the transcript of one actual history, each of its pieces that isn't empty by one write
pub record HasPlayedAll (words : List (List ℕ)) (a : Around) (given : Option Report) : Type 0 where
  pub accepted : ScriptIsAccepted words a.held
  pub reads : BothWereRead a accepted.read.accepted.read.book accepted.read.script false
  pub told : Report
  pub report : given ≡ Some told
  pub pieces : List (List ℕ)
  pub played : IsPlayed accepted.read.accepted.notebook (map notice_line accepted.read.accepted.notices) accepted.content 0 told.history told.marks pieces
  pub written : AreWritten pieces a.sink_before a.sink_after

-- status 0 of `format`: the program printed the tidy notebook's text by one write
pub record HasFormatted (words : List (List ℕ)) (a : Around) (given : Option Report) : Type 0 where
  pub accepted : BookIsAccepted words a.held
  pub form : IsFormat words accepted.read.book
  pub reads : BookWasRead a accepted.read.book false
  pub report : given ≡ None
  pub written : IsWrittenText (text_of (tidied accepted.notebook)) a.sink_before a.sink_after

-- nothing was written
abbrev pub NothingIsWritten : Around → Type 0
NothingIsWritten a = a.sink_after.written ≡ a.sink_before.written

-- status 7 of `play`, past the reading: book and script were accepted, and a front of what an actual history prints stands written
pub record HasStopped (words : List (List ℕ)) (a : Around) : Type 0 where
  pub accepted : ScriptIsAccepted words a.held
  pub reads : BothWereRead a accepted.read.accepted.read.book accepted.read.script false
  pub left : HasLeftFront accepted.read.accepted.notebook (map notice_line accepted.read.accepted.notices) accepted.content 0 a.sink_before a.sink_after

-- status 7: the words are in a form, and nothing was written, or such a front stands written
pub record HasNoMemory (words : List (List ℕ)) (a : Around) : Type 0 where
  pub form : (book : List ℕ) × NamesBook words book
  pub left : NothingIsWritten a ⊎ HasStopped words a

-- the fault and the report of each status, with its cause
abbrev pub IsAnswer : List (List ℕ) → Around → Option Report → Option RunFault → Type 0
IsAnswer words a report None = HasPlayedAll words a report ⊎ HasFormatted words a report
IsAnswer words a report (Some Usage) = HasBadWords words a × (report ≡ None)
IsAnswer words a report (Some BookUnread) = HasUnreadBook words a × (report ≡ None)
IsAnswer words a report (Some (BookRefused why)) = HasRefusedBook words a why × (report ≡ None)
IsAnswer words a report (Some ScriptUnread) = HasUnreadScript words a × (report ≡ None)
IsAnswer words a report (Some (ScriptRefused why)) = HasRefusedScript words a why × (report ≡ None)
IsAnswer words a report (Some SinkFailed) = HasFailedSink words a report ⊎ HasCutBook words a report
IsAnswer words a report (Some OutOfMemory) = HasNoMemory words a × (report ≡ None)

-- the same of a book that is formatted, by its name: 1, 4 and 5 are no status of it
abbrev pub IsFormatAnswer : List ℕ → Around → Option Report → Option RunFault → Type 0
IsFormatAnswer book a report None = HasFormatted (format_words book) a report
IsFormatAnswer book a report (Some Usage) = ⊥
IsFormatAnswer book a report (Some BookUnread) = HasUnreadBook (format_words book) a × (report ≡ None)
IsFormatAnswer book a report (Some (BookRefused why)) = HasRefusedBook (format_words book) a why × (report ≡ None)
IsFormatAnswer book a report (Some ScriptUnread) = ⊥
IsFormatAnswer book a report (Some (ScriptRefused why)) = ⊥
IsFormatAnswer book a report (Some SinkFailed) = HasCutBook (format_words book) a report
IsFormatAnswer book a report (Some OutOfMemory) = NothingIsWritten a × (report ≡ None)

-- the words are in a form, and whatever the shelf gives of the files that they name is accepted, which says something where the shelf tells what it holds
pub record AreAcceptable (words : List (List ℕ)) (held : Option (List (List ℕ × List ℕ))) : Type 0 where
  pub form : (book : List ℕ) × NamesBook words book
  pub books : (book bytes : List ℕ) → NamesBook words book → GivesFront held book most_bytes bytes → IsAccepted bytes
  pub scripts : (book script bytes : List ℕ) → IsPlay words book script → GivesFront held script most_bytes bytes → (content : Content) × IsScriptOf bytes content

-- all was done, but for want of memory
abbrev pub IsDone : Option RunFault → Type 0
IsDone fault = (fault ≡ None) ⊎ (fault ≡ Some OutOfMemory)

-- where nothing can be refused and no count rose, all is done
abbrev pub IsComplete : List (List ℕ) → Around → Option RunFault → Type 0
IsComplete words a fault =
    AreAcceptable words a.held → ¬ Rose a.shelf_before.faults a.shelf_after.faults → ¬ Rose a.sink_before.faults a.sink_after.faults → IsDone fault
