-- The printed lines of a script, by a name's bytes.
use Rattle.std.specs.Prelude.{ℕ, List, [], ◌++◌, Option, Some, None, codes}
use Rattle.std.specs.Fmt.{decimal}
use Rattle.delta.specs.declared.Step.{Step}
use Rattle.notebook.specs.declared.parts.Cell.{Cell}
use Rattle.livemd_format.specs.declared.notices.Notice.{Notice}
use Rattle.livemd_format.specs.declared.notices.NoticeKind.{NoticeKind}
use Rattle.livemd_format.specs.declared.notices.NoticeKind.TheVariants.{BadBranch, Misplaced}
use Rattle.session_ops.specs.State.{refusal_of, Past, Splits}
use Rattle.session_ops.specs.declared.entry.Reply.{Reply}
use Rattle.client_sync.specs.Client.{Pending}
use Rattle.client_sync.specs.declared.edit_error.EditError.{EditError}
use Rattle.client_sync.specs.declared.edit_error.EditError.TheVariants.{NoCell, EditTooLong, PastEnd, SplitsPair, OutOfMemory}
use Rattle.transcript.specs.Texts.{reply_text, refusal_text}
use Rattle.transcript.specs.Deltas.{delta_text}

-- a notice of the book, with the number of its line
abbrev pub notice_word : NoticeKind → List ℕ
notice_word BadBranch = codes "BadBranch"
notice_word Misplaced = codes "Misplaced"

abbrev pub notice_line : Notice → List ℕ
notice_line n = codes "notice " ++ (decimal n.line ++ (codes " " ++ notice_word n.kind))

abbrev pub joined_words : List ℕ → ℕ → List ℕ
joined_words name at = name ++ (codes " joined at " ++ decimal at)

abbrev pub not_joined_words : List ℕ → Reply → List ℕ
not_joined_words name answer = name ++ (codes " join: " ++ reply_text answer)

abbrev pub left_words : List ℕ → Reply → List ℕ
left_words name answer = name ++ (codes " leave: " ++ reply_text answer)

abbrev pub raw_joined_words : List ℕ → ℕ → List ℕ
raw_joined_words name at = name ++ (codes " rawjoined at " ++ decimal at)

abbrev pub raw_not_joined_words : List ℕ → Reply → List ℕ
raw_not_joined_words name answer = name ++ (codes " rawjoin: " ++ reply_text answer)

abbrev pub raw_words : List ℕ → Reply → List ℕ
raw_words name answer = name ++ (codes " raw: " ++ reply_text answer)

abbrev pub raw_refused_words : List ℕ → List ℕ
raw_refused_words name = name ++ codes " raw: refused HasClient"

-- a line that needs a client, whose name holds none
abbrev pub no_client_words : List ℕ → List ℕ → List ℕ
no_client_words name word = name ++ (codes " " ++ (word ++ codes ": refused NotJoined"))

abbrev pub edit_words : List ℕ → ℕ → List ℕ → List ℕ
edit_words name cell answer = name ++ (codes " edit " ++ (decimal cell ++ (codes ": " ++ answer)))

abbrev pub posted_words : List ℕ → List ℕ
posted_words name = name ++ codes " post: ok"

-- a report of a cell that the client doesn't have
abbrev pub not_posted_words : List ℕ → List ℕ
not_posted_words name = name ++ codes " post: refused NoCell"

abbrev pub sent_words : List ℕ → Reply → List ℕ
sent_words name answer = name ++ (codes " sent: " ++ reply_text answer)

abbrev pub nothing_words : List ℕ → List ℕ
nothing_words name = name ++ codes " sent: nothing"

abbrev pub received_words : List ℕ → ℕ → List ℕ
received_words name at = name ++ (codes " at " ++ decimal at)

abbrev pub sync_words : ℕ → List ℕ
sync_words at = codes "sync at " ++ decimal at

-- what is in flight of pending edits, and what is buffered
abbrev pub flight_of : Option Pending → Option (List Step)
flight_of None = None
flight_of (Some p) = Some p.flight

abbrev pub buffer_of : Option Pending → List Step
buffer_of None = []
buffer_of (Some p) = p.buffer

abbrev pub flight_words : Option (List Step) → List ℕ
flight_words None = codes "none"
flight_words (Some d) = delta_text d

-- a cell's unconfirmed edits, and how many messages wait; or that the client has no such cell
abbrev pub pending_answer : Option Cell → Option Pending → ℕ → List ℕ
pending_answer None p messages = codes "refused NoCell"
pending_answer (Some own) p messages = codes "inflight " ++ (flight_words (flight_of p) ++ (codes " buffer " ++ (delta_text (buffer_of p) ++ (codes " outbox " ++ decimal messages))))

abbrev pub pending_words : List ℕ → ℕ → List ℕ → List ℕ
pending_words name cell answer = name ++ (codes " pending " ++ (decimal cell ++ (codes ": " ++ answer)))

-- what an edit's error prints; want of memory is never printed
abbrev pub error_words : EditError → List ℕ
error_words NoCell = codes "NoCell"
error_words EditTooLong = codes "EditTooLong"
error_words (PastEnd len) = refusal_text (refusal_of (Past len))
error_words (SplitsPair at) = refusal_text (refusal_of (Splits at))
error_words OutOfMemory = []
