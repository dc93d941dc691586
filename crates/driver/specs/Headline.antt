-- What a run of a script says: it prints the transcript of one actual history.
use Rattle.std.specs.Prelude.{◌≡◌, ℕ, ◌+◌, ◌<◌, ◌⊎◌, List, [], ◌∷◌, ◌++◌, length, map, Some}
use Rattle.delta.specs.declared.Step.{Step}
use Rattle.delta.specs.Moves.{text_after}
use Rattle.notebook.specs.declared.parts.Cell.{Cell}
use Rattle.notebook.specs.declared.parts.Parts.{Parts}
use Rattle.notebook.specs.Book.{cells, found}
use Rattle.session_ops.specs.declared.entry.Call.{Call}
use Rattle.session_ops.specs.declared.entry.Call.TheVariants.{Client as ByClient, Start, Respond}
use Rattle.session_ops.specs.declared.entry.Entry.{Entry}
use Rattle.session_ops.specs.declared.entry.Reply.{Reply}
use Rattle.session_ops.specs.declared.entry.Reply.TheVariants.{Started}
use Rattle.notebook.specs.declared.states.Lane.{Lane}
use Rattle.session_ops.specs.State.{State, ChangesNothing, Legal, state, first_source, taken_by, entries_by}
use Rattle.session_core.specs.Session.{entry_of, ready_lane}
use Rattle.client_sync.specs.Client.{Client, held}
use Rattle.world.specs.Claims.{FrontsShow}
use Rattle.world.specs.Waiting.{IsHonest, IsFairAnswer}
use Rattle.transcript.specs.Texts.{as_text}
use Rattle.script.specs.declared.line.ScriptLine.{ScriptLine}
use Rattle.script.specs.declared.content.Content.{Content}
use Rattle.driver.specs.Turns.{AreMarks}
use Rattle.driver.specs.Player.{Stage, Printed, Sent}
use Rattle.driver.specs.Transcript.{printed_by, finished, transcript}
use Rattle.driver.specs.Around.{Output, AreCut}

-- calls that evaluators make
abbrev pub IsEvaluation : Call → Type 0
IsEvaluation (ByClient n op) = ⊥
IsEvaluation (Start lane) = Unit {0}
IsEvaluation (Respond eval shown) = Unit {0}

-- an entry of the script's player, or an evaluator's
abbrev pub IsOfRun : ℕ → Entry → Type 0
IsOfRun workers e = (e.by ≡ 0) ⊎ ((e.by < 2 + workers) × IsEvaluation e.call)

abbrev pub AllOfRun : ℕ → List Entry → Type 0
AllOfRun workers [] = Unit {0}
AllOfRun workers (e ∷ es) = IsOfRun workers e × AllOfRun workers es

abbrev pub call_of : Entry → Call
call_of e = e.call

-- a client has received the history up to its cursor; what it has in flight is what it posted, moved over what was applied since, and its unconfirmed edits fit what the server had; with all received and nothing pending it holds the server's notebook
pub record IsClientOf (n0 : Parts) (h : List Entry) (c : Client) : Type 0 where
  pub cursor : (later : List Entry) × (h ≡ c.seen ++ later)
  pub honest : IsHonest n0 h c
  pub agrees : c.seen ≡ h → c.pending ≡ [] → held n0 c ≡ (state n0 h).book

abbrev pub AllClients : Parts → List Entry → List Client → Type 0
AllClients n0 h [] = Unit {0}
AllClients n0 h (c ∷ cs) = IsClientOf n0 h c × AllClients n0 h cs

-- each message that a client sent was answered fairly: a delta was applied and a report accepted, but where the cell was deleted, and nothing was answered as a stranger's
abbrev pub IsFair : Parts → Sent → Type 0
IsFair n0 m = IsFairAnswer n0 m.found m.op m.reply

abbrev pub AllFair : Parts → List Sent → Type 0
AllFair n0 [] = Unit {0}
AllFair n0 (m ∷ ms) = IsFair n0 m × AllFair n0 ms

-- a text after some deltas, one after the other
abbrev pub text_after_all : List ℕ → List (List Step) → List ℕ
text_after_all t [] = t
text_after_all t (x ∷ xs) = text_after_all (text_after x t) xs

-- each live cell has the source with which it began, after all its accepted deltas in order, each once
abbrev pub AllGrown : State → Type 0
AllGrown s = (cell : ℕ) (c : Cell) → found cell (cells s.book) ≡ Some c → c.source ≡ text_after_all (first_source cell s.began) (taken_by cell s.taken)

-- the call answers the evaluation of the number
abbrev pub IsAnswerOf : ℕ → Call → Type 0
IsAnswerOf eval (ByClient n op) = ⊥
IsAnswerOf eval (Start lane) = ⊥
IsAnswerOf eval (Respond number shown) = number ≡ eval

abbrev pub IsAnsweredNext : ℕ → List Entry → Type 0
IsAnsweredNext eval [] = ⊥
IsAnsweredNext eval (e ∷ es) = IsAnswerOf eval e.call

-- an evaluation that begins with this reply is answered by the next entry
abbrev pub IsFollowed : Reply → List Entry → Type 0
IsFollowed (Started eval cell) es = IsAnsweredNext eval es
IsFollowed answer es = Unit {0}

-- each evaluation is answered by the entry after its start
abbrev pub AllAnswered : List Entry → Type 0
AllAnswered [] = Unit {0}
AllAnswered (e ∷ es) = IsFollowed e.reply es × AllAnswered es

-- of some entries after a history, each start under the number is in the first lane that could start just then
abbrev pub TakeReadyLanes : Parts → ℕ → List Entry → List Entry → Type 0
TakeReadyLanes n0 by h es = (before rest : List Entry) (lane : Lane) (answer : Reply) → es ≡ before ++ entry_of by (Start lane) answer ∷ rest → ready_lane (state n0 (h ++ before)) ≡ Some lane

-- a legal history with marks in their order, whose entries are the player's, under 0, or evaluators', each of whose answers follows its start; settling, whose starts stand under 1, takes the first lane that may start
pub record IsHistory (n0 : Parts) (workers : ℕ) (h : List Entry) (marks : List ℕ) : Type 0 where
  pub legal : Legal n0 h
  pub marked : AreMarks 0 marks (length h)
  pub others : AllOfRun workers h
  pub answered : AllAnswered h
  pub ready : TakeReadyLanes n0 1 [] h

-- an answer that changes nothing, a late one of an evaluation or a refusal, leaves the state as it was before it
abbrev pub LeaveStates : Parts → List Entry → Type 0
LeaveStates n0 h = (before rest : List Entry) (by : ℕ) (call : Call) (answer : Reply) → h ≡ before ++ entry_of by call answer ∷ rest → ChangesNothing call answer → state n0 (before ++ entry_of by call answer ∷ []) ≡ state n0 before

-- one actual history, and the stage to which it brought the play: the stage's calls are the player's entries in order, each once (so each posted message has at most one entry), and the entries under 1 are just those between the look of a settle, or of the end, and the turn before it; each message of a client fairly answered; its clients; each source, with each accepted delta in it once; what each evaluated cell shows after each front of the history; and late answers and refusals change nothing
pub record IsActual (n0 : Parts) (workers : ℕ) (h : List Entry) (marks : List ℕ) (s : Stage) : Type 0 where
  pub history : IsHistory n0 workers h marks
  pub calls : s.asked ≡ map call_of (entries_by h 0)
  pub settling : entries_by h 1 ≡ s.helped
  pub fair : AllFair n0 s.sent
  pub clients : AllClients n0 h s.clients
  pub once : AllGrown (state n0 h)
  pub evaluated : FrontsShow n0 h
  pub late : LeaveStates n0 h

-- a run that was played to its end: the pieces are the transcript of one actual history
pub record IsPlayed (n0 : Parts) (notices : List (List ℕ)) (script : Content) (workers : ℕ) (h : List Entry) (marks : List ℕ) (pieces : List (List ℕ)) : Type 0 where
  pub printed : transcript n0 notices script h marks ≡ Some pieces
  pub end : Printed
  pub played : finished n0 script h marks ≡ Some end
  pub actual : IsActual n0 workers h marks end.stage

-- a run that broke off: the pieces are those of the notices and of the script's first lines over one actual history, whose turns these lines use up
pub record IsBrokenOff (n0 : Parts) (notices : List (List ℕ)) (script : Content) (workers : ℕ) (h : List Entry) (marks : List ℕ) (pieces : List (List ℕ)) : Type 0 where
  pub lines : List ScriptLine
  pub others : List ScriptLine
  pub first : script.lines ≡ lines ++ others
  pub end : Printed
  pub played : printed_by n0 script lines h marks ≡ Some end
  pub used : end.stage.turns ≡ []
  pub printed : pieces ≡ as_text notices ∷ end.pieces
  pub actual : IsActual n0 workers h marks end.stage

-- a run whose writing was cut off: a write was asked for each piece of one that was played to its end, or that broke off, and just a front of their texts was written
pub record IsCut (n0 : Parts) (notices : List (List ℕ)) (script : Content) (workers : ℕ) (h : List Entry) (marks : List ℕ) (before after : Output) : Type 0 where
  pub pieces : List (List ℕ)
  pub run : IsPlayed n0 notices script workers h marks pieces ⊎ IsBrokenOff n0 notices script workers h marks pieces
  pub written : AreCut pieces before after

-- such a front stands written, of some actual history
pub record HasLeftFront (n0 : Parts) (notices : List (List ℕ)) (script : Content) (workers : ℕ) (before after : Output) : Type 0 where
  pub history : List Entry
  pub marks : List ℕ
  pub cut : IsCut n0 notices script workers history marks before after
