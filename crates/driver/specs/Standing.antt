-- Where the play of a script stands, and what a part of it makes of that.
use Rattle.std.specs.Prelude.{◌≡◌, ◌≢◌, ℕ, Bool, true, false, List, [], ◌∷◌, ◌++◌, length, map, Option, Some, None, ◌⊎◌, codes}
use Rattle.session_ops.specs.declared.entry.Call.{Call}
use Rattle.session_ops.specs.declared.entry.Op.{Op}
use Rattle.session_ops.specs.Structure.{is_postable}
use Rattle.session_ops.specs.declared.entry.Reply.{Reply}
use Rattle.session_ops.specs.declared.entry.Entry.{Entry}
use Rattle.session_ops.specs.State.{entries_by}
use Rattle.notebook.specs.declared.parts.Parts.{Parts}
use Rattle.delta.specs.declared.Step.{Step}
use Rattle.client_sync.specs.Client.{Client as Holder, Done, edited, reported, joined_client, with_message}
use Rattle.client_sync.specs.Causes.{IsEditCause}
use Rattle.client_sync.specs.Stands.{Mirrors}
use Rattle.client_sync.specs.declared.client.Client.{Client}
use Rattle.client_sync.specs.declared.edit_error.EditError.{EditError}
use Rattle.client_sync.specs.declared.edit_error.EditError.TheVariants.{OutOfMemory}
use Rattle.session_core.specs.Session.{IsSession, HasAnswered, history_of}
use Rattle.world.specs.World.{World}
use Rattle.world.specs.Claims.{IsWhole, number_of}
use Rattle.world.specs.Waiting.{AreHonest}
use Rattle.script.specs.declared.line.ScriptLine.{ScriptLine}
use Rattle.script.specs.declared.line.Count.{Count}
use Rattle.transcript.specs.Texts.{as_text}
use Rattle.driver.specs.Lines.{sent_words, edit_words, error_words, received_words, posted_words, not_posted_words}
use Rattle.driver.specs.Turns.{Turn, turns_from, AreMarks}
use Rattle.driver.specs.Player.{Game, Stage, play_line, round, receive_some}
use Rattle.driver.specs.Headline.{AllOfRun, AllAnswered, AllFair, TakeReadyLanes, call_of}
use Rattle.world.specs.Sound.{AreApart}
use Rattle.driver.specs.Clients.{AreMirrors}
use Rattle.driver.specs.declared.player.Player.{Player}

-- a history with its clients
abbrev pub world_of : Parts → List Entry → List Holder → World
world_of n0 h cs = record { opening = n0; history = h; clients = cs }

-- what the player's session was asked
abbrev pub entries_of : Player → List Entry
entries_of p = history_of p.session

-- the turns that the player has had
abbrev pub turns_of : Player → List Turn
turns_of p = turns_from [] (entries_of p) p.marks

-- the player stands where this stage does; all turns are used, and nothing was made after the last one
pub record Stands (g : Game) (p : Player) (s : Stage) : Type 0 where
  pub session : IsSession g.opening p.session
  pub used : s.turns ≡ []
  pub seen : s.seen ≡ entries_of p
  pub marks : AreMarks 0 p.marks (length (entries_of p))
  pub run : AllOfRun 0 (entries_of p)
  pub answered : AllAnswered (entries_of p)
  pub ready : TakeReadyLanes g.opening 1 [] (entries_of p)
  pub fair : AllFair g.opening s.sent
  pub asked : s.asked ≡ map call_of (entries_by (entries_of p) 0)
  pub helped : s.helped ≡ entries_by (entries_of p) 1
  pub whole : IsWhole (world_of g.opening (entries_of p) s.clients)
  pub honest : AreHonest (world_of g.opening (entries_of p) s.clients)
  pub apart : AreApart (map number_of s.clients)
  pub mirrored : AreMirrors g.opening p.clients.items s.clients

-- with just the turns that came with it, one act leads from a stage to another, before which the act after it stands; what it printed is what the stage says
pub record Leads (g : Game) (act next : Stage → Option Stage) (old new : Player) (s : Stage) (before out : List ℕ) : Type 0 where
  pub stage : Stage
  pub more : List Turn
  pub grown : turns_of new ≡ turns_of old ++ more
  pub acts : (rest : List Turn) → act (record s { turns = more ++ rest }) ≡ next (record stage { turns = rest })
  pub stands : Stands g new stage
  pub piece : List ℕ
  pub printed : out ≡ before ++ piece
  pub said : stage.said ≡ s.said ++ piece

-- an act was done
abbrev pub HasDone : Game → (Stage → Option Stage) → Player → Player → Stage → List ℕ → List ℕ → Type 0
HasDone g act old new s before out = Leads g act Some old new s before out

-- a line was played
abbrev pub HasPlayed : Game → ScriptLine → Player → Player → Stage → List ℕ → List ℕ → Type 0
HasPlayed g line old new s before out = HasDone g (play_line g line) old new s before out

-- a call was made under 0, and its answer printed as that to a message
pub record HasAsked (n0 : Parts) (call : Call) (name : List ℕ) (old new : Player) (before out : List ℕ) : Type 0 where
  pub reply : Reply
  pub answered : HasAnswered n0 0 call old.session new.session reply
  pub clients : new.clients ≡ old.clients
  pub marks : new.marks ≡ old.marks
  pub printed : out ≡ before ++ as_text (sent_words name reply ∷ [])

-- a call was made under 0, and answered so
pub record HasCalled (n0 : Parts) (call : Call) (old new : Player) (answer : Reply) : Type 0 where
  pub answered : HasAnswered n0 0 call old.session new.session answer
  pub clients : new.clients ≡ old.clients
  pub marks : new.marks ≡ old.marks

-- a round of sync was made: its look found so many entries
pub record HasRound (g : Game) (old new : Player) (s : Stage) (at : ℕ) (before out : List ℕ) : Type 0 where
  pub stage : Stage
  pub more : List Turn
  pub some : length more ≢ 0
  pub grown : turns_of new ≡ turns_of old ++ more
  pub acts : (rest : List Turn) → round g (record s { turns = more ++ rest }) ≡ Some (record { seen = entries_of new; stage = record stage { turns = rest } })
  pub at_is : at ≡ length (entries_of new)
  pub stands : Stands g new stage
  pub piece : List ℕ
  pub printed : out ≡ before ++ piece
  pub said : stage.said ≡ s.said ++ piece

-- a client that has just joined was put at the end
pub record HasAdmitted (n0 : Parts) (n : ℕ) (old new : Player) : Type 0 where
  pub own : Client
  pub clients : new.clients.items ≡ old.clients.items ++ own ∷ []
  pub mirrors : Mirrors n0 own (joined_client n (entries_of old))
  pub session : new.session ≡ old.session
  pub marks : new.marks ≡ old.marks

-- the client made the edit its own
pub record IsEdited (n0 : Parts) (name : List ℕ) (cell : ℕ) (d : List Step) (c : Client) (m : Holder) (before after : List ℕ) : Type 0 where
  pub held_then : Holder
  pub done : edited n0 m cell d ≡ Done held_then
  pub mirrors : Mirrors n0 c held_then
  pub printed : after ≡ before ++ as_text (edit_words name cell (codes "ok") ∷ [])

-- the client refused the edit, and stands for what it did
pub record IsUnedited (n0 : Parts) (name : List ℕ) (cell : ℕ) (d : List Step) (c : Client) (m : Holder) (before after : List ℕ) : Type 0 where
  pub why : EditError
  pub named : why ≢ OutOfMemory
  pub cause : IsEditCause (edited n0 m cell d) why
  pub mirrors : Mirrors n0 c m
  pub printed : after ≡ before ++ as_text (edit_words name cell (codes "refused " ++ error_words why) ∷ [])

abbrev pub HasEdited : Parts → List ℕ → ℕ → List Step → Client → Holder → List ℕ → List ℕ → Type 0
HasEdited n0 name cell d c m before after = IsEdited n0 name cell d c m before after ⊎ IsUnedited n0 name cell d c m before after

-- the client posted the operation, where it may be posted, and stands for what it did otherwise
abbrev pub HasPostedIf : Parts → List ℕ → Op → Client → Holder → List ℕ → List ℕ → Bool → Type 0
HasPostedIf n0 name op c m before after true = Mirrors n0 c (with_message m op) × (after ≡ before ++ as_text (posted_words name ∷ []))
HasPostedIf n0 name op c m before after false = Mirrors n0 c m × (after ≡ before)

abbrev pub HasPosted : Parts → List ℕ → Op → Client → Holder → List ℕ → List ℕ → Type 0
HasPosted n0 name op c m before after = HasPostedIf n0 name op c m before after (is_postable op)

-- the client posted a report, or has no such cell
abbrev pub HasReportedSo : Parts → List ℕ → Client → Holder → List ℕ → List ℕ → Option Holder → Type 0
HasReportedSo n0 name c m before after None = Mirrors n0 c m × (after ≡ before ++ as_text (not_posted_words name ∷ []))
HasReportedSo n0 name c m before after (Some m') = Mirrors n0 c m' × (after ≡ before ++ as_text (posted_words name ∷ []))

abbrev pub HasReported : Parts → List ℕ → ℕ → Client → Holder → List ℕ → List ℕ → Type 0
HasReported n0 name cell c m before after = HasReportedSo n0 name c m before after (reported n0 m cell)

-- the client received some of the entries past its cursor, and its cursor was printed
pub record HasReceivedSome (g : Game) (count : Count) (h : List Entry) (m : Holder) (c : Client) (name before after : List ℕ) : Type 0 where
  pub mirrors : Mirrors g.opening c (receive_some g count h m)
  pub printed : after ≡ before ++ as_text (received_words name (length (receive_some g count h m).seen) ∷ [])
