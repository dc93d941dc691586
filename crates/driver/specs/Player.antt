-- What each line of a script uses of the turns, and what it prints.
use Rattle.std.specs.Prelude.{zero, suc, ℕ, ◌==◌, min, if◌then◌else◌, Bool, true, ◌&&◌, List, [], ◌∷◌, ◌++◌, length, drop, take, map, slice_get, Option, Some, None, codes}
use Rattle.std.specs.Str.{encode_utf8_all}
use Rattle.delta.specs.declared.Step.{Step}
use Rattle.notebook.specs.declared.parts.Parts.{Parts}
use Rattle.notebook.specs.Book.{cells, found}
use Rattle.livemd_format.specs.Tidy.{tidied}
use Rattle.livemd_format.specs.Write.{text_of}
use Rattle.session_ops.specs.declared.entry.Op.{Op}
use Rattle.session_ops.specs.declared.entry.Op.TheVariants.{Join as Joins, Leave as Leaves}
use Rattle.session_ops.specs.declared.entry.Call.{Call}
use Rattle.session_ops.specs.declared.entry.Call.TheVariants.{Client as ByClient}
use Rattle.session_ops.specs.declared.entry.Reply.{Reply}
use Rattle.session_ops.specs.declared.entry.Reply.TheVariants.{Accepted}
use Rattle.session_ops.specs.declared.entry.Entry.{Entry}
use Rattle.session_ops.specs.Structure.{is_postable}
use Rattle.lanes.specs.Work.{is_idle}
use Rattle.session_ops.specs.State.{State, state, revision, refusal_of, entries_by}
use Rattle.session_ops.specs.Same.{same_call}
use Rattle.client_sync.specs.Client.{Client, Edited, Done, NoCell, EditTooLong, Unfit, edited, reported, received, held, delivered, joined_client, client_of, put_client, without_client, with_message, pending_of}
use Rattle.world.specs.Claims.{number_of}
use Rattle.transcript.specs.Texts.{refusal_text, book_lines, as_text}
use Rattle.script.specs.declared.line.ScriptLine.{ScriptLine}
use Rattle.script.specs.declared.line.ScriptLine.TheVariants.{Join, Leave, Edit, Post, PostReport, Send, Recv, Sync, Show, Pending, RawJoin, Raw, Settle, Cells, Book}
use Rattle.script.specs.declared.line.Count.{Count}
use Rattle.script.specs.declared.line.Count.TheVariants.{AtMost, All}
use Rattle.driver.specs.Lines.{joined_words, not_joined_words, raw_joined_words, raw_not_joined_words, left_words, raw_words, raw_refused_words, no_client_words, edit_words, posted_words, not_posted_words, sent_words, nothing_words, received_words, sync_words, pending_answer, pending_words}
use Rattle.driver.specs.Statuses.{status_lines}
use Rattle.driver.specs.Turns.{Turn, Made, Looked}

-- what is played over: the opening notebook, and the clients' names
pub record Game : Type 0 where
  pub opening : Parts
  pub names : List (List ℕ)

-- a message that a client sent: the entries that it found, what it asked, and the reply
pub record Sent : Type 0 where
  pub found : List Entry
  pub op : Op
  pub reply : Reply

-- where the play stands: the turns not yet used, the entries that were there after the last one, the clients in order of joining, the calls made, those of them that clients sent, the entries under 1 that settling found past those of the turn before it, and what the present line has printed
pub record Stage : Type 0 where
  pub turns : List Turn
  pub seen : List Entry
  pub clients : List Client
  pub asked : List Call
  pub sent : List Sent
  pub helped : List Entry
  pub said : List ℕ

abbrev pub or_none : {A B : Type 0} → Option A → (A → Option B) → Option B
or_none None f = None
or_none (Some a) f = f a

-- the entries that a turn found that made one, the entries with it, its reply, and the stage
pub record Answered : Type 0 where
  pub found : List Entry
  pub seen : List Entry
  pub reply : Reply
  pub stage : Stage

abbrev pub answered : Call → Stage → List Turn → Option Answered
answered call s [] = None
answered call s (Looked m ∷ rest) = None
answered call s (Made seen e ∷ rest) = if same_call e.call call then Some (record { found = seen; seen = seen ++ e ∷ []; reply = e.reply; stage = record s { turns = rest; asked = s.asked ++ call ∷ []; seen = seen ++ e ∷ [] } }) else None

-- the next turn made an entry with just this call
abbrev pub asks : Call → Stage → Option Answered
asks call s = answered call s s.turns

-- the entries that a turn found that made none, and the stage
pub record Marked : Type 0 where
  pub seen : List Entry
  pub stage : Stage

abbrev pub marked : Stage → List Turn → Option Marked
marked s [] = None
marked s (Looked seen ∷ rest) = Some (record { seen = seen; stage = record s { turns = rest; seen = seen } })
marked s (Made seen e ∷ rest) = None

-- the next turn made no entry
abbrev pub looks : Stage → Option Marked
looks s = marked s s.turns

-- lines are printed, or a text as it is
abbrev pub say : List (List ℕ) → Stage → Stage
say lines s = record s { said = s.said ++ as_text lines }

abbrev pub say_text : List ℕ → Stage → Stage
say_text text s = record s { said = s.said ++ text }

abbrev pub with_clients : List Client → Stage → Stage
with_clients cs s = record s { clients = cs }

abbrev pub or_no_name : Option (List ℕ) → List ℕ
or_no_name None = []
or_no_name (Some name) = name

-- a client's name as bytes
abbrev pub name_of : Game → ℕ → List ℕ
name_of g n = encode_utf8_all (or_no_name (slice_get g.names n))

-- join
abbrev pub joined : Game → ℕ → List Entry → Stage → Reply → Stage
joined g n seen s Accepted = say (joined_words (name_of g n) (length seen) ∷ []) (with_clients (s.clients ++ joined_client n seen ∷ []) s)
joined g n seen s answer = say (not_joined_words (name_of g n) answer ∷ []) s

abbrev pub play_join : Game → ℕ → Stage → Option Stage
play_join g n s = or_none (asks (ByClient n Joins) s) (λ a. Some (joined g n a.seen a.stage a.reply))

-- leave: the name's client is gone, with its outbox
abbrev pub play_leave : Game → ℕ → Stage → Option Stage
play_leave g n s = or_none (asks (ByClient n Leaves) s) (λ a. Some (say (left_words (name_of g n) a.reply ∷ []) (with_clients (without_client n a.stage.clients) a.stage)))

-- rawjoin
abbrev pub raw_joined : Game → ℕ → List Entry → Stage → Reply → Stage
raw_joined g n seen s Accepted = say (raw_joined_words (name_of g n) (length seen) ∷ []) s
raw_joined g n seen s answer = say (raw_not_joined_words (name_of g n) answer ∷ []) s

abbrev pub play_raw_join : Game → ℕ → Stage → Option Stage
play_raw_join g n s = or_none (asks (ByClient n Joins) s) (λ a. Some (raw_joined g n a.seen a.stage a.reply))

-- raw: a call of a name that holds no client
abbrev pub play_raw : Game → ℕ → Op → Stage → Option Client → Option Stage
play_raw g n op s None = or_none (asks (ByClient n op) s) (λ a. Some (say (raw_words (name_of g n) a.reply ∷ []) a.stage))
play_raw g n op s (Some c) = Some (say (raw_refused_words (name_of g n) ∷ []) s)

-- a line that needs a client, whose name holds none
abbrev pub no_client : Game → ℕ → List ℕ → Stage → Stage
no_client g n word s = say (no_client_words (name_of g n) word ∷ []) s

-- edit
abbrev pub say_edit : Game → ℕ → ℕ → List ℕ → Stage → Stage
say_edit g n cell answer s = say (edit_words (name_of g n) cell answer ∷ []) s

abbrev pub with_edited : Game → ℕ → ℕ → Stage → Edited → Stage
with_edited g n cell s (Done c) = say_edit g n cell (codes "ok") (with_clients (put_client c s.clients) s)
with_edited g n cell s NoCell = say_edit g n cell (codes "refused NoCell") s
with_edited g n cell s EditTooLong = say_edit g n cell (codes "refused EditTooLong") s
with_edited g n cell s (Unfit why) = say_edit g n cell (codes "refused " ++ refusal_text (refusal_of why)) s

abbrev pub play_edit : Game → ℕ → ℕ → List Step → Stage → Option Client → Stage
play_edit g n cell d s None = no_client g n (codes "edit") s
play_edit g n cell d s (Some c) = with_edited g n cell s (edited g.opening c cell d)

-- post: one more message waits to be sent; what can't be posted changes nothing
abbrev pub posted : Game → ℕ → Op → Stage → Client → Stage
posted g n op s c = say (posted_words (name_of g n) ∷ []) (with_clients (put_client (with_message c op) s.clients) s)

abbrev pub play_post : Game → ℕ → Op → Stage → Option Client → Stage
play_post g n op s None = no_client g n (codes "post") s
play_post g n op s (Some c) = if is_postable op then posted g n op s c else s

-- post a report of the client's revision of a cell
abbrev pub with_report : Game → ℕ → Stage → Option Client → Stage
with_report g n s None = say (not_posted_words (name_of g n) ∷ []) s
with_report g n s (Some c) = say (posted_words (name_of g n) ∷ []) (with_clients (put_client c s.clients) s)

abbrev pub play_report : Game → ℕ → ℕ → Stage → Option Client → Stage
play_report g n cell s None = no_client g n (codes "post") s
play_report g n cell s (Some c) = with_report g n s (reported g.opening c cell)

-- so many, or all where there are fewer
abbrev pub how_many : Count → ℕ → ℕ
how_many (AtMost n) there = min n there
how_many All there = there

-- send: the message at the front of the client's outbox is taken and answered; nothing happens where there is none
abbrev pub without_front : Client → List Op → Client
without_front c rest = record c { outbox = rest }

abbrev pub with_sent : List Entry → Op → Reply → Stage → Stage
with_sent found op answer s = record s { sent = s.sent ++ record { found = found; op = op; reply = answer } ∷ [] }

abbrev pub send_front : Game → Client → List Op → Stage → Option Stage
send_front g c [] s = Some s
send_front g c (m ∷ rest) s =
    or_none (asks (ByClient c.number m) s)
    (λ a. Some (say (sent_words (name_of g c.number) a.reply ∷ []) (with_clients (put_client (without_front c rest) a.stage.clients) (with_sent a.found m a.reply a.stage))))

abbrev pub send_next_of : Game → Stage → Option Client → Option Stage
send_next_of g s None = Some s
send_next_of g s (Some c) = send_front g c c.outbox s

abbrev pub send_next : Game → ℕ → Stage → Option Stage
send_next g n s = send_next_of g s (client_of n s.clients)

-- so many messages, one after the other
abbrev pub send_many : ℕ → Game → ℕ → Stage → Option Stage
send_many zero g n s = Some s
send_many (suc k) g n s = or_none (send_next g n s) (send_many k g n)

abbrev pub send_or_nothing : Game → ℕ → ℕ → Stage → Option Stage
send_or_nothing g n many s = if many == 0 then Some (say (nothing_words (name_of g n) ∷ []) s) else send_many many g n s

abbrev pub play_send : Game → ℕ → Count → Stage → Option Client → Option Stage
play_send g n count s None = Some (no_client g n (codes "send") s)
play_send g n count s (Some c) = send_or_nothing g n (how_many count (length c.outbox)) s

-- recv: one fetch, of whose entries the client receives some
abbrev pub unseen : Client → List Entry → List Entry
unseen c h = drop (length c.seen) h

abbrev pub receive_some : Game → Count → List Entry → Client → Client
receive_some g count h c = received g.opening c (take (how_many count (length (unseen c h))) (unseen c h))

abbrev pub with_received : Game → ℕ → Stage → Client → Stage
with_received g n s c = say (received_words (name_of g n) (length c.seen) ∷ []) (with_clients (put_client c s.clients) s)

abbrev pub play_recv : Game → ℕ → Count → Stage → Option Client → Option Stage
play_recv g n count s None = Some (no_client g n (codes "recv") s)
play_recv g n count s (Some c) = or_none (looks s) (λ m. Some (with_received g n m.stage (receive_some g count m.seen c)))

-- a round of sync: every client in order of joining sends all, then one fetch is received by all
abbrev pub outbox_of : Option Client → List Op
outbox_of None = []
outbox_of (Some c) = c.outbox

abbrev pub waiting : ℕ → List Client → ℕ
waiting n cs = length (outbox_of (client_of n cs))

abbrev pub send_all : Game → ℕ → Stage → Option Stage
send_all g n s = send_many (waiting n s.clients) g n s

abbrev pub send_each : Game → List ℕ → Stage → Option Stage
send_each g [] s = Some s
send_each g (n ∷ ns) s = or_none (send_all g n s) (send_each g ns)

abbrev pub receive_all : Game → List Entry → List Client → List Client
receive_all g h [] = []
receive_all g h (c ∷ cs) = received g.opening c (unseen c h) ∷ receive_all g h cs

abbrev pub round : Game → Stage → Option Marked
round g s =
    or_none (send_each g (map number_of s.clients) s)
    (λ t. or_none (looks t) (λ m. Some (record { seen = m.seen; stage = with_clients (receive_all g m.seen m.stage.clients) m.stage })))

abbrev pub all_sent : List Client → Bool
all_sent [] = true
all_sent (c ∷ cs) = (length c.outbox == 0) && all_sent cs

-- rounds until every outbox is empty; each of them uses a turn
abbrev pub rounds : ℕ → Game → Stage → Option Stage
rounds zero g s = None
rounds (suc n) g s =
    or_none (round g s)
    (λ r. if all_sent r.stage.clients then Some (say (sync_words (length r.seen) ∷ []) r.stage) else rounds n g r.stage)

-- show
abbrev pub play_show : Game → ℕ → Stage → Option Client → Stage
play_show g n s None = no_client g n (codes "show") s
play_show g n s (Some c) = say (book_lines (revision (delivered g.opening c)) (held g.opening c)) s

-- pending
abbrev pub pending_shown : Game → ℕ → Client → List ℕ
pending_shown g cell c = pending_answer (found cell (cells (delivered g.opening c).book)) (pending_of cell c.pending) (length c.outbox)

abbrev pub play_pending : Game → ℕ → ℕ → Stage → Option Client → Stage
play_pending g n cell s None = no_client g n (codes "pending") s
play_pending g n cell s (Some c) = say (pending_words (name_of g n) cell (pending_shown g cell c) ∷ []) s

-- of a history, the entries under 1 past those that were there before
abbrev pub helped_since : List Entry → List Entry → List Entry
helped_since before h = entries_by (drop (length before) h) 1

-- settle: a look at which nothing is queued and nothing runs; the entries under 1 since the turn before it are the evaluations for which it waited
abbrev pub state_at : Game → Marked → State
state_at g m = state g.opening m.seen

abbrev pub with_helped : List Entry → Marked → Stage
with_helped before m = record m.stage { helped = m.stage.helped ++ helped_since before m.seen }

abbrev pub if_idle : Game → List Entry → Marked → Option Stage
if_idle g before m = if is_idle (state_at g m).work then Some (with_helped before m) else None

abbrev pub settled : Game → Stage → Option Stage
settled g s = or_none (looks s) (if_idle g s.seen)

abbrev pub play_settle : Game → Stage → Option Stage
play_settle g s = or_none (settled g s) (λ t. Some (say (codes "settled" ∷ []) t))

-- cells: a look at the states of the cells
abbrev pub states_at : State → List (List ℕ)
states_at st = status_lines st.book st.work

abbrev pub play_cells : Game → Stage → Option Stage
play_cells g s = or_none (looks s) (λ m. Some (say (states_at (state_at g m)) m.stage))

-- book: a look at the server's notebook, whose tidy form is printed as a book
abbrev pub play_book : Game → Stage → Option Stage
play_book g s = or_none (looks s) (λ m. Some (say_text (text_of (tidied (state_at g m).book)) m.stage))

-- what a line makes of the stage; nothing where a turn doesn't fit
abbrev pub play_line : Game → ScriptLine → Stage → Option Stage
play_line g (Join n) s = play_join g n s
play_line g (Leave n) s = play_leave g n s
play_line g (Edit n cell d) s = Some (play_edit g n cell d s (client_of n s.clients))
play_line g (Post n op) s = Some (play_post g n op s (client_of n s.clients))
play_line g (PostReport n cell) s = Some (play_report g n cell s (client_of n s.clients))
play_line g (Send n count) s = play_send g n count s (client_of n s.clients)
play_line g (Recv n count) s = play_recv g n count s (client_of n s.clients)
play_line g Sync s = rounds (length s.turns) g s
play_line g (Show n) s = Some (play_show g n s (client_of n s.clients))
play_line g (Pending n cell) s = Some (play_pending g n cell s (client_of n s.clients))
play_line g (RawJoin n) s = play_raw_join g n s
play_line g (Raw n op) s = play_raw g n op s (client_of n s.clients)
play_line g Settle s = play_settle g s
play_line g Cells s = play_cells g s
play_line g Book s = play_book g s

-- some lines were played: what each of them printed, a piece for each, and the stage after them
pub record Printed : Type 0 where
  pub pieces : List (List ℕ)
  pub stage : Stage

-- as a line finds the stage: it has printed nothing yet
abbrev pub unsaid : Stage → Stage
unsaid s = record s { said = [] }

abbrev pub with_piece : List ℕ → Printed → Printed
with_piece piece p = record { pieces = piece ∷ p.pieces; stage = p.stage }

-- lines one after the other: what a line has printed is its piece
abbrev pub play : Game → List ScriptLine → Stage → Option Printed
play g [] s = Some (record { pieces = []; stage = s })
play g (l ∷ ls) s = or_none (play_line g l (unsaid s)) (λ t. or_none (play g ls t) (λ p. Some (with_piece t.said p)))
