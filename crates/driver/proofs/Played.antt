-- Lines played one after the other, and the end.
use Rattle.std.specs.List.{concat}
use Rattle.std.proofs.Common.{◌≡◌, inl, inr, ℕ, ◌+◌, ◌<◌, ◌≤◌, if◌then◌else◌, List, [], ◌∷◌, ◌++◌, length, map, take, drop, get_or, Option, Some, None, codes, refl, sym, ap, subst, ◌∙◌, append_assoc}
use Rattle.std.specs.List.{AllByRecursion}
use Rattle.std.proofs.lemmas.List.{append-nil, drop_more, take_more, take_all, take-append-drop}
use Rattle.std.proofs.lemmas.Grind.{flat_map-append}
use Rattle.notebook.specs.declared.parts.Parts.{Parts}
use Rattle.session_ops.specs.declared.entry.Entry.{Entry}
use Rattle.notebook.specs.Rules.{IsNotebook}
use Rattle.session_ops.specs.State.{State, state, revision, entries_by}
use Rattle.session_ops.specs.Snapshot.{IsSnapshot, Snapshot}
use Rattle.session_ops.proofs.Growing.{state-append}
use Rattle.session_ops.proofs.Settled.{nothing-changed}
use Rattle.session_core.specs.Session.{IsSession, entry_of}
use Rattle.client_sync.specs.Client.{Client as Holder}
use Rattle.client_sync.proofs.Holding.{holds-all}
use Rattle.world.specs.Waiting.{IsHonest}
use Rattle.script.specs.declared.line.ScriptLine.{ScriptLine}
use Rattle.script.specs.declared.content.Content.{Content}
use Rattle.transcript.specs.Texts.{as_text, ended_line, book_lines, rev_in}
use Rattle.book_outside.specs.Outside.{AppendsAll, AppendsFront}
use Rattle.livemd_format.specs.declared.notices.Notice.{Notice}
use Rattle.driver.specs.Lines.{notice_line}
use Rattle.driver.specs.Turns.{Looked, turns_from, AreMarks}
use Rattle.driver.specs.Around.{Output, write_of, writes_of, AreWritten, AreCut}
use Rattle.driver.specs.Player.{Game, Stage, Printed, or_none, say, unsaid, with_piece, play, play_line, settled, states_at}
use Rattle.driver.specs.Transcript.{game, begun, printed_by, ended, finished, pieces_of, ending, end_lines}
use Rattle.driver.specs.Headline.{AllOfRun, AllAnswered, AllClients, AllFair, TakeReadyLanes, LeaveStates, IsHistory, IsActual, IsPlayed, IsBrokenOff, IsCut, call_of}
use Rattle.driver.specs.Clients.{AreMirrors}
use Rattle.driver.specs.Standing.{Stands, HasPlayed, entries_of, turns_of}
use Rattle.driver.specs.Ends.{IsFresh, HasEnded, EndsWritten, EndsCut, EndsLeft, IsPlayedAfter, IsCutAfter, IsLeftAfter, IsLeftOf, IsLeftSo, IsPlayedOut}
use Rattle.driver.specs.Playing.{ArePlayed, HavePlayed, HaveBrokenOff, HaveStopped}
use Rattle.driver.specs.declared.player.Player.{Player}
use Rattle.driver.proofs.Once.{all-grown}
use Rattle.world.proofs.Fronts.{fronts-show}
use Rattle.driver.proofs.Showing.{listed-lines}
use Rattle.driver.proofs.Settled.{after_settling, looked-stands, looked-turns}
use Rattle.driver.proofs.Readying.{ready-none}

-- texts one after the other
texts-append : (xs ys : List (List ℕ)) → concat (xs ++ ys) ≡ concat xs ++ concat ys
texts-append [] ys = refl
texts-append (x ∷ xs) ys = ap (λ z. x ++ z) (texts-append xs ys) ∙ sym (append_assoc x (concat xs) (concat ys))

-- writes of some pieces, and of others after them
writes-append : (xs ys : List (List ℕ)) (n : ℕ) → writes_of (xs ++ ys) n ≡ writes_of ys (writes_of xs n)
writes-append [] ys n = refl
writes-append (x ∷ xs) ys n = writes-append xs ys (write_of x n)

writes-more : (xs ys : List (List ℕ)) (n0 n1 n2 : ℕ) → n1 ≡ writes_of xs n0 → n2 ≡ writes_of ys n1 → n2 ≡ writes_of (xs ++ ys) n0
writes-more xs ys n0 n1 n2 e k = k ∙ (ap (writes_of ys) e ∙ sym (writes-append xs ys n0))

-- written bytes
bytes-more : (w0 w1 w2 : Option (List ℕ)) (xs ys : List ℕ) → AppendsAll w0 xs w1 → AppendsAll w1 ys w2 → AppendsAll w0 (xs ++ ys) w2
bytes-more None w1 w2 xs ys h k = tt
bytes-more (Some w) w1 w2 xs ys h k = subst (λ o. AppendsAll o ys w2) h k ∙ ap Some (append_assoc w xs ys)

bytes-none : (w : Option (List ℕ)) → AppendsAll w [] w
bytes-none None = tt
bytes-none (Some w) = ap Some (sym (append-nil w))

-- all of one text, and a front of the next
bytes-front : (w0 w1 w2 : Option (List ℕ)) (xs ys : List ℕ) → AppendsAll w0 xs w1 → AppendsFront w1 ys w2 → AppendsFront w0 (xs ++ ys) w2
bytes-front None w1 w2 xs ys h k = tt
bytes-front (Some w) w1 w2 xs ys h k =
    let f : AppendsFront (Some (w ++ xs)) ys w2 = subst (λ o. AppendsFront o ys w2) h k in
    record { part = xs ++ f.part; rest = f.rest; parts = ap (λ z. xs ++ z) f.parts ∙ sym (append_assoc xs f.part f.rest); appended = f.appended ∙ ap Some (append_assoc w xs f.part) }

-- a front of a text: all of it, and nothing
front-all : (w0 w1 : Option (List ℕ)) (bytes : List ℕ) → AppendsAll w0 bytes w1 → AppendsFront w0 bytes w1
front-all None w1 bytes h = tt
front-all (Some w) w1 bytes h = record { part = bytes; rest = []; parts = sym (append-nil bytes); appended = h }

pub front-none : (w0 w1 : Option (List ℕ)) (bytes : List ℕ) → w1 ≡ w0 → AppendsFront w0 bytes w1
front-none None w1 bytes e = tt
front-none (Some w) w1 bytes e = record { part = []; rest = bytes; parts = refl; appended = e ∙ ap Some (sym (append-nil w)) }

-- written pieces
pub written-none : (a : Output) → AreWritten [] a a
written-none a = record { appended = bytes-none a.written; asked = refl }

pub written-one : (piece : List ℕ) (a b : Output) → AppendsAll a.written piece b.written → b.writes ≡ write_of piece a.writes → AreWritten (piece ∷ []) a b
written-one piece a b h e = record { appended = subst (λ t. AppendsAll a.written t b.written) (sym (append-nil piece)) h; asked = e }

pub cut-one : (piece : List ℕ) (a b : Output) → AppendsFront a.written piece b.written → b.writes ≡ write_of piece a.writes → AreCut (piece ∷ []) a b
cut-one piece a b h e = record { front = subst (λ t. AppendsFront a.written t b.written) (sym (append-nil piece)) h; asked = e }

pub written-more : (a b c : Output) (xs ys : List (List ℕ)) → AreWritten xs a b → AreWritten ys b c → AreWritten (xs ++ ys) a c
written-more a b c xs ys h k =
    record {
      appended = subst (λ t. AppendsAll a.written t c.written) (sym (texts-append xs ys)) (bytes-more a.written b.written c.written (concat xs) (concat ys) h.appended k.appended);
      asked = writes-more xs ys a.writes b.writes c.writes h.asked k.asked;
    }

-- all of some pieces, and a front of others
pub written-front : (a b c : Output) (xs ys : List (List ℕ)) → AreWritten xs a b → AreCut ys b c → AreCut (xs ++ ys) a c
written-front a b c xs ys h k =
    record {
      front = subst (λ t. AppendsFront a.written t c.written) (sym (texts-append xs ys)) (bytes-front a.written b.written c.written (concat xs) (concat ys) h.appended k.front);
      asked = writes-more xs ys a.writes b.writes c.writes h.asked k.asked;
    }

-- before the first line of some
played-none : (g : Game) (p : Player) (s : Stage) → Stands g p s → ArePlayed g [] p p s []
played-none g p s st = record { stage = s; more = []; grown = sym (append-nil (turns_of p)); plays = λ rest. refl; stands = st }

pub have-none : (g : Game) (lines : List ScriptLine) (p : Player) (s : Stage) (a : Output) → Stands g p s → HavePlayed g (take 0 lines) p p s a a
have-none g lines p s a st = record { pieces = []; played = played-none g p s st; written = written-none a }

-- a line behind others
abbrev printing : List (List ℕ) → Stage → Printed
printing pieces s = record { pieces = pieces; stage = s }

abbrev line-on : Game → ScriptLine → Printed → Option Printed
line-on g l p = or_none (play_line g l (unsaid p.stage)) (λ t. Some (printing (p.pieces ++ t.said ∷ []) t))

piece-around : (x : List ℕ) (p : Printed) (r : Option Stage) → or_none (or_none r (λ t. Some (printing (p.pieces ++ t.said ∷ []) t))) (λ q. Some (with_piece x q)) ≡ or_none r (λ t. Some (printing ((x ∷ p.pieces) ++ t.said ∷ []) t))
piece-around x p None = refl
piece-around x p (Some t) = refl

line-behind : (g : Game) (l : ScriptLine) (x : List ℕ) (q : Option Printed) → or_none (or_none q (line-on g l)) (λ p. Some (with_piece x p)) ≡ or_none (or_none q (λ p. Some (with_piece x p))) (line-on g l)
line-behind g l x None = refl
line-behind g l x (Some p) = piece-around x p (play_line g l (unsaid p.stage))

line-then : (g : Game) (ms : List ScriptLine) (l : ScriptLine) → ((u : Stage) → play g (ms ++ l ∷ []) u ≡ or_none (play g ms u) (line-on g l)) → (o : Option Stage)
    → or_none o (λ u. or_none (play g (ms ++ l ∷ []) u) (λ p. Some (with_piece u.said p))) ≡ or_none (or_none o (λ u. or_none (play g ms u) (λ p. Some (with_piece u.said p)))) (line-on g l)
line-then g ms l e None = refl
line-then g ms l e (Some u) = ap (λ q. or_none q (λ p. Some (with_piece u.said p))) (e u) ∙ line-behind g l u.said (play g ms u)

play-then : (g : Game) (first : List ScriptLine) (l : ScriptLine) (t : Stage) → play g (first ++ l ∷ []) t ≡ or_none (play g first t) (line-on g l)
play-then g [] l t = refl
play-then g (m ∷ ms) l t = line-then g ms l (play-then g ms l) (play_line g m (unsaid t))

-- one line more
take-next : (xs : List ScriptLine) (i : ℕ) (l : ScriptLine) → i < length xs → l ≡ get_or xs i l → take (i + 1) xs ≡ take i xs ++ l ∷ []
take-next xs i l lt is = take_more xs i l lt ∙ ap (λ x. take i xs ++ x ∷ []) (sym is)

-- what a line has printed doesn't matter to what stands
stands-unsaid : (g : Game) (p : Player) (s : Stage) → Stands g p s → Stands g p (unsaid s)
stands-unsaid g p s st =
    record {
      session = st.session;
      used = st.used;
      seen = st.seen;
      marks = st.marks;
      run = st.run;
      answered = st.answered;
      ready = st.ready;
      fair = st.fair;
      asked = st.asked;
      helped = st.helped;
      whole = st.whole;
      honest = st.honest;
      apart = st.apart;
      mirrored = st.mirrored;
    }

-- lines were played, and then one more
played-then : (g : Game) (first : List ScriptLine) (l : ScriptLine) (p0 p1 p2 : Player) (s : Stage) (pieces : List (List ℕ)) (bytes : List ℕ) → (x : ArePlayed g first p0 p1 s pieces) → HasPlayed g l p1 p2 (unsaid x.stage) [] bytes
    → ArePlayed g (first ++ l ∷ []) p0 p2 s (pieces ++ bytes ∷ [])
played-then g first l p0 p1 p2 s pieces bytes x y =
    record {
      stage = y.stage;
      more = x.more ++ y.more;
      grown = y.grown ∙ (ap (λ ts. ts ++ y.more) x.grown ∙ append_assoc (turns_of p0) x.more y.more);
      plays = λ rest.
          let last : Stage = record y.stage { turns = rest } in
          ap (λ ts. play g (first ++ l ∷ []) (record s { turns = ts })) (append_assoc x.more y.more rest)
          ∙ (play-then g first l (record s { turns = x.more ++ (y.more ++ rest) })
          ∙ (ap (λ o. or_none o (line-on g l)) (x.plays (y.more ++ rest))
          ∙ (ap (λ o. or_none o (λ t. Some (printing (pieces ++ t.said ∷ []) t))) (y.acts rest) ∙ ap (λ w. Some (printing (pieces ++ w ∷ []) last)) (y.said ∙ sym y.printed))));
      stands = y.stands;
    }

-- a line behind others was played
have-done : (g : Game) (lines : List ScriptLine) (i : ℕ) (l : ScriptLine) (p0 p1 p2 : Player) (s : Stage) (a b : Output) (bytes : List ℕ) → i < length lines → l ≡ get_or lines i l → (x : HavePlayed g (take i lines) p0 p1 s a b)
    → ((t : Stage) → Stands g p1 t → HasPlayed g l p1 p2 t [] bytes) → ArePlayed g (take (i + 1) lines) p0 p2 s (x.pieces ++ bytes ∷ [])
have-done g lines i l p0 p1 p2 s a b bytes lt is x f =
    let u : Stage = unsaid x.played.stage in
    let both : ArePlayed g (take i lines ++ l ∷ []) p0 p2 s (x.pieces ++ bytes ∷ []) = played-then g (take i lines) l p0 p1 p2 s x.pieces bytes x.played (f u (stands-unsaid g p1 x.played.stage x.played.stands)) in
    subst (λ ls. ArePlayed g ls p0 p2 s (x.pieces ++ bytes ∷ [])) (sym (take-next lines i l lt is)) both

pub have-more : (g : Game) (lines : List ScriptLine) (i : ℕ) (l : ScriptLine) (p0 p1 p2 : Player) (s : Stage) (a b c : Output) (bytes : List ℕ) → i < length lines → l ≡ get_or lines i l → HavePlayed g (take i lines) p0 p1 s a b
    → ((t : Stage) → Stands g p1 t → HasPlayed g l p1 p2 t [] bytes) → AreWritten (bytes ∷ []) b c → HavePlayed g (take (i + 1) lines) p0 p2 s a c
have-more g lines i l p0 p1 p2 s a b c bytes lt is x f w = record { pieces = x.pieces ++ bytes ∷ []; played = have-done g lines i l p0 p1 p2 s a b bytes lt is x f; written = written-more a b c x.pieces (bytes ∷ []) x.written w }

-- all lines
pub have-all : (g : Game) (lines : List ScriptLine) (i : ℕ) (p0 p1 : Player) (s : Stage) (a b : Output) → length lines ≤ i → HavePlayed g (take i lines) p0 p1 s a b → HavePlayed g lines p0 p1 s a b
have-all g lines i p0 p1 s a b le x = subst (λ ls. HavePlayed g ls p0 p1 s a b) (take_all i lines le) x

-- the line was played, but just a front of its piece was written
pub have-failed : (g : Game) (lines : List ScriptLine) (i : ℕ) (l : ScriptLine) (p0 p1 p2 : Player) (s : Stage) (a b c : Output) (bytes : List ℕ) → i < length lines → l ≡ get_or lines i l → HavePlayed g (take i lines) p0 p1 s a b
    → ((t : Stage) → Stands g p1 t → HasPlayed g l p1 p2 t [] bytes) → AreCut (bytes ∷ []) b c → HaveBrokenOff g lines p0 p2 s a c
have-failed g lines i l p0 p1 p2 s a b c bytes lt is x f w =
    record {
      first = take (i + 1) lines;
      others = drop (i + 1) lines;
      parts = sym (take-append-drop (i + 1) lines);
      pieces = x.pieces ++ bytes ∷ [];
      played = have-done g lines i l p0 p1 p2 s a b bytes lt is x f;
      written = written-front a b c x.pieces (bytes ∷ []) x.written w;
    }

-- the first lines were played, and all that they print was written
written-all : (pieces : List (List ℕ)) (a b : Output) → AreWritten pieces a b → AreCut pieces a b
written-all pieces a b w = record { front = front-all a.written b.written (concat pieces) w.appended; asked = w.asked }

have-broken : (g : Game) (lines first others : List ScriptLine) (p0 p1 : Player) (s : Stage) (a b : Output) → lines ≡ first ++ others → HavePlayed g first p0 p1 s a b → HaveBrokenOff g lines p0 p1 s a b
have-broken g lines first others p0 p1 s a b parts x = record { first = first; others = others; parts = parts; pieces = x.pieces; played = x.played; written = written-all x.pieces a b x.written }

-- a line found no memory, before anything of it was written
pub have-stopped : (g : Game) (lines : List ScriptLine) (i : ℕ) (p0 p1 : Player) (s : Stage) (a b : Output) → HavePlayed g (take i lines) p0 p1 s a b → HaveStopped g lines p0 s a b
have-stopped g lines i p0 p1 s a b x = record { last = p1; broken = have-broken g lines (take i lines) (drop i lines) p0 p1 s a b (sym (take-append-drop i lines)) x }

-- a history that was played
pub history-of : (g : Game) (p : Player) (s : Stage) → Stands g p s → IsHistory g.opening 0 (entries_of p) p.marks
history-of g p s st = record { legal = st.session.legal; marked = st.marks; others = st.run; answered = st.answered; ready = st.ready }

-- the clients of the stage are those of the history
clients-of : (n0 : Parts) (h : List Entry) (cs : List Holder) → AllByRecursion (IsHonest n0 h) cs → AllClients n0 h cs
clients-of n0 h [] all = tt
clients-of n0 h (c ∷ cs) all = (record { cursor = (all.0.later, all.0.behind); honest = all.0; agrees = λ seen quiet. holds-all n0 h c seen quiet }, clients-of n0 h cs all.1)

-- late answers and refusals change nothing
states-left : (n0 : Parts) (h : List Entry) → LeaveStates n0 h
states-left n0 h = λ before rest by call answer e k. state-append n0 before (entry_of by call answer) ∙ nothing-changed n0 before by call answer k

-- the history that was played, with a stage that has its calls, what settling waited for, messages and clients
actual-of : (n0 : Parts) (h : List Entry) (marks : List ℕ) (s : Stage) → IsNotebook n0 → IsHistory n0 0 h marks → s.asked ≡ map call_of (entries_by h 0) → s.helped ≡ entries_by h 1 → AllFair n0 s.sent → AllByRecursion (IsHonest n0 h) s.clients → IsActual n0 0 h marks s
actual-of n0 h marks s opening history calls helped fair honest =
    record { history = history; calls = calls; settling = sym helped; fair = fair; clients = clients-of n0 h s.clients honest; once = all-grown n0 h opening history.legal; evaluated = fronts-show n0 h history.legal; late = states-left n0 h }

-- a player before its first line
pub first-stands : (n0 : Parts) (names : List (List ℕ)) (p : Player) → IsFresh n0 p → Stands (record { opening = n0; names = names }) p (begun [] [])
first-stands n0 names p fr =
    record {
      session = fr.session;
      used = refl;
      seen = sym fr.history;
      marks = subst (λ ms. AreMarks 0 ms (length (entries_of p))) (sym fr.marks) tt;
      run = subst (AllOfRun 0) (sym fr.history) tt;
      answered = subst AllAnswered (sym fr.history) tt;
      ready = subst (TakeReadyLanes n0 1 []) (sym fr.history) (ready-none n0 1 []);
      fair = tt;
      asked = ap (λ h. map call_of (entries_by h 0)) (sym fr.history);
      helped = ap (λ h. entries_by h 1) (sym fr.history);
      whole = record { legal = fr.session.legal; notebook = fr.session.opening; joined = tt; behind = tt };
      honest = tt;
      apart = tt;
      mirrored = subst (λ xs. AreMirrors n0 xs []) (sym fr.clients) tt;
    }

no-turns : (n0 : Parts) (p : Player) → IsFresh n0 p → turns_of p ≡ []
no-turns n0 p fr = ap (λ h. turns_from [] h p.marks) fr.history ∙ ap (λ ms. turns_from [] [] ms) fr.marks

-- the play with its end
run-all : (n0 : Parts) (notices : List (List ℕ)) (content : Content) (p0 p1 p2 : Player) (pieces : List (List ℕ)) → IsFresh n0 p0 → ArePlayed (game n0 content) content.lines p0 p1 (begun [] []) pieces → HasEnded n0 p1 p2
    → IsPlayed n0 notices content 0 (entries_of p2) p2.marks (pieces_of n0 notices (entries_of p2) pieces)
run-all n0 notices content p0 p1 p2 pieces fr l over =
    let g : Game = game n0 content in
    let h : List Entry = entries_of p2 in
    let ms : List ℕ = p2.marks in
    let looking : Stage = record l.stage { turns = Looked h ∷ [] } in
    let last : Stage = after_settling l.stage h in
    let end : Stands g p2 (say [] last) = looked-stands g p1 p2 l.stage [] l.stands over.settled.gone over.clients over.marks in
    let grown : turns_of p1 ≡ l.more = l.grown ∙ ap (λ ts. ts ++ l.more) (no-turns n0 p0 fr) in
    let turns : turns_of p2 ≡ l.more ++ Looked h ∷ [] = looked-turns g p1 p2 l.stage l.stands over.settled.gone over.marks ∙ ap (λ ts. ts ++ Looked h ∷ []) grown in
    let lines : printed_by n0 content content.lines h ms ≡ Some (printing pieces looking)
    = ap (λ ts. let k : Stage = record { turns = ts; seen = []; clients = []; asked = []; sent = []; helped = []; said = [] } in play g content.lines k) turns ∙ l.plays (Looked h ∷ []) in
    let idle : settled g looking ≡ Some last = ap (λ b. if b then Some last else None) over.settled.idle in
    let done : finished n0 content h ms ≡ Some (printing pieces last) = ap (λ o. or_none o (ended n0 content)) lines ∙ ap (λ o. or_none o (λ s. Some (printing pieces s))) idle in
    record {
      printed = ap (λ o. or_none o (λ p. ending n0 notices h p.pieces p.stage.turns)) done;
      end = printing pieces last;
      played = done;
      actual = actual-of n0 h ms last fr.session.opening (record { legal = end.session.legal; marked = end.marks; others = end.run; answered = end.answered; ready = end.ready }) end.asked end.helped end.fair end.honest;
    }

-- the end of the play
all-played : (n0 : Parts) (content : Content) (p0 p1 p2 : Player) (a b c : Output) → IsFresh n0 p0 → HavePlayed (game n0 content) content.lines p0 p1 (begun [] []) a b → EndsWritten n0 p1 p2 b c → IsPlayedAfter n0 content (entries_of p2) p2.marks a c
all-played n0 content p0 p1 p2 a b c fr x ends =
    let end : List ℕ = as_text (end_lines (state n0 (entries_of p2))) in
    record { pieces = x.pieces ++ end ∷ []; played = λ notices. run-all n0 notices content p0 p1 p2 x.pieces fr x.played ends.ended; written = written-more a b c x.pieces (end ∷ []) x.written ends.written }

-- the end was played, but just a front of it was written
all-cut : (n0 : Parts) (content : Content) (p0 p1 p2 : Player) (a b c : Output) → IsFresh n0 p0 → HavePlayed (game n0 content) content.lines p0 p1 (begun [] []) a b → EndsCut n0 p1 p2 b c → IsCutAfter n0 content (entries_of p2) p2.marks a c
all-cut n0 content p0 p1 p2 a b c fr x ends =
    let end : List ℕ = as_text (end_lines (state n0 (entries_of p2))) in
    record { pieces = x.pieces ++ end ∷ []; run = λ notices. inl (run-all n0 notices content p0 p1 p2 x.pieces fr x.played ends.ended); written = written-front a b c x.pieces (end ∷ []) x.written ends.written }

-- some lines were played, and just a front of what they print was written
run-first : (n0 : Parts) (notices : List (List ℕ)) (content : Content) (first others : List ScriptLine) (p0 p1 : Player) (pieces : List (List ℕ)) → IsFresh n0 p0 → content.lines ≡ first ++ others → ArePlayed (game n0 content) first p0 p1 (begun [] []) pieces
    → IsBrokenOff n0 notices content 0 (entries_of p1) p1.marks (as_text notices ∷ pieces)
run-first n0 notices content first others p0 p1 pieces fr parts l =
    let g : Game = game n0 content in
    let h : List Entry = entries_of p1 in
    let ms : List ℕ = p1.marks in
    let last : Stage = record l.stage { turns = [] } in
    let turns : turns_of p1 ≡ l.more ++ [] = l.grown ∙ (ap (λ ts. ts ++ l.more) (no-turns n0 p0 fr) ∙ sym (append-nil l.more)) in
    let done : printed_by n0 content first h ms ≡ Some (printing pieces last) = ap (λ ts. let k : Stage = record { turns = ts; seen = []; clients = []; asked = []; sent = []; helped = []; said = [] } in play g first k) turns ∙ l.plays [] in
    record {
      lines = first;
      others = others;
      first = parts;
      end = printing pieces last;
      played = done;
      used = refl;
      printed = refl;
      actual = actual-of n0 h ms last fr.session.opening (history-of g p1 l.stage l.stands) l.stands.asked l.stands.helped l.stands.fair l.stands.honest;
    }

lines-cut : (n0 : Parts) (content : Content) (p0 p1 : Player) (a b : Output) → IsFresh n0 p0 → HaveBrokenOff (game n0 content) content.lines p0 p1 (begun [] []) a b → IsCutAfter n0 content (entries_of p1) p1.marks a b
lines-cut n0 content p0 p1 a b fr x = record { pieces = x.pieces; run = λ notices. inr (run-first n0 notices content x.first x.others p0 p1 x.pieces fr x.parts x.played); written = x.written }

-- all lines were played, and there was no memory for the end: no write was asked for, or nothing of it was written
all-left : (n0 : Parts) (content : Content) (p0 p1 p2 : Player) (a b c : Output) → IsFresh n0 p0 → HavePlayed (game n0 content) content.lines p0 p1 (begun [] []) a b → EndsLeft n0 p1 p2 b c → IsLeftAfter n0 content a c
all-left n0 content p0 p1 p2 a b c fr x (inl same) =
    let broken : HaveBrokenOff (game n0 content) content.lines p0 p1 (begun [] []) a b = have-broken (game n0 content) content.lines content.lines [] p0 p1 (begun [] []) a b (sym (append-nil content.lines)) x in
    record { history = entries_of p1; marks = p1.marks; cut = subst (λ o. IsCutAfter n0 content (entries_of p1) p1.marks a o) (sym same) (lines-cut n0 content p0 p1 a b fr broken) }
all-left n0 content p0 p1 p2 a b c fr x (inr ends) = record { history = entries_of p2; marks = p2.marks; cut = all-cut n0 content p0 p1 p2 a b c fr x ends }

-- what a session prints of itself at the end
pub end-printed : (n0 : Parts) (p : Player) (x : Snapshot) (a b c : List ℕ) → IsSnapshot (state n0 (entries_of p)) (length (entries_of p)) x → a ≡ as_text (codes "end" ∷ []) → b ≡ a ++ as_text (book_lines (rev_in x.revs) x.book) → c ≡ b ++ as_text (states_at (state n0 (entries_of p))) → c ≡ as_text (end_lines (state n0 (entries_of p)))
end-printed n0 p x a b c is ea eb ec =
    let st : State = state n0 (entries_of p) in
    let lines : book_lines (rev_in x.revs) x.book ≡ book_lines (revision st) st.book = ap (book_lines (rev_in x.revs)) is.book ∙ listed-lines st st.book x.revs is.revs (λ id e. e) in
    ec ∙ (ap (λ y. y ++ as_text (states_at st)) (eb ∙ (ap (λ y. y ++ as_text (book_lines (rev_in x.revs) x.book)) ea ∙ ap (λ ls. as_text (codes "end" ∷ []) ++ as_text ls) lines))
    ∙ (append_assoc (as_text (codes "end" ∷ [])) (as_text (book_lines (revision st) st.book)) (as_text (states_at st)) ∙ ap (λ y. as_text (codes "end" ∷ []) ++ y) (sym (flat_map-append ended_line (book_lines (revision st) st.book) (states_at st)))))

-- one notice more
pub notices-more : (xs : List Notice) (i : ℕ) (x : Notice) (a b : List ℕ) → i < length xs → b ≡ a ++ as_text (notice_line (get_or xs i x) ∷ []) → b ++ as_text (map notice_line (drop (i + 1) xs)) ≡ a ++ as_text (map notice_line (drop i xs))
notices-more xs i x a b lt e =
    let line : List ℕ = ended_line (notice_line (get_or xs i x)) in
    let rest : List ℕ = as_text (map notice_line (drop (i + 1) xs)) in
    ap (λ y. y ++ rest) e ∙ (append_assoc a (line ++ []) rest ∙ (ap (λ y. a ++ y) (append_assoc line [] rest) ∙ ap (λ ns. a ++ as_text (map notice_line ns)) (sym (drop_more xs i x lt))))

-- the notices were written, and then what was played
pub noticed-all : (n0 : Parts) (notices : List (List ℕ)) (content : Content) (p : Player) (a b c : Output) → AreWritten (as_text notices ∷ []) a b → IsPlayedAfter n0 content (entries_of p) p.marks b c → IsPlayedOut n0 notices content (entries_of p) p.marks a c
noticed-all n0 notices content p a b c w x = record { pieces = as_text notices ∷ x.pieces; played = x.played notices; written = written-more a b c (as_text notices ∷ []) x.pieces w x.written }

-- the notices were written, and then a front of what was played
pub noticed-cut : (n0 : Parts) (notices : List (List ℕ)) (content : Content) (p : Player) (a b c : Output) → AreWritten (as_text notices ∷ []) a b → IsCutAfter n0 content (entries_of p) p.marks b c → IsCut n0 notices content 0 (entries_of p) p.marks a c
noticed-cut n0 notices content p a b c w x = record { pieces = as_text notices ∷ x.pieces; run = x.run notices; written = written-front a b c (as_text notices ∷ []) x.pieces w x.written }

-- the notices were written, and then what there was memory for
pub noticed-left : (n0 : Parts) (notices : List (List ℕ)) (content : Content) (a b c : Output) → AreWritten (as_text notices ∷ []) a b → IsLeftAfter n0 content b c → IsLeftSo n0 notices content a c
noticed-left n0 notices content a b c w x =
    inr (record { history = x.history; marks = x.marks; cut = record { pieces = as_text notices ∷ x.cut.pieces; run = x.cut.run notices; written = written-front a b c (as_text notices ∷ []) x.cut.pieces w x.cut.written } })

-- just a front of the notices was written, and nothing was played
pub notices-cut : (n0 : Parts) (notices : List (List ℕ)) (content : Content) (p : Player) (a b : Output) → IsFresh n0 p → AreCut (as_text notices ∷ []) a b → IsCut n0 notices content 0 (entries_of p) p.marks a b
notices-cut n0 notices content p a b fr w =
    let st : Stands (game n0 content) p (begun [] []) = first-stands n0 content.names p fr in
    let broken : IsBrokenOff n0 notices content 0 (entries_of p) p.marks (as_text notices ∷ []) = run-first n0 notices content [] content.lines p p [] fr refl (played-none (game n0 content) p (begun [] []) st) in
    record { pieces = as_text notices ∷ []; run = inr broken; written = w }

-- there was no memory for the notices: no write was asked for, or nothing of them was written
pub notices-left : (n0 : Parts) (notices : List (List ℕ)) (content : Content) (p : Player) (a b : Output) → IsFresh n0 p → IsLeftOf (as_text notices) a b → IsLeftSo n0 notices content a b
notices-left n0 notices content p a b fr (inl same) = inl same
notices-left n0 notices content p a b fr (inr w) = inr (record { history = entries_of p; marks = p.marks; cut = notices-cut n0 notices content p a b fr w })

-- what playing the lines gives, by their names and themselves
abbrev pub LinesPlayed : Player → Player → Output → Output → List (List ℕ) → List ScriptLine → Type 0
LinesPlayed p0 p1 a b names lines = (n0 : Parts) → (s : Stage) → Stands (record { opening = n0; names = names }) p0 s → HavePlayed (record { opening = n0; names = names }) lines p0 p1 s a b

abbrev pub LinesFailed : Player → Player → Output → Output → List (List ℕ) → List ScriptLine → Type 0
LinesFailed p0 p1 a b names lines = (n0 : Parts) → (s : Stage) → Stands (record { opening = n0; names = names }) p0 s → HaveBrokenOff (record { opening = n0; names = names }) lines p0 p1 s a b

-- the same of the script that has them
fresh-lines : (n0 : Parts) (content : Content) (p0 p1 : Player) (a b : Output) (names : List (List ℕ)) (lines : List ScriptLine) → IsFresh n0 p0 → names ≡ content.names → lines ≡ content.lines → LinesPlayed p0 p1 a b names lines → HavePlayed (game n0 content) content.lines p0 p1 (begun [] []) a b
fresh-lines n0 content p0 p1 a b names lines fr en el f =
    let f' : LinesPlayed p0 p1 a b content.names content.lines = subst (λ ns. LinesPlayed p0 p1 a b ns content.lines) en (subst (λ ls. LinesPlayed p0 p1 a b names ls) el f) in
    f' n0 (begun [] []) (first-stands n0 content.names p0 fr)

-- the session after the lines
pub fresh-session : (n0 : Parts) (content : Content) (p0 p1 : Player) (a b : Output) (names : List (List ℕ)) (lines : List ScriptLine) → IsFresh n0 p0 → names ≡ content.names → lines ≡ content.lines → LinesPlayed p0 p1 a b names lines → IsSession n0 p1.session
fresh-session n0 content p0 p1 a b names lines fr en el f = (fresh-lines n0 content p0 p1 a b names lines fr en el f).played.stands.session

-- the script was played to its end
pub fresh-played : (n0 : Parts) (content : Content) (p0 p1 p2 : Player) (a b c : Output) (names : List (List ℕ)) (lines : List ScriptLine) → IsFresh n0 p0 → names ≡ content.names → lines ≡ content.lines → LinesPlayed p0 p1 a b names lines → EndsWritten n0 p1 p2 b c
    → IsPlayedAfter n0 content (entries_of p2) p2.marks a c
fresh-played n0 content p0 p1 p2 a b c names lines fr en el f ends = all-played n0 content p0 p1 p2 a b c fr (fresh-lines n0 content p0 p1 a b names lines fr en el f) ends

-- just a front of the end could be written
pub fresh-cut : (n0 : Parts) (content : Content) (p0 p1 p2 : Player) (a b c : Output) (names : List (List ℕ)) (lines : List ScriptLine) → IsFresh n0 p0 → names ≡ content.names → lines ≡ content.lines → LinesPlayed p0 p1 a b names lines → EndsCut n0 p1 p2 b c
    → IsCutAfter n0 content (entries_of p2) p2.marks a c
fresh-cut n0 content p0 p1 p2 a b c names lines fr en el f ends = all-cut n0 content p0 p1 p2 a b c fr (fresh-lines n0 content p0 p1 a b names lines fr en el f) ends

-- just a front of a line's piece could be written
pub fresh-failed : (n0 : Parts) (content : Content) (p0 p1 : Player) (a b : Output) (names : List (List ℕ)) (lines : List ScriptLine) → IsFresh n0 p0 → names ≡ content.names → lines ≡ content.lines → LinesFailed p0 p1 a b names lines → IsCutAfter n0 content (entries_of p1) p1.marks a b
fresh-failed n0 content p0 p1 a b names lines fr en el f =
    let f' : LinesFailed p0 p1 a b content.names content.lines = subst (λ ns. LinesFailed p0 p1 a b ns content.lines) en (subst (λ ls. LinesFailed p0 p1 a b names ls) el f) in
    lines-cut n0 content p0 p1 a b fr (f' n0 (begun [] []) (first-stands n0 content.names p0 fr))

-- a line found no memory
abbrev pub LinesStopped : Player → Output → Output → List (List ℕ) → List ScriptLine → Type 0
LinesStopped p0 a b names lines = (n0 : Parts) → (s : Stage) → Stands (record { opening = n0; names = names }) p0 s → HaveStopped (record { opening = n0; names = names }) lines p0 s a b

pub fresh-stopped : (n0 : Parts) (content : Content) (p0 : Player) (a b : Output) (names : List (List ℕ)) (lines : List ScriptLine) → IsFresh n0 p0 → names ≡ content.names → lines ≡ content.lines → LinesStopped p0 a b names lines → IsLeftAfter n0 content a b
fresh-stopped n0 content p0 a b names lines fr en el f =
    let f' : LinesStopped p0 a b content.names content.lines = subst (λ ns. LinesStopped p0 a b ns content.lines) en (subst (λ ls. LinesStopped p0 a b names ls) el f) in
    let x = f' n0 (begun [] []) (first-stands n0 content.names p0 fr) in
    record { history = entries_of x.last; marks = x.last.marks; cut = lines-cut n0 content p0 x.last a b fr x.broken }

-- the end found no memory
pub fresh-left : (n0 : Parts) (content : Content) (p0 p1 p2 : Player) (a b c : Output) (names : List (List ℕ)) (lines : List ScriptLine) → IsFresh n0 p0 → names ≡ content.names → lines ≡ content.lines → LinesPlayed p0 p1 a b names lines → EndsLeft n0 p1 p2 b c
    → IsLeftAfter n0 content a c
fresh-left n0 content p0 p1 p2 a b c names lines fr en el f ends = all-left n0 content p0 p1 p2 a b c fr (fresh-lines n0 content p0 p1 a b names lines fr en el f) ends
