-- What one call of a client makes of the player.
use Rattle.std.proofs.Common.{◌≡◌, ◌≢◌, ℕ, ◌==◌, nat_lt, Bool, true, false, if◌then◌else◌, List, [], ◌∷◌, ◌++◌, length, map, drop, Option, Some, None, refl, sym, ap, subst, ◌∙◌, arith}
use Rattle.std.specs.List.{AllByRecursion}
use Rattle.std.specs.Prelude.{◌||◌}
use Rattle.std.proofs.lemmas.Bool.{eqb-true}
use Rattle.std.proofs.lemmas.Bool.Decides.{nat_tests}
use Rattle.std.proofs.lemmas.List.{length-append, map-append}
use Rattle.delta.specs.declared.Step.{Step}
use Rattle.delta.specs.Moves.{over}
use Rattle.notebook.specs.declared.parts.Parts.{Parts}
use Rattle.notebook.specs.declared.parts.Cell.{Cell}
use Rattle.notebook.specs.declared.parts.Kind.{Kind}
use Rattle.notebook.specs.declared.parts.Kind.TheVariants.{Setup, Code, Markdown}
use Rattle.notebook.specs.Book.{cells, found}
use Rattle.session_ops.specs.declared.entry.Op.{Op}
use Rattle.session_ops.specs.declared.entry.Op.TheVariants.{Join as Joins, Leave as Leaves, SetName, InsertSection, SetSectionName, DeleteSection, MoveSection, SetParent, InsertCell, DeleteCell, RestoreCell, MoveCell, Delta, Report, Queue, Cancel}
use Rattle.session_ops.specs.declared.entry.Call.{Call}
use Rattle.session_ops.specs.declared.entry.Call.TheVariants.{Client as ByClient}
use Rattle.session_ops.specs.declared.entry.Refusal.TheVariants.{AlreadyJoined}
use Rattle.session_ops.specs.declared.entry.Reply.{Reply}
use Rattle.session_ops.specs.declared.entry.Reply.TheVariants.{Accepted, Applied, NewCell, NewSection, Started, Stored, Late, Refused}
use Rattle.session_ops.specs.declared.entry.Entry.{Entry}
use Rattle.notebook.specs.declared.change.Change.{Change}
use Rattle.notebook.specs.declared.change.Changed.{Changed}
use Rattle.notebook.specs.declared.change.Changed.TheVariants.{Plain, NewCell as MakesCell, NewSection as MakesSection}
use Rattle.notebook.specs.Change.{Attempt, Makes, Fails, change}
use Rattle.lanes.specs.Work.{failed_ancestor, is_queued, is_running}
use Rattle.session_ops.specs.Numbers.{is_in}
use Rattle.session_ops.specs.Structure.{change_of}
use Rattle.session_ops.specs.State.{State, Misfit, state, revision, least, misfit, reply, joined_reply, stranger_reply, change_reply, attempt_reply, made_reply, delta_reply, judged_by, report_reply, code_reply, queue_reply, queue_reply_by, cancel_reply, taken_by, entries_by}
use Rattle.session_core.specs.Session.{HasAnswered, history_of, entry_of}
use Rattle.client_sync.specs.Client.{Client as Holder, joined_client, client_of, put_client, without_client}
use Rattle.client_sync.specs.Stands.{Mirrors}
use Rattle.client_sync.specs.declared.client.Client.{Client}
use Rattle.world.specs.World.{World, next_entry, called, with_joined}
use Rattle.world.specs.Claims.{IsWhole, HasJoined, number_of}
use Rattle.world.specs.Waiting.{IsHonest, AreHonest, IsFairAnswer, HasNoPassage}
use Rattle.world.proofs.Clients.{client-is, put-numbers}
use Rattle.world.proofs.Standing.{join-whole, leave-whole, raw-join-whole, raw-whole, take-whole}
use Rattle.world.proofs.Honest.{join-honest, leave-honest, raw-join-honest, raw-honest, take-honest, front-fair, honest-joined, honest-behind}
use Rattle.transcript.specs.Texts.{as_text}
use Rattle.script.specs.declared.line.ScriptLine.TheVariants.{Join, Leave, RawJoin, Raw}
use Rattle.driver.specs.Lines.{joined_words, not_joined_words, left_words, raw_joined_words, raw_not_joined_words, raw_words, sent_words}
use Rattle.driver.specs.Turns.{Turn, Made, turns_from, AreMarks}
use Rattle.driver.specs.Player.{Game, Stage, Sent, say, name_of, joined, raw_joined, play_line, send_next, without_front}
use Rattle.driver.specs.Headline.{AllOfRun, AllAnswered, AllFair, IsFair, IsFollowed, TakeReadyLanes, call_of}
use Rattle.world.specs.Sound.{AreApart}
use Rattle.driver.specs.Clients.{AreMirrors}
use Rattle.driver.specs.Standing.{Stands, HasDone, HasPlayed, HasAsked, HasAdmitted, world_of, entries_of, turns_of}
use Rattle.driver.specs.declared.player.Player.{Player}
use Rattle.driver.proofs.Marks.{marks-longer, turns-made, run-push, asked-push, helped-push, answered-more, fair-push, same-call}
use Rattle.driver.proofs.Placing.{mirrored-append, apart-without}
use Rattle.driver.proofs.Readying.{ready-called}

-- an answer to a client's call starts nothing
abbrev pub starts : Reply → Bool
starts Accepted = false
starts (Applied rev x) = false
starts (NewCell cell) = false
starts (NewSection section) = false
starts (Started eval cell) = true
starts (Stored eval) = false
starts (Late eval) = false
starts (Refused why) = false

neither : (b : Bool) (x y : Reply) → starts x ≡ false → starts y ≡ false → starts (if b then x else y) ≡ false
neither true x y e f = e
neither false x y e f = f

judged-starts : (rev : ℕ) (x : List Step) (why : Option Misfit) → starts (judged_by rev x why) ≡ false
judged-starts rev x None = refl
judged-starts rev x (Some why) = refl

delta-starts : (s : State) (cell base : ℕ) (d : List Step) (c : Option Cell) → starts (delta_reply s cell base d c) ≡ false
delta-starts s cell base d None = refl
delta-starts s cell base d (Some c) =
    let x : List Step = over d (drop base (taken_by cell s.taken)) in
    neither (nat_lt (revision s cell) base) _ _ refl (neither (nat_lt base (least s cell)) _ _ refl (judged-starts (revision s cell) x (misfit x c.source)))

by-starts : (o : Option ℕ) → starts (queue_reply_by o) ≡ false
by-starts None = refl
by-starts (Some failed) = refl

code-starts : (k : Kind) (answer : Reply) → starts answer ≡ false → starts (code_reply k answer) ≡ false
code-starts Setup answer e = e
code-starts Code answer e = e
code-starts Markdown answer e = refl

queue-starts : (s : State) (cell : ℕ) (c : Option Cell) → starts (queue_reply s cell c) ≡ false
queue-starts s cell None = refl
queue-starts s cell (Some c) = code-starts c.kind _ (by-starts (failed_ancestor s.book s.work cell))

cancel-starts : (s : State) (cell : ℕ) (c : Option Cell) → starts (cancel_reply s cell c) ≡ false
cancel-starts s cell None = refl
cancel-starts s cell (Some c) = code-starts c.kind _ (neither (is_queued s.work cell || is_running s.work cell) _ _ refl refl)

report-starts : (s : State) (cell rev : ℕ) (c : Option Cell) → starts (report_reply s cell rev c) ≡ false
report-starts s cell rev None = refl
report-starts s cell rev (Some c) = neither (nat_lt (revision s cell) rev) _ _ refl refl

made-starts : (m : Changed) → starts (made_reply m) ≡ false
made-starts Plain = refl
made-starts (MakesCell cell) = refl
made-starts (MakesSection section) = refl

attempt-starts : (a : Attempt) → starts (attempt_reply a) ≡ false
attempt-starts (Makes n m) = made-starts m
attempt-starts (Fails why) = refl

change-starts : (s : State) (o : Option Change) → starts (change_reply s o) ≡ false
change-starts s None = refl
change-starts s (Some c) = attempt-starts (change s.book c)

joined-starts : (s : State) (op : Op) → starts (joined_reply s op) ≡ false
joined-starts s Joins = refl
joined-starts s Leaves = refl
joined-starts s (SetName name) = change-starts s (change_of (SetName name))
joined-starts s (InsertSection index name) = change-starts s (change_of (InsertSection index name))
joined-starts s (SetSectionName section name) = change-starts s (change_of (SetSectionName section name))
joined-starts s (DeleteSection section) = change-starts s (change_of (DeleteSection section))
joined-starts s (MoveSection section index) = change-starts s (change_of (MoveSection section index))
joined-starts s (SetParent section parent) = change-starts s (change_of (SetParent section parent))
joined-starts s (InsertCell section index kind) = change-starts s (change_of (InsertCell section index kind))
joined-starts s (DeleteCell cell) = change-starts s (change_of (DeleteCell cell))
joined-starts s (RestoreCell cell section index) = change-starts s (change_of (RestoreCell cell section index))
joined-starts s (MoveCell cell section index) = change-starts s (change_of (MoveCell cell section index))
joined-starts s (Delta cell base d) = delta-starts s cell base d (found cell (cells s.book))
joined-starts s (Report cell rev) = report-starts s cell rev (found cell (cells s.book))
joined-starts s (Queue cell) = queue-starts s cell (found cell (cells s.book))
joined-starts s (Cancel cell) = cancel-starts s cell (found cell (cells s.book))

stranger-starts : (op : Op) → starts (stranger_reply op) ≡ false
stranger-starts Joins = refl
stranger-starts Leaves = refl
stranger-starts (SetName name) = refl
stranger-starts (InsertSection index name) = refl
stranger-starts (SetSectionName section name) = refl
stranger-starts (DeleteSection section) = refl
stranger-starts (MoveSection section index) = refl
stranger-starts (SetParent section parent) = refl
stranger-starts (InsertCell section index kind) = refl
stranger-starts (DeleteCell cell) = refl
stranger-starts (RestoreCell cell section index) = refl
stranger-starts (MoveCell cell section index) = refl
stranger-starts (Delta cell base d) = refl
stranger-starts (Report cell rev) = refl
stranger-starts (Queue cell) = refl
stranger-starts (Cancel cell) = refl

client-starts : (s : State) (n : ℕ) (op : Op) → starts (reply s (ByClient n op)) ≡ false
client-starts s n op = neither (is_in n s.joined) _ _ (joined-starts s op) (stranger-starts op)

not-followed : (answer : Reply) (es : List Entry) → starts answer ≡ false → IsFollowed answer es
not-followed Accepted es e = tt
not-followed (Applied rev x) es e = tt
not-followed (NewCell cell) es e = tt
not-followed (NewSection section) es e = tt
not-followed (Started eval cell) es e = absurd (cc e)
not-followed (Stored eval) es e = tt
not-followed (Late eval) es e = tt
not-followed (Refused why) es e = tt

-- what one call under 0 makes of the turns, the marks and the history
pub record Grew (g : Game) (p p' : Player) (s : Stage) (n : ℕ) (op : Op) (answer : Reply) : Type 0 where
  pub turns : turns_of p' ≡ turns_of p ++ Made (entries_of p) (entry_of 0 (ByClient n op) answer) ∷ []
  pub marks : AreMarks 0 p'.marks (length (entries_of p'))
  pub run : AllOfRun 0 (entries_of p')
  pub answered : AllAnswered (entries_of p')
  pub ready : TakeReadyLanes g.opening 1 [] (entries_of p')
  pub asked : s.asked ++ ByClient n op ∷ [] ≡ map call_of (entries_by (entries_of p') 0)
  pub helped : s.helped ≡ entries_by (entries_of p') 1
  pub history : entries_of p' ≡ (called (world_of g.opening (entries_of p) s.clients) (ByClient n op)).history

pub grew : (g : Game) (p p' : Player) (s : Stage) (n : ℕ) (op : Op) (answer : Reply) → Stands g p s → HasAnswered g.opening 0 (ByClient n op) p.session p'.session answer → p'.marks ≡ p.marks → Grew g p p' s n op answer
grew g p p' s n op answer st ans em =
    let h : List Entry = entries_of p in
    let call : Call = ByClient n op in
    let e : Entry = entry_of 0 call answer in
    record {
      turns = ap (λ ms. turns_from [] (entries_of p') ms) em ∙ (ap (λ x. turns_from [] x p.marks) ans.history ∙ turns-made h p.marks e st.marks refl);
      marks = subst (λ ms. AreMarks 0 ms (length (entries_of p'))) (sym em)
          (subst (λ x. AreMarks 0 p.marks (length x)) (sym ans.history) (marks-longer 0 p.marks (length h) (length (h ++ e ∷ [])) (rw (length-append h (e ∷ [])) (omega arith)) st.marks));
      run = subst (AllOfRun 0) (sym ans.history) (run-push h e st.run refl);
      answered = subst AllAnswered (sym ans.history) (answered-more h e st.answered (subst (λ a. IsFollowed a []) (sym ans.right) (not-followed (reply (state g.opening h) call) [] (client-starts (state g.opening h) n op))));
      ready = subst (TakeReadyLanes g.opening 1 []) (sym ans.history) (ready-called g.opening 1 h 0 n op answer st.ready);
      asked = ap (λ cs. cs ++ call ∷ []) st.asked ∙ (sym (asked-push h e refl) ∙ ap (λ x. map call_of (entries_by x 0)) (sym ans.history));
      helped = st.helped ∙ (sym (helped-push h e refl) ∙ ap (λ x. entries_by x 1) (sym ans.history));
      history = ans.history ∙ ap (λ a. h ++ entry_of 0 call a ∷ []) ans.right;
    }

-- who joins is apart from those who have joined
apart-one : (n m : ℕ) (ms : List ℕ) → is_in n (m ∷ ms) ≡ false → (m == n) ≡ false × (is_in n ms ≡ false)
apart-one n m ms e =
    elim (m == n)
    as (λ b. (m == n) ≡ b → (if b then true else is_in n ms) ≡ false → (m == n) ≡ false × (is_in n ms ≡ false)) [
      | true ↦ λ t k. absurd (cc k)
      | false ↦ λ t k. (t, k)
    ]
    refl
    e

not-in-both : (k : ℕ) (xs ys : List ℕ) → is_in k xs ≡ false → is_in k ys ≡ false → is_in k (xs ++ ys) ≡ false
not-in-both k [] ys e f = f
not-in-both k (x ∷ xs) ys e f =
    let both : (x == k) ≡ false × (is_in k xs ≡ false) = apart-one k x xs e in
    ap (λ b. if b then true else is_in k (xs ++ ys)) both.0 ∙ not-in-both k xs ys both.1 f

apart-more : (n : ℕ) (ms : List ℕ) → AreApart ms → is_in n ms ≡ false → AreApart (ms ++ n ∷ [])
apart-more n [] a e = (refl, tt)
apart-more n (m ∷ ms) a e =
    let both : (m == n) ≡ false × (is_in n ms ≡ false) = apart-one n m ms e in
    let other : (n == m) ≡ false = grind (arith, nat_tests, both.0) in
    (not-in-both m ms (n ∷ []) a.0 (ap (λ b. if b then true else false) other), apart-more n ms a.1 both.1)

-- who was let in had not joined
not-joined : (s : State) (n : ℕ) → reply s (ByClient n Joins) ≡ Accepted → is_in n s.joined ≡ false
not-joined s n e =
    elim (is_in n s.joined)
    as (λ b. is_in n s.joined ≡ b → (if b then Refused AlreadyJoined else Accepted) ≡ Accepted → is_in n s.joined ≡ false) [
      | true ↦ λ t k. absurd (cc k)
      | false ↦ λ t k. t
    ]
    refl
    e

-- so it isn't the number of a client
none-joined : (n0 : Parts) (h : List Entry) (n : ℕ) (cs : List Holder) → AllByRecursion (HasJoined n0 h) cs → is_in n (state n0 h).joined ≡ false → is_in n (map number_of cs) ≡ false
none-joined n0 h n [] a e = refl
none-joined n0 h n (c ∷ cs) a e =
    elim (c.number == n)
    as (λ b. (c.number == n) ≡ b → (if b then true else is_in n (map number_of cs)) ≡ false) [
      | true ↦ λ t. absurd (let joined : is_in n (state n0 h).joined ≡ true = subst (λ k. is_in k (state n0 h).joined ≡ true) (eqb-true c.number n t) a.0 in cc (joined, e))
      | false ↦ λ t. none-joined n0 h n cs a.1 e
    ]
    refl

-- one call under 0: the clients that it leaves, the messages that were sent until then, and the lines that it prints
pub called-done : (g : Game) (act : Stage → Option Stage) (p p' : Player) (s : Stage) (n : ℕ) (op : Op) (answer : Reply) (cs : List Holder) (sent : List Sent) (lines : List (List ℕ)) (before out : List ℕ) → Stands g p s
    → HasAnswered g.opening 0 (ByClient n op) p.session p'.session answer → p'.marks ≡ p.marks → AreMirrors g.opening p'.clients.items cs → IsWhole (world_of g.opening (entries_of p') cs) → AreHonest (world_of g.opening (entries_of p') cs)
    → AreApart (map number_of cs) → AllFair g.opening sent
    → ((rest : List Turn) → act (record s { turns = Made (entries_of p) (entry_of 0 (ByClient n op) answer) ∷ rest }) ≡ Some (say lines (record s { turns = rest; seen = entries_of p ++ entry_of 0 (ByClient n op) answer ∷ []; clients = cs; asked = s.asked ++ ByClient n op ∷ []; sent = sent })))
    → out ≡ before ++ as_text lines → HasDone g act p p' s before out
called-done g act p p' s n op answer cs sent lines before out st ans em mir whole honest apart fair acts printed =
    let gr : Grew g p p' s n op answer = grew g p p' s n op answer st ans em in
    record {
      stage = say lines (record s { turns = []; seen = entries_of p ++ entry_of 0 (ByClient n op) answer ∷ []; clients = cs; asked = s.asked ++ ByClient n op ∷ []; sent = sent });
      more = Made (entries_of p) (entry_of 0 (ByClient n op) answer) ∷ [];
      grown = gr.turns;
      acts = acts;
      stands =
          record {
            session = ans.session;
            used = refl;
            seen = sym ans.history;
            marks = gr.marks;
            run = gr.run;
            answered = gr.answered;
            ready = gr.ready;
            fair = fair;
            asked = gr.asked;
            helped = gr.helped;
            whole = whole;
            honest = honest;
            apart = apart;
            mirrored = mir;
          };
      piece = as_text lines;
      printed = printed;
      said = refl;
    }

-- the history after a call is that of the world after it
history-called : (g : Game) (p p' : Player) (s : Stage) (n : ℕ) (op : Op) (answer : Reply) → HasAnswered g.opening 0 (ByClient n op) p.session p'.session answer → entries_of p' ≡ (called (world_of g.opening (entries_of p) s.clients) (ByClient n op)).history
history-called g p p' s n op answer ans = ans.history ∙ ap (λ a. entries_of p ++ entry_of 0 (ByClient n op) a ∷ []) ans.right

-- join, accepted
pub join-played : (g : Game) (p p' : Player) (s : Stage) (n : ℕ) (x : Client) (before out : List ℕ) → Stands g p s → HasAnswered g.opening 0 (ByClient n Joins) p.session p'.session Accepted → p'.marks ≡ p.marks → p'.clients.items ≡ p.clients.items ++ x ∷ []
    → Mirrors g.opening x (joined_client n (entries_of p')) → out ≡ before ++ as_text (joined_words (name_of g n) (length (entries_of p')) ∷ []) → HasPlayed g (Join n) p p' s before out
join-played g p p' s n x before out st ans em ec mir printed =
    let h : List Entry = entries_of p in
    let w : World = world_of g.opening h s.clients in
    let e : Entry = entry_of 0 (ByClient n Joins) Accepted in
    let right : reply (state g.opening h) (ByClient n Joins) ≡ Accepted = sym ans.right in
    let is : next_entry w (ByClient n Joins) ≡ e = ap (entry_of 0 (ByClient n Joins)) right in
    let cs : List Holder = s.clients ++ joined_client n (h ++ e ∷ []) ∷ [] in
    let whole : IsWhole (world_of g.opening (h ++ e ∷ []) cs) =
    subst (λ y. IsWhole (world_of g.opening (h ++ y ∷ []) (s.clients ++ joined_client n (h ++ y ∷ []) ∷ []))) is (subst (λ a. IsWhole (with_joined (called w (ByClient n Joins)) n a)) right (join-whole w n st.whole)) in
    let honest : AreHonest (world_of g.opening (h ++ e ∷ []) cs) =
    subst (λ y. AreHonest (world_of g.opening (h ++ y ∷ []) (s.clients ++ joined_client n (h ++ y ∷ []) ∷ []))) is (subst (λ a. AreHonest (with_joined (called w (ByClient n Joins)) n a)) right (join-honest w n st.whole st.honest)) in
    let absent : is_in n (map number_of s.clients) ≡ false = none-joined g.opening h n s.clients st.whole.joined (not-joined (state g.opening h) n right) in
    called-done g (play_line g (Join n)) p p' s n Joins Accepted cs s.sent (joined_words (name_of g n) (length (h ++ e ∷ [])) ∷ []) before out st ans em
    (subst (λ xs. AreMirrors g.opening xs cs) (sym ec) (mirrored-append g.opening p.clients.items s.clients x (joined_client n (h ++ e ∷ [])) st.mirrored (subst (λ y. Mirrors g.opening x (joined_client n y)) ans.history mir)))
    (subst (λ y. IsWhole (world_of g.opening y cs)) (sym ans.history) whole)
    (subst (λ y. AreHonest (world_of g.opening y cs)) (sym ans.history) honest)
    (subst AreApart (sym (map-append number_of s.clients (joined_client n (h ++ e ∷ []) ∷ []))) (apart-more n (map number_of s.clients) st.apart absent))
    st.fair (λ rest. rw (same-call n Joins) refl) (printed ∙ ap (λ y. before ++ as_text (joined_words (name_of g n) (length y) ∷ [])) ans.history)

-- the same, by the client that was admitted
pub join-admitted : (g : Game) (p q p' : Player) (s : Stage) (n : ℕ) (name before out : List ℕ) (h : List Entry) → name ≡ name_of g n → Stands g p s → HasAnswered g.opening 0 (ByClient n Joins) p.session q.session Accepted → q.clients ≡ p.clients → q.marks ≡ p.marks
    → HasAdmitted g.opening n q p' → h ≡ entries_of p' → out ≡ before ++ as_text (joined_words name (length h) ∷ []) → HasPlayed g (Join n) p p' s before out
join-admitted g p q p' s n name before out h nm st ans ec em ad eh printed =
    join-played g p p' s n ad.own before out st (subst (λ x. HasAnswered g.opening 0 (ByClient n Joins) p.session x Accepted) (sym ad.session) ans) (ad.marks ∙ em) (ad.clients ∙ ap (λ v. v.items ++ ad.own ∷ []) ec)
    (subst (λ x. Mirrors g.opening ad.own (joined_client n (history_of x))) (sym ad.session) ad.mirrors)
    (printed ∙ (ap (λ z. before ++ as_text (joined_words z (length h) ∷ [])) nm ∙ ap (λ k. before ++ as_text (joined_words (name_of g n) (length k) ∷ [])) eh))

joined-else : (g : Game) (n : ℕ) (seen : List Entry) (s : Stage) (answer : Reply) → answer ≢ Accepted → joined g n seen s answer ≡ say (not_joined_words (name_of g n) answer ∷ []) s
joined-else g n seen s Accepted h = absurd (h refl)
joined-else g n seen s (Applied rev x) h = refl
joined-else g n seen s (NewCell cell) h = refl
joined-else g n seen s (NewSection section) h = refl
joined-else g n seen s (Started eval cell) h = refl
joined-else g n seen s (Stored eval) h = refl
joined-else g n seen s (Late eval) h = refl
joined-else g n seen s (Refused why) h = refl

-- join, not accepted: the world is that after a raw join
pub join-refused-played : (g : Game) (p p' : Player) (s : Stage) (n : ℕ) (answer : Reply) (before out : List ℕ) → Stands g p s → answer ≢ Accepted → HasAnswered g.opening 0 (ByClient n Joins) p.session p'.session answer → p'.marks ≡ p.marks
    → p'.clients ≡ p.clients → out ≡ before ++ as_text (not_joined_words (name_of g n) answer ∷ []) → HasPlayed g (Join n) p p' s before out
join-refused-played g p p' s n answer before out st other ans em ec printed =
    let w : World = world_of g.opening (entries_of p) s.clients in
    let grown : entries_of p' ≡ (called w (ByClient n Joins)).history = history-called g p p' s n Joins answer ans in
    called-done g (play_line g (Join n)) p p' s n Joins answer s.clients s.sent (not_joined_words (name_of g n) answer ∷ []) before out st ans em (subst (λ v. AreMirrors g.opening v.items s.clients) (sym ec) st.mirrored)
    (subst (λ y. IsWhole (world_of g.opening y s.clients)) (sym grown) (raw-join-whole w n st.whole))
    (subst (λ y. AreHonest (world_of g.opening y s.clients)) (sym grown) (raw-join-honest w n st.whole st.honest))
    st.apart st.fair
    (λ rest. rw (same-call n Joins) (ap Some (joined-else g n (entries_of p ++ entry_of 0 (ByClient n Joins) answer ∷ []) (record s { turns = rest; seen = entries_of p ++ entry_of 0 (ByClient n Joins) answer ∷ []; asked = s.asked ++ ByClient n Joins ∷ [] }) answer other))) printed

-- leave
pub leave-played : (g : Game) (p p' : Player) (s : Stage) (n : ℕ) (answer : Reply) (before out : List ℕ) → Stands g p s → HasAnswered g.opening 0 (ByClient n Leaves) p.session p'.session answer → p'.marks ≡ p.marks → AreMirrors g.opening p'.clients.items (without_client n s.clients)
    → out ≡ before ++ as_text (left_words (name_of g n) answer ∷ []) → HasPlayed g (Leave n) p p' s before out
leave-played g p p' s n answer before out st ans em mir printed =
    let w : World = world_of g.opening (entries_of p) s.clients in
    let cs : List Holder = without_client n s.clients in
    let grown : entries_of p' ≡ (called w (ByClient n Leaves)).history = history-called g p p' s n Leaves answer ans in
    called-done g (play_line g (Leave n)) p p' s n Leaves answer cs s.sent (left_words (name_of g n) answer ∷ []) before out st ans em mir
    (subst (λ y. IsWhole (world_of g.opening y cs)) (sym grown) (leave-whole w n st.whole))
    (subst (λ y. AreHonest (world_of g.opening y cs)) (sym grown) (leave-honest w n st.whole st.honest))
    (apart-without n s.clients st.apart) st.fair (λ rest. rw (same-call n Leaves) refl) printed

-- rawjoin
raw-joined-else : (g : Game) (n : ℕ) (seen : List Entry) (s : Stage) (answer : Reply) → answer ≢ Accepted → raw_joined g n seen s answer ≡ say (raw_not_joined_words (name_of g n) answer ∷ []) s
raw-joined-else g n seen s Accepted h = absurd (h refl)
raw-joined-else g n seen s (Applied rev x) h = refl
raw-joined-else g n seen s (NewCell cell) h = refl
raw-joined-else g n seen s (NewSection section) h = refl
raw-joined-else g n seen s (Started eval cell) h = refl
raw-joined-else g n seen s (Stored eval) h = refl
raw-joined-else g n seen s (Late eval) h = refl
raw-joined-else g n seen s (Refused why) h = refl

pub raw-join-played : (g : Game) (p p' : Player) (s : Stage) (n : ℕ) (answer : Reply) (lines : List (List ℕ)) (before out : List ℕ) → Stands g p s → HasAnswered g.opening 0 (ByClient n Joins) p.session p'.session answer → p'.marks ≡ p.marks → p'.clients ≡ p.clients
    → ((t : Stage) → raw_joined g n (entries_of p ++ entry_of 0 (ByClient n Joins) answer ∷ []) t answer ≡ say lines t) → out ≡ before ++ as_text lines → HasPlayed g (RawJoin n) p p' s before out
raw-join-played g p p' s n answer lines before out st ans em ec says printed =
    let w : World = world_of g.opening (entries_of p) s.clients in
    let grown : entries_of p' ≡ (called w (ByClient n Joins)).history = history-called g p p' s n Joins answer ans in
    called-done g (play_line g (RawJoin n)) p p' s n Joins answer s.clients s.sent lines before out st ans em (subst (λ v. AreMirrors g.opening v.items s.clients) (sym ec) st.mirrored)
    (subst (λ y. IsWhole (world_of g.opening y s.clients)) (sym grown) (raw-join-whole w n st.whole))
    (subst (λ y. AreHonest (world_of g.opening y s.clients)) (sym grown) (raw-join-honest w n st.whole st.honest))
    st.apart st.fair (λ rest. rw (same-call n Joins) (ap Some (says (record s { turns = rest; seen = entries_of p ++ entry_of 0 (ByClient n Joins) answer ∷ []; asked = s.asked ++ ByClient n Joins ∷ [] })))) printed

pub raw-join-accepted : (g : Game) (p p' : Player) (s : Stage) (n : ℕ) (name before out : List ℕ) (h : List Entry) → name ≡ name_of g n → Stands g p s → HasAnswered g.opening 0 (ByClient n Joins) p.session p'.session Accepted → p'.marks ≡ p.marks → p'.clients ≡ p.clients
    → h ≡ entries_of p' → out ≡ before ++ as_text (raw_joined_words name (length h) ∷ []) → HasPlayed g (RawJoin n) p p' s before out
raw-join-accepted g p p' s n name before out h nm st ans em ec eh printed =
    raw-join-played g p p' s n Accepted (raw_joined_words (name_of g n) (length (entries_of p ++ entry_of 0 (ByClient n Joins) Accepted ∷ [])) ∷ []) before out st ans em ec (λ t. refl)
    (printed ∙ (ap (λ z. before ++ as_text (raw_joined_words z (length h) ∷ [])) nm ∙ ap (λ k. before ++ as_text (raw_joined_words (name_of g n) (length k) ∷ [])) (eh ∙ ans.history)))

pub raw-join-refused : (g : Game) (p p' : Player) (s : Stage) (n : ℕ) (answer : Reply) (before out : List ℕ) → Stands g p s → answer ≢ Accepted → HasAnswered g.opening 0 (ByClient n Joins) p.session p'.session answer → p'.marks ≡ p.marks → p'.clients ≡ p.clients
    → out ≡ before ++ as_text (raw_not_joined_words (name_of g n) answer ∷ []) → HasPlayed g (RawJoin n) p p' s before out
raw-join-refused g p p' s n answer before out st other ans em ec printed =
    raw-join-played g p p' s n answer (raw_not_joined_words (name_of g n) answer ∷ []) before out st ans em ec (λ t. raw-joined-else g n (entries_of p ++ entry_of 0 (ByClient n Joins) answer ∷ []) t answer other) printed

-- raw, of a name that holds no client
pub raw-played : (g : Game) (p p' : Player) (s : Stage) (n : ℕ) (op : Op) (answer : Reply) (before out : List ℕ) → Stands g p s → client_of n s.clients ≡ None → HasAnswered g.opening 0 (ByClient n op) p.session p'.session answer → p'.marks ≡ p.marks → p'.clients ≡ p.clients
    → out ≡ before ++ as_text (raw_words (name_of g n) answer ∷ []) → HasPlayed g (Raw n op) p p' s before out
raw-played g p p' s n op answer before out st none ans em ec printed =
    let w : World = world_of g.opening (entries_of p) s.clients in
    let grown : entries_of p' ≡ (called w (ByClient n op)).history = history-called g p p' s n op answer ans in
    called-done g (play_line g (Raw n op)) p p' s n op answer s.clients s.sent (raw_words (name_of g n) answer ∷ []) before out st ans em (subst (λ v. AreMirrors g.opening v.items s.clients) (sym ec) st.mirrored)
    (subst (λ y. IsWhole (world_of g.opening y s.clients)) (sym grown) (raw-whole w n op none st.whole))
    (subst (λ y. AreHonest (world_of g.opening y s.clients)) (sym grown) (raw-honest w n op none st.whole st.honest))
    st.apart st.fair (λ rest. rw (none, same-call n op) refl) printed

-- the message at the front of a client's outbox was sent
pub message-sent : (g : Game) (p q p' : Player) (s : Stage) (n at : ℕ) (c : Holder) (op : Op) (ops : List Op) (name before out : List ℕ) → name ≡ name_of g n → Stands g p s → client_of n s.clients ≡ Some c → c.number ≡ n → c.outbox ≡ op ∷ ops
    → q.session ≡ p.session → q.marks ≡ p.marks → AreMirrors g.opening q.clients.items (put_client (without_front c ops) s.clients) → HasAsked g.opening (ByClient n op) name q p' before out → HasDone g (send_next g n) p p' s before out
message-sent g p q p' s n at c op ops name before out nm st there number front es em mir asked =
    let h : List Entry = entries_of p in
    let w : World = world_of g.opening h s.clients in
    let answer : Reply = asked.reply in
    let ans : HasAnswered g.opening 0 (ByClient n op) p.session p'.session answer = subst (λ x. HasAnswered g.opening 0 (ByClient n op) x p'.session answer) es asked.answered in
    let cs : List Holder = put_client (without_front c ops) s.clients in
    let is : IsHonest g.opening h c × ((c.number ≡ n) × (is_in n (map number_of s.clients) ≡ true)) = client-is (IsHonest g.opening h) n s.clients c st.honest there in
    let same : called w (ByClient c.number op) ≡ called w (ByClient n op) = ap (λ k. called w (ByClient k op)) number in
    let grown : entries_of p' ≡ (called w (ByClient c.number op)).history = history-called g p p' s n op answer ans ∙ ap (λ v. v.history) (sym same) in
    let one : Sent = record { found = h; op = op; reply = answer } in
    let fair : IsFair g.opening one = subst (IsFairAnswer g.opening h op) (ap (λ k. reply (state g.opening h) (ByClient k op)) number ∙ sym ans.right) (front-fair w c op ops front is.0 st.whole) in
    called-done g (send_next g n) p p' s n op answer cs (s.sent ++ one ∷ []) (sent_words (name_of g n) answer ∷ []) before out st ans (asked.marks ∙ em) (subst (λ v. AreMirrors g.opening v.items cs) (sym asked.clients) mir)
    (subst (λ y. IsWhole (world_of g.opening y cs)) (sym grown) (take-whole w c (op ∷ ops) (subst HasNoPassage front is.0.no_passage) st.whole (honest-joined g.opening h c is.0) (honest-behind g.opening h c is.0)))
    (subst (λ y. AreHonest (world_of g.opening y cs)) (sym grown) (take-honest w c (op ∷ ops) front st.whole st.honest is.0))
    (subst AreApart (sym (put-numbers (without_front c ops) s.clients)) st.apart) (fair-push g.opening s.sent one st.fair fair)
    (λ rest. rw (there, front, number, same-call n op) refl) (asked.printed ∙ ap (λ z. before ++ as_text (sent_words z answer ∷ [])) nm)
