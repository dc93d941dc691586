-- What a part of a line makes of the player where no turn is used.
use Rattle.std.proofs.Common.{◌≡◌, ◌≢◌, ℕ, true, false, if◌then◌else◌, List, [], ◌∷◌, ◌++◌, length, map, Option, Some, None, codes, refl, sym, ap, subst, ◌∙◌, inl, inr}
use Rattle.std.specs.Prelude.{slice_set}
use Rattle.std.proofs.lemmas.List.{append-nil}
use Rattle.delta.specs.declared.Step.{Step}
use Rattle.notebook.specs.declared.parts.Parts.{Parts}
use Rattle.notebook.specs.Book.{cells, found}
use Rattle.session_ops.specs.declared.entry.Op.{Op}
use Rattle.session_ops.specs.Structure.{is_postable}
use Rattle.session_ops.specs.State.{revision, entries_by}
use Rattle.session_ops.specs.Snapshot.{HasRevisions}
use Rattle.session_core.specs.Session.{IsSession, history_of}
use Rattle.client_sync.specs.Client.{Client as Holder, Edited, Done, edited, reported, held, delivered, client_of, put_client, with_message, pending_of}
use Rattle.client_sync.specs.Causes.{IsEditCause}
use Rattle.client_sync.specs.Stands.{Mirrors, number_in}
use Rattle.client_sync.specs.declared.client.Client.{Client}
use Rattle.client_sync.specs.declared.edit_error.EditError.{EditError}
use Rattle.client_sync.specs.declared.edit_error.EditError.TheVariants.{NoCell as NoCellError, EditTooLong as TooLongError, PastEnd, SplitsPair, OutOfMemory}
use Rattle.world.specs.World.{World, with_client}
use Rattle.world.specs.Claims.{IsWhole, number_of}
use Rattle.world.specs.Waiting.{IsHonest, AreHonest}
use Rattle.world.proofs.Clients.{client-is, put-numbers}
use Rattle.world.proofs.Standing.{edit-whole, post-whole, report-whole}
use Rattle.world.proofs.Honest.{edit-honest, post-honest, report-honest, honest-joined}
use Rattle.transcript.specs.Texts.{as_text, book_lines, rev_in}
use Rattle.script.specs.declared.line.ScriptLine.TheVariants.{Edit, Post, PostReport, Send, Recv, Show, Pending, Raw}
use Rattle.script.specs.declared.line.Count.{Count}
use Rattle.driver.specs.Lines.{no_client_words, edit_words, posted_words, not_posted_words, raw_refused_words, nothing_words, pending_words, pending_answer, error_words}
use Rattle.driver.specs.Turns.{Turn, turns_from, AreMarks}
use Rattle.driver.specs.Player.{Game, Stage, say, with_clients, name_of, with_edited, play_line, posted, with_report, send_or_nothing, pending_shown}
use Rattle.driver.specs.Headline.{AllOfRun, AllAnswered, AllFair, TakeReadyLanes, call_of}
use Rattle.world.specs.Sound.{AreApart}
use Rattle.driver.specs.Clients.{AreMirrors, IsAt, IsPlace, place_in}
use Rattle.driver.specs.Standing.{Stands, HasDone, HasPlayed, HasEdited, HasPosted, HasPostedIf, HasReported, HasReportedSo, world_of, entries_of, turns_of}
use Rattle.driver.specs.declared.player.Player.{Player}
use Rattle.driver.proofs.Placing.{placed}
use Rattle.driver.proofs.Showing.{own-lines, edited-number, reported-number}

-- the player with other clients, and nothing else changed
pub stands-with : (g : Game) (p p' : Player) (s t : Stage) → Stands g p s → p'.session ≡ p.session → p'.marks ≡ p.marks → t.turns ≡ [] → t.seen ≡ s.seen → t.asked ≡ s.asked → t.helped ≡ s.helped → t.sent ≡ s.sent → IsWhole (world_of g.opening (entries_of p) t.clients) → AreHonest (world_of g.opening (entries_of p) t.clients)
    → AreApart (map number_of t.clients) → AreMirrors g.opening p'.clients.items t.clients → Stands g p' t
stands-with g p p' s t st es em used seen asked helped same_sent whole honest apart mir =
    let eh : entries_of p' ≡ entries_of p = ap history_of es in
    record {
      session = subst (IsSession g.opening) (sym es) st.session;
      used = used;
      seen = seen ∙ (st.seen ∙ sym eh);
      marks = subst (λ ms. AreMarks 0 ms (length (entries_of p'))) (sym em) (subst (λ x. AreMarks 0 p.marks (length x)) (sym eh) st.marks);
      run = subst (AllOfRun 0) (sym eh) st.run;
      answered = subst AllAnswered (sym eh) st.answered;
      ready = subst (TakeReadyLanes g.opening 1 []) (sym eh) st.ready;
      fair = subst (AllFair g.opening) (sym same_sent) st.fair;
      asked = asked ∙ (st.asked ∙ ap (λ x. map call_of (entries_by x 0)) (sym eh));
      helped = helped ∙ (st.helped ∙ ap (λ x. entries_by x 1) (sym eh));
      whole = subst (λ x. IsWhole (world_of g.opening x t.clients)) (sym eh) whole;
      honest = subst (λ x. AreHonest (world_of g.opening x t.clients)) (sym eh) honest;
      apart = apart;
      mirrored = mir;
    }

-- an act that uses no turn
pub done-still : (g : Game) (act : Stage → Option Stage) (p p' : Player) (s t : Stage) (piece before out : List ℕ) → p'.session ≡ p.session → p'.marks ≡ p.marks → ((ts : List Turn) → act (record s { turns = ts }) ≡ Some (record t { turns = ts })) → Stands g p' t
    → out ≡ before ++ piece → t.said ≡ s.said ++ piece → HasDone g act p p' s before out
done-still g act p p' s t piece before out es em acts st printed said =
    record {
      stage = t;
      more = [];
      grown = ap (λ ms. turns_from [] (entries_of p') ms) em ∙ (ap (λ x. turns_from [] (history_of x) p.marks) es ∙ sym (append-nil (turns_of p)));
      acts = acts;
      stands = st;
      piece = piece;
      printed = printed;
      said = said;
    }

-- an act that only prints
pub done-saying : (g : Game) (act : Stage → Option Stage) (p p' : Player) (s : Stage) (lines : List (List ℕ)) (before out : List ℕ) → Stands g p s → p'.session ≡ p.session → p'.marks ≡ p.marks → AreMirrors g.opening p'.clients.items s.clients
    → ((ts : List Turn) → act (record s { turns = ts }) ≡ Some (say lines (record s { turns = ts }))) → out ≡ before ++ as_text lines → HasDone g act p p' s before out
done-saying g act p p' s lines before out st es em mir acts printed =
    done-still g act p p' s (say lines s) (as_text lines) before out es em acts (stands-with g p p' s (say lines s) st es em st.used refl refl refl refl st.whole st.honest st.apart mir) printed refl

-- an act that does nothing
pub done-nothing : (g : Game) (act : Stage → Option Stage) (p p' : Player) (s : Stage) (before : List ℕ) → Stands g p s → p'.session ≡ p.session → p'.marks ≡ p.marks → AreMirrors g.opening p'.clients.items s.clients → ((ts : List Turn) → act (record s { turns = ts }) ≡ Some (record s { turns = ts }))
    → HasDone g act p p' s before before
done-nothing g act p p' s before st es em mir acts =
    done-still g act p p' s s [] before before es em acts (stands-with g p p' s s st es em st.used refl refl refl refl st.whole st.honest st.apart mir) (sym (append-nil before)) (sym (append-nil s.said))

-- the place of the client of a number
pub stands-placed : (g : Game) (p : Player) (s : Stage) (n : ℕ) (o r : Option ℕ) (xs : List Client) → Stands g p s → o ≡ place_in n (map number_in xs) → xs ≡ p.clients.items → o ≡ r → IsPlace g.opening p.clients.items s.clients n r
stands-placed g p s n o r xs st is same e = subst (IsPlace g.opening p.clients.items s.clients n) e (placed g.opening p.clients.items s.clients n o st.mirrored st.apart (is ∙ ap (λ ys. place_in n (map number_in ys)) same))

-- lines of a name that holds no client
pub edit-nobody : (g : Game) (p p' : Player) (s : Stage) (n cell : ℕ) (d : List Step) (before out : List ℕ) → Stands g p s → client_of n s.clients ≡ None → p' ≡ p → out ≡ before ++ as_text (no_client_words (name_of g n) (codes "edit") ∷ []) → HasPlayed g (Edit n cell d) p p' s before out
edit-nobody g p p' s n cell d before out st none same printed =
    done-saying g (play_line g (Edit n cell d)) p p' s (no_client_words (name_of g n) (codes "edit") ∷ []) before out st (ap (λ x. x.session) same) (ap (λ x. x.marks) same) (subst (λ x. AreMirrors g.opening x.clients.items s.clients) (sym same) st.mirrored) (λ ts. rw none refl) printed

pub post-nobody : (g : Game) (p p' : Player) (s : Stage) (n : ℕ) (op : Op) (before out : List ℕ) → Stands g p s → client_of n s.clients ≡ None → p' ≡ p → out ≡ before ++ as_text (no_client_words (name_of g n) (codes "post") ∷ []) → HasPlayed g (Post n op) p p' s before out
post-nobody g p p' s n op before out st none same printed =
    done-saying g (play_line g (Post n op)) p p' s (no_client_words (name_of g n) (codes "post") ∷ []) before out st (ap (λ x. x.session) same) (ap (λ x. x.marks) same) (subst (λ x. AreMirrors g.opening x.clients.items s.clients) (sym same) st.mirrored) (λ ts. rw none refl) printed

pub send-nobody : (g : Game) (p p' : Player) (s : Stage) (n : ℕ) (count : Count) (before out : List ℕ) → Stands g p s → client_of n s.clients ≡ None → p' ≡ p → out ≡ before ++ as_text (no_client_words (name_of g n) (codes "send") ∷ []) → HasPlayed g (Send n count) p p' s before out
send-nobody g p p' s n count before out st none same printed =
    done-saying g (play_line g (Send n count)) p p' s (no_client_words (name_of g n) (codes "send") ∷ []) before out st (ap (λ x. x.session) same) (ap (λ x. x.marks) same) (subst (λ x. AreMirrors g.opening x.clients.items s.clients) (sym same) st.mirrored) (λ ts. rw none refl) printed

pub recv-nobody : (g : Game) (p p' : Player) (s : Stage) (n : ℕ) (count : Count) (before out : List ℕ) → Stands g p s → client_of n s.clients ≡ None → p' ≡ p → out ≡ before ++ as_text (no_client_words (name_of g n) (codes "recv") ∷ []) → HasPlayed g (Recv n count) p p' s before out
recv-nobody g p p' s n count before out st none same printed =
    done-saying g (play_line g (Recv n count)) p p' s (no_client_words (name_of g n) (codes "recv") ∷ []) before out st (ap (λ x. x.session) same) (ap (λ x. x.marks) same) (subst (λ x. AreMirrors g.opening x.clients.items s.clients) (sym same) st.mirrored) (λ ts. rw none refl) printed

pub show-nobody : (g : Game) (p p' : Player) (s : Stage) (n : ℕ) (before out : List ℕ) → Stands g p s → client_of n s.clients ≡ None → p' ≡ p → out ≡ before ++ as_text (no_client_words (name_of g n) (codes "show") ∷ []) → HasPlayed g (Show n) p p' s before out
show-nobody g p p' s n before out st none same printed =
    done-saying g (play_line g (Show n)) p p' s (no_client_words (name_of g n) (codes "show") ∷ []) before out st (ap (λ x. x.session) same) (ap (λ x. x.marks) same) (subst (λ x. AreMirrors g.opening x.clients.items s.clients) (sym same) st.mirrored) (λ ts. rw none refl) printed

pub pending-nobody : (g : Game) (p p' : Player) (s : Stage) (n cell : ℕ) (before out : List ℕ) → Stands g p s → client_of n s.clients ≡ None → p' ≡ p → out ≡ before ++ as_text (no_client_words (name_of g n) (codes "pending") ∷ []) → HasPlayed g (Pending n cell) p p' s before out
pending-nobody g p p' s n cell before out st none same printed =
    done-saying g (play_line g (Pending n cell)) p p' s (no_client_words (name_of g n) (codes "pending") ∷ []) before out st (ap (λ x. x.session) same) (ap (λ x. x.marks) same) (subst (λ x. AreMirrors g.opening x.clients.items s.clients) (sym same) st.mirrored) (λ ts. rw none refl) printed

-- show
pub show-played : (g : Game) (p p' : Player) (s : Stage) (n : ℕ) (m : Holder) (book : Parts) (revs : List (ℕ × ℕ)) (before out : List ℕ) → Stands g p s → client_of n s.clients ≡ Some m → p' ≡ p → book ≡ held g.opening m → HasRevisions (delivered g.opening m) revs
    → out ≡ before ++ as_text (book_lines (rev_in revs) book) → HasPlayed g (Show n) p p' s before out
show-played g p p' s n m book revs before out st there same eb er printed =
    let ls : book_lines (rev_in revs) book ≡ book_lines (revision (delivered g.opening m)) (held g.opening m) = own-lines g.opening m book revs eb er in
    done-saying g (play_line g (Show n)) p p' s (book_lines (revision (delivered g.opening m)) (held g.opening m)) before out st (ap (λ x. x.session) same) (ap (λ x. x.marks) same) (subst (λ x. AreMirrors g.opening x.clients.items s.clients) (sym same) st.mirrored)
    (λ ts. rw there refl) (printed ∙ ap (λ ls. before ++ as_text ls) ls)

-- pending
pub pending-played : (g : Game) (p p' : Player) (s : Stage) (n cell : ℕ) (m : Holder) (name before out : List ℕ) (messages : ℕ) → name ≡ name_of g n → Stands g p s → client_of n s.clients ≡ Some m → p' ≡ p → messages ≡ length m.outbox
    → out ≡ before ++ as_text (pending_words name cell (pending_answer (found cell (cells (delivered g.opening m).book)) (pending_of cell m.pending) messages) ∷ []) → HasPlayed g (Pending n cell) p p' s before out
pending-played g p p' s n cell m name before out messages nm st there same em printed =
    done-saying g (play_line g (Pending n cell)) p p' s (pending_words (name_of g n) cell (pending_shown g cell m) ∷ []) before out st (ap (λ x. x.session) same) (ap (λ x. x.marks) same) (subst (λ x. AreMirrors g.opening x.clients.items s.clients) (sym same) st.mirrored)
    (λ ts. rw there refl)
    (printed ∙ (ap (λ k. before ++ as_text (pending_words name cell (pending_answer (found cell (cells (delivered g.opening m).book)) (pending_of cell m.pending) k) ∷ [])) em ∙ ap (λ z. before ++ as_text (pending_words z cell (pending_shown g cell m) ∷ [])) nm))

-- an edit
refused-edit : (g : Game) (n cell : ℕ) (s : Stage) (e : Edited) (why : EditError) → why ≢ OutOfMemory → IsEditCause e why → with_edited g n cell s e ≡ say (edit_words (name_of g n) cell (codes "refused " ++ error_words why) ∷ []) s
refused-edit g n cell s e NoCellError h c = ap (with_edited g n cell s) c
refused-edit g n cell s e TooLongError h c = ap (with_edited g n cell s) c
refused-edit g n cell s e (PastEnd len) h c = ap (with_edited g n cell s) c
refused-edit g n cell s e (SplitsPair at) h c = ap (with_edited g n cell s) c
refused-edit g n cell s e OutOfMemory h c = absurd (h refl)

-- the client in its place after it did something of its own
pub put-played : (g : Game) (act : Stage → Option Stage) (p p' : Player) (s : Stage) (n : ℕ) (m m' : Holder) (lines : List (List ℕ)) (before out : List ℕ) → Stands g p s → p'.session ≡ p.session → p'.marks ≡ p.marks
    → AreMirrors g.opening p'.clients.items (put_client m' s.clients) → IsWhole (world_of g.opening (entries_of p) (put_client m' s.clients)) → AreHonest (world_of g.opening (entries_of p) (put_client m' s.clients))
    → ((ts : List Turn) → act (record s { turns = ts }) ≡ Some (say lines (with_clients (put_client m' s.clients) (record s { turns = ts })))) → out ≡ before ++ as_text lines → HasDone g act p p' s before out
put-played g act p p' s n m m' lines before out st es em mir whole honest acts printed =
    let t : Stage = say lines (with_clients (put_client m' s.clients) s) in
    done-still g act p p' s t (as_text lines) before out es em acts (stands-with g p p' s t st es em st.used refl refl refl refl whole honest (subst AreApart (sym (put-numbers m' s.clients)) st.apart) mir) printed refl

-- a client of the stage stands as it should
pub own-honest : (g : Game) (p : Player) (s : Stage) (n : ℕ) (c : Holder) → Stands g p s → client_of n s.clients ≡ Some c → IsHonest g.opening (entries_of p) c
own-honest g p s n c st there = (client-is (IsHonest g.opening (entries_of p)) n s.clients c st.honest there).0

pub edit-done : (g : Game) (p p' : Player) (s : Stage) (n cell : ℕ) (d : List Step) (c m' : Holder) (name before out : List ℕ) → name ≡ name_of g n → Stands g p s → client_of n s.clients ≡ Some c → p'.session ≡ p.session → p'.marks ≡ p.marks → edited g.opening c cell d ≡ Done m'
    → AreMirrors g.opening p'.clients.items (put_client m' s.clients) → out ≡ before ++ as_text (edit_words name cell (codes "ok") ∷ []) → HasPlayed g (Edit n cell d) p p' s before out
edit-done g p p' s n cell d c m' name before out nm st there es em done mir printed =
    let w : World = world_of g.opening (entries_of p) s.clients in
    let is : IsHonest g.opening (entries_of p) c = own-honest g p s n c st there in
    put-played g (play_line g (Edit n cell d)) p p' s n c m' (edit_words (name_of g n) cell (codes "ok") ∷ []) before out st es em mir
    (edit-whole w c cell d (Done m') st.whole (honest-joined g.opening (entries_of p) c is) (is.later, is.behind) done) (edit-honest w c cell d (Done m') st.honest is done)
    (λ ts. rw (there, done) refl) (printed ∙ ap (λ z. before ++ as_text (edit_words z cell (codes "ok") ∷ [])) nm)

pub edit-refused : (g : Game) (p p' : Player) (s : Stage) (n cell : ℕ) (d : List Step) (c : Holder) (why : EditError) (name before out : List ℕ) → name ≡ name_of g n → Stands g p s → client_of n s.clients ≡ Some c → p'.session ≡ p.session → p'.marks ≡ p.marks → why ≢ OutOfMemory → IsEditCause (edited g.opening c cell d) why
    → AreMirrors g.opening p'.clients.items s.clients → out ≡ before ++ as_text (edit_words name cell (codes "refused " ++ error_words why) ∷ []) → HasPlayed g (Edit n cell d) p p' s before out
edit-refused g p p' s n cell d c why name before out nm st there es em named cause mir printed =
    done-saying g (play_line g (Edit n cell d)) p p' s (edit_words (name_of g n) cell (codes "refused " ++ error_words why) ∷ []) before out st es em mir
    (λ ts. rw there (ap Some (refused-edit g n cell (record s { turns = ts }) (edited g.opening c cell d) why named cause)))
    (printed ∙ ap (λ z. before ++ as_text (edit_words z cell (codes "refused " ++ error_words why) ∷ [])) nm)

pub edit-played : (g : Game) (p p' : Player) (s : Stage) (n cell : ℕ) (d : List Step) (at : ℕ) (x x' : Client) (name before out : List ℕ) → name ≡ name_of g n → Stands g p s → (is : IsAt g.opening p.clients.items s.clients n at) → p'.session ≡ p.session → p'.marks ≡ p.marks
    → p'.clients.items ≡ slice_set p.clients.items at x' → HasEdited g.opening name cell d x' is.own before out → HasPlayed g (Edit n cell d) p p' s before out
edit-played g p p' s n cell d at x x' name before out nm st is es em ec (inl e) =
    edit-done g p p' s n cell d is.own e.held_then name before out nm st is.there es em e.done (subst (λ xs. AreMirrors g.opening xs (put_client e.held_then s.clients)) (sym ec) (is.replaced x' e.held_then (edited-number g.opening is.own e.held_then cell d e.done ∙ is.number) e.mirrors)) e.printed
edit-played g p p' s n cell d at x x' name before out nm st is es em ec (inr e) =
    edit-refused g p p' s n cell d is.own e.why name before out nm st is.there es em e.named e.cause (subst (λ xs. AreMirrors g.opening xs s.clients) (sym ec) (is.kept x' e.mirrors)) e.printed

-- post
post-put : (g : Game) (p p' : Player) (s : Stage) (n : ℕ) (op : Op) (at : ℕ) (x' : Client) (name before out : List ℕ) → name ≡ name_of g n → Stands g p s → (is : IsAt g.opening p.clients.items s.clients n at) → p'.session ≡ p.session → p'.marks ≡ p.marks
    → p'.clients.items ≡ slice_set p.clients.items at x' → is_postable op ≡ true → Mirrors g.opening x' (with_message is.own op) → out ≡ before ++ as_text (posted_words name ∷ []) → HasPlayed g (Post n op) p p' s before out
post-put g p p' s n op at x' name before out nm st is es em ec may mir printed =
    let w : World = world_of g.opening (entries_of p) s.clients in
    let own : IsHonest g.opening (entries_of p) is.own = own-honest g p s n is.own st is.there in
    put-played g (play_line g (Post n op)) p p' s n is.own (with_message is.own op) (posted_words (name_of g n) ∷ []) before out st es em
    (subst (λ xs. AreMirrors g.opening xs (put_client (with_message is.own op) s.clients)) (sym ec) (is.replaced x' (with_message is.own op) is.number mir))
    (subst (λ b. IsWhole (if b then with_client w (with_message is.own op) else w)) may (post-whole w is.own op st.whole (honest-joined g.opening (entries_of p) is.own own) (own.later, own.behind)))
    (subst (λ b. AreHonest (if b then with_client w (with_message is.own op) else w)) may (post-honest w is.own op st.honest own))
    (λ ts. rw (is.there, may) refl) (printed ∙ ap (λ z. before ++ as_text (posted_words z ∷ [])) nm)

post-not : (g : Game) (p p' : Player) (s : Stage) (n : ℕ) (op : Op) (at : ℕ) (x' : Client) (before out : List ℕ) → Stands g p s → (is : IsAt g.opening p.clients.items s.clients n at) → p'.session ≡ p.session → p'.marks ≡ p.marks
    → p'.clients.items ≡ slice_set p.clients.items at x' → is_postable op ≡ false → Mirrors g.opening x' is.own → out ≡ before → HasPlayed g (Post n op) p p' s before out
post-not g p p' s n op at x' before out st is es em ec may mir printed =
    subst (λ y. HasPlayed g (Post n op) p p' s before y) (sym printed)
    (done-nothing g (play_line g (Post n op)) p p' s before st es em (subst (λ xs. AreMirrors g.opening xs s.clients) (sym ec) (is.kept x' mir)) (λ ts. rw (is.there, may) refl))

pub post-played : (g : Game) (p p' : Player) (s : Stage) (n : ℕ) (op : Op) (at : ℕ) (x' : Client) (name before out : List ℕ) → name ≡ name_of g n → Stands g p s → (is : IsAt g.opening p.clients.items s.clients n at) → p'.session ≡ p.session → p'.marks ≡ p.marks
    → p'.clients.items ≡ slice_set p.clients.items at x' → HasPosted g.opening name op x' is.own before out → HasPlayed g (Post n op) p p' s before out
post-played g p p' s n op at x' name before out nm st is es em ec posted =
    elim (is_postable op)
    as (λ b. is_postable op ≡ b → HasPostedIf g.opening name op x' is.own before out b → HasPlayed g (Post n op) p p' s before out) [
      | true ↦ λ t h. post-put g p p' s n op at x' name before out nm st is es em ec t h.0 h.1
      | false ↦ λ t h. post-not g p p' s n op at x' before out st is es em ec t h.0 h.1
    ]
    refl
    posted

-- post a report
pub report-nobody : (g : Game) (p p' : Player) (s : Stage) (n cell : ℕ) (before out : List ℕ) → Stands g p s → client_of n s.clients ≡ None → p' ≡ p → out ≡ before ++ as_text (no_client_words (name_of g n) (codes "post") ∷ []) → HasPlayed g (PostReport n cell) p p' s before out
report-nobody g p p' s n cell before out st none same printed =
    done-saying g (play_line g (PostReport n cell)) p p' s (no_client_words (name_of g n) (codes "post") ∷ []) before out st (ap (λ x. x.session) same) (ap (λ x. x.marks) same) (subst (λ x. AreMirrors g.opening x.clients.items s.clients) (sym same) st.mirrored) (λ ts. rw none refl) printed

report-of : (g : Game) (p p' : Player) (s : Stage) (n cell : ℕ) (at : ℕ) (x' : Client) (name before out : List ℕ) → name ≡ name_of g n → Stands g p s → (is : IsAt g.opening p.clients.items s.clients n at) → p'.session ≡ p.session → p'.marks ≡ p.marks
    → p'.clients.items ≡ slice_set p.clients.items at x' → (o : Option Holder) → reported g.opening is.own cell ≡ o → HasReportedSo g.opening name x' is.own before out o → HasPlayed g (PostReport n cell) p p' s before out
report-of g p p' s n cell at x' name before out nm st is es em ec None eo h =
    done-saying g (play_line g (PostReport n cell)) p p' s (not_posted_words (name_of g n) ∷ []) before out st es em (subst (λ xs. AreMirrors g.opening xs s.clients) (sym ec) (is.kept x' h.0))
    (λ ts. rw is.there (ap (λ o. Some (with_report g n (record s { turns = ts }) o)) eo)) (h.1 ∙ ap (λ z. before ++ as_text (not_posted_words z ∷ [])) nm)
report-of g p p' s n cell at x' name before out nm st is es em ec (Some m') eo h =
    let w : World = world_of g.opening (entries_of p) s.clients in
    let own : IsHonest g.opening (entries_of p) is.own = own-honest g p s n is.own st is.there in
    put-played g (play_line g (PostReport n cell)) p p' s n is.own m' (posted_words (name_of g n) ∷ []) before out st es em
    (subst (λ xs. AreMirrors g.opening xs (put_client m' s.clients)) (sym ec) (is.replaced x' m' (reported-number g.opening is.own m' cell eo ∙ is.number) h.0))
    (report-whole w is.own cell (Some m') st.whole (honest-joined g.opening (entries_of p) is.own own) (own.later, own.behind) eo)
    (report-honest w is.own cell (Some m') st.honest own eo)
    (λ ts. rw is.there (ap (λ o. Some (with_report g n (record s { turns = ts }) o)) eo)) (h.1 ∙ ap (λ z. before ++ as_text (posted_words z ∷ [])) nm)

pub report-played : (g : Game) (p p' : Player) (s : Stage) (n cell : ℕ) (at : ℕ) (x' : Client) (name before out : List ℕ) → name ≡ name_of g n → Stands g p s → (is : IsAt g.opening p.clients.items s.clients n at) → p'.session ≡ p.session → p'.marks ≡ p.marks
    → p'.clients.items ≡ slice_set p.clients.items at x' → HasReported g.opening name cell x' is.own before out → HasPlayed g (PostReport n cell) p p' s before out
report-played g p p' s n cell at x' name before out nm st is es em ec h = report-of g p p' s n cell at x' name before out nm st is es em ec (reported g.opening is.own cell) refl h

-- raw, of a name that holds a client
pub raw-held : (g : Game) (p p' : Player) (s : Stage) (n : ℕ) (op : Op) (m : Holder) (before out : List ℕ) → Stands g p s → client_of n s.clients ≡ Some m → p' ≡ p → out ≡ before ++ as_text (raw_refused_words (name_of g n) ∷ []) → HasPlayed g (Raw n op) p p' s before out
raw-held g p p' s n op m before out st there same printed =
    done-saying g (play_line g (Raw n op)) p p' s (raw_refused_words (name_of g n) ∷ []) before out st (ap (λ x. x.session) same) (ap (λ x. x.marks) same) (subst (λ x. AreMirrors g.opening x.clients.items s.clients) (sym same) st.mirrored) (λ ts. rw there refl) printed

-- nothing to send
pub nothing-to-send : (g : Game) (p p' : Player) (s : Stage) (n many : ℕ) (name before out : List ℕ) → name ≡ name_of g n → Stands g p s → p' ≡ p → many ≡ 0 → out ≡ before ++ as_text (nothing_words name ∷ []) → HasDone g (send_or_nothing g n many) p p' s before out
nothing-to-send g p p' s n many name before out nm st same none printed =
    done-saying g (send_or_nothing g n many) p p' s (nothing_words (name_of g n) ∷ []) before out st (ap (λ x. x.session) same) (ap (λ x. x.marks) same) (subst (λ x. AreMirrors g.opening x.clients.items s.clients) (sym same) st.mirrored)
    (λ ts. rw none refl) (printed ∙ ap (λ z. before ++ as_text (nothing_words z ∷ [])) nm)
