-- The player and its session after evaluations and a look.
use Rattle.std.proofs.Common.{◌≡◌, ℕ, ◌≤◌, List, [], ◌∷◌, ◌++◌, length, map, codes, refl, sym, ap, subst, ◌∙◌, arith, append_assoc}
use Rattle.std.specs.List.{AllByRecursion}
use Rattle.std.proofs.lemmas.List.{length-append, append-nil}
use Rattle.notebook.specs.declared.parts.Parts.{Parts}
use Rattle.session_ops.specs.declared.entry.Call.{Call}
use Rattle.session_ops.specs.declared.entry.Call.TheVariants.{Client as ByClient, Start, Respond}
use Rattle.session_ops.specs.declared.entry.Reply.{Reply}
use Rattle.session_ops.specs.declared.entry.Reply.TheVariants.{Accepted, Applied, NewCell, NewSection, Started, Stored, Late, Refused}
use Rattle.session_ops.specs.declared.entry.Entry.{Entry}
use Rattle.session_ops.specs.Numbers.{is_in}
use Rattle.session_ops.specs.State.{State, Job, state, opening, reply, after_call, entries_by, jobs_after, jobs_from, HasReplies}
use Rattle.lanes.specs.declared.work.Work.{Work}
use Rattle.session_ops.proofs.Growing.{state-append}
use Rattle.session_core.specs.Session.{Session, IsSession, history_of, state_of}
use Rattle.client_sync.specs.Client.{Client as Holder}
use Rattle.world.specs.Claims.{IsBehind, HasJoined}
use Rattle.world.specs.Waiting.{IsHonest}
use Rattle.notebook.specs.Rules.{IsNotebook}
use Rattle.world.proofs.Honest.{start-honest, respond-honest}
use Rattle.world.proofs.Moving.{rest-replies}
use Rattle.script.specs.declared.line.ScriptLine.TheVariants.{Settle}
use Rattle.transcript.specs.Texts.{as_text}
use Rattle.driver.specs.Turns.{Looked, turns_from, AreMarks}
use Rattle.driver.specs.Player.{Game, Stage, say, states_at, helped_since}
use Rattle.driver.specs.Headline.{AllOfRun, IsEvaluation, TakeReadyLanes, call_of}
use Rattle.driver.specs.Clients.{AreMirrors}
use Rattle.driver.specs.Statuses.{Tells, status_lines}
use Rattle.driver.specs.Settling.{AreEvaluationsBy, HasGoneOn, HasSettled}
use Rattle.driver.specs.Standing.{Stands, HasPlayed, entries_of, turns_of}
use Rattle.driver.specs.declared.player.Player.{Player}
use Rattle.driver.proofs.Marks.{marks-longer, marks-push, turns-looked, turns-evaluated, run-evaluated, asked-evaluated, helped-all}
use Rattle.driver.proofs.Readying.{ready-none, ready-append}

-- nobody joins by an evaluation
joined-call : (s : State) (call : Call) (answer : Reply) → IsEvaluation call → (after_call s call answer).joined ≡ s.joined
joined-call s (ByClient n op) answer h = absurd h
joined-call s (Start lane) Accepted h = refl
joined-call s (Start lane) (Applied rev x) h = refl
joined-call s (Start lane) (NewCell cell) h = refl
joined-call s (Start lane) (NewSection section) h = refl
joined-call s (Start lane) (Started eval cell) h = refl
joined-call s (Start lane) (Stored eval) h = refl
joined-call s (Start lane) (Late eval) h = refl
joined-call s (Start lane) (Refused why) h = refl
joined-call s (Respond eval shown) Accepted h = refl
joined-call s (Respond eval shown) (Applied rev x) h = refl
joined-call s (Respond eval shown) (NewCell cell) h = refl
joined-call s (Respond eval shown) (NewSection section) h = refl
joined-call s (Respond eval shown) (Started number cell) h = refl
joined-call s (Respond eval shown) (Stored number) h = refl
joined-call s (Respond eval shown) (Late number) h = refl
joined-call s (Respond eval shown) (Refused why) h = refl

joined-evaluated : (n0 : Parts) (h es : List Entry) → AreEvaluationsBy 1 es → (state n0 (h ++ es)).joined ≡ (state n0 h).joined
joined-evaluated n0 h [] ev = ap (λ x. (state n0 x).joined) (append-nil h)
joined-evaluated n0 h (e ∷ es) ev =
    ap (λ x. (state n0 x).joined) (sym (append_assoc h (e ∷ []) es))
    ∙ (joined-evaluated n0 (h ++ e ∷ []) es ev.1.1 ∙ (ap (λ s. s.joined) (state-append n0 h e) ∙ joined-call (state n0 h) e.call e.reply ev.1.0))

-- a client stands as it should after an evaluation, and after some
honest-call : (n0 : Parts) (h : List Entry) (c : Holder) (by : ℕ) (call : Call) (answer : Reply) → IsNotebook n0 → answer ≡ reply (state n0 h) call → IsEvaluation call → IsHonest n0 h c → IsHonest n0 (h ++ record { by = by; call = call; reply = answer } ∷ []) c
honest-call n0 h c by (ByClient n op) answer nb right ev is = absurd ev
honest-call n0 h c by (Start lane) answer nb right ev is = start-honest n0 h c by lane answer nb right is
honest-call n0 h c by (Respond eval shown) answer nb right ev is = respond-honest n0 h c by eval shown answer nb right is

honest-evaluated : (n0 : Parts) (h es : List Entry) (js : List Job) (c : Holder) → IsNotebook n0 → HasReplies (state n0 h) js es → AreEvaluationsBy 1 es → IsHonest n0 h c → IsHonest n0 (h ++ es) c
honest-evaluated n0 h [] js c nb l ev is = subst (λ x. IsHonest n0 x c) (sym (append-nil h)) is
honest-evaluated n0 h (e ∷ es) js c nb l ev is =
    let more : List Job = jobs_after (state n0 h) js e.by e.call e.reply in
    let rest : HasReplies (state n0 (h ++ e ∷ [])) more es = subst (λ s. HasReplies s more es) (sym (state-append n0 h e)) l.1.1 in
    subst (λ x. IsHonest n0 x c) (append_assoc h (e ∷ []) es) (honest-evaluated n0 (h ++ e ∷ []) es more c nb rest ev.1.1 (honest-call n0 h c e.by e.call e.reply nb l.1.0 ev.1.0 is))

all-honest : (n0 : Parts) (h es : List Entry) (js : List Job) (cs : List Holder) → IsNotebook n0 → HasReplies (state n0 h) js es → AreEvaluationsBy 1 es → AllByRecursion (IsHonest n0 h) cs → AllByRecursion (IsHonest n0 (h ++ es)) cs
all-honest n0 h es js [] nb l ev all = tt
all-honest n0 h es js (c ∷ cs) nb l ev all = (honest-evaluated n0 h es js c nb l ev all.0, all-honest n0 h es js cs nb l ev all.1)

-- it has received a front of the longer history too
all-behind : (h es : List Entry) (cs : List Holder) → AllByRecursion (IsBehind h) cs → AllByRecursion (IsBehind (h ++ es)) cs
all-behind h es [] all = tt
all-behind h es (c ∷ cs) all = ((all.0.0 ++ es, ap (λ x. x ++ es) all.0.1 ∙ append_assoc c.seen all.0.0 es), all-behind h es cs all.1)

-- and its number has joined still
all-joined : (n0 : Parts) (h h' : List Entry) (cs : List Holder) → (state n0 h').joined ≡ (state n0 h).joined → AllByRecursion (HasJoined n0 h) cs → AllByRecursion (HasJoined n0 h') cs
all-joined n0 h h' [] e all = tt
all-joined n0 h h' (c ∷ cs) e all = (ap (is_in c.number) e ∙ all.0, all-joined n0 h h' cs e all.1)

-- the stage after a look that found this history, where settling waited for it
abbrev pub after_settling : Stage → List Entry → Stage
after_settling s h = record s { turns = []; seen = h; helped = s.helped ++ helped_since s.seen h }

-- the player after evaluations and a look, of which lines were printed
pub looked-stands : (g : Game) (p p' : Player) (s : Stage) (lines : List (List ℕ)) → Stands g p s → HasGoneOn g.opening 1 p.session p'.session → p'.clients ≡ p.clients → p'.marks ≡ p.marks ++ length (entries_of p') ∷ [] → Stands g p' (say lines (after_settling s (entries_of p')))
looked-stands g p p' s lines st gone ec em =
    let h : List Entry = entries_of p in
    let h' : List Entry = entries_of p' in
    let more : length h ≤ length h' = rw (gone.history, length-append h gone.more) (omega arith) in
    record {
      session = gone.session;
      used = refl;
      seen = refl;
      marks = subst (λ ms. AreMarks 0 ms (length h')) (sym em) (marks-push 0 p.marks (length h') (omega arith) (marks-longer 0 p.marks (length h) (length h') more st.marks));
      run = subst (AllOfRun 0) (sym gone.history) (run-evaluated h gone.more st.run gone.evaluations);
      answered = gone.answered st.answered;
      ready = subst (TakeReadyLanes g.opening 1 []) (sym gone.history) (ready-append g.opening 1 [] h gone.more st.ready gone.ready);
      fair = st.fair;
      asked = st.asked ∙ (sym (asked-evaluated h gone.more gone.evaluations) ∙ ap (λ x. map call_of (entries_by x 0)) (sym gone.history));
      helped = subst (λ x. s.helped ++ helped_since s.seen x ≡ entries_by x 1) (sym gone.history) (helped-all h gone.more s.seen s.helped st.seen st.helped);
      whole =
          record {
            legal = gone.session.legal;
            notebook = gone.session.opening;
            joined = all-joined g.opening h h' s.clients (ap (λ x. (state g.opening x).joined) gone.history ∙ joined-evaluated g.opening h gone.more gone.evaluations) st.whole.joined;
            behind = subst (λ x. AllByRecursion (IsBehind x) s.clients) (sym gone.history) (all-behind h gone.more s.clients st.whole.behind);
          };
      honest = subst (λ x. AllByRecursion (IsHonest g.opening x) s.clients) (sym gone.history) (all-honest g.opening h gone.more (jobs_from (opening g.opening) [] h) s.clients gone.session.opening (rest-replies (opening g.opening) [] h gone.more (subst (HasReplies (opening g.opening) []) gone.history gone.session.legal.replies)) gone.evaluations st.honest);
      apart = st.apart;
      mirrored = subst (λ v. AreMirrors g.opening v.items s.clients) (sym ec) st.mirrored;
    }

-- one turn more, and that a look
pub looked-turns : (g : Game) (p p' : Player) (s : Stage) → Stands g p s → HasGoneOn g.opening 1 p.session p'.session → p'.marks ≡ p.marks ++ length (entries_of p') ∷ [] → turns_of p' ≡ turns_of p ++ Looked (entries_of p') ∷ []
looked-turns g p p' s st gone em =
    let h' : List Entry = entries_of p' in
    ap (λ ms. turns_from [] h' ms) em
    ∙ (turns-looked h' p.marks ∙ ap (λ ts. ts ++ Looked h' ∷ []) (ap (λ x. turns_from [] x p.marks) gone.history ∙ turns-evaluated (entries_of p) p.marks gone.more st.marks gone.evaluations))

-- before the first evaluation
pub gone-nowhere : (n0 : Parts) (by : ℕ) (s : Session) → IsSession n0 s → HasGoneOn n0 by s s
gone-nowhere n0 by s is = record { more = []; history = sym (append-nil (history_of s)); evaluations = tt; ready = ready-none n0 by (history_of s); answered = λ a. a; session = is }

evaluations-more : (by : ℕ) (xs ys : List Entry) → AreEvaluationsBy by xs → AreEvaluationsBy by ys → AreEvaluationsBy by (xs ++ ys)
evaluations-more by [] ys a b = b
evaluations-more by (x ∷ xs) ys a b = (a.0, (a.1.0, evaluations-more by xs ys a.1.1 b))

-- one evaluation after others
pub gone-further : (n0 : Parts) (by : ℕ) (a b c : Session) → HasGoneOn n0 by a b → HasGoneOn n0 by b c → HasGoneOn n0 by a c
gone-further n0 by a b c x y =
    record {
      more = x.more ++ y.more;
      history = y.history ∙ (ap (λ h. h ++ y.more) x.history ∙ append_assoc (history_of a) x.more y.more);
      evaluations = evaluations-more by x.more y.more x.evaluations y.evaluations;
      ready = ready-append n0 by (history_of a) x.more y.more x.ready (subst (λ h. TakeReadyLanes n0 by h y.more) x.history y.ready);
      answered = λ all. y.answered (x.answered all);
      session = y.session;
    }

-- settle
pub settle-played : (g : Game) (p p' : Player) (s : Stage) (before out : List ℕ) → Stands g p s → HasSettled g.opening 1 p.session p'.session → p'.clients ≡ p.clients → p'.marks ≡ p.marks ++ length (entries_of p') ∷ []
    → out ≡ before ++ as_text (codes "settled" ∷ []) → HasPlayed g Settle p p' s before out
settle-played g p p' s before out st set ec em printed =
    record {
      stage = say (codes "settled" ∷ []) (after_settling s (entries_of p'));
      more = Looked (entries_of p') ∷ [];
      grown = looked-turns g p p' s st set.gone em;
      acts = λ rest. rw set.idle refl;
      stands = looked-stands g p p' s (codes "settled" ∷ []) st set.gone ec em;
      piece = as_text (codes "settled" ∷ []);
      printed = printed;
      said = refl;
    }

-- the states that are printed of a session's notebook and work
pub states-printed : (n0 : Parts) (s : Session) (n : Parts) (before out : List ℕ) → IsSession n0 s → n ≡ (state_of n0 s).book → ((w : Work) → Tells n w s → out ≡ before ++ as_text (status_lines n w)) → out ≡ before ++ as_text (states_at (state_of n0 s))
states-printed n0 s n before out is en f = f (state_of n0 s).work (record { opening = n0; session = is; book = en; work = refl }) ∙ ap (λ x. before ++ as_text (status_lines x (state_of n0 s).work)) en
