-- A cell that is evaluated shows what one thread gives along its present path.
use Rattle.std.proofs.Common.{◌≡◌, ℕ, ◌+◌, ◌≤◌, ◌==◌, Bool, true, false, if◌then◌else◌, List, [], ◌∷◌, ◌++◌, Option, Some, None, refl, sym, ap, subst, ◌∙◌, arith}
use Rattle.std.specs.Prelude.{◌&&◌, filter, find, nat_eq, unwrap_or}
use Rattle.std.specs.Option.{option_map}
use Rattle.std.specs.List.{AllByRecursion, list_any}
use Rattle.std.specs.Cmp.Lexicographic.{pointwise, bytes_decides}
use Rattle.std.proofs.lemmas.Bool.{and_parts, eqb-true}
use Rattle.std.proofs.lemmas.Bool.Decides.{nat_tests}
use Rattle.ex_model.specs.declared.ran.Shown.{Shown}
use Rattle.notebook.specs.declared.parts.Parts.{Parts}
use Rattle.notebook.specs.declared.states.Lane.{Lane}
use Rattle.notebook.specs.declared.parts.Passed.{Passed}
use Rattle.notebook.specs.Flow.{path}
use Rattle.notebook.specs.declared.states.Validity.TheVariants.{Aborted, Evaluated, Stale}
use Rattle.notebook.specs.Validity.{validity_by, is_evaluated_so, same_path, same_passed}
use Rattle.lanes.specs.declared.work.Finished.{Finished}
use Rattle.lanes.specs.declared.work.Mark.{Mark}
use Rattle.lanes.specs.declared.work.Running.{Running}
use Rattle.lanes.specs.declared.work.Work.{Work}
use Rattle.lanes.specs.Work.{has_path, is_evaluated, is_aborted, last_finished, last_by, mark_of, is_mark_of, path_read, may_start}
use Rattle.lanes.specs.Changes.{as_asked, as_begun, as_stored, as_cancelled, as_aborted, is_hopeless, asked, begun, is_eval, is_other_eval, running_eval, stored, runs_other, cancelled, mark_lives, run_lives, without_dead, is_home, moved_mark, housed, swept_mark, swept, has_moved}
use Rattle.session_ops.specs.declared.entry.Call.{Call}
use Rattle.session_ops.specs.declared.entry.Call.TheVariants.{Client, Start, Respond}
use Rattle.session_ops.specs.declared.entry.Reply.TheVariants.{Started}
use Rattle.session_ops.specs.declared.entry.Entry.{Entry}
use Rattle.session_ops.specs.State.{State, Job, ShowsAlong, IsAnswer, MayCall, HasReplies, Legal, is_job, is_other_job, jobs, jobs_from, jobs_after, state, state_from, after, after_call, opening, reply, start_reply, respond_reply}
use Rattle.session_ops.proofs.Lists.{all-append, all-kept, find-append-none, find-append-other, find-kept, find-lost, find-passes, find-is, all-weaker}
use Rattle.session_ops.proofs.Steps.{KeepsOps, op-keeps}
use Rattle.session_ops.proofs.Marks.{all-map, all-marked, all-remarked}

-- what a finished evaluation showed is what one thread gives along the path that it read
abbrev pub IsFaithfulIf : Option Finished → Type 0
IsFaithfulIf None = Unit {0}
IsFaithfulIf (Some f) = ShowsAlong f.path f.shown

abbrev pub IsFaithful : Mark → Type 0
IsFaithful m = IsFaithfulIf m.last

abbrev pub IsRunBelow : ℕ → Running → Type 0
IsRunBelow top r = r.eval ≤ top

abbrev pub IsJobBelow : ℕ → Job → Type 0
IsJobBelow top j = j.eval ≤ top

-- if its job is out, the job's path is the one that the running evaluation has read
abbrev pub AgreesWith : List Job → Running → Type 0
AgreesWith js r = (j : Job) → find (is_job r.eval) js ≡ Some j → j.path ≡ r.path

-- what holds of the work and of the jobs that are out after each legal history
pub record IsFaithfulWork (w : Work) (js : List Job) : Type 0 where
  pub shown : AllByRecursion IsFaithful w.marks
  pub agree : AllByRecursion (AgreesWith js) w.running
  pub running : AllByRecursion (IsRunBelow w.started) w.running
  pub out : AllByRecursion (IsJobBelow w.started) js

-- with a job more, under a number above all others
agree-other : (js : List Job) (y : Job) (r : Running) → AgreesWith js r → (y.eval == r.eval) ≡ false → AgreesWith (js ++ y ∷ []) r
agree-other js y r h other j e = h j (sym (find-append-other (is_job r.eval) js y other) ∙ e)

agree-own : (js : List Job) (top : ℕ) (x : Running) (y : Job) → AllByRecursion (IsJobBelow top) js → x.eval ≡ top + 1 → y.eval ≡ top + 1 → y.path ≡ x.path → AgreesWith (js ++ y ∷ []) x
agree-own js top x y below ex ey same j e =
    let here : is_job x.eval y ≡ true = grind (arith, nat_tests, ex, ey) in
    let none : AllByRecursion (λ k. is_job x.eval k ≡ false) js = all-weaker (IsJobBelow top) (λ k. is_job x.eval k ≡ false) (λ k l. grind (arith, nat_tests, l, ex)) js below in
    let one : find (is_job x.eval) (y ∷ []) ≡ Some y = ap (λ b. if b then Some y else None) here in
    let taken : Some y ≡ Some j = sym (find-append-none (is_job x.eval) js (y ∷ []) none ∙ one) ∙ e in
    let is_y : y ≡ j = cc taken in
    ap (λ (k : Job). k.path) (sym is_y) ∙ same

all-both : (js : List Job) (top : ℕ) (y : Job) → y.eval ≡ top + 1 → (rs : List Running) → AllByRecursion (AgreesWith js) rs → AllByRecursion (IsRunBelow top) rs → AllByRecursion (AgreesWith (js ++ y ∷ [])) rs
all-both js top y ey [] h low = tt
all-both js top y ey (r ∷ rs) h low = (agree-other js y r h.0 (grind (arith, nat_tests, ey, low.0)), all-both js top y ey rs h.1 low.1)

-- without the jobs of a number
agree-less : (js : List Job) (gone : ℕ) (r : Running) → AgreesWith js r → AgreesWith (filter (is_other_job gone) js) r
agree-less js gone r h j e =
    elim (gone == r.eval)
    as (λ b. (gone == r.eval) ≡ b → j.path ≡ r.path) [
      | true ↦ λ t.
          let none : find (is_job r.eval) (filter (is_other_job gone) js) ≡ None = find-lost (is_job r.eval) (is_other_job gone) (λ k c. grind (arith, nat_tests, t, c)) js in
          absurd (cc (none, e))
      | false ↦ λ t.
          let kept : find (is_job r.eval) (filter (is_other_job gone) js) ≡ find (is_job r.eval) js = find-kept (is_job r.eval) (is_other_job gone) (λ k c. grind (arith, nat_tests, t, c)) js in
          h j (sym kept ∙ e)
    ]
    refl

-- an answer that may be given is what one thread gives along the path of its job
answer-shown : (o : Option Job) (by : ℕ) (shown : Shown) (r : Running) → IsAnswer o by shown → ((j : Job) → o ≡ Some j → j.path ≡ r.path) → ShowsAlong r.path shown
answer-shown None by shown r m h = absurd m
answer-shown (Some j) by shown r m h = subst (λ p. ShowsAlong p shown) (h j refl) m.1

started-next : (s : State) (o : Option ℕ) (eval cell : ℕ) → Started eval cell ≡ start_reply s o → eval ≡ s.work.started + 1
started-next s None eval cell e = absurd (cc e)
started-next s (Some c) eval cell e = cc e

begun-true : (s : State) (js : List Job) (by eval cell : ℕ) (lane : Lane) → eval ≡ s.work.started + 1 → IsFaithfulWork s.work js → IsFaithfulWork (begun s.book lane eval cell s.work) (jobs_after s js by (Start lane) (Started eval cell))
begun-true s js by eval cell lane e h =
    let p : List Passed = unwrap_or (path s.book cell) [] in
    let x : Running = record { lane = lane; eval = eval; cell = cell; path = p } in
    let y : Job = record { eval = eval; by = by; path = p } in
    record {
      shown = all-marked IsFaithful cell as_begun (λ m k. k) tt s.work.marks h.shown;
      agree = all-append (AgreesWith (js ++ y ∷ [])) s.work.running (x ∷ []) (all-both js s.work.started y e s.work.running h.agree h.running) (agree-own js s.work.started x y h.out e e refl, tt);
      running = all-append (IsRunBelow eval) s.work.running (x ∷ []) (all-weaker (IsRunBelow s.work.started) (IsRunBelow eval) (λ r l. omega (arith, e, l)) s.work.running h.running) (omega arith, tt);
      out = all-append (IsJobBelow eval) js (y ∷ []) (all-weaker (IsJobBelow s.work.started) (IsJobBelow eval) (λ j l. omega (arith, e, l)) js h.out) (omega arith, tt);
    }

-- the jobs without an answered one, beside the same work
late-true : (w : Work) (js : List Job) (eval : ℕ) → IsFaithfulWork w js → IsFaithfulWork w (filter (is_other_job eval) js)
late-true w js eval h = record {
  shown = h.shown;
  agree = all-weaker (AgreesWith js) (AgreesWith (filter (is_other_job eval) js)) (λ r k. agree-less js eval r k) w.running h.agree;
  running = h.running;
  out = all-kept (is_other_job eval) (IsJobBelow w.started) js h.out;
}

stored-true : (w : Work) (js : List Job) (by eval : ℕ) (shown : Shown) (o : Option Running) → running_eval w eval ≡ o → IsAnswer (find (is_job eval) js) by shown → IsFaithfulWork w js → IsFaithfulWork (stored shown w o) (filter (is_other_job eval) js)
stored-true w js by eval shown None e m h = late-true w js eval h
stored-true w js by eval shown (Some r) e m h =
    let number : r.eval ≡ eval = eqb-true r.eval eval (find-passes (is_eval eval) w.running r e) in
    let agrees : AgreesWith js r = find-is (is_eval eval) (AgreesWith js) w.running r h.agree e in
    let true_one : ShowsAlong r.path shown = answer-shown (find (is_job eval) js) by shown r m (λ j k. agrees j (subst (λ n. find (is_job n) js ≡ Some j) (sym number) k)) in
    let l : IsFaithfulWork w (filter (is_other_job eval) js) = late-true w js eval h in
    record {
      shown = all-remarked IsFaithful r.cell (as_stored r.path shown) (λ k t. true_one) w.marks h.shown;
      agree = all-kept (is_other_eval r.eval) (AgreesWith (filter (is_other_job eval) js)) w.running l.agree;
      running = all-kept (is_other_eval r.eval) (IsRunBelow w.started) w.running h.running;
      out = l.out;
    }

asked-true : (w : Work) (js : List Job) (cell : ℕ) → IsFaithfulWork w js → IsFaithfulWork (asked cell w) js
asked-true w js cell h = record { shown = all-marked IsFaithful cell as_asked (λ m k. k) tt w.marks h.shown; agree = h.agree; running = h.running; out = h.out }

-- evaluations that are taken away
kept-true : (w : Work) (js : List Job) (p : Running → Bool) (ms : List Mark) → AllByRecursion IsFaithful ms → IsFaithfulWork w js → IsFaithfulWork (record w { marks = ms; running = filter p w.running }) js
kept-true w js p ms k h = record { shown = k; agree = all-kept p (AgreesWith js) w.running h.agree; running = all-kept p (IsRunBelow w.started) w.running h.running; out = h.out }

cancelled-true : (w : Work) (js : List Job) (cell : ℕ) → IsFaithfulWork w js → IsFaithfulWork (cancelled cell w) js
cancelled-true w js cell h = kept-true w js (runs_other cell) _ (all-remarked IsFaithful cell as_cancelled (λ m k. k) w.marks h.shown) h

moved-faithful : (n : Parts) (rs : List Running) (m : Mark) → IsFaithful m → IsFaithful (moved_mark n rs m)
moved-faithful n rs m h = elim (list_any (has_moved n m.cell) rs) as (λ b. IsFaithful (if b then as_aborted m else m)) [ true ↦ h | false ↦ h ]

housed-true : (n : Parts) (w : Work) (js : List Job) → IsFaithfulWork w js → IsFaithfulWork (housed n w) js
housed-true n w js h =
    let d : IsFaithfulWork (without_dead n w) js = kept-true w js (run_lives n) _ (all-kept (mark_lives n) IsFaithful w.marks h.shown) h in
    kept-true (without_dead n w) js (is_home n) _ (all-map IsFaithful (moved_mark n (without_dead n w).running) (moved-faithful n (without_dead n w).running) (without_dead n w).marks d.shown) d

swept-faithful : (n : Parts) (w : Work) (m : Mark) → IsFaithful m → IsFaithful (swept_mark n w m)
swept-faithful n w m h = elim (m.queued && is_hopeless n w m.cell) as (λ b. IsFaithful (if b then as_cancelled m else m)) [ true ↦ h | false ↦ h ]

swept-true : (n : Parts) (w : Work) (js : List Job) → IsFaithfulWork w js → IsFaithfulWork (swept n w) js
swept-true n w js h = record { shown = all-map IsFaithful (swept_mark n w) (swept-faithful n w) w.marks h.shown; agree = h.agree; running = h.running; out = h.out }

-- a client's call shows nothing
ops-true : (js : List Job) → KeepsOps (λ s. IsFaithfulWork s.work js)
ops-true js = record {
  join = λ s n h none. h;
  leave = λ s n h. h;
  made = λ s asked n' what h e. housed-true n' s.work js h;
  applied = λ s n cell base d x c h f is e. h;
  reported = λ s n cell rev c h f l. h;
  queued = λ s cell c h f kind none. asked-true s.work js cell h;
  cancel = λ s cell c h f kind. cancelled-true s.work js cell h;
}

start-true : (s : State) (js : List Job) (by : ℕ) (lane : Lane) (o : Option ℕ) → IsFaithfulWork s.work js → IsFaithfulWork (after_call s (Start lane) (start_reply s o)).work (jobs_after s js by (Start lane) (start_reply s o))
start-true s js by lane None h = h
start-true s js by lane (Some cell) h = begun-true s js by (s.work.started + 1) cell lane refl h

respond-true : (s : State) (js : List Job) (by eval : ℕ) (shown : Shown) (o : Option Running) → running_eval s.work eval ≡ o → IsAnswer (find (is_job eval) js) by shown → IsFaithfulWork s.work js → IsFaithfulWork (after_call s (Respond eval shown) (respond_reply eval o)).work (filter (is_other_job eval) js)
respond-true s js by eval shown None e m h = late-true s.work js eval h
respond-true s js by eval shown (Some r) e m h =
    subst (λ o. IsFaithfulWork (stored shown s.work o) (filter (is_other_job eval) js)) (sym e) (stored-true s.work js by eval shown (Some r) e m h)

call-true : (s : State) (js : List Job) (by : ℕ) (call : Call) → MayCall s js by call → IsFaithfulWork s.work js → IsFaithfulWork (after_call s call (reply s call)).work (jobs_after s js by call (reply s call))
call-true s js by (Client n op) m h = op-keeps (λ t. IsFaithfulWork t.work js) (ops-true js) s n op h
call-true s js by (Start lane) m h = start-true s js by lane (may_start s.book s.work lane) h
call-true s js by (Respond eval shown) m h = respond-true s js by eval shown (running_eval s.work eval) refl m h

answered-true : (s : State) (js : List Job) (e : Entry) → MayCall s js e.by e.call → e.reply ≡ reply s e.call → IsFaithfulWork s.work js → IsFaithfulWork (after s e).work (jobs_after s js e.by e.call e.reply)
answered-true s js e m right h =
    let t : State = after_call s e.call e.reply in
    swept-true t.book t.work (jobs_after s js e.by e.call e.reply) (subst (λ a. IsFaithfulWork (after_call s e.call a).work (jobs_after s js e.by e.call a)) (sym right) (call-true s js e.by e.call m h))

from-true : (s : State) (js : List Job) (h : List Entry) → HasReplies s js h → IsFaithfulWork s.work js → IsFaithfulWork (state_from s h).work (jobs_from s js h)
from-true s js [] l t = t
from-true s js (e ∷ es) l t = from-true (after s e) (jobs_after s js e.by e.call e.reply) es l.1.1 (answered-true s js e l.0 l.1.0 t)

-- after each legal history, all that was shown is true, and running evaluations and their jobs agree
pub faithful-work : (n0 : Parts) (h : List Entry) → Legal n0 h → IsFaithfulWork (state n0 h).work (jobs n0 h)
faithful-work n0 h l = from-true (opening n0) [] h l.replies (record { shown = tt; agree = tt; running = tt; out = tt })

same-passed : (a b : Passed) → same_passed a b ≡ true → a ≡ b
same-passed a b e =
    let parts : ((a.cell == b.cell) ≡ true) × (pointwise nat_eq a.source b.source ≡ true) = and_parts _ _ e in
    let cell : a.cell ≡ b.cell = eqb-true a.cell b.cell parts.0 in
    let source : a.source ≡ b.source = (bytes_decides a.source b.source).0 parts.1 in
    λ i. record { cell = cell i; source = source i }

-- paths that the test finds the same are the same
pub same-path : (p q : List Passed) → same_path p q ≡ true → p ≡ q
same-path [] [] e = refl
same-path [] (y ∷ ys) e = absurd (cc e)
same-path (x ∷ xs) [] e = absurd (cc e)
same-path (x ∷ xs) (y ∷ ys) e =
    let parts : (same_passed x y ≡ true) × (same_path xs ys ≡ true) = and_parts _ _ e in
    let first : x ≡ y = same-passed x y parts.0 in
    let rest : xs ≡ ys = same-path xs ys parts.1 in
    rw (first, rest) refl

read-so : (marked same : Bool) → is_evaluated_so (if marked then Aborted else (if same then Evaluated else Stale)) ≡ true → same ≡ true
read-so true same e = absurd (cc e)
read-so false true e = refl
read-so false false e = absurd (cc e)

-- where a cell is evaluated, the path that was read is its present one
pub path-read : (n : Parts) (w : Work) (cell : ℕ) (p : List Passed) (f : Finished) → path n cell ≡ Some p → last_finished w cell ≡ Some f → is_evaluated n w cell ≡ true → f.path ≡ p
path-read n w cell p f ep ef e =
    let there : has_path w cell (Some p) ≡ true = subst (λ o. has_path w cell o ≡ true) ep e in
    let so : is_evaluated_so (validity_by (is_aborted w cell) (Some f.path) p) ≡ true = subst (λ o. is_evaluated_so (validity_by (is_aborted w cell) (option_map path_read o) p) ≡ true) ef there in
    same-path f.path p (read-so (is_aborted w cell) (same_path f.path p) so)

last-faithful : (o : Option Mark) (f : Finished) → last_by o ≡ Some f → ((m : Mark) → o ≡ Some m → IsFaithful m) → ShowsAlong f.path f.shown
last-faithful None f e h = absurd (cc e)
last-faithful (Some m) f e h = subst IsFaithfulIf e (h m refl)

-- in every legal history, a cell that is evaluated shows what one thread gives along its present path
pub evaluated-shows : (n0 : Parts) (h : List Entry) → Legal n0 h → (cell : ℕ) (p : List Passed) (f : Finished) → path (state n0 h).book cell ≡ Some p → last_finished (state n0 h).work cell ≡ Some f → is_evaluated (state n0 h).book (state n0 h).work cell ≡ true → ShowsAlong p f.shown
evaluated-shows n0 h l cell p f ep ef e =
    let w : Work = (state n0 h).work in
    let t : IsFaithfulWork w (jobs n0 h) = faithful-work n0 h l in
    let shown : ShowsAlong f.path f.shown = last-faithful (mark_of w cell) f ef (λ m k. find-is (is_mark_of cell) IsFaithful w.marks m t.shown k) in
    subst (λ q. ShowsAlong q f.shown) (path-read (state n0 h).book w cell p f ep ef e) shown
