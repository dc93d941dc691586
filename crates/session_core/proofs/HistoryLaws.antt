-- The history keeps room for each answer that is owed.
use Rattle.std.proofs.Common.{◌≡◌, Bool, ℕ, ◌+◌, true, false, eqb-true, if◌then◌else◌, not, List, [], ◌∷◌, ◌++◌, Option, Some, None, refl, sym, ap, subst, ◌∙◌, arith}
use Rattle.std.specs.Prelude.{◌==◌, find, filter, length, unwrap_or}
use Rattle.std.specs.List.{AllByRecursion}
use Rattle.std.proofs.lemmas.Bool.Decides.{nat_tests}
use Rattle.std.proofs.lemmas.List.{length-append}
use Rattle.ex_model.specs.declared.ran.Shown.{Shown}
use Rattle.notebook.specs.declared.states.Lane.{Lane}
use Rattle.notebook.specs.Flow.{path}
use Rattle.lanes.specs.Work.{may_start}
use Rattle.session_ops.specs.declared.entry.Call.{Call}
use Rattle.session_ops.specs.declared.entry.Call.TheVariants.{Client, Start, Respond}
use Rattle.session_ops.specs.declared.entry.Reply.{Reply}
use Rattle.session_ops.specs.declared.entry.Reply.TheVariants.{Accepted, Applied, NewCell, NewSection, Started, Stored, Late, Refused}
use Rattle.session_ops.specs.declared.entry.Entry.{Entry}
use Rattle.session_ops.specs.State.{State, Job, reply, start_reply, is_job, is_other_job, jobs_after, IsAnswer, MayCall}
use Rattle.session_ops.proofs.Lists.{all-append, all-kept}
use Rattle.session_ops.proofs.Shown.{IsJobBelow}
use Rattle.session_core.specs.declared.history.History.{History}
use Rattle.session_core.specs.History.{AreApart, Grows, HasRoom, KeepsEntries, owed_after}

-- what isn't touched is kept
pub kept-same : (h : History) → KeepsEntries h h
kept-same h = record { entries = refl; owed = refl; room = λ r. r }

-- an entry that was appended after room was made
pub grown-after : (old room new : History) (e : Entry) → KeepsEntries old room → Grows room e new → Grows old e new
grown-after old room new e k g =
    let same : owed_after room.owed e.call e.reply ≡ owed_after old.owed e.call e.reply = ap (λ n. owed_after n e.call e.reply) k.owed in
    record {
      entries = g.entries ∙ ap (λ es. es ++ e ∷ []) k.entries;
      owed = g.owed ∙ same;
      room = subst (λ n. HasRoom n new) same g.room;
    }

-- there is room where as many answers are owed as there is room for
pub owes-room : (h : History) (owed : ℕ) → h.owed ≡ owed → HasRoom owed h → HasRoom h.owed h
owes-room h owed e r = subst (λ n. HasRoom n h) (sym e) r

-- where no job is under the number, none is left out
none-out : (eval : ℕ) (js : List Job) → AllByRecursion (λ k. is_job eval k ≡ false) js → filter (is_other_job eval) js ≡ js
none-out eval [] h = refl
none-out eval (j ∷ js) h = ap (λ b. if not b then j ∷ filter (is_other_job eval) js else filter (is_other_job eval) js) h.0 ∙ ap (λ ks. j ∷ ks) (none-out eval js h.1)

-- without one that is out there is one job fewer
pub one-fewer : (eval : ℕ) (js : List Job) (out : Job) → find (is_job eval) js ≡ Some out → AreApart js → length (filter (is_other_job eval) js) + 1 ≡ length js
one-fewer eval [] out e a = absurd (cc e)
one-fewer eval (j ∷ js) out e a = by-first (j.eval == eval) refl e (λ k. one-fewer eval js out k a.1)
  where
    by-first : (b : Bool) → (j.eval == eval) ≡ b → (if b then Some j else find (is_job eval) js) ≡ Some out → (find (is_job eval) js ≡ Some out → length (filter (is_other_job eval) js) + 1 ≡ length js) → length (if not b then j ∷ filter (is_other_job eval) js else filter (is_other_job eval) js) + 1 ≡ length (j ∷ js)
    by-first true q k rest =
        let same : j.eval ≡ eval = eqb-true j.eval eval q in
        let others : AllByRecursion (λ x. is_job eval x ≡ false) js = subst (λ n. AllByRecursion (λ x. is_job n x ≡ false) js) same a.0 in
        omega (arith, ap length (none-out eval js others))
    by-first false q k rest = omega (arith, rest k)

-- a job more, under a number above all others
apart-more : (js : List Job) (top : ℕ) (j : Job) → AllByRecursion (IsJobBelow top) js → j.eval ≡ top + 1 → AreApart js → AreApart (js ++ j ∷ [])
apart-more [] top j below up a = (tt, tt)
apart-more (x ∷ js) top j below up a =
    let low = below.0 in
    let other : is_job x.eval j ≡ false = grind (arith, nat_tests, low, up) in
    (all-append (λ k. is_job x.eval k ≡ false) js (j ∷ []) a.0 (other, tt), apart-more js top j below.1 up a.1)

-- some of them
apart-kept : (p : Job → Bool) (js : List Job) → AreApart js → AreApart (filter p js)
apart-kept p [] a = tt
apart-kept p (x ∷ js) a =
    elim (p x)
    as (λ b. AreApart (if b then x ∷ filter p js else filter p js))
    [ true ↦ (all-kept p (λ k. is_job x.eval k ≡ false) js a.0, apart-kept p js a.1) | false ↦ apart-kept p js a.1 ]

apart-start : (s : State) (js : List Job) (by : ℕ) (lane : Lane) (o : Option ℕ) → AllByRecursion (IsJobBelow s.work.started) js → AreApart js → AreApart (jobs_after s js by (Start lane) (start_reply s o))
apart-start s js by lane None below a = a
apart-start s js by lane (Some cell) below a = apart-more js s.work.started (record { eval = s.work.started + 1; by = by; path = unwrap_or (path s.book cell) [] }) below refl a

apart-reply : (s : State) (js : List Job) (by : ℕ) (call : Call) → AllByRecursion (IsJobBelow s.work.started) js → AreApart js → AreApart (jobs_after s js by call (reply s call))
apart-reply s js by (Client n op) below a = a
apart-reply s js by (Start lane) below a = apart-start s js by lane (may_start s.book s.work lane) below a
apart-reply s js by (Respond eval shown) below a = apart-kept (is_other_job eval) js a

-- the jobs after a call are under numbers of their own
pub apart-still : (s : State) (js : List Job) (by : ℕ) (call : Call) (answer : Reply) → answer ≡ reply s call → AllByRecursion (IsJobBelow s.work.started) js → AreApart js → AreApart (jobs_after s js by call answer)
apart-still s js by call answer right below a = subst (λ r. AreApart (jobs_after s js by call r)) (sym right) (apart-reply s js by call below a)

-- a job that may be answered is out
answered-job : (o : Option Job) (by : ℕ) (shown : Shown) → IsAnswer o by shown → (out : Job) × (o ≡ Some out)
answered-job None by shown h = absurd h
answered-job (Some j) by shown h = (j, refl)

-- after each call that may be made as many answers are owed as jobs are out
pub owed-still : (s : State) (js : List Job) (owed by : ℕ) (call : Call) (answer : Reply) → MayCall s js by call → AreApart js → owed ≡ length js → owed_after owed call answer ≡ length (jobs_after s js by call answer)
owed-still s js owed by (Client n op) answer may a low = low
owed-still s js owed by (Start lane) (Started eval cell) may a low = omega (arith, length-append js (record { eval = eval; by = by; path = unwrap_or (path s.book cell) [] } ∷ []), low)
owed-still s js owed by (Start lane) Accepted may a low = low
owed-still s js owed by (Start lane) (Applied rev x) may a low = low
owed-still s js owed by (Start lane) (NewCell cell) may a low = low
owed-still s js owed by (Start lane) (NewSection section) may a low = low
owed-still s js owed by (Start lane) (Stored eval) may a low = low
owed-still s js owed by (Start lane) (Late eval) may a low = low
owed-still s js owed by (Start lane) (Refused why) may a low = low
owed-still s js owed by (Respond eval shown) answer may a low =
    let out = answered-job (find (is_job eval) js) by shown may in
    omega (arith, one-fewer eval js out.0 out.1 a, low)
