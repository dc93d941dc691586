-- A session goes on standing for the state of its history while evaluations start and are answered.
use Rattle.std.proofs.Common.{◌≡◌, ℕ, ◌+◌, Bool, true, false, if◌then◌else◌, List, [], ◌∷◌, ◌++◌, map, Option, Some, None, refl, sym, ap, subst, ◌∙◌, arith}
use Rattle.std.specs.Prelude.{find, unwrap_or, IsSome, is_some}
use Rattle.std.specs.Option.{option_map, option_copied}
use Rattle.std.specs.Borrow.{Bor}
use Rattle.std.specs.Str.{encode_utf8_all}
use Rattle.std.specs.List.{AllByRecursion}
use Rattle.std.proofs.lemmas.Bool.Decides.{nat_tests}
use Rattle.std.proofs.lemmas.List.{map-append}
use Rattle.ex_model.specs.declared.ran.Ran.{Ran}
use Rattle.ex_model.specs.declared.ran.Shown.{Shown}
use Rattle.ex_model.specs.declared.bindings.Binding.{Binding}
use Rattle.ex_model.specs.Along.{After, MeansInCell, IsShown, is_last}
use Rattle.notebook.specs.declared.parts.Cell.{Cell}
use Rattle.notebook.specs.declared.parts.Parts.{Parts}
use Rattle.notebook.specs.declared.parts.Passed.{Passed}
use Rattle.notebook.specs.declared.states.Lane.{Lane}
use Rattle.notebook.specs.Flow.{path, flow, lane_of, passed}
use Rattle.notebook.specs.Rules.{IsNotebook}
use Rattle.lanes.specs.declared.work.Running.{Running}
use Rattle.lanes.specs.declared.work.Work.{Work}
use Rattle.lanes.specs.Work.{may_start}
use Rattle.lanes.specs.Changes.{running_eval, begun, stored, swept}
use Rattle.lanes.proofs.Starting.{starts-sound, starts-lane}
use Rattle.session_ops.specs.declared.entry.Call.TheVariants.{Start, Respond}
use Rattle.session_ops.specs.declared.entry.Reply.TheVariants.{Started}
use Rattle.session_ops.specs.declared.entry.Entry.{Entry}
use Rattle.session_ops.specs.State.{State, Job, jobs, is_job, after_call, start_reply, respond_reply, reply, MayCall, IsAnswer, ShowsAlong, source_bytes}
use Rattle.session_ops.proofs.Growing.{jobs-append}
use Rattle.session_ops.proofs.Lists.{all-weaker, find-append-none}
use Rattle.session_ops.proofs.Orderly.{orderly-state}
use Rattle.session_ops.proofs.Shown.{IsFaithfulWork, IsJobBelow, faithful-work}
use Rattle.session_core.specs.History.{Grows}
use Rattle.session_core.specs.declared.job.PlainJob.{PlainJob}
use Rattle.session_core.specs.declared.held.Held.{Held}
use Rattle.session_core.specs.Jobs.{EndsOver, IsAlong, IsAlongTo, HasAfter, answer_by}
use Rattle.session_core.specs.Logs.{AreLogs}
use Rattle.session_core.specs.Held.{IsHeld, HasAnswered, HasStarted, IsHandedOut, history_of, state_of}
use Rattle.session_core.specs.Session.{entry_of}
use Rattle.session_core.proofs.Basing.{has-after}
use Rattle.session_core.proofs.Owners.{logs-work}
use Rattle.session_core.proofs.SessionLaws.{answered-session}

notebook-rules : (n0 : Parts) (s : Held) → IsHeld n0 s → IsNotebook s.book
notebook-rules n0 s is = subst IsNotebook (sym is.book) (orderly-state n0 (history_of s) is.opening is.legal).book

-- a cell that may start has a lane
pub has-lane : (n0 : Parts) (s : Held) (lane : Lane) (cell : ℕ) → IsHeld n0 s → may_start s.book s.work lane ≡ Some cell → lane_of s.book cell ≡ None → ⊥
has-lane n0 s lane cell is may none = let there : lane_of s.book cell ≡ Some lane = starts-lane s.book s.work lane cell (notebook-rules n0 s is) may in cc (none, there)

-- bindings stand after what is before a cell that may start
pub base-stands : (n0 : Parts) (s : Held) (lane : Lane) (cell : ℕ) (xs : List Cell) (c : Cell) → IsHeld n0 s → may_start s.book s.work lane ≡ Some cell → flow s.book cell ≡ Some (xs ++ c ∷ []) → c.id ≡ cell → HasAfter (map passed xs)
base-stands n0 s lane cell xs c is may flows number =
    let rules : IsNotebook s.book = notebook-rules n0 s is in
    let f : IsFaithfulWork (state_of n0 s).work (jobs n0 (history_of s)) = faithful-work n0 (history_of s) is.legal in
    has-after s.work (jobs n0 (history_of s)) xs (subst (λ w. IsFaithfulWork w (jobs n0 (history_of s))) (sym is.work) f) (starts-sound s.book s.work lane cell xs c rules may flows number)

last-is : (c : Cell) (cell : ℕ) (source : List ℕ) → c.id ≡ cell → source ≡ c.source → passed c ≡ record { cell = cell; source = source }
last-is c cell source number same = λ i. record { cell = number i; source = sym same i }

-- the source and the bindings of what is handed out
pub along-to : (n : Parts) (cell : ℕ) (xs : List Cell) (c : Cell) (source : List ℕ) (base : List Binding) → flow n cell ≡ Some (xs ++ c ∷ []) → c.id ≡ cell → source ≡ c.source → After (map source_bytes (map passed xs)) base → IsAlongTo n cell source base
along-to n cell xs c source base flows number same a = record {
  present = map passed (xs ++ c ∷ []);
  path_is = ap (option_map (map passed)) flows;
  ends = record { before = map passed xs; parts = map-append passed xs (c ∷ []) ∙ ap (λ p. map passed xs ++ p ∷ []) (last-is c cell source number same); after = a };
}

-- a new job, under a number above those of all that are out
new-job : (js : List Job) (top eval : ℕ) (j : Job) → AllByRecursion (IsJobBelow top) js → eval ≡ top + 1 → j.eval ≡ eval → find (is_job eval) (js ++ j ∷ []) ≡ Some j
new-job js top eval j below up number =
    let none : AllByRecursion (λ x. is_job eval x ≡ false) js = all-weaker (IsJobBelow top) (λ x. is_job eval x ≡ false) (λ x low. grind (arith, nat_tests, low, up)) js below in
    let here : is_job eval j ≡ true = grind (arith, nat_tests, number) in
    find-append-none (is_job eval) js (j ∷ []) none ∙ ap (λ b. if b then Some j else None) here

some-is : (o : Option ℕ) (c : ℕ) → o ≡ Some c → IsSome o
some-is o c e = ap is_some e

pub begun-session : (n0 : Parts) (s s' : Held) (by eval : ℕ) (lane : Lane) (w : Work) (job : PlainJob) → IsHeld n0 s → may_start s.book s.work lane ≡ Some job.cell → job.eval ≡ s.work.started + 1 → eval ≡ job.eval → IsAlongTo s.book job.cell job.source job.base
    → Grows s.history (entry_of by (Start lane) (Started eval job.cell)) s'.history → s'.book ≡ s.book → s'.joined.items ≡ s.joined.items → s'.logs.items ≡ s.logs.items → w ≡ begun s.book lane job.eval job.cell s.work → s'.work ≡ swept s.book w → HasStarted n0 by lane s s' job
begun-session n0 s s' by eval lane w job is may next same along grown eb ej el ew es =
    let st : State = state_of n0 s in
    let js : List Job = jobs n0 (history_of s) in
    let may' : may_start st.book st.work lane ≡ Some job.cell = subst (λ n. may_start n st.work lane ≡ Some job.cell) is.book (subst (λ v. may_start s.book v lane ≡ Some job.cell) is.work may) in
    let next' : job.eval ≡ st.work.started + 1 = next ∙ ap (λ (v : Work). v.started + 1) is.work in
    let e : Entry = entry_of by (Start lane) (Started job.eval job.cell) in
    let grown' : Grows s.history e s'.history = subst (λ k. Grows s.history (entry_of by (Start lane) (Started k job.cell)) s'.history) same grown in
    let right : Started job.eval job.cell ≡ reply st (Start lane) = ap (λ k. Started k job.cell) next' ∙ ap (start_reply st) (sym may') in
    let p : List Passed = unwrap_or (path st.book job.cell) [] in
    let j : Job = record { eval = job.eval; by = by; path = p } in
    let f : IsFaithfulWork st.work js = faithful-work n0 (history_of s) is.legal in
    let js' : jobs n0 (history_of s') ≡ js ++ j ∷ [] = ap (jobs n0) grown'.entries ∙ jobs-append n0 (history_of s) e in
    let here : path st.book job.cell ≡ Some along.present = subst (λ n. path n job.cell ≡ Some along.present) is.book along.path_is in
    let read : along.present ≡ p = sym (ap (λ o. unwrap_or o []) here) in
    let work : w ≡ begun st.book lane job.eval job.cell st.work = ew ∙ (ap (begun s.book lane job.eval job.cell) is.work ∙ ap (λ n. begun n lane job.eval job.cell st.work) is.book) in
    record {
      may = may';
      answered = answered-session n0 s s' by (Start lane) (Started job.eval job.cell) is (some-is (may_start st.book st.work lane) job.cell may') right grown' (eb ∙ is.book) (ej ∙ is.joined)
          (subst (AreLogs (record st { work = begun st.book lane job.eval job.cell st.work })) (sym el) (logs-work st (begun st.book lane job.eval job.cell st.work) s.logs.items is.logs))
          (es ∙ (ap (swept s.book) work ∙ ap (λ n. swept n (begun st.book lane job.eval job.cell st.work)) is.book));
      handed =
          record {
            out = j;
            is_out = ap (find (is_job job.eval)) js' ∙ new-job js st.work.started job.eval j f.out next' refl;
            number = refl;
            along = subst (λ q. EndsOver q (record { cell = job.cell; source = job.source }) job.base) read along.ends;
          };
    }

-- the answer of a job that is out
shown-along : (p : List Passed) (job : PlainJob) (ran : Ran) → IsAlong p job → MeansInCell (encode_utf8_all job.source) job.base ran → ShowsAlong p ran.shown
shown-along p job ran along means =
    let last : Passed = record { cell = job.cell; source = job.source } in
    let joined : map source_bytes p ≡ map source_bytes along.before ++ encode_utf8_all job.source ∷ [] = ap (map source_bytes) along.parts ∙ map-append source_bytes along.before (last ∷ []) in
    subst (λ q. IsShown q ran.shown) (sym joined) (is_last along.after means)

-- whether something is lent
pub some-lent : (o : Option (Bor Running)) (p : Option Running) → option_copied o ≡ p → is_some o ≡ is_some p
some-lent None p e = ap is_some e
some-lent (Some r) p e = ap is_some e

answer-is : (eval : ℕ) (o : Option Running) → answer_by eval (is_some o) ≡ respond_reply eval o
answer-is eval None = refl
answer-is eval (Some r) = refl

after-answer : (st : State) (eval : ℕ) (shown : Shown) (o : Option Running) → running_eval st.work eval ≡ o → after_call st (Respond eval shown) (respond_reply eval o) ≡ record st { work = stored shown st.work o }
after-answer st eval shown None e = refl
after-answer st eval shown (Some r) e = ap (λ o. record st { work = stored shown st.work o }) e

pub responded-session : (n0 : Parts) (s s' : Held) (by eval : ℕ) (runs : Bool) (w : Work) (shown : Shown) (ran : Ran) (job : PlainJob) → IsHeld n0 s → IsHandedOut n0 s by job → job.eval ≡ eval → MeansInCell (encode_utf8_all job.source) job.base ran → shown ≡ ran.shown → runs ≡ is_some (running_eval s.work eval)
    → Grows s.history (entry_of by (Respond eval shown) (answer_by eval runs)) s'.history → s'.book ≡ s.book → s'.joined.items ≡ s.joined.items → s'.logs.items ≡ s.logs.items → w ≡ stored ran.shown s.work (running_eval s.work eval) → s'.work ≡ swept s.book w → HasAnswered n0 by (Respond eval ran.shown) s s' (answer_by eval runs)
responded-session n0 s s' by eval runs w shown ran job is out number means same told grown eb ej el ew es =
    let st : State = state_of n0 s in
    let js : List Job = jobs n0 (history_of s) in
    let along : ShowsAlong out.out.path ran.shown = shown-along out.out.path job ran out.along means in
    let here : find (is_job eval) js ≡ Some out.out = subst (λ k. find (is_job k) js ≡ Some out.out) number out.is_out in
    let may : MayCall st js by (Respond eval ran.shown) = subst (λ o. IsAnswer o by ran.shown) (sym here) (out.number, along) in
    let runs' : runs ≡ is_some (running_eval st.work eval) = told ∙ ap (λ (v : Work). is_some (running_eval v eval)) is.work in
    let right : answer_by eval runs ≡ reply st (Respond eval ran.shown) = ap (answer_by eval) runs' ∙ answer-is eval (running_eval st.work eval) in
    let t : State = record st { work = stored ran.shown st.work (running_eval st.work eval) } in
    let next_state : t ≡ after_call st (Respond eval ran.shown) (answer_by eval runs) = sym (ap (after_call st (Respond eval ran.shown)) right ∙ after-answer st eval ran.shown (running_eval st.work eval) refl) in
    let work : w ≡ t.work = ew ∙ ap (λ (v : Work). stored ran.shown v (running_eval v eval)) is.work in
    answered-session n0 s s' by (Respond eval ran.shown) (answer_by eval runs) is may right
    (subst (λ x. Grows s.history (entry_of by (Respond eval x) (answer_by eval runs)) s'.history) same grown)
    (eb ∙ (is.book ∙ ap (λ (x : State). x.book) next_state))
    (ej ∙ (is.joined ∙ ap (λ (x : State). x.joined) next_state))
    (subst (λ x. AreLogs x s'.logs.items) next_state (subst (AreLogs t) (sym el) (logs-work st t.work s.logs.items is.logs)))
    (es ∙ (ap (swept s.book) work ∙ (ap (λ n. swept n t.work) is.book ∙ ap (λ (x : State). swept x.book x.work) next_state)))
