-- The server's answer to the message at the front of an outbox, and how its client stands after it.
use Rattle.std.proofs.Common.{◌≡◌, ℕ, ◌+◌, ◌<◌, ◌≤◌, ◌==◌, true, false, if◌then◌else◌, List, [], ◌∷◌, ◌++◌, length, drop, Option, Some, None, refl, sym, ap, subst, ◌∙◌, arith, append_assoc, inl, inr}
use Rattle.std.specs.Prelude.{◌⊎◌, nat_lt}
use Rattle.std.proofs.lemmas.Bool.{eqb-true, and_right}
use Rattle.std.proofs.lemmas.Bool.Decides.{nat_tests}
use Rattle.std.proofs.lemmas.List.{length-append, drop-append-le}
use Rattle.delta.specs.declared.Step.{Step}
use Rattle.delta.specs.Moves.{FitsText, over}
use Rattle.notebook.specs.declared.parts.Cell.{Cell}
use Rattle.notebook.specs.Book.{cells, found}
use Rattle.notebook.specs.Rules.{IsNotebook}
use Rattle.session_ops.specs.declared.entry.Op.{Op}
use Rattle.session_ops.specs.declared.entry.Op.TheVariants.{Join, Leave, Delta, Report}
use Rattle.session_ops.specs.declared.entry.Call.{Call}
use Rattle.session_ops.specs.declared.entry.Call.TheVariants.{Client as ByClient}
use Rattle.session_ops.specs.declared.entry.Refusal.TheVariants.{NotJoined, NoCell, TooNew, TooOld}
use Rattle.session_ops.specs.declared.entry.Reply.{Reply}
use Rattle.session_ops.specs.declared.entry.Reply.TheVariants.{Accepted, Applied, Refused}
use Rattle.session_ops.specs.declared.entry.Entry.{Entry}
use Rattle.session_ops.specs.State.{State, Job, after, after_call, state_from, taken_by, revision, floor, least, reply, delta_reply, report_reply, judged_by, misfit, HasReplies}
use Rattle.session_ops.specs.Numbers.{is_in}
use Rattle.client_sync.specs.Client.{Pending}
use Rattle.client_sync.specs.Fits.{HasSource, FitsHere}
use Rattle.world.specs.Applied.{applied_in, is_own, is_own_call, HasNoOwn, text_after_each}
use Rattle.world.specs.Waiting.{Message, Edits, Reports, message_in, messages_for, AreReports, IsPosted, IsWaiting, IsKeptLive, IsKeptDead, IsKept, is_passage}
use Rattle.world.proofs.Moving.{IsGone, from-more, from-grown, from-taken, from-source, from-gone, from-fits, over-fits, over-append, misfit-from, call-gone}
use Rattle.world.proofs.Floors.{IsAside, least-within, floor-beside, floor-one, refused-aside, posted-call}
use Rattle.world.proofs.Keeping.{IsOthers, own-append, kept-more, kept-ops, gone-later}
use Rattle.world.proofs.Pendings.{edit-here, edit-beside, report-here, report-beside}
use Rattle.world.proofs.Receiving.{IsEntry}

-- an entry of a call that tells nothing of the client
pub others-entry : (t : State) (n k : ℕ) (e : Entry) (call : Call) (answer : Reply) → IsNotebook t.book → IsEntry t e call answer → IsAside t n k call answer → IsOthers t n k e
others-entry t n k e call answer h is aside =
    record {
      other = ap (λ c. is_own_call n k c e.reply) is.call_is ∙ (ap (is_own_call n k call) is.reply_is ∙ aside.other);
      same = ap (λ c. floor n k (after_call t c e.reply).known) is.call_is ∙ (ap (λ a. floor n k (after_call t call a).known) is.reply_is ∙ aside.same);
      gone = call-gone t e.call e.reply k h (is.reply_is ∙ (is.right ∙ ap (reply t) (sym is.call_is)));
    }

-- the messages for a cell, with a delta or a report of it at the front
pub edit-first : (j base : ℕ) (d : List Step) (ops : List Op) → messages_for j (Delta j base d ∷ ops) ≡ Edits base d ∷ messages_for j ops
edit-first j base d ops = ap (λ ms. ms ++ messages_for j ops) (edit-here j base d)

pub report-first : (j rev : ℕ) (ops : List Op) → messages_for j (Report j rev ∷ ops) ≡ Reports rev ∷ messages_for j ops
report-first j rev ops = ap (λ ms. ms ++ messages_for j ops) (report-here j rev)

-- what stands behind a delta at the front of an outbox
pub record IsFront (s : State) (later : List Entry) (n j base : ℕ) (d : List Step) (ops : List Op) (o : Option Pending) : Type 0 where
  pub pending : Pending
  pub is : o ≡ Some pending
  pub fits : FitsHere s j pending
  pub posted : IsPosted s j base d pending.flight
  pub known : floor n j (state_from s later).known ≤ base
  pub none : HasNoOwn n j later
  pub rest : AreReports (revision s j) (messages_for j ops)

no-edit : (top base : ℕ) (d : List Step) (ms ns : List Message) → ms ≡ Edits base d ∷ ns → AreReports top ms → ⊥
no-edit top base d ms ns e rs = (subst (AreReports top) e rs).0

front-waiting : (s : State) (later : List Entry) (n j base : ℕ) (d : List Step) (ops all : List Op) (p : Pending) → FitsHere s j p → messages_for j all ≡ Edits base d ∷ messages_for j ops → (w : IsWaiting s later n j all p.flight) → (before : List Message) → w.before ≡ before → Edits base d ∷ messages_for j ops ≡ before ++ Edits w.base w.delta ∷ w.after → IsFront s later n j base d ops (Some p)
front-waiting s later n j base d ops all p fits first w [] is parts =
    let b : w.base ≡ base = cc parts in
    let x : w.delta ≡ d = cc parts in
    let ms : w.after ≡ messages_for j ops = cc parts in
    record {
      pending = p;
      is = refl;
      fits = fits;
      posted = subst (λ y. IsPosted s j base y p.flight) x (subst (λ y. IsPosted s j y w.delta p.flight) b w.posted);
      known = subst (λ y. floor n j (state_from s later).known ≤ y) b w.known;
      none = w.none;
      rest = subst (AreReports (revision s j)) ms w.reports_after;
    }
front-waiting s later n j base d ops all p fits first w (m ∷ ms) is parts =
    let same : m ≡ Edits base d = cc parts in
    absurd (no-edit w.base base d w.before ms (is ∙ ap (λ y. y ∷ ms) same) w.reports_before)

front-live : (s : State) (later : List Entry) (n j base : ℕ) (d : List Step) (ops : List Op) (o : Option Pending) → IsKeptLive s later n j (Delta j base d ∷ ops) o → IsFront s later n j base d ops o
front-live s later n j base d ops None q = absurd (no-edit (revision s j) base d _ (messages_for j ops) (edit-first j base d ops) q.gone)
front-live s later n j base d ops (Some p) (fits, inl w) = front-waiting s later n j base d ops (Delta j base d ∷ ops) p fits (edit-first j base d ops) w w.before refl (sym (edit-first j base d ops) ∙ w.only)
front-live s later n j base d ops (Some p) (fits, inr (inl r)) = absurd (no-edit (revision s j) base d _ (messages_for j ops) (edit-first j base d ops) r.gone)
front-live s later n j base d ops (Some p) (fits, inr (inr l)) = absurd (no-edit (revision s j) base d _ (messages_for j ops) (edit-first j base d ops) l.gone)

moved-here : (s : State) (later : List Entry) (j base : ℕ) (d flight : List Step) → IsPosted s j base d flight → over d (drop base (taken_by j (state_from s later).taken)) ≡ over flight (applied_in j later)
moved-here s later j base d flight p =
    ap (λ xs. over d (drop base xs)) (from-taken s later j)
    ∙ (ap (over d) (drop-append-le base (taken_by j s.taken) (applied_in j later) p.early) ∙ (over-append d (drop base (taken_by j s.taken)) (applied_in j later) ∙ ap (λ i. over i (applied_in j later)) (sym p.moved)))

-- the answer to a delta: it is applied, moved over what was applied after its base, or the cell is gone
abbrev pub IsDeltaAnswer : State → ℕ → ℕ → List Step → Reply → Type 0
IsDeltaAnswer t j base d answer = (answer ≡ Applied (revision t j + 1) (over d (drop base (taken_by j t.taken)))) ⊎ ((answer ≡ Refused NoCell) × IsGone t.book j)

front-applied : (s : State) (js : List Job) (later : List Entry) (n j base : ℕ) (d : List Step) (ops : List Op) (o : Option Pending) → IsNotebook s.book → (front : IsFront s later n j base d ops o) → HasReplies s js later → is_in n (state_from s later).joined ≡ true → HasSource (state_from s later).book j (text_after_each front.fits.source (applied_in j later))
    → let t : State = state_from s later in reply t (ByClient n (Delta j base d)) ≡ Applied (revision t j + 1) (over d (drop base (taken_by j t.taken)))
front-applied s js later n j base d ops o h front replies joined here =
    let t : State = state_from s later in
    let x : List Step = over d (drop base (taken_by j t.taken)) in
    let moved : x ≡ over front.pending.flight (applied_in j later) = moved-here s later j base d front.pending.flight front.posted in
    let fits : FitsText x here.own.source = subst (FitsText x) (sym here.source) (subst (λ y. FitsText y (text_after_each front.fits.source (applied_in j later))) (sym moved) (over-fits front.pending.flight front.fits.source (applied_in j later) front.fits.flight (from-fits s js later j front.fits.source h front.fits.there replies))) in
    let grown : revision t j ≡ revision s j + length (applied_in j later) = ap length (from-taken s later j) ∙ length-append (taken_by j s.taken) (applied_in j later) in
    let early : base ≤ revision s j = front.posted.early in
    let new : nat_lt (revision t j) base ≡ false = let le : base ≤ revision t j = omega (arith, grown, early) in grind (arith, nat_tests, le) in
    let low : least t j ≤ floor n j t.known = least-within t j n joined in
    let known : floor n j t.known ≤ base = front.known in
    let old : nat_lt base (least t j) ≡ false = let le : least t j ≤ base = omega (arith, low, known) in grind (arith, nat_tests, le) in
    ap (λ b. if b then delta_reply t j base d (found j (cells t.book)) else Refused NotJoined) joined
    ∙ (ap (delta_reply t j base d) here.there
    ∙ (ap (λ b. if b then Refused (TooNew (revision t j)) else (if nat_lt base (least t j) then Refused (TooOld (least t j)) else judged_by (revision t j) x (misfit x here.own.source))) new
    ∙ (ap (λ b. if b then Refused (TooOld (least t j)) else judged_by (revision t j) x (misfit x here.own.source)) old ∙ ap (judged_by (revision t j) x) (misfit-from x here.own.source fits))))

delta-gone : (t : State) (n j base : ℕ) (d : List Step) → is_in n t.joined ≡ true → found j (cells t.book) ≡ None → reply t (ByClient n (Delta j base d)) ≡ Refused NoCell
delta-gone t n j base d joined none = ap (λ b. if b then delta_reply t j base d (found j (cells t.book)) else Refused NotJoined) joined ∙ ap (delta_reply t j base d) none

report-gone : (t : State) (n j rev : ℕ) → is_in n t.joined ≡ true → found j (cells t.book) ≡ None → reply t (ByClient n (Report j rev)) ≡ Refused NoCell
report-gone t n j rev joined none = ap (λ b. if b then report_reply t j rev (found j (cells t.book)) else Refused NotJoined) joined ∙ ap (report_reply t j rev) none

pub delta-answered : (s : State) (js : List Job) (later : List Entry) (n j base : ℕ) (d : List Step) (ops : List Op) (own : Option Cell) (o : Option Pending) → IsNotebook s.book → HasReplies s js later → is_in n (state_from s later).joined ≡ true → j < s.book.next_cell → found j (cells s.book) ≡ own → IsKept s later n j (Delta j base d ∷ ops) own o → IsDeltaAnswer (state_from s later) j base d (reply (state_from s later) (ByClient n (Delta j base d)))
delta-answered s js later n j base d ops None o h replies joined below is kept =
    let gone : IsGone (state_from s later).book j = (from-gone s js later j h replies (record { none = is; below = below })).0 in
    inr (delta-gone (state_from s later) n j base d joined gone.none, gone)
delta-answered s js later n j base d ops (Some c) o h replies joined below is kept =
    let front : IsFront s later n j base d ops o = front-live s later n j base d ops o kept in
    elim (from-source s js later j front.fits.source h replies front.fits.there)
    as (λ f. IsDeltaAnswer (state_from s later) j base d (reply (state_from s later) (ByClient n (Delta j base d)))) [
      | inl here ↦ inl (front-applied s js later n j base d ops o h front replies joined here)
      | inr gone ↦ inr (delta-gone (state_from s later) n j base d joined gone.none, gone)
    ]

-- a report at the front is of no revision to come
first-early : (top rev : ℕ) (ms ns : List Message) → ms ≡ Reports rev ∷ ns → AreReports top ms → rev ≤ top
first-early top rev ms ns e rs = (subst (AreReports top) e rs).0

waiting-early : (s : State) (later : List Entry) (n j rev : ℕ) (all : List Op) (ns : List Message) (i : List Step) → messages_for j all ≡ Reports rev ∷ ns → (w : IsWaiting s later n j all i) → (before : List Message) → w.before ≡ before → Reports rev ∷ ns ≡ before ++ Edits w.base w.delta ∷ w.after → rev ≤ w.base
waiting-early s later n j rev all ns i first w [] is parts = absurd (cc parts)
waiting-early s later n j rev all ns i first w (m ∷ ms) is parts = let same : m ≡ Reports rev = cc parts in first-early w.base rev w.before ms (is ∙ ap (λ y. y ∷ ms) same) w.reports_before

live-early : (s : State) (later : List Entry) (n j rev : ℕ) (ops : List Op) (o : Option Pending) → IsKeptLive s later n j (Report j rev ∷ ops) o → rev ≤ revision s j
live-early s later n j rev ops None q = first-early (revision s j) rev _ (messages_for j ops) (report-first j rev ops) q.gone
live-early s later n j rev ops (Some p) (fits, inl w) =
    let le : rev ≤ w.base = waiting-early s later n j rev (Report j rev ∷ ops) (messages_for j ops) p.flight (report-first j rev ops) w w.before refl (sym (report-first j rev ops) ∙ w.only) in
    let early : w.base ≤ revision s j = w.posted.early in
    omega (arith, le, early)
live-early s later n j rev ops (Some p) (fits, inr (inl r)) = first-early (revision s j) rev _ (messages_for j ops) (report-first j rev ops) r.gone
live-early s later n j rev ops (Some p) (fits, inr (inr l)) = first-early (revision s j) rev _ (messages_for j ops) (report-first j rev ops) l.gone

abbrev pub IsReportAnswer : State → ℕ → Reply → Type 0
IsReportAnswer t j answer = (answer ≡ Accepted) ⊎ ((answer ≡ Refused NoCell) × IsGone t.book j)

report-here-live : (s : State) (later : List Entry) (n j rev : ℕ) (c : Cell) → rev ≤ revision s j → is_in n (state_from s later).joined ≡ true → found j (cells (state_from s later).book) ≡ Some c → reply (state_from s later) (ByClient n (Report j rev)) ≡ Accepted
report-here-live s later n j rev c le joined there =
    let t : State = state_from s later in
    let grown : revision t j ≡ revision s j + length (applied_in j later) = ap length (from-taken s later j) ∙ length-append (taken_by j s.taken) (applied_in j later) in
    let new : nat_lt (revision t j) rev ≡ false = let up : rev ≤ revision t j = omega (arith, grown, le) in grind (arith, nat_tests, up) in
    ap (λ b. if b then report_reply t j rev (found j (cells t.book)) else Refused NotJoined) joined ∙ (ap (report_reply t j rev) there ∙ ap (λ b. if b then Refused (TooNew (revision t j)) else Accepted) new)

pub report-answered : (s : State) (js : List Job) (later : List Entry) (n j rev : ℕ) (ops : List Op) (own : Option Cell) (o : Option Pending) → IsNotebook s.book → HasReplies s js later → is_in n (state_from s later).joined ≡ true → j < s.book.next_cell → found j (cells s.book) ≡ own → IsKept s later n j (Report j rev ∷ ops) own o → IsReportAnswer (state_from s later) j (reply (state_from s later) (ByClient n (Report j rev)))
report-answered s js later n j rev ops None o h replies joined below is kept =
    let gone : IsGone (state_from s later).book j = (from-gone s js later j h replies (record { none = is; below = below })).0 in
    inr (report-gone (state_from s later) n j rev joined gone.none, gone)
report-answered s js later n j rev ops (Some c) o h replies joined below is kept =
    elim (from-source s js later j c.source h replies (record { own = c; there = is; source = refl }))
    as (λ f. IsReportAnswer (state_from s later) j (reply (state_from s later) (ByClient n (Report j rev)))) [
      | inl here ↦ inl (report-here-live s later n j rev here.own (live-early s later n j rev ops o kept) joined here.there)
      | inr gone ↦ inr (report-gone (state_from s later) n j rev joined gone.none, gone)
    ]

-- the client's own delta was applied: its cell waits for it to come back
taken-same : (s : State) (later : List Entry) (n j base : ℕ) (d : List Step) (ops : List Op) (o : Option Pending) (e : Entry) (rev : ℕ) (x : List Step) → IsFront s later n j base d ops o → e.call ≡ ByClient n (Delta j base d) → e.reply ≡ Applied rev x → rev ≡ revision (state_from s later) j + 1 → x ≡ over d (drop base (taken_by j (state_from s later).taken)) → IsKeptLive s (later ++ e ∷ []) n j ops o
taken-same s later n j base d ops o e rev x front call answer next is =
    let t : State = state_from s later in
    let grown : revision t j ≡ revision s j + length (applied_in j later) = ap length (from-taken s later j) ∙ length-append (taken_by j s.taken) (applied_in j later) in
    let early : base ≤ revision s j = front.posted.early in
    let known : floor n j t.known ≤ base = front.known in
    let top : ℕ = revision s j + length (applied_in j later) + 1 in
    let told : (after t e).known ≡ t.known ++ record { client = n; cell = j; rev = rev } ∷ [] = ap (λ c. (after_call t c e.reply).known) call ∙ ap (λ r. (after_call t (ByClient n (Delta j base d)) r).known) answer in
    let le : floor n j t.known ≤ top = omega (arith, known, early) in
    let up : rev ≤ top = omega (arith, next, grown) in
    subst (IsKeptLive s (later ++ e ∷ []) n j ops) (sym front.is) (
      front.fits,
      inr (
          inl (
          record {
            base = base;
            delta = d;
            gone = front.rest;
            posted = front.posted;
            before = later;
            own = e;
            rest = [];
            parts = refl;
            call = call;
            rev = rev;
            answer = answer ∙ ap (Applied rev) (is ∙ moved-here s later j base d front.pending.flight front.posted);
            none_before = front.none;
            none_after = tt;
            known = subst (λ ms. floor n j ms ≤ top) (sym (ap (λ u. u.known) (from-more s later (e ∷ [])) ∙ told)) (floor-one n j top t.known (record { client = n; cell = j; rev = rev }) le up);
          }
          )
          ),
    )

-- or it was refused, since the cell is gone
lost-same : (s : State) (later : List Entry) (n j base : ℕ) (d : List Step) (ops : List Op) (o : Option Pending) (e : Entry) → IsFront s later n j base d ops o → e.call ≡ ByClient n (Delta j base d) → e.reply ≡ Refused NoCell → found j (cells (state_from s later).book) ≡ None → is_own n j e ≡ false → found j (cells (state_from s (later ++ e ∷ [])).book) ≡ None → IsKeptLive s (later ++ e ∷ []) n j ops o
lost-same s later n j base d ops o e front call answer late other none =
    subst (IsKeptLive s (later ++ e ∷ []) n j ops) (sym front.is) (
      front.fits,
      inr (inr (record { base = base; delta = d; gone = front.rest; posted = front.posted; before = later; own = e; rest = []; parts = refl; call = call; answer = answer; late = late; deleted = none; none = own-append n j later e front.none other })),
    )

-- of a dead cell that has messages
dead-taken : (s : State) (later : List Entry) (n k : ℕ) (ops ops' : List Op) (m : Message) (o : Option Pending) (e : Entry) → messages_for k ops ≡ m ∷ messages_for k ops' → IsKeptDead s later n k ops o → IsKeptDead s (later ++ e ∷ []) n k ops' o
dead-taken s later n k ops ops' m o e some d = record { nothing = d.nothing; untouched = λ le. let wrong : m ∷ messages_for k ops' ≡ [] = sym some ∙ (d.untouched le).gone in absurd (cc wrong) }

-- a call of a cell, as every other cell sees it
kept-aside : (s : State) (later : List Entry) (n k : ℕ) (op : Op) (ops : List Op) (o : Option Pending) (e : Entry) → IsNotebook s.book → message_in k op ≡ [] → IsOthers (state_from s later) n k e → IsKept s later n k (op ∷ ops) (found k (cells s.book)) o → IsKept s (later ++ e ∷ []) n k ops (found k (cells s.book)) o
kept-aside s later n k op ops o e h silent others kept =
    kept-more s later n k ops (found k (cells s.book)) o e h refl others (kept-ops s later n k (op ∷ ops) ops (found k (cells s.book)) o (sym (ap (λ ms. ms ++ messages_for k ops) silent)) kept)

delta-beside : (t : State) (n j base rev k : ℕ) (d x : List Step) → (j == k) ≡ false → IsAside t n k (ByClient n (Delta j base d)) (Applied rev x)
delta-beside t n j base rev k d x ne = record { other = and_right (n == n) (j == k) ne; same = floor-beside n k t.known (record { client = n; cell = j; rev = rev }) (and_right (n == n) (j == k) ne) }

report-aside : (t : State) (n j rev k : ℕ) → (j == k) ≡ false → IsAside t n k (ByClient n (Report j rev)) Accepted
report-aside t n j rev k ne = record { other = refl; same = floor-beside n k t.known (record { client = n; cell = j; rev = rev }) (and_right (n == n) (j == k) ne) }

delta-taken-here : (s : State) (later : List Entry) (n j base : ℕ) (d : List Step) (ops : List Op) (own : Option Cell) (o : Option Pending) (e : Entry) → e.call ≡ ByClient n (Delta j base d) → e.reply ≡ Applied (revision (state_from s later) j + 1) (over d (drop base (taken_by j (state_from s later).taken))) → IsKept s later n j (Delta j base d ∷ ops) own o → IsKept s (later ++ e ∷ []) n j ops own o
delta-taken-here s later n j base d ops None o e call answer kept = dead-taken s later n j (Delta j base d ∷ ops) ops (Edits base d) o e (edit-first j base d ops) kept
delta-taken-here s later n j base d ops (Some c) o e call answer kept = taken-same s later n j base d ops o e (revision (state_from s later) j + 1) (over d (drop base (taken_by j (state_from s later).taken))) (front-live s later n j base d ops o kept) call answer refl refl

delta-lost-here : (s : State) (later : List Entry) (n j base : ℕ) (d : List Step) (ops : List Op) (own : Option Cell) (o : Option Pending) (e : Entry) → e.call ≡ ByClient n (Delta j base d) → e.reply ≡ Refused NoCell → found j (cells (state_from s later).book) ≡ None → is_own n j e ≡ false → found j (cells (state_from s (later ++ e ∷ [])).book) ≡ None → IsKept s later n j (Delta j base d ∷ ops) own o → IsKept s (later ++ e ∷ []) n j ops own o
delta-lost-here s later n j base d ops None o e call answer late other none kept = dead-taken s later n j (Delta j base d ∷ ops) ops (Edits base d) o e (edit-first j base d ops) kept
delta-lost-here s later n j base d ops (Some c) o e call answer late other none kept = lost-same s later n j base d ops o e (front-live s later n j base d ops o kept) call answer late other none

-- the client's own delta was taken
delta-taken : (s : State) (later : List Entry) (n j base k : ℕ) (d : List Step) (ops : List Op) (o : ℕ → Option Pending) (e : Entry) (answer : Reply) → IsNotebook s.book → IsEntry (state_from s later) e (ByClient n (Delta j base d)) answer → IsDeltaAnswer (state_from s later) j base d answer → ((i : ℕ) → IsKept s later n i (Delta j base d ∷ ops) (found i (cells s.book)) (o i)) → IsKept s (later ++ e ∷ []) n k ops (found k (cells s.book)) (o k)
delta-taken s later n j base k d ops o e answer h is (inl applied) kept =
    let t : State = state_from s later in
    let x : List Step = over d (drop base (taken_by j t.taken)) in
    let is' : IsEntry t e (ByClient n (Delta j base d)) (Applied (revision t j + 1) x) = subst (IsEntry t e (ByClient n (Delta j base d))) applied is in
    elim (j == k)
    as (λ b. (j == k) ≡ b → IsKept s (later ++ e ∷ []) n k ops (found k (cells s.book)) (o k)) [
      | true ↦ λ y. subst (λ i. IsKept s (later ++ e ∷ []) n i ops (found i (cells s.book)) (o i)) (eqb-true j k y) (delta-taken-here s later n j base d ops (found j (cells s.book)) (o j) e is'.call_is is'.reply_is (kept j))
      | false ↦ λ y. kept-aside s later n k (Delta j base d) ops (o k) e h (edit-beside j k base d y) (others-entry t n k e (ByClient n (Delta j base d)) (Applied (revision t j + 1) x) (from-grown s later h).0 is' (delta-beside t n j base (revision t j + 1) k d x y)) (kept k)
    ]
    refl
delta-taken s later n j base k d ops o e answer h is (inr (refused, gone)) kept =
    let t : State = state_from s later in
    let is' : IsEntry t e (ByClient n (Delta j base d)) (Refused NoCell) = subst (IsEntry t e (ByClient n (Delta j base d))) refused is in
    let others : (i : ℕ) → IsOthers t n i e = λ i. others-entry t n i e (ByClient n (Delta j base d)) (Refused NoCell) (from-grown s later h).0 is' (refused-aside t n i n (Delta j base d) NoCell) in
    elim (j == k)
    as (λ b. (j == k) ≡ b → IsKept s (later ++ e ∷ []) n k ops (found k (cells s.book)) (o k)) [
      | true ↦ λ y. subst (λ i. IsKept s (later ++ e ∷ []) n i ops (found i (cells s.book)) (o i)) (eqb-true j k y)
          (delta-lost-here s later n j base d ops (found j (cells s.book)) (o j) e is'.call_is is'.reply_is gone.none (others j).other (ap (λ u. found j (cells u.book)) (from-more s later (e ∷ [])) ∙ ((others j).gone gone).none) (kept j))
      | false ↦ λ y. kept-aside s later n k (Delta j base d) ops (o k) e h (edit-beside j k base d y) (others k) (kept k)
    ]
    refl

-- a report tells of the client what it says, and no more
pub record IsTold (s : State) (n k rev : ℕ) (e : Entry) : Type 0 where
  pub other : is_own n k e ≡ false
  pub told : (top : ℕ) → floor n k s.known ≤ top → rev ≤ top → floor n k (after s e).known ≤ top
  pub gone : IsGone s.book k → IsGone (after s e).book k

told-later : (s : State) (later : List Entry) (n k top rev : ℕ) (e : Entry) → IsTold (state_from s later) n k rev e → rev ≤ top → floor n k (state_from s later).known ≤ top → floor n k (state_from s (later ++ e ∷ [])).known ≤ top
told-later s later n k top rev e f up le = subst (λ m. m ≤ top) (sym (ap (λ t. floor n k t.known) (from-more s later (e ∷ [])))) (f.told top le up)

reports-rest : (top rev : ℕ) (ms ns : List Message) → ms ≡ Reports rev ∷ ns → AreReports top ms → AreReports top ns
reports-rest top rev ms ns e rs = (subst (AreReports top) e rs).1

told-waiting : (s : State) (later : List Entry) (n j rev : ℕ) (all ops : List Op) (i : List Step) (e : Entry) → messages_for j all ≡ Reports rev ∷ messages_for j ops → IsTold (state_from s later) n j rev e → (w : IsWaiting s later n j all i) → (before : List Message) → w.before ≡ before → Reports rev ∷ messages_for j ops ≡ before ++ Edits w.base w.delta ∷ w.after → IsWaiting s (later ++ e ∷ []) n j ops i
told-waiting s later n j rev all ops i e first f w [] is parts = absurd (cc parts)
told-waiting s later n j rev all ops i e first f w (m ∷ ms) is parts =
    let same : m ≡ Reports rev = cc parts in
    let rest : messages_for j ops ≡ ms ++ Edits w.base w.delta ∷ w.after = cc parts in
    let le : rev ≤ w.base = first-early w.base rev w.before ms (is ∙ ap (λ y. y ∷ ms) same) w.reports_before in
    record { base = w.base; delta = w.delta; before = ms; after = w.after; only = rest; reports_before = reports-rest w.base rev w.before ms (is ∙ ap (λ y. y ∷ ms) same) w.reports_before; reports_after = w.reports_after; posted = w.posted; known = told-later s later n j w.base rev e f le w.known; none = own-append n j later e w.none f.other }

told-live : (s : State) (later : List Entry) (n j rev : ℕ) (ops : List Op) (c : Cell) (o : Option Pending) (e : Entry) → IsNotebook s.book → found j (cells s.book) ≡ Some c → IsTold (state_from s later) n j rev e → IsKeptLive s later n j (Report j rev ∷ ops) o → IsKeptLive s (later ++ e ∷ []) n j ops o
told-live s later n j rev ops c None e h there f q =
    record { gone = reports-rest (revision s j) rev _ (messages_for j ops) (report-first j rev ops) q.gone; known = told-later s later n j (revision s j) rev e f (live-early s later n j rev ops None q) q.known; none = own-append n j later e q.none f.other }
told-live s later n j rev ops c (Some p) e h there f (fits, inl w) = (fits, inl (told-waiting s later n j rev (Report j rev ∷ ops) ops p.flight e (report-first j rev ops) f w w.before refl (sym (report-first j rev ops) ∙ w.only)))
told-live s later n j rev ops c (Some p) e h there f (fits, inr (inl r)) =
    let le : rev ≤ revision s j = live-early s later n j rev ops (Some p) (fits, inr (inl r)) in
    let top : ℕ = revision s j + length (applied_in j r.before) + 1 in
    let up : rev ≤ top = omega (arith, le) in (
      fits,
      inr (
          inl (
          record {
            base = r.base;
            delta = r.delta;
            gone = reports-rest (revision s j) rev _ (messages_for j ops) (report-first j rev ops) r.gone;
            posted = r.posted;
            before = r.before;
            own = r.own;
            rest = r.rest ++ e ∷ [];
            parts = ap (λ x. x ++ e ∷ []) r.parts ∙ append_assoc r.before (r.own ∷ r.rest) (e ∷ []);
            call = r.call;
            rev = r.rev;
            answer = r.answer;
            none_before = r.none_before;
            none_after = own-append n j r.rest e r.none_after f.other;
            known = told-later s later n j top rev e f up r.known;
          }
          )
          ),
    )
told-live s later n j rev ops c (Some p) e h there f (fits, inr (inr l)) = (
  fits,
  inr (
      inr (
      record {
        base = l.base;
        delta = l.delta;
        gone = reports-rest (revision s j) rev _ (messages_for j ops) (report-first j rev ops) l.gone;
        posted = l.posted;
        before = l.before;
        own = l.own;
        rest = l.rest ++ e ∷ [];
        parts = ap (λ x. x ++ e ∷ []) l.parts ∙ append_assoc l.before (l.own ∷ l.rest) (e ∷ []);
        call = l.call;
        answer = l.answer;
        late = l.late;
        deleted = ap (λ t. found j (cells t.book)) (from-more s later (e ∷ [])) ∙ (f.gone (gone-later s later j c h there l.deleted)).none;
        none = own-append n j later e l.none f.other;
      }
      )
      ),
)

report-taken-here : (s : State) (later : List Entry) (n j rev : ℕ) (ops : List Op) (own : Option Cell) (o : Option Pending) (e : Entry) → IsNotebook s.book → found j (cells s.book) ≡ own → IsTold (state_from s later) n j rev e → IsKept s later n j (Report j rev ∷ ops) own o → IsKept s (later ++ e ∷ []) n j ops own o
report-taken-here s later n j rev ops None o e h is f kept = dead-taken s later n j (Report j rev ∷ ops) ops (Reports rev) o e (report-first j rev ops) kept
report-taken-here s later n j rev ops (Some c) o e h is f kept = told-live s later n j rev ops c o e h is f kept

told-accepted : (t : State) (n j rev : ℕ) (e : Entry) → IsNotebook t.book → IsEntry t e (ByClient n (Report j rev)) Accepted → IsTold t n j rev e
told-accepted t n j rev e h is =
    let known : (after t e).known ≡ t.known ++ record { client = n; cell = j; rev = rev } ∷ [] = ap (λ c. (after_call t c e.reply).known) is.call_is ∙ ap (λ r. (after_call t (ByClient n (Report j rev)) r).known) is.reply_is in
    record {
      other = ap (λ c. is_own_call n j c e.reply) is.call_is ∙ ap (is_own_call n j (ByClient n (Report j rev))) is.reply_is;
      told = λ top le up. subst (λ ms. floor n j ms ≤ top) (sym known) (floor-one n j top t.known (record { client = n; cell = j; rev = rev }) le up);
      gone = call-gone t e.call e.reply j h (is.reply_is ∙ (is.right ∙ ap (reply t) (sym is.call_is)));
    }

told-others : (t : State) (n j rev : ℕ) (e : Entry) → IsOthers t n j e → IsTold t n j rev e
told-others t n j rev e f = record { other = f.other; told = λ top le up. subst (λ m. m ≤ top) (sym f.same) le; gone = f.gone }

-- the client's own report was taken
report-taken : (s : State) (later : List Entry) (n j rev k : ℕ) (ops : List Op) (o : ℕ → Option Pending) (e : Entry) (answer : Reply) → IsNotebook s.book → IsEntry (state_from s later) e (ByClient n (Report j rev)) answer → IsReportAnswer (state_from s later) j answer → ((i : ℕ) → IsKept s later n i (Report j rev ∷ ops) (found i (cells s.book)) (o i)) → IsKept s (later ++ e ∷ []) n k ops (found k (cells s.book)) (o k)
report-taken s later n j rev k ops o e answer h is (inl accepted) kept =
    let t : State = state_from s later in
    let is' : IsEntry t e (ByClient n (Report j rev)) Accepted = subst (IsEntry t e (ByClient n (Report j rev))) accepted is in
    elim (j == k)
    as (λ b. (j == k) ≡ b → IsKept s (later ++ e ∷ []) n k ops (found k (cells s.book)) (o k)) [
      | true ↦ λ y. subst (λ i. IsKept s (later ++ e ∷ []) n i ops (found i (cells s.book)) (o i)) (eqb-true j k y) (report-taken-here s later n j rev ops (found j (cells s.book)) (o j) e h refl (told-accepted t n j rev e (from-grown s later h).0 is') (kept j))
      | false ↦ λ y. kept-aside s later n k (Report j rev) ops (o k) e h (report-beside j k rev y) (others-entry t n k e (ByClient n (Report j rev)) Accepted (from-grown s later h).0 is' (report-aside t n j rev k y)) (kept k)
    ]
    refl
report-taken s later n j rev k ops o e answer h is (inr (refused, gone)) kept =
    let t : State = state_from s later in
    let is' : IsEntry t e (ByClient n (Report j rev)) (Refused NoCell) = subst (IsEntry t e (ByClient n (Report j rev))) refused is in
    let others : (i : ℕ) → IsOthers t n i e = λ i. others-entry t n i e (ByClient n (Report j rev)) (Refused NoCell) (from-grown s later h).0 is' (refused-aside t n i n (Report j rev) NoCell) in
    elim (j == k)
    as (λ b. (j == k) ≡ b → IsKept s (later ++ e ∷ []) n k ops (found k (cells s.book)) (o k)) [
      | true ↦ λ y. subst (λ i. IsKept s (later ++ e ∷ []) n i ops (found i (cells s.book)) (o i)) (eqb-true j k y) (report-taken-here s later n j rev ops (found j (cells s.book)) (o j) e h refl (told-others t n j rev e (others j)) (kept j))
      | false ↦ λ y. kept-aside s later n k (Report j rev) ops (o k) e h (report-beside j k rev y) (others k) (kept k)
    ]
    refl

-- the message at the front of the client's outbox was taken

pub own-taken : (s : State) (js : List Job) (later : List Entry) (n k : ℕ) (op : Op) (ops : List Op) (o : ℕ → Option Pending) (e : Entry) → IsNotebook s.book → HasReplies s js later → is_in n (state_from s later).joined ≡ true → is_passage op ≡ false → ((i : ℕ) → (messages_for i (op ∷ ops) ≡ [] → ⊥) → i < s.book.next_cell) → IsEntry (state_from s later) e (ByClient n op) (reply (state_from s later) (ByClient n op)) → ((i : ℕ) → IsKept s later n i (op ∷ ops) (found i (cells s.book)) (o i)) → IsKept s (later ++ e ∷ []) n k ops (found k (cells s.book)) (o k)
own-taken s js later n k Join ops o e h replies joined inside below is kept = absurd (cc inside)
own-taken s js later n k Leave ops o e h replies joined inside below is kept = absurd (cc inside)
own-taken s js later n k (Delta j base d) ops o e h replies joined inside below is kept =
    let lt : j < s.book.next_cell = below j (λ none. let wrong : Edits base d ∷ messages_for j ops ≡ [] = sym (edit-first j base d ops) ∙ none in cc wrong) in
    delta-taken s later n j base k d ops o e (reply (state_from s later) (ByClient n (Delta j base d))) h is (delta-answered s js later n j base d ops (found j (cells s.book)) (o j) h replies joined lt refl (kept j)) kept
own-taken s js later n k (Report j rev) ops o e h replies joined inside below is kept =
    let lt : j < s.book.next_cell = below j (λ none. let wrong : Reports rev ∷ messages_for j ops ≡ [] = sym (report-first j rev ops) ∙ none in cc wrong) in
    report-taken s later n j rev k ops o e (reply (state_from s later) (ByClient n (Report j rev))) h is (report-answered s js later n j rev ops (found j (cells s.book)) (o j) h replies joined lt refl (kept j)) kept
own-taken s js later n k op ops o e h replies joined inside below is kept =
    let t : State = state_from s later in
    kept-aside s later n k op ops (o k) e h refl (others-entry t n k e (ByClient n op) (reply t (ByClient n op)) (from-grown s later h).0 is (posted-call t n n k op (reply t (ByClient n op)) refl)) (kept k)
