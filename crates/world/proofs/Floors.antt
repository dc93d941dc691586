-- What calls make of those who have joined, and of what is known of them.
use Rattle.std.proofs.Common.{◌≡◌, ℕ, ◌+◌, ◌<◌, ◌≤◌, ◌==◌, Bool, true, false, if◌then◌else◌, List, [], ◌∷◌, ◌++◌, length, map, Option, Some, None, refl, sym, ap, subst, ◌∙◌, arith, append_assoc}
use Rattle.std.specs.Prelude.{◌&&◌, not, nat_lt, max, min, filter}
use Rattle.std.specs.List.{AllByRecursion}
use Rattle.std.proofs.lemmas.Bool.{eqb-true, and_left, and_right, and_parts}
use Rattle.std.proofs.lemmas.Bool.Decides.{nat_tests}
use Rattle.std.proofs.lemmas.List.{append-nil, length-append}
use Rattle.notebook.specs.declared.parts.Cell.{Cell}
use Rattle.notebook.specs.declared.parts.Parts.{Parts}
use Rattle.notebook.specs.Book.{cells, section_cells, found}
use Rattle.notebook.specs.Rules.{IsNotebook, IsBelow, cell_number}
use Rattle.session_ops.specs.declared.entry.Op.{Op}
use Rattle.session_ops.specs.declared.entry.Op.TheVariants.{Join, Leave, Delta, Report, Queue, Cancel}
use Rattle.session_ops.specs.declared.entry.Call.{Call}
use Rattle.session_ops.specs.declared.entry.Call.TheVariants.{Client as ByClient, Start, Respond}
use Rattle.session_ops.specs.declared.entry.Refusal.{Refusal}
use Rattle.session_ops.specs.declared.entry.Refusal.TheVariants.{NotJoined, TooNew}
use Rattle.session_ops.specs.declared.entry.Reply.{Reply}
use Rattle.session_ops.specs.declared.entry.Reply.TheVariants.{Accepted, Applied, Started, Stored, Refused}
use Rattle.session_ops.specs.declared.entry.Entry.{Entry}
use Rattle.session_ops.specs.Deeds.{changes_if}
use Rattle.session_ops.specs.State.{State, Job, Known, Legal, opening, state, state_from, after, after_call, after_op, once_done, reply, report_reply, revision, floor, least_floor, least_among, least, knows_all, is_of_other, HasReplies, jobs_after}
use Rattle.session_ops.specs.Structure.{change_of, is_postable}
use Rattle.session_ops.specs.Numbers.{is_in, without_number}
use Rattle.session_ops.proofs.Lists.{all-append, all-kept, all-weaker, in-more}
use Rattle.world.specs.Applied.{applied_by, is_own_call, is_leaving, HasNotLeft}
use Rattle.world.proofs.Changing.{call-grown, live-below, below-front, once-known, once-joined, is_refused}
use Rattle.session_ops.proofs.Deeds.{IsTaken, applied-taken}
use Rattle.world.proofs.Moving.{call-taken}

-- one who has joined and doesn't leave is still there
without-kept : (m n : ℕ) (ns : List ℕ) → (m == n) ≡ false → is_in n (without_number m ns) ≡ is_in n ns
without-kept m n [] ne = refl
without-kept m n (i ∷ ns) ne =
    elim (i == m)
    as (λ b. (i == m) ≡ b → is_in n (if not b then i ∷ without_number m ns else without_number m ns) ≡ is_in n (i ∷ ns)) [
      | true ↦ λ t. let other : (i == n) ≡ false = grind (arith, nat_tests, t, ne) in without-kept m n ns ne ∙ sym (ap (λ b. if b then true else is_in n ns) other)
      | false ↦ λ t. ap (λ r. if i == n then true else r) (without-kept m n ns ne)
    ]
    refl

op-stays : (s : State) (m : ℕ) (op : Op) (answer : Reply) (n : ℕ) → is_leaving n (ByClient m op) ≡ false → is_in n s.joined ≡ true → is_in n (after_op s m op answer).joined ≡ true
op-stays s m op (Refused why) n ne e = e
op-stays s m Join answer n ne e = in-more n s.joined (m ∷ []) e
op-stays s m Leave answer n ne e = without-kept m n s.joined ne ∙ e
op-stays s m (Delta j base d) (Applied rev x) n ne e = e
op-stays s m (Report j rev) answer n ne e = e
op-stays s m (Queue j) answer n ne e = e
op-stays s m (Cancel j) answer n ne e = e
op-stays s m op answer n ne e = ap (is_in n) (once-joined s (change_of op)) ∙ e

pub call-stays : (s : State) (call : Call) (answer : Reply) (n : ℕ) → is_leaving n call ≡ false → is_in n s.joined ≡ true → is_in n (after_call s call answer).joined ≡ true
call-stays s (ByClient m op) answer n ne e = op-stays s m op answer n ne e
call-stays s (Start lane) (Started eval cell) n ne e = e
call-stays s (Respond eval shown) (Stored i) n ne e = e
call-stays s call answer n ne e = e

pub from-stays : (s : State) (es : List Entry) (n : ℕ) → HasNotLeft n es → is_in n s.joined ≡ true → is_in n (state_from s es).joined ≡ true
from-stays s [] n stays e = e
from-stays s (x ∷ es) n stays e = from-stays (after s x) es n stays.1 (call-stays s x.call x.reply n stays.0 e)

-- a report that was accepted is of a live cell, and of none of its revisions to come
pub record IsReported (s : State) (j rev : ℕ) : Type 0 where
  pub own : Cell
  pub there : found j (cells s.book) ≡ Some own
  pub early : rev ≤ revision s j

cell-reported : (s : State) (j rev : ℕ) (o : Option Cell) → found j (cells s.book) ≡ o → is_refused (report_reply s j rev o) ≡ false → IsReported s j rev
cell-reported s j rev None there e = absurd (cc e)
cell-reported s j rev (Some c) there e =
    elim (nat_lt (revision s j) rev)
    as (λ b. nat_lt (revision s j) rev ≡ b → is_refused (if b then Refused (TooNew (revision s j)) else Accepted) ≡ false → IsReported s j rev)
    [ true ↦ λ t k. absurd (cc k) | false ↦ λ t k. record { own = c; there = there; early = grind (arith, nat_tests, t) } ]
    refl
    e

pub report-taken : (s : State) (n j rev : ℕ) (answer : Reply) → answer ≡ reply s (ByClient n (Report j rev)) → is_refused answer ≡ false → IsReported s j rev
report-taken s n j rev answer e fine =
    elim (is_in n s.joined)
    as (λ b. is_refused (if b then report_reply s j rev (found j (cells s.book)) else Refused NotJoined) ≡ false → IsReported s j rev)
    [ true ↦ λ k. cell-reported s j rev (found j (cells s.book)) refl k | false ↦ λ k. absurd (cc k) ]
    (sym (ap is_refused e) ∙ fine)

-- what is known of a client goes no further than the cells' revisions, and is of cells that lived
pub record IsKnownUp (s : State) (m : Known) : Type 0 where
  pub early : m.rev ≤ revision s m.cell
  pub below : m.cell < s.book.next_cell

abbrev pub IsKnownWell : State → Type 0
IsKnownWell s = AllByRecursion (IsKnownUp s) s.known

pub call-revision : (s : State) (call : Call) (answer : Reply) (k : ℕ) → revision (after_call s call answer) k ≡ revision s k + length (applied_by k call answer)
call-revision s call answer k = ap length (call-taken s call answer k) ∙ length-append _ (applied_by k call answer)

up-more : (s : State) (call : Call) (answer : Reply) (m : Known) → IsNotebook s.book → IsKnownUp s m → IsKnownUp (after_call s call answer) m
up-more s call answer m h up =
    let early : m.rev ≤ revision s m.cell = up.early in
    let below : m.cell < s.book.next_cell = up.below in
    let grown : s.book.next_cell ≤ (after_call s call answer).book.next_cell = (call-grown s call answer h).1 in
    record { early = rw (call-revision s call answer m.cell) (omega (arith, early)); below = omega (arith, below, grown) }

all-up : (s : State) (call : Call) (answer : Reply) → IsNotebook s.book → IsKnownWell s → AllByRecursion (IsKnownUp (after_call s call answer)) s.known
all-up s call answer h well = all-weaker (IsKnownUp s) (IsKnownUp (after_call s call answer)) (λ m up. up-more s call answer m h up) s.known well

-- the new client's knowledge
below-all : (n : Parts) → IsNotebook n → AllByRecursion (IsBelow n.next_cell) (map cell_number (cells n))
below-all n h = (subst (λ i. i < n.next_cell) (sym h.setup_number) h.next_cell.0, below-front n.next_cell (section_cells n) n.bin h.next_cell.1)

knows-up : (s t : State) (n : ℕ) (cs : List Cell) → ((k : ℕ) → revision t k ≡ revision s k) → AllByRecursion (IsBelow t.book.next_cell) (map cell_number cs) → AllByRecursion (IsKnownUp t) (knows_all s n cs)
knows-up s t n [] same below = tt
knows-up s t n (c ∷ cs) same below = (record { early = rw (same c.id) (omega arith); below = below.0 }, knows-up s t n cs same below.1)

op-known : (s : State) (n : ℕ) (op : Op) (answer : Reply) → IsNotebook s.book → answer ≡ reply s (ByClient n op) → IsKnownWell s → IsKnownWell (after_op s n op answer)
op-known s n op (Refused why) h e well = well
op-known s n Join answer h e well =
    let t : State = after_call s (ByClient n Join) answer in
    all-append (IsKnownUp t) s.known (knows_all s n (cells s.book)) (all-up s (ByClient n Join) answer h well) (knows-up s t n (cells s.book) (λ k. refl) (below-all s.book h))
op-known s n Leave answer h e well = all-kept (is_of_other n) (IsKnownUp (after_call s (ByClient n Leave) answer)) s.known (all-up s (ByClient n Leave) answer h well)
op-known s n (Delta j base d) (Applied rev x) h e well =
    let is : IsTaken s j rev x = applied-taken s n j base rev d x (sym e) in
    let t : State = after_call s (ByClient n (Delta j base d)) (Applied rev x) in
    let one : length (if j == j then x ∷ [] else []) ≡ 1 = ap (λ b. length (if b then x ∷ [] else [])) {y = true} (grind (arith, nat_tests)) in
    let up : rev ≤ revision t j = rw (call-revision s (ByClient n (Delta j base d)) (Applied rev x) j, one) (omega (arith, is.next)) in
    all-append (IsKnownUp t) s.known (record { client = n; cell = j; rev = rev } ∷ []) (all-up s (ByClient n (Delta j base d)) (Applied rev x) h well) (record { early = up; below = live-below s.book j is.own h is.there }, tt)
op-known s n (Report j rev) answer h e well =
    let is : IsReported s j rev = report-taken s n j rev answer e refl in
    let t : State = after_call s (ByClient n (Report j rev)) answer in
    all-append (IsKnownUp t) s.known (record { client = n; cell = j; rev = rev } ∷ []) (all-up s (ByClient n (Report j rev)) answer h well) (record { early = is.early; below = live-below s.book j is.own h is.there }, tt)
op-known s n (Queue j) answer h e well = all-up s (ByClient n (Queue j)) answer h well
op-known s n (Cancel j) answer h e well = all-up s (ByClient n (Cancel j)) answer h well
op-known s n op answer h e well =
    subst (AllByRecursion (IsKnownUp (once_done s (changes_if (change_of op))))) (sym (once-known s (change_of op))) (all-up s (ByClient n op) answer h well)

call-known : (s : State) (call : Call) (answer : Reply) → IsNotebook s.book → answer ≡ reply s call → IsKnownWell s → AllByRecursion (IsKnownUp (after_call s call answer)) (after_call s call answer).known
call-known s (ByClient n op) answer h e well = op-known s n op answer h e well
call-known s (Start lane) (Started eval cell) h e well = all-up s (Start lane) (Started eval cell) h well
call-known s (Respond eval shown) (Stored i) h e well = all-up s (Respond eval shown) (Stored i) h well
call-known s call answer h e well = well

swept-up : (s : State) (e : Entry) (m : Known) → IsKnownUp (after_call s e.call e.reply) m → IsKnownUp (after s e) m
swept-up s e m up = record { early = up.early; below = up.below }

pub from-known : (s : State) (js : List Job) (es : List Entry) → IsNotebook s.book → HasReplies s js es → IsKnownWell s → IsKnownWell (state_from s es)
from-known s js [] h r well = well
from-known s js (e ∷ es) h r well =
    from-known (after s e) (jobs_after s js e.by e.call e.reply) es (call-grown s e.call e.reply h).0 r.1.1
    (all-weaker (IsKnownUp (after_call s e.call e.reply)) (IsKnownUp (after s e)) (λ m up. swept-up s e m up) (after s e).known (call-known s e.call e.reply h r.1.0 well))

-- a floor goes no further than the revision, and is 0 where nothing is known
pub floor-up : (s : State) (n k : ℕ) (ms : List Known) → AllByRecursion (IsKnownUp s) ms → floor n k ms ≤ revision s k
floor-up s n k [] all = omega arith
floor-up s n k (m ∷ ms) all =
    let rest : floor n k ms ≤ revision s k = floor-up s n k ms all.1 in
    elim ((m.client == n) && (m.cell == k))
    as (λ b. ((m.client == n) && (m.cell == k)) ≡ b → (if b then max m.rev (floor n k ms) else floor n k ms) ≤ revision s k)
    [ true ↦ λ t. let same : m.cell ≡ k = eqb-true m.cell k ((and_parts (m.client == n) (m.cell == k) t).1) in grind (arith, rest, subst (λ i. m.rev ≤ revision s i) same all.0.early) | false ↦ λ t. rest ]
    refl

pub floor-unborn : (s : State) (n k : ℕ) (ms : List Known) → s.book.next_cell ≤ k → AllByRecursion (IsKnownUp s) ms → floor n k ms ≡ 0
floor-unborn s n k [] le all = refl
floor-unborn s n k (m ∷ ms) le all =
    let below : m.cell < s.book.next_cell = all.0.below in
    let ne : (m.cell == k) ≡ false = let lt : m.cell < k = omega (arith, below, le) in grind (arith, nat_tests, lt) in
    ap (λ b. if b then max m.rev (floor n k ms) else floor n k ms) (and_right (m.client == n) (m.cell == k) ne) ∙ floor-unborn s n k ms le all.1

pub known-well : (n0 : Parts) (h : List Entry) → IsNotebook n0 → Legal n0 h → IsKnownWell (state n0 h)
known-well n0 h note l = from-known (opening n0) [] h note l.replies tt

-- the least floor of those who have joined is at most each one's
least-floor : (k : ℕ) (known : List Known) (n : ℕ) (ms : List ℕ) (m : ℕ) → is_in m (n ∷ ms) ≡ true → least_floor k known n ms ≤ floor m k known
least-floor k known n [] m e =
    elim (n == m)
    as (λ b. (n == m) ≡ b → (if b then true else false) ≡ true → floor n k known ≤ floor m k known)
    [ true ↦ λ t h. subst (λ i. floor n k known ≤ floor i k known) (eqb-true n m t) (omega arith) | false ↦ λ t h. absurd (cc h) ]
    refl
    e
least-floor k known n (i ∷ ms) m e =
    elim (n == m)
    as (λ b. (n == m) ≡ b → (if b then true else is_in m (i ∷ ms)) ≡ true → min (floor n k known) (least_floor k known i ms) ≤ floor m k known) [
      | true ↦ λ t h. subst (λ j. min (floor n k known) (least_floor k known i ms) ≤ floor j k known) (eqb-true n m t) (grind arith)
      | false ↦ λ t h. let less : least_floor k known i ms ≤ floor m k known = least-floor k known i ms m h in grind (arith, less)
    ]
    refl
    e

least-of : (s : State) (k n : ℕ) (ns : List ℕ) → is_in n ns ≡ true → least_among s k ns ≤ floor n k s.known
least-of s k n [] e = absurd (cc e)
least-of s k n (m ∷ ms) e = least-floor k s.known m ms n e

pub least-within : (s : State) (k n : ℕ) → is_in n s.joined ≡ true → least s k ≤ floor n k s.known
least-within s k n e = least-of s k n s.joined e

-- what is known of another client, or of another cell
pub floor-beside : (n k : ℕ) (ms : List Known) (m : Known) → ((m.client == n) && (m.cell == k)) ≡ false → floor n k (ms ++ m ∷ []) ≡ floor n k ms
floor-beside n k [] m ne = ap (λ b. if b then max m.rev 0 else 0) ne
floor-beside n k (x ∷ ms) m ne = ap (λ f. if (x.client == n) && (x.cell == k) then max x.rev f else f) (floor-beside n k ms m ne)

-- one more that is known raises a floor no further than itself
pub floor-one : (n k top : ℕ) (ms : List Known) (m : Known) → floor n k ms ≤ top → m.rev ≤ top → floor n k (ms ++ m ∷ []) ≤ top
floor-one n k top [] m le rev =
    elim ((m.client == n) && (m.cell == k))
    as (λ b. (if b then max m.rev 0 else 0) ≤ top)
    [ true ↦ grind (arith, rev) | false ↦ omega arith ]
floor-one n k top (x ∷ ms) m le rev =
    elim ((x.client == n) && (x.cell == k))
    as (λ b. (if b then max x.rev (floor n k ms) else floor n k ms) ≤ top → (if b then max x.rev (floor n k (ms ++ m ∷ [])) else floor n k (ms ++ m ∷ [])) ≤ top) [
      | true ↦ λ h. let up : floor n k ms ≤ top = grind (arith, h) in let rest : floor n k (ms ++ m ∷ []) ≤ top = floor-one n k top ms m up rev in grind (arith, h, rest)
      | false ↦ λ h. floor-one n k top ms m h rev
    ]
    le

floor-all-beside : (s : State) (m n k : ℕ) (ms : List Known) (cs : List Cell) → (m == n) ≡ false → floor n k (ms ++ knows_all s m cs) ≡ floor n k ms
floor-all-beside s m n k ms [] ne = ap (floor n k) (append-nil ms)
floor-all-beside s m n k ms (c ∷ cs) ne =
    let one : Known = record { client = m; cell = c.id; rev = revision s c.id } in
    ap (floor n k) (sym (append_assoc ms (one ∷ []) (knows_all s m cs))) ∙ (floor-all-beside s m n k (ms ++ one ∷ []) cs ne ∙ floor-beside n k ms one (and_left (m == n) (c.id == k) ne))

floor-left : (m n k : ℕ) (ms : List Known) → (m == n) ≡ false → floor n k (filter (is_of_other m) ms) ≡ floor n k ms
floor-left m n k [] ne = refl
floor-left m n k (x ∷ ms) ne =
    elim (x.client == m)
    as (λ b. (x.client == m) ≡ b → floor n k (if not b then x ∷ filter (is_of_other m) ms else filter (is_of_other m) ms) ≡ floor n k (x ∷ ms)) [
      | true ↦ λ t. let other : (x.client == n) ≡ false = grind (arith, nat_tests, t, ne) in
          floor-left m n k ms ne ∙ sym (ap (λ b. if b then max x.rev (floor n k ms) else floor n k ms) (and_left (x.client == n) (x.cell == k) other))
      | false ↦ λ t. ap (λ f. if (x.client == n) && (x.cell == k) then max x.rev f else f) (floor-left m n k ms ne)
    ]
    refl

own-refused : (n k m : ℕ) (op : Op) (why : Refusal) → is_own_call n k (ByClient m op) (Refused why) ≡ false
own-refused n k m (Delta j base d) why = refl
own-refused n k m op why = refl

-- a call that isn't an own delta, and tells nothing of the client
pub record IsAside (s : State) (n k : ℕ) (call : Call) (answer : Reply) : Type 0 where
  pub other : is_own_call n k call answer ≡ false
  pub same : floor n k (after_call s call answer).known ≡ floor n k s.known

-- a refused call
pub refused-aside : (s : State) (n k m : ℕ) (op : Op) (why : Refusal) → IsAside s n k (ByClient m op) (Refused why)
refused-aside s n k m op why = record { other = own-refused n k m op why; same = refl }

-- another client's call
pub stranger-call : (s : State) (m n k : ℕ) (op : Op) (answer : Reply) → (m == n) ≡ false → IsAside s n k (ByClient m op) answer
stranger-call s m n k op (Refused why) ne = refused-aside s n k m op why
stranger-call s m n k Join answer ne = record { other = refl; same = floor-all-beside s m n k s.known (cells s.book) ne }
stranger-call s m n k Leave answer ne = record { other = refl; same = floor-left m n k s.known ne }
stranger-call s m n k (Delta j base d) (Applied rev x) ne = record { other = and_left (m == n) (j == k) ne; same = floor-beside n k s.known (record { client = m; cell = j; rev = rev }) (and_left (m == n) (j == k) ne) }
stranger-call s m n k (Report j rev) answer ne = record { other = refl; same = floor-beside n k s.known (record { client = m; cell = j; rev = rev }) (and_left (m == n) (j == k) ne) }
stranger-call s m n k (Queue j) answer ne = record { other = refl; same = refl }
stranger-call s m n k (Cancel j) answer ne = record { other = refl; same = refl }
stranger-call s m n k op answer ne = record { other = refl; same = ap (floor n k) (once-known s (change_of op)) }

-- a posted operation
pub posted-call : (s : State) (m n k : ℕ) (op : Op) (answer : Reply) → is_postable op ≡ true → IsAside s n k (ByClient m op) answer
posted-call s m n k op (Refused why) e = refused-aside s n k m op why
posted-call s m n k Join answer e = absurd (cc e)
posted-call s m n k Leave answer e = absurd (cc e)
posted-call s m n k (Delta j base d) (Applied rev x) e = absurd (cc e)
posted-call s m n k (Report j rev) answer e = absurd (cc e)
posted-call s m n k (Queue j) answer e = record { other = refl; same = refl }
posted-call s m n k (Cancel j) answer e = record { other = refl; same = refl }
posted-call s m n k op answer e = record { other = refl; same = ap (floor n k) (once-known s (change_of op)) }

-- an evaluator's call
abbrev pub is_of_evaluator : Call → Bool
is_of_evaluator (ByClient n op) = false
is_of_evaluator call = true

pub evaluator-call : (s : State) (n k : ℕ) (call : Call) (answer : Reply) → is_of_evaluator call ≡ true → IsAside s n k call answer
evaluator-call s n k (ByClient m op) answer e = absurd (cc e)
evaluator-call s n k (Start lane) (Started eval cell) e = record { other = refl; same = refl }
evaluator-call s n k (Respond eval shown) (Stored i) e = record { other = refl; same = refl }
evaluator-call s n k call answer e = record { other = refl; same = refl }
