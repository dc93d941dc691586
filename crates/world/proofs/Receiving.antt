-- A client that receives its next entry goes on standing as it should.
use Rattle.std.proofs.Common.{◌≡◌, ℕ, ◌+◌, ◌≤◌, ◌==◌, true, false, if◌then◌else◌, List, [], ◌∷◌, ◌++◌, length, Option, Some, None, refl, sym, ap, subst, ◌∙◌, arith, inl}
use Rattle.std.specs.Prelude.{◌&&◌}
use Rattle.std.specs.Option.{option_map}
use Rattle.std.proofs.lemmas.Bool.{eqb-true, and_left, and_right}
use Rattle.std.proofs.lemmas.Bool.Decides.{nat_tests}
use Rattle.std.proofs.lemmas.List.{append-nil, drop_all}
use Rattle.delta.specs.declared.Step.{Step}
use Rattle.delta.specs.Moves.{FitsText, text_after, over}
use Rattle.delta_laws.proofs.Laws.{delta_laws}
use Rattle.notebook.specs.declared.parts.Cell.{Cell}
use Rattle.notebook.specs.declared.parts.Parts.{Parts}
use Rattle.notebook.specs.Book.{cells, found, resourced_cell, resourced}
use Rattle.notebook.specs.Rules.{IsNotebook}
use Rattle.notebook.proofs.Sources.{found-resourced}
use Rattle.session_ops.specs.declared.entry.Op.{Op}
use Rattle.session_ops.specs.declared.entry.Op.TheVariants.{Delta}
use Rattle.session_ops.specs.declared.entry.Call.{Call}
use Rattle.session_ops.specs.declared.entry.Call.TheVariants.{Client as ByClient}
use Rattle.session_ops.specs.declared.entry.Reply.{Reply}
use Rattle.session_ops.specs.declared.entry.Reply.TheVariants.{Applied, Refused}
use Rattle.session_ops.specs.declared.entry.Entry.{Entry}
use Rattle.session_ops.specs.Structure.{change_of}
use Rattle.session_ops.specs.Deeds.{deed, moved_source}
use Rattle.session_ops.specs.State.{State, state_from, after, after_call, taken_by, revision, floor, reply}
use Rattle.client_sync.specs.Client.{Client, Pending, pending_of, all_moved, without, with_own, with_deed, reposted}
use Rattle.client_sync.specs.Fits.{HasSource, FitsHere}
use Rattle.world.specs.Applied.{applied_by, is_own, is_own_call, text_after_each}
use Rattle.world.specs.Waiting.{messages_for, AreReports, IsQuiet, IsKeptLive, IsKept}
use Rattle.world.proofs.Changing.{IsPassing, Stays, call-passing, is_applied, is_applied_op}
use Rattle.session_ops.proofs.Deeds.{IsTaken, applied-taken}
use Rattle.session_ops.proofs.Live.{found-number}
use Rattle.world.proofs.Moving.{one-source, taken-source, grown-revision, applied-none, own-none}
use Rattle.world.proofs.Keeping.{IsOwnBack, own-back, not-quiet, kept-passed, live-moved, live-from, live-kept, kept-ops, reports-weaker}
use Rattle.world.proofs.Pendings.{shifted_option, shifted-same, shifted-other, without-same, without-other, pending-added, pending-beside, messages-append, edit-here, edit-beside}
use Rattle.world.proofs.Quiet.{quiet-outbox}

-- a delta is posted for a cell of which nothing but reports is on its way
pub posted-kept : (s : State) (later : List Entry) (n k rev : ℕ) (ops : List Op) (d : List Step) (t : List ℕ) → rev ≡ revision s k → HasSource s.book k t → FitsText d t → IsQuiet s later n k ops → IsKeptLive s later n k (ops ++ Delta k rev d ∷ []) (Some (record { cell = k; flight = d; buffer = [] }))
posted-kept s later n k rev ops d t is there f q =
    let all : length (taken_by k s.taken) ≤ rev = omega (arith, is) in (
      record { source = t; there = there; flight = f; buffer = delta_laws.nothing.fits (text_after d t) },
      inl (
          record {
            base = rev;
            delta = d;
            before = messages_for k ops;
            after = [];
            only = messages-append k ops (Delta k rev d ∷ []) ∙ ap (λ ms. messages_for k ops ++ (ms ++ [])) (edit-here k rev d);
            reports_before = subst (λ r. AreReports r (messages_for k ops)) (sym is) q.gone;
            reports_after = tt;
            posted = record { early = omega (arith, is); moved = sym (ap (over d) (drop_all rev (taken_by k s.taken) all)) };
            known = subst (λ r. floor n k (state_from s later).known ≤ r) (sym is) q.known;
            none = q.none;
          }
          ),
    )

-- the entry is this call with this answer, which the state gives
pub record IsEntry (s : State) (e : Entry) (call : Call) (answer : Reply) : Type 0 where
  pub call_is : e.call ≡ call
  pub reply_is : e.reply ≡ answer
  pub right : answer ≡ reply s call

entry-applied : (s : State) (e : Entry) (call : Call) (answer : Reply) (k : ℕ) → IsEntry s e call answer → applied_by k e.call e.reply ≡ applied_by k call answer
entry-applied s e call answer k is = ap (λ c. applied_by k c e.reply) is.call_is ∙ ap (applied_by k call) is.reply_is

entry-own : (s : State) (e : Entry) (call : Call) (answer : Reply) (n k : ℕ) → IsEntry s e call answer → is_own n k e ≡ is_own_call n k call answer
entry-own s e call answer n k is = ap (λ c. is_own_call n k c e.reply) is.call_is ∙ ap (is_own_call n k call) is.reply_is

entry-book : (s : State) (e : Entry) (call : Call) (answer : Reply) → IsEntry s e call answer → (after s e).book ≡ (after_call s call answer).book
entry-book s e call answer is = ap (λ c. (after_call s c e.reply).book) is.call_is ∙ ap (λ a. (after_call s call a).book) is.reply_is

taken-fits : (s : State) (m j base rev : ℕ) (d x : List Step) → Applied rev x ≡ reply s (ByClient m (Delta j base d)) → (t : List ℕ) → HasSource s.book j t → FitsText x t
taken-fits s m j base rev d x right t h =
    let is : IsTaken s j rev x = applied-taken s m j base rev d x (sym right) in
    subst (FitsText x) (one-source s.book j t is.own h is.there) is.fits

-- a delta leaves each other cell as it is
other-cell : (j k : ℕ) (x : List Step) (o : Option Cell) → (j == k) ≡ false → ((c : Cell) → o ≡ Some c → c.id ≡ k) → option_map (resourced_cell (moved_source j x)) o ≡ o
other-cell j k x None ne number = refl
other-cell j k x (Some c) ne number =
    let id : c.id ≡ k = number c refl in
    let other : (c.id == j) ≡ false = grind (arith, nat_tests, id, ne) in
    ap (λ b. Some (record c { source = if b then text_after x c.source else c.source })) other

found-beside : (j k : ℕ) (x : List Step) (n : Parts) → (j == k) ≡ false → found k (cells (resourced (moved_source j x) n)) ≡ found k (cells n)
found-beside j k x n ne = found-resourced (moved_source j x) k n ∙ other-cell j k x (found k (cells n)) ne (λ c is. found-number k (cells n) c is)

-- the source of a cell after a delta
here-source : (s : State) (e : Entry) (m j base rev : ℕ) (d x : List Step) → IsEntry s e (ByClient m (Delta j base d)) (Applied rev x) → (t : List ℕ) → HasSource s.book j t → HasSource (after s e).book j (text_after x t)
here-source s e m j base rev d x is t there =
    let yes : (j == j) ≡ true = grind (arith, nat_tests) in
    subst (λ n. HasSource n j (text_after x t)) (sym (entry-book s e (ByClient m (Delta j base d)) (Applied rev x) is))
    (subst (λ xs. HasSource (resourced (moved_source j x) s.book) j (text_after_each t xs)) (ap (λ b. if b then x ∷ [] else []) yes) (taken-source s j x j t there))

beside-passing : (s : State) (e : Entry) (m j base rev k : ℕ) (d x : List Step) (ps ps' : List Pending) → IsEntry s e (ByClient m (Delta j base d)) (Applied rev x) → (j == k) ≡ false → pending_of k ps' ≡ pending_of k ps → IsPassing s.book (after s e).book ps ps' k
beside-passing s e m j base rev k d x ps ps' is ne same = Stays (ap (λ n. found k (cells n)) (entry-book s e (ByClient m (Delta j base d)) (Applied rev x) is) ∙ found-beside j k x s.book ne) same

-- the cell of a delta that was applied lives
pub taken-there : (s : State) (m j base rev : ℕ) (d x : List Step) → Applied rev x ≡ reply s (ByClient m (Delta j base d)) → (t : List ℕ) × HasSource s.book j t
taken-there s m j base rev d x right =
    let is : IsTaken s j rev x = applied-taken s m j base rev d x (sym right) in
    (is.own.source, record { own = is.own; there = is.there; source = refl })

-- what a client shows of a cell of its own after an entry
abbrev pub IsKeptBy : State → List Entry → ℕ → Client → Type 0
IsKeptBy s later k c = IsKept s later c.number k c.outbox (found k (cells s.book)) (pending_of k c.pending)

-- another's delta
others-here : (s : State) (c : Client) (e : Entry) (es : List Entry) (m j base rev : ℕ) (d x : List Step) → IsEntry s e (ByClient m (Delta j base d)) (Applied rev x) → is_own c.number j e ≡ false → applied_by j e.call e.reply ≡ x ∷ [] → IsKeptBy s (e ∷ es) j c → IsKept (after s e) es c.number j c.outbox (found j (cells (after s e).book)) (pending_of j (all_moved j x c.pending))
others-here s c e es m j base rev d x is other one kept =
    let there : (t : List ℕ) × HasSource s.book j t = taken-there s m j base rev d x is.right in
    let live : IsKeptLive (after s e) es c.number j c.outbox (shifted_option x (pending_of j c.pending)) =
    live-moved s e es c.number j c.outbox x (pending_of j c.pending) other one (taken-fits s m j base rev d x is.right) (here-source s e m j base rev d x is) (live-from s (e ∷ es) c.number j c.outbox (pending_of j c.pending) there.0 there.1 kept) in
    live-kept (after s e) es c.number j c.outbox (pending_of j (all_moved j x c.pending)) (text_after x there.0) (here-source s e m j base rev d x is there.0 there.1) (subst (IsKeptLive (after s e) es c.number j c.outbox) (sym (shifted-same j x c.pending)) live)

others-received : (s : State) (c : Client) (e : Entry) (es : List Entry) (m j base rev k : ℕ) (d x : List Step) → IsNotebook s.book → IsEntry s e (ByClient m (Delta j base d)) (Applied rev x) → (m == c.number) ≡ false → IsKeptBy s (e ∷ es) k c → IsKept (after s e) es c.number k c.outbox (found k (cells (after s e).book)) (pending_of k (all_moved j x c.pending))
others-received s c e es m j base rev k d x h is ne kept =
    let call : Call = ByClient m (Delta j base d) in
    let other : is_own c.number k e ≡ false = entry-own s e call (Applied rev x) c.number k is ∙ and_left (m == c.number) (j == k) ne in
    let by : applied_by k e.call e.reply ≡ (if j == k then x ∷ [] else []) = entry-applied s e call (Applied rev x) k is in
    elim (j == k)
    as (λ b. (j == k) ≡ b → IsKept (after s e) es c.number k c.outbox (found k (cells (after s e).book)) (pending_of k (all_moved j x c.pending))) [
      | true ↦ λ t. let same : j ≡ k = eqb-true j k t in
          let one : applied_by k e.call e.reply ≡ x ∷ [] = by ∙ ap (λ b. if b then x ∷ [] else []) t in
          subst (λ i. IsKept (after s e) es c.number i c.outbox (found i (cells (after s e).book)) (pending_of i (all_moved j x c.pending))) same
          (others-here s c e es m j base rev d x is (subst (λ i. is_own c.number i e ≡ false) (sym same) other) (subst (λ i. applied_by i e.call e.reply ≡ x ∷ []) (sym same) one) (subst (λ i. IsKeptBy s (e ∷ es) i c) (sym same) kept))
      | false ↦ λ t. let none : applied_by k e.call e.reply ≡ [] = by ∙ ap (λ b. if b then x ∷ [] else []) t in
          kept-passed s e es c.number k c.outbox c.pending (all_moved j x c.pending) h other none (beside-passing s e m j base rev k d x c.pending (all_moved j x c.pending) is t (shifted-other j k x c.pending t)) kept
    ]
    refl

-- the client's own delta, as its cell sees it
quiet-back : (s : State) (e : Entry) (es : List Entry) (n j : ℕ) (ops : List Op) (p : Pending) (x : List Step) → applied_by j e.call e.reply ≡ x ∷ [] → IsOwnBack s e es n j ops p → IsQuiet (after s e) es n j ops
quiet-back s e es n j ops p x one back =
    let len : length (applied_by j e.call e.reply) ≡ 1 = ap length one in
    let known : floor n j (state_from s (e ∷ es)).known ≤ revision s j + 1 = back.known in
    record { gone = reports-weaker (revision s j) (revision (after s e) j) (messages_for j ops) (rw (grown-revision s e j) (omega arith)) back.gone; known = rw (grown-revision s e j) (omega (arith, known, len)); none = back.none }

back-reposted : (s : State) (c : Client) (e : Entry) (es : List Entry) (j rev : ℕ) (x : List Step) (p : Pending) (b : List Step) → p.buffer ≡ b → applied_by j e.call e.reply ≡ x ∷ [] → e.reply ≡ Applied rev x → rev ≡ revision s j + 1 → ((t : List ℕ) → HasSource s.book j t → HasSource (after s e).book j (text_after x t)) → FitsHere s j p → IsOwnBack s e es c.number j c.outbox p → IsKeptLive (after s e) es c.number j (reposted c j rev b).outbox (pending_of j (reposted c j rev b).pending)
back-reposted s c e es j rev x p [] eb one answer next more fits back = subst (IsKeptLive (after s e) es c.number j c.outbox) (sym (without-same j c.pending)) (quiet-back s e es c.number j c.outbox p x one back)
back-reposted s c e es j rev x p (st ∷ b) eb one answer next more fits back =
    let q : Pending = record { cell = j; flight = st ∷ b; buffer = [] } in
    let same : x ≡ p.flight = let both : Applied rev x ≡ Applied back.rev p.flight = sym answer ∙ back.answer in cc both in
    let len : length (applied_by j e.call e.reply) ≡ 1 = ap length one in
    let now : rev ≡ revision (after s e) j = next ∙ sym (grown-revision s e j ∙ ap (λ l. revision s j + l) len) in
    let there : HasSource (after s e).book j (text_after p.flight fits.source) = subst (λ y. HasSource (after s e).book j (text_after y fits.source)) same (more fits.source fits.there) in
    subst (IsKeptLive (after s e) es c.number j (c.outbox ++ Delta j rev (st ∷ b) ∷ [])) (sym (pending-added j (without j c.pending) q (without-same j c.pending) refl))
    (posted-kept (after s e) es c.number j rev c.outbox (st ∷ b) (text_after p.flight fits.source) now there (subst (λ d. FitsText d (text_after p.flight fits.source)) eb fits.buffer) (quiet-back s e es c.number j c.outbox p x one back))

back-received : (s : State) (c : Client) (e : Entry) (es : List Entry) (j rev : ℕ) (x : List Step) (o : Option Pending) → is_own c.number j e ≡ true → applied_by j e.call e.reply ≡ x ∷ [] → e.reply ≡ Applied rev x → rev ≡ revision s j + 1 → ((t : List ℕ) → HasSource s.book j t → HasSource (after s e).book j (text_after x t)) → IsKeptLive s (e ∷ es) c.number j c.outbox o → IsKeptLive (after s e) es c.number j (with_own c j rev o).outbox (pending_of j (with_own c j rev o).pending)
back-received s c e es j rev x None mine one answer next more kept = absurd (not-quiet s e es c.number j c.outbox mine kept)
back-received s c e es j rev x (Some p) mine one answer next more kept = back-reposted s c e es j rev x p p.buffer refl one answer next more kept.0 (own-back s e es c.number j c.outbox p mine kept)

-- and as another cell sees it
beside-reposted : (s : State) (later : List Entry) (c : Client) (j rev k : ℕ) (b : List Step) (own : Option Cell) → (j == k) ≡ false → IsKept s later c.number k c.outbox own (pending_of k c.pending) → IsKept s later c.number k (reposted c j rev b).outbox own (pending_of k (reposted c j rev b).pending)
beside-reposted s later c j rev k [] own ne kept = subst (IsKept s later c.number k c.outbox own) (sym (without-other j k c.pending ne)) kept
beside-reposted s later c j rev k (st ∷ b) own ne kept =
    let q : Pending = record { cell = j; flight = st ∷ b; buffer = [] } in
    let ops : List Op = c.outbox ++ Delta j rev (st ∷ b) ∷ [] in
    let same : messages_for k ops ≡ messages_for k c.outbox = messages-append k c.outbox (Delta j rev (st ∷ b) ∷ []) ∙ (ap (λ ms. messages_for k c.outbox ++ (ms ++ [])) (edit-beside j k rev (st ∷ b) ne) ∙ append-nil (messages_for k c.outbox)) in
    subst (IsKept s later c.number k ops own) (sym (pending-beside k (without j c.pending) q ne ∙ without-other j k c.pending ne)) (kept-ops s later c.number k c.outbox ops own (pending_of k c.pending) same kept)

beside-received : (s : State) (later : List Entry) (c : Client) (j rev k : ℕ) (o : Option Pending) (own : Option Cell) → (j == k) ≡ false → IsKept s later c.number k c.outbox own (pending_of k c.pending) → IsKept s later c.number k (with_own c j rev o).outbox own (pending_of k (with_own c j rev o).pending)
beside-received s later c j rev k None own ne kept = kept
beside-received s later c j rev k (Some p) own ne kept = beside-reposted s later c j rev k p.buffer own ne kept

own-here : (s : State) (c : Client) (e : Entry) (es : List Entry) (m j base rev : ℕ) (d x : List Step) → IsEntry s e (ByClient m (Delta j base d)) (Applied rev x) → is_own c.number j e ≡ true → applied_by j e.call e.reply ≡ x ∷ [] → IsKeptBy s (e ∷ es) j c → IsKept (after s e) es c.number j (with_own c j rev (pending_of j c.pending)).outbox (found j (cells (after s e).book)) (pending_of j (with_own c j rev (pending_of j c.pending)).pending)
own-here s c e es m j base rev d x is mine one kept =
    let there : (t : List ℕ) × HasSource s.book j t = taken-there s m j base rev d x is.right in
    let next : rev ≡ revision s j + 1 = (applied-taken s m j base rev d x (sym is.right)).next in
    let x1 : Client = with_own c j rev (pending_of j c.pending) in
    live-kept (after s e) es c.number j x1.outbox (pending_of j x1.pending) (text_after x there.0) (here-source s e m j base rev d x is there.0 there.1)
    (back-received s c e es j rev x (pending_of j c.pending) mine one is.reply_is next (here-source s e m j base rev d x is) (live-from s (e ∷ es) c.number j c.outbox (pending_of j c.pending) there.0 there.1 kept))

own-received : (s : State) (c : Client) (e : Entry) (es : List Entry) (m j base rev k : ℕ) (d x : List Step) → IsNotebook s.book → IsEntry s e (ByClient m (Delta j base d)) (Applied rev x) → (m == c.number) ≡ true → IsKeptBy s (e ∷ es) k c → IsKept (after s e) es c.number k (with_own c j rev (pending_of j c.pending)).outbox (found k (cells (after s e).book)) (pending_of k (with_own c j rev (pending_of j c.pending)).pending)
own-received s c e es m j base rev k d x h is mine kept =
    let call : Call = ByClient m (Delta j base d) in
    let by : applied_by k e.call e.reply ≡ (if j == k then x ∷ [] else []) = entry-applied s e call (Applied rev x) k is in
    let own : is_own c.number k e ≡ ((m == c.number) && (j == k)) = entry-own s e call (Applied rev x) c.number k is in
    elim (j == k)
    as (λ b. (j == k) ≡ b → IsKept (after s e) es c.number k (with_own c j rev (pending_of j c.pending)).outbox (found k (cells (after s e).book)) (pending_of k (with_own c j rev (pending_of j c.pending)).pending)) [
      | true ↦ λ t. let same : j ≡ k = eqb-true j k t in
          let one : applied_by k e.call e.reply ≡ x ∷ [] = by ∙ ap (λ b. if b then x ∷ [] else []) t in
          let yes : is_own c.number k e ≡ true = own ∙ grind (arith, mine, t) in
          subst (λ i. IsKept (after s e) es c.number i (with_own c j rev (pending_of j c.pending)).outbox (found i (cells (after s e).book)) (pending_of i (with_own c j rev (pending_of j c.pending)).pending)) same
          (own-here s c e es m j base rev d x is (subst (λ i. is_own c.number i e ≡ true) (sym same) yes) (subst (λ i. applied_by i e.call e.reply ≡ x ∷ []) (sym same) one) (subst (λ i. IsKeptBy s (e ∷ es) i c) (sym same) kept))
      | false ↦ λ t. let none : applied_by k e.call e.reply ≡ [] = by ∙ ap (λ b. if b then x ∷ [] else []) t in
          let other : is_own c.number k e ≡ false = own ∙ and_right (m == c.number) (j == k) t in
          beside-received (after s e) es c j rev k (pending_of j c.pending) (found k (cells (after s e).book)) t (kept-passed s e es c.number k c.outbox c.pending c.pending h other none (beside-passing s e m j base rev k d x c.pending c.pending is t refl) kept)
    ]
    refl

-- what applies no delta leaves the outbox as it is
op-outbox : (s : State) (c : Client) (n : ℕ) (op : Op) (answer : Reply) → is_applied_op op answer ≡ false → (with_deed s.book c (deed (ByClient n op) answer)).outbox ≡ c.outbox
op-outbox s c n op (Refused why) e = refl
op-outbox s c n (Delta j base d) (Applied rev x) e = absurd (cc e)
op-outbox s c n op answer e = quiet-outbox s.book c (change_of op)

pub passing-outbox : (s : State) (c : Client) (call : Call) (answer : Reply) → is_applied call answer ≡ false → (with_deed s.book c (deed call answer)).outbox ≡ c.outbox
passing-outbox s c (ByClient n op) answer e = op-outbox s c n op answer e
passing-outbox s c call answer e = refl

passed-received : (s : State) (c : Client) (e : Entry) (es : List Entry) (call : Call) (answer : Reply) (k : ℕ) → IsNotebook s.book → IsEntry s e call answer → is_applied call answer ≡ false → IsKeptBy s (e ∷ es) k c → IsKept (after s e) es c.number k (with_deed s.book c (deed call answer)).outbox (found k (cells (after s e).book)) (pending_of k (with_deed s.book c (deed call answer)).pending)
passed-received s c e es call answer k h is other kept =
    let passing : IsPassing s.book (after s e).book c.pending (with_deed s.book c (deed call answer)).pending k = subst (λ n. IsPassing s.book n c.pending (with_deed s.book c (deed call answer)).pending k) (sym (entry-book s e call answer is)) (call-passing s call answer c k h is.right other) in
    subst (λ ops. IsKept (after s e) es c.number k ops (found k (cells (after s e).book)) (pending_of k (with_deed s.book c (deed call answer)).pending)) (sym (passing-outbox s c call answer other))
    (kept-passed s e es c.number k c.outbox c.pending (with_deed s.book c (deed call answer)).pending h (entry-own s e call answer c.number k is ∙ own-none call answer c.number k other) (entry-applied s e call answer k is ∙ applied-none call answer k other) passing kept)

-- the next entry was received
pub call-received : (s : State) (c : Client) (e : Entry) (es : List Entry) (call : Call) (answer : Reply) (k : ℕ) → IsNotebook s.book → IsEntry s e call answer → IsKeptBy s (e ∷ es) k c → IsKept (after s e) es c.number k (with_deed s.book c (deed call answer)).outbox (found k (cells (after s e).book)) (pending_of k (with_deed s.book c (deed call answer)).pending)
call-received s c e es (ByClient m (Delta j base d)) (Applied rev x) k h is kept =
    elim (m == c.number)
    as (λ b. (m == c.number) ≡ b → IsKept (after s e) es c.number k (if b then with_own c j rev (pending_of j c.pending) else record c { pending = all_moved j x c.pending }).outbox (found k (cells (after s e).book)) (pending_of k (if b then with_own c j rev (pending_of j c.pending) else record c { pending = all_moved j x c.pending }).pending))
    [ true ↦ λ t. own-received s c e es m j base rev k d x h is t kept | false ↦ λ t. others-received s c e es m j base rev k d x h is t kept ]
    refl
call-received s c e es call answer k h is kept = passed-received s c e es call answer k h is refl kept
