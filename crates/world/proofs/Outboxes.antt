-- What an outbox may hold, and of which cells.
use Rattle.std.proofs.Common.{◌≡◌, ◌≢◌, ℕ, ◌<◌, ◌≤◌, ◌==◌, true, false, List, [], ◌∷◌, ◌++◌, Option, Some, None, IsSome, refl, sym, ap, subst, ◌∙◌, arith, append_assoc, inl, inr}
use Rattle.std.proofs.lemmas.Bool.{eqb-true}
use Rattle.std.proofs.lemmas.List.{append-nil}
use Rattle.delta.specs.declared.Step.{Step}
use Rattle.notebook.specs.declared.parts.Cell.{Cell}
use Rattle.notebook.specs.declared.parts.Parts.{Parts}
use Rattle.notebook.specs.Book.{cells, found}
use Rattle.notebook.specs.Rules.{IsNotebook}
use Rattle.session_ops.specs.declared.entry.Op.{Op}
use Rattle.session_ops.specs.declared.entry.Op.TheVariants.{Join, Leave, Delta, Report}
use Rattle.session_ops.specs.declared.entry.Entry.{Entry}
use Rattle.session_ops.specs.State.{State, state, state_from, opening, revision}
use Rattle.session_ops.specs.Structure.{is_postable}
use Rattle.session_ops.proofs.Lists.{all-append}
use Rattle.client_sync.specs.Client.{Client, Pending, pending_of, with_message}
use Rattle.world.specs.Waiting.{Message, Edits, Reports, message_in, messages_for, AreReports, IsKeptLive, IsKept, HasLived, is_passage, HasNoPassage, IsHonest}
use Rattle.world.proofs.Changing.{live-below}
use Rattle.world.proofs.Moving.{from-more, from-grown}
use Rattle.world.proofs.Keeping.{kept-ops}
use Rattle.world.proofs.Pendings.{messages-append, report-here, report-beside, edit-beside}

-- what may be posted says nothing of a cell's revisions, and is no joining or leaving
pub postable-silent : (k : ℕ) (op : Op) → is_postable op ≡ true → message_in k op ≡ []
postable-silent k (Delta cell base d) e = absurd (cc e)
postable-silent k (Report cell rev) e = absurd (cc e)
postable-silent k op e = refl

pub postable-stays : (op : Op) → is_postable op ≡ true → is_passage op ≡ false
postable-stays Join e = absurd (cc e)
postable-stays Leave e = absurd (cc e)
postable-stays op e = refl

pub passage-added : (ops : List Op) (op : Op) → is_passage op ≡ false → HasNoPassage ops → HasNoPassage (ops ++ op ∷ [])
passage-added ops op one all = all-append (λ o. is_passage o ≡ false) ops (op ∷ []) all (one, tt)

-- a cell that lives has lived
some-is : {X : Type 0} (o : Option X) (x : X) → o ≡ Some x → IsSome o
some-is o x e = subst (λ y. IsSome y) (sym e) refl

pub here-lived : (n0 : Parts) (h : List Entry) (k : ℕ) (c : Cell) → found k (cells (state n0 h).book) ≡ Some c → HasLived n0 h k
here-lived n0 h k c e = record { front = h; rest = []; parts = sym (append-nil h); lived = some-is (found k (cells (state n0 h).book)) c e }

pub lived-more : (n0 : Parts) (h es : List Entry) (k : ℕ) → HasLived n0 h k → HasLived n0 (h ++ es) k
lived-more n0 h es k l = record { front = l.front; rest = l.rest ++ es; parts = ap (λ x. x ++ es) l.parts ∙ append_assoc l.front l.rest es; lived = l.lived }

-- a cell that lived once has a number below the next one
some-below : (n : Parts) (k : ℕ) (o : Option Cell) → IsNotebook n → found k (cells n) ≡ o → IsSome o → k < n.next_cell
some-below n k None h e s = absurd (cc s)
some-below n k (Some c) h e s = live-below n k c h e

pub lived-below : (n0 : Parts) (h : List Entry) (k : ℕ) → IsNotebook n0 → HasLived n0 h k → k < (state n0 h).book.next_cell
lived-below n0 h k note l =
    let mid : State = state n0 l.front in
    let book : IsNotebook mid.book = (from-grown (opening n0) l.front note).0 in
    let lt : k < mid.book.next_cell = some-below mid.book k (found k (cells mid.book)) book refl l.lived in
    let le : mid.book.next_cell ≤ (state_from mid l.rest).book.next_cell = (from-grown mid l.rest book).1 in
    let all : state n0 h ≡ state_from mid l.rest = ap (state n0) l.parts ∙ from-more (opening n0) l.front l.rest in
    subst (λ s. k < s.book.next_cell) (sym all) (omega (arith, lt, le))

-- an outbox with one message more

pub lived-added : (n0 : Parts) (seen : List Entry) (k : ℕ) (ops : List Op) (op : Op) → (messages_for k ops ≢ [] → HasLived n0 seen k) → (message_in k op ≢ [] → HasLived n0 seen k) → messages_for k (ops ++ op ∷ []) ≢ [] → HasLived n0 seen k
lived-added n0 seen k ops op before new ne =
    elim (messages_for k ops)
    as (λ ms. messages_for k ops ≡ ms → HasLived n0 seen k) [
      | [] ↦ λ e. new (λ none. ne (messages-append k ops (op ∷ []) ∙ (ap (λ ms. ms ++ (message_in k op ++ [])) e ∙ ap (λ ms. ms ++ []) none)))
      | m ∷ ms ↦ λ e. before (λ none. let wrong : m ∷ ms ≡ [] = sym e ∙ none in cc wrong)
    ]
    refl

-- a message of a cell is of this cell
pub edit-of : (n0 : Parts) (seen : List Entry) (j k base : ℕ) (d : List Step) → HasLived n0 seen j → message_in k (Delta j base d) ≢ [] → HasLived n0 seen k
edit-of n0 seen j k base d l ne =
    elim (j == k)
    as (λ b. (j == k) ≡ b → HasLived n0 seen k)
    [ true ↦ λ t. subst (HasLived n0 seen) (eqb-true j k t) l | false ↦ λ t. absurd (ne (edit-beside j k base d t)) ]
    refl

pub report-of : (n0 : Parts) (seen : List Entry) (j k rev : ℕ) → HasLived n0 seen j → message_in k (Report j rev) ≢ [] → HasLived n0 seen k
report-of n0 seen j k rev l ne =
    elim (j == k)
    as (λ b. (j == k) ≡ b → HasLived n0 seen k)
    [ true ↦ λ t. subst (HasLived n0 seen) (eqb-true j k t) l | false ↦ λ t. absurd (ne (report-beside j k rev t)) ]
    refl

-- a report of the revision that the client has, put behind all others
report-added : (top rev : ℕ) (ms : List Message) → rev ≤ top → AreReports top ms → AreReports top (ms ++ Reports rev ∷ [])
report-added top rev [] le rs = (le, tt)
report-added top rev (m ∷ ms) le rs = (rs.0, report-added top rev ms le rs.1)

live-reported : (s : State) (later : List Entry) (n k rev : ℕ) (ops ops' : List Op) (o : Option Pending) → messages_for k ops' ≡ messages_for k ops ++ Reports rev ∷ [] → rev ≤ revision s k → IsKeptLive s later n k ops o → IsKeptLive s later n k ops' o
live-reported s later n k rev ops ops' None is le q = record { gone = subst (AreReports (revision s k)) (sym is) (report-added (revision s k) rev (messages_for k ops) le q.gone); known = q.known; none = q.none }
live-reported s later n k rev ops ops' (Some p) is le (fits, inl w) = (
  fits,
  inl (
      record {
        base = w.base;
        delta = w.delta;
        before = w.before;
        after = w.after ++ Reports rev ∷ [];
        only = is ∙ (ap (λ ms. ms ++ Reports rev ∷ []) w.only ∙ append_assoc w.before (Edits w.base w.delta ∷ w.after) (Reports rev ∷ []));
        reports_before = w.reports_before;
        reports_after = report-added (revision s k) rev w.after le w.reports_after;
        posted = w.posted;
        known = w.known;
        none = w.none;
      }
      ),
)
live-reported s later n k rev ops ops' (Some p) is le (fits, inr (inl r)) = (
  fits,
  inr (
      inl (record { base = r.base; delta = r.delta; gone = subst (AreReports (revision s k)) (sym is) (report-added (revision s k) rev (messages_for k ops) le r.gone); posted = r.posted; before = r.before; own = r.own; rest = r.rest; parts = r.parts; call = r.call; rev = r.rev; answer = r.answer; none_before = r.none_before; none_after = r.none_after; known = r.known })
      ),
)
live-reported s later n k rev ops ops' (Some p) is le (fits, inr (inr l)) = (
  fits,
  inr (
      inr (record { base = l.base; delta = l.delta; gone = subst (AreReports (revision s k)) (sym is) (report-added (revision s k) rev (messages_for k ops) le l.gone); posted = l.posted; before = l.before; own = l.own; rest = l.rest; parts = l.parts; call = l.call; answer = l.answer; late = l.late; deleted = l.deleted; none = l.none })
      ),
)

pub kept-reported : (s : State) (later : List Entry) (n j rev k : ℕ) (ops : List Op) (c : Cell) (o : ℕ → Option Pending) → found j (cells s.book) ≡ Some c → rev ≤ revision s j → ((i : ℕ) → IsKept s later n i ops (found i (cells s.book)) (o i)) → IsKept s later n k (ops ++ Report j rev ∷ []) (found k (cells s.book)) (o k)
kept-reported s later n j rev k ops c o there le kept =
    elim (j == k)
    as (λ b. (j == k) ≡ b → IsKept s later n k (ops ++ Report j rev ∷ []) (found k (cells s.book)) (o k)) [
      | true ↦ λ t. subst (λ i. IsKept s later n i (ops ++ Report j rev ∷ []) (found i (cells s.book)) (o i)) (eqb-true j k t)
          (subst (λ w. IsKept s later n j (ops ++ Report j rev ∷ []) w (o j)) (sym there)
          (live-reported s later n j rev ops (ops ++ Report j rev ∷ []) (o j) (messages-append j ops (Report j rev ∷ []) ∙ ap (λ ms. messages_for j ops ++ (ms ++ [])) (report-here j rev)) le (subst (λ w. IsKept s later n j ops w (o j)) there (kept j))))
      | false ↦ λ t. kept-ops s later n k ops (ops ++ Report j rev ∷ []) (found k (cells s.book)) (o k) (messages-append k ops (Report j rev ∷ []) ∙ (ap (λ ms. messages_for k ops ++ (ms ++ [])) (report-beside j k rev t) ∙ append-nil (messages_for k ops))) (kept k)
    ]
    refl

-- a client that says one thing more
pub message-honest : (n0 : Parts) (h : List Entry) (c : Client) (op : Op) → (is : IsHonest n0 h c) → is_passage op ≡ false → ((k : ℕ) → message_in k op ≢ [] → HasLived n0 c.seen k) → ((k : ℕ) → IsKept (state n0 c.seen) is.later c.number k (c.outbox ++ op ∷ []) (found k (cells (state n0 c.seen).book)) (pending_of k c.pending)) → IsHonest n0 h (with_message c op)
message-honest n0 h c op is stays of kept =
    record { later = is.later; behind = is.behind; since = is.since; stays = is.stays; kept = kept; lived = λ k ne. lived-added n0 c.seen k c.outbox op (is.lived k) (of k) ne; no_passage = passage-added c.outbox op stays is.no_passage }
