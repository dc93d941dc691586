-- What a session's state says of a cell's source after each call, and what it answers.
use Rattle.std.proofs.Common.{◌≡◌, ℕ, ◌+◌, ◌≤◌, ◌==◌, inl, inr, true, false, if◌then◌else◌, List, [], ◌∷◌, ◌++◌, Option, Some, None, length, drop, refl, sym, ap, subst, ◌∙◌, arith, length-append}
use Rattle.std.specs.Prelude.{nat_lt, IsSome}
use Rattle.std.proofs.lemmas.Bool.Decides.{eqb_tells}
use Rattle.delta.specs.declared.Step.{Step}
use Rattle.delta.specs.Moves.{text_after, over}
use Rattle.delta_laws.specs.Misfits.{Misfit, Past, Splits, misfit}
use Rattle.notebook.specs.declared.parts.Cell.{Cell}
use Rattle.notebook.specs.Book.{cells, found}
use Rattle.session_ops.specs.declared.entry.Op.TheVariants.{Delta, Report}
use Rattle.session_ops.specs.declared.entry.Call.TheVariants.{Client}
use Rattle.session_ops.specs.declared.entry.Reply.TheVariants.{Accepted, Applied, Refused}
use Rattle.session_ops.specs.declared.entry.Refusal.TheVariants as refusal
use Rattle.session_ops.specs.Numbers.{is_in}
use Rattle.session_ops.specs.State.{State, Taken, after_call, once_left, taken_by, revision, floor, least, judged_by, delta_reply, knows_all}
use Rattle.revisions.specs.declared.floors.Floor.{Floor}
use Rattle.revisions.specs.declared.moved.Move.{Move}
use Rattle.revisions.specs.declared.source_log.SourceLog.{SourceLog}
use Rattle.revisions.specs.Answer.{TooNew, TooOld, answer, fitted, judged}
use Rattle.revisions.specs.Floors.{raised}
use Rattle.revisions.specs.Log.{IsLog}
use Rattle.revisions.specs.Moved.{IsMoved}
use Rattle.revisions.specs.Source.{Source, begun, taking, reporting, joining, leaving, least_of}
use Rattle.revisions.proofs.Lowest.{without-joined, without-stranger}
use Rattle.session_core.specs.Logs.{IsFreshIn, once_joined}
use Rattle.session_core.specs.Stands.{StandsFor, IsMovedIn, as_reply, floors_of, source_in}
use Rattle.session_core.proofs.Knowing.{floor-append, floor-fewer, has-joined, joined-floors, joined-low, knowing-floors, knowing-low, least-same, left-floors, zero-floors}

-- a source with other deltas and floors
with-parts : (s : Source) (first : List ℕ) (taken : List (List Step)) (floors : List Floor) → first ≡ s.first → taken ≡ s.taken → floors ≡ s.floors → record { first = first; taken = taken; text = s.text; floors = floors } ≡ s
with-parts s first taken floors a b c = ap (λ x. record { first = x; taken = taken; text = s.text; floors = floors }) a ∙ (ap (λ x. record { first = s.first; taken = x; text = s.text; floors = floors }) b ∙ ap (λ x. record { first = s.first; taken = s.taken; text = s.text; floors = x }) c)

-- the source of a cell that is new
pub new-source : (s : State) (cell : ℕ) (source clients : List ℕ) → IsFreshIn s clients cell source → source_in s cell source ≡ begun source clients
new-source s cell source clients f =
    with-parts (begun source clients) _ _ _ f.began f.taken (ap (floors_of cell s.known) f.joined_are ∙ zero-floors cell s.known clients f.known)

pub stands-new : (s : State) (cell : ℕ) (source clients : List ℕ) (log : SourceLog) → IsFreshIn s clients cell source → IsLog (begun source clients) log → StandsFor s cell source log
stands-new s cell source clients log f h =
    record { log_of = subst (λ x. IsLog x log) (sym (new-source s cell source clients f)) h; known = λ n. omega (arith, f.known n) }

-- a client's delta
taken-more : (cell : ℕ) (ts : List Taken) (x : List Step) → taken_by cell (ts ++ record { cell = cell; delta = x } ∷ []) ≡ taken_by cell ts ++ x ∷ []
taken-more cell [] x = elim (eqb_tells cell cell) [ inl e ↦ rw e.0 refl | inr e ↦ absurd (e.1 refl) ]
taken-more cell (t ∷ ts) x =
    elim (t.cell == cell)
    as (λ b. (if b then t.delta ∷ taken_by cell (ts ++ record { cell = cell; delta = x } ∷ []) else taken_by cell (ts ++ record { cell = cell; delta = x } ∷ [])) ≡ (if b then t.delta ∷ taken_by cell ts else taken_by cell ts) ++ x ∷ [])
    [ true ↦ ap (λ w. t.delta ∷ w) (taken-more cell ts x) | false ↦ taken-more cell ts x ]

pub taking-source : (s : State) (cell client base rev : ℕ) (d x : List Step) (text : List ℕ) → rev ≡ revision s cell + 1
    → source_in (after_call s (Client client (Delta cell base d)) (Applied rev x)) cell (text_after x text) ≡ taking client x (source_in s cell text)
taking-source s cell client base rev d x text r =
    with-parts (taking client x (source_in s cell text)) _ _ _ refl (taken-more cell s.taken x) (knowing-floors client cell rev s.known s.joined ∙ ap (λ k. raised client k (floors_of cell s.known s.joined)) r)

pub stands-taken : (s : State) (cell client base rev : ℕ) (d x : List Step) (text : List ℕ) (old log : SourceLog) → StandsFor s cell text old → rev ≡ revision s cell + 1 → IsLog (taking client x (source_in s cell text)) log
    → StandsFor (after_call s (Client client (Delta cell base d)) (Applied rev x)) cell (text_after x text) log
stands-taken s cell client base rev d x text old log h r is =
    let t : State = after_call s (Client client (Delta cell base d)) (Applied rev x) in
    let len : revision t cell ≡ revision s cell + 1 = ap length (taken-more cell s.taken x) ∙ length-append (taken_by cell s.taken) (x ∷ []) in
    record {
      log_of = subst (λ y. IsLog y log) (sym (taking-source s cell client base rev d x text r)) is;
      known = knowing-low client cell rev (revision s cell) (revision t cell) s.known (omega (arith, r, len)) (omega (arith, len)) h.known;
    }

-- a report
pub stands-reported : (s : State) (cell client rev : ℕ) (text : List ℕ) (old log : SourceLog) → StandsFor s cell text old → rev ≤ revision s cell → IsLog (reporting client rev (source_in s cell text)) log
    → StandsFor (after_call s (Client client (Report cell rev)) Accepted) cell text log
stands-reported s cell client rev text old log h low is =
    record {
      log_of = subst (λ fs. IsLog (record (source_in s cell text) { floors = fs }) log) (sym (knowing-floors client cell rev s.known s.joined)) is;
      known = knowing-low client cell rev (revision s cell) (revision s cell) s.known low (omega arith) h.known;
    }

-- a client joins a state in which the cell lives
pub joining-source : (s : State) (cell client : ℕ) (text : List ℕ) → is_in client s.joined ≡ false → IsSome (found cell (cells s.book)) → floor client cell s.known ≤ revision s cell → source_in (once_joined client s) cell text ≡ joining client (source_in s cell text)
joining-source s cell client text out live low = ap (λ fs. record (source_in s cell text) { floors = fs }) (joined-floors s client cell (cells s.book) s.known s.joined out live low)

pub stands-joined : (s : State) (cell client : ℕ) (text : List ℕ) (old log : SourceLog) → StandsFor s cell text old → is_in client s.joined ≡ false → IsSome (found cell (cells s.book)) → IsLog (joining client (source_in s cell text)) log → StandsFor (once_joined client s) cell text log
stands-joined s cell client text old log h out live is =
    record {
      log_of = subst (λ x. IsLog x log) (sym (joining-source s cell client text out live (h.known client))) is;
      known = joined-low s client cell (cells s.book) s.known h.known;
    }

-- a client leaves
pub stands-left : (s : State) (cell client : ℕ) (text : List ℕ) (old log : SourceLog) → StandsFor s cell text old → IsLog (leaving client (source_in s cell text)) log → StandsFor (once_left client s) cell text log
stands-left s cell client text old log h is =
    record {
      log_of = subst (λ fs. IsLog (record (source_in s cell text) { floors = fs }) log) (sym (left-floors client cell s.known s.joined)) is;
      known = λ n. omega (arith, floor-fewer n client cell s.known, h.known n);
    }

-- a client that had just joined hasn't joined after all
leaving-source : (s : State) (cell client : ℕ) (text : List ℕ) → is_in client s.joined ≡ false → leaving client (joining client (source_in s cell text)) ≡ source_in s cell text
leaving-source s cell client text out =
    let fs : List Floor = floors_of cell s.known s.joined in
    ap (λ gs. record (source_in s cell text) { floors = gs }) (without-joined client (revision s cell) fs ∙ without-stranger client fs (has-joined client cell s.known s.joined ∙ out))

pub stands-again : (s : State) (cell client : ℕ) (text : List ℕ) (old log : SourceLog) → StandsFor (once_joined client s) cell text old → is_in client s.joined ≡ false → IsSome (found cell (cells s.book)) → IsLog (leaving client (source_in (once_joined client s) cell text)) log → StandsFor s cell text log
stands-again s cell client text old log h out live is =
    let low : (n : ℕ) → floor n cell s.known ≤ revision s cell = λ n. omega (arith, floor-append n cell s.known (knows_all s client (cells s.book)), h.known n) in
    record {
      log_of = subst (λ x. IsLog x log) (ap (leaving client) (joining-source s cell client text out live (low client)) ∙ leaving-source s cell client text out) is;
      known = low;
    }

-- the session answers a delta as the cell's source does
judged-reply : (rev : ℕ) (x : List Step) (o : Option Misfit) → as_reply (judged rev x o) ≡ judged_by rev x o
judged-reply rev x None = refl
judged-reply rev x (Some (Past len)) = refl
judged-reply rev x (Some (Splits at)) = refl

fitted-reply : (s : State) (cell base : ℕ) (d : List Step) (c : Cell) (least : ℕ)
    → as_reply (if nat_lt base least then TooOld least else fitted (source_in s cell c.source) (over d (drop base (taken_by cell s.taken)))) ≡ (if nat_lt base least then Refused (refusal.TooOld least) else (let x : List Step = over d (drop base (taken_by cell s.taken)) in judged_by (revision s cell) x (misfit x c.source)))
fitted-reply s cell base d c least =
    let x : List Step = over d (drop base (taken_by cell s.taken)) in
    elim (nat_lt base least)
    as (λ b. as_reply (if b then TooOld least else fitted (source_in s cell c.source) x) ≡ (if b then Refused (refusal.TooOld least) else judged_by (revision s cell) x (misfit x c.source)))
    [ true ↦ refl | false ↦ judged-reply (revision s cell) x (misfit x c.source) ]

pub answers : (s : State) (cell base : ℕ) (d : List Step) (c : Cell) (log : SourceLog) → StandsFor s cell c.source log → as_reply (answer (source_in s cell c.source) base d) ≡ delta_reply s cell base d (Some c)
answers s cell base d c log h =
    let now : ℕ = revision s cell in
    let x : List Step = over d (drop base (taken_by cell s.taken)) in
    let low : least_of (source_in s cell c.source) ≡ least s cell = least-same s cell s.joined h.known in
    ap (λ k. as_reply (if nat_lt now base then TooNew now else (if nat_lt base k then TooOld k else fitted (source_in s cell c.source) x))) low
    ∙ elim (nat_lt now base)
    as (λ b. as_reply (if b then TooNew now else (if nat_lt base (least s cell) then TooOld (least s cell) else fitted (source_in s cell c.source) x)) ≡ (if b then Refused (refusal.TooNew now) else (if nat_lt base (least s cell) then Refused (refusal.TooOld (least s cell)) else judged_by now x (misfit x c.source))))
    [ true ↦ refl | false ↦ fitted-reply s cell base d c (least s cell) ]

-- so what a log moved is what the session would answer with
pub moved-in : (s : State) (cell base : ℕ) (d : List Step) (c : Cell) (log : SourceLog) (m : Move) → StandsFor s cell c.source log → IsMoved (source_in s cell c.source) base d m → IsMovedIn s cell c base d m
moved-in s cell base d c log m h q = record { answered = sym (answers s cell base d c log h) ∙ ap as_reply q.answered; moves = q.moves }
