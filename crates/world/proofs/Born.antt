-- Cells that weren't made yet were never edited.
use Rattle.std.proofs.Common.{◌≡◌, ℕ, ◌<◌, ◌≤◌, ◌==◌, true, false, if◌then◌else◌, List, [], ◌∷◌, ◌++◌, length, refl, sym, ap, ◌∙◌, arith}
use Rattle.std.proofs.lemmas.Bool.{eqb-true}
use Rattle.notebook.specs.declared.parts.Parts.{Parts}
use Rattle.notebook.specs.Rules.{IsNotebook}
use Rattle.session_ops.specs.declared.entry.Op.TheVariants.{Delta}
use Rattle.session_ops.specs.declared.entry.Call.{Call}
use Rattle.session_ops.specs.declared.entry.Call.TheVariants.{Client as ByClient}
use Rattle.session_ops.specs.declared.entry.Reply.{Reply}
use Rattle.session_ops.specs.declared.entry.Reply.TheVariants.{Applied}
use Rattle.session_ops.specs.declared.entry.Entry.{Entry}
use Rattle.session_ops.specs.State.{State, Job, Legal, opening, state, state_from, after, reply, HasReplies, jobs_after}
use Rattle.session_ops.specs.Born.{TouchesMadeCells}
use Rattle.world.specs.Applied.{applied_by, applied_in}
use Rattle.world.proofs.Changing.{IsGrown, call-grown, live-below}
use Rattle.session_ops.proofs.Deeds.{IsTaken, applied-taken}
use Rattle.world.proofs.Moving.{applied-none, from-grown, from-taken}

call-unborn : (s : State) (call : Call) (answer : Reply) (k : ℕ) → IsNotebook s.book → answer ≡ reply s call → s.book.next_cell ≤ k → applied_by k call answer ≡ []
call-unborn s (ByClient n (Delta j base d)) (Applied rev x) k h e le =
    let is : IsTaken s j rev x = applied-taken s n j base rev d x (sym e) in
    let lt : j < s.book.next_cell = live-below s.book j is.own h is.there in
    elim (j == k)
    as (λ b. (j == k) ≡ b → (if b then x ∷ [] else []) ≡ [])
    [ true ↦ λ t. let same : j ≡ k = eqb-true j k t in absurd (omega (arith, lt, le, same)) | false ↦ λ t. refl ]
    refl
call-unborn s call answer k h e le = applied-none call answer k refl

from-unborn : (s : State) (js : List Job) (es : List Entry) (k : ℕ) → IsNotebook s.book → HasReplies s js es → (state_from s es).book.next_cell ≤ k → applied_in k es ≡ []
from-unborn s js [] k h r le = refl
from-unborn s js (e ∷ es) k h r le =
    let one : IsGrown s.book (after s e).book = call-grown s e.call e.reply h in
    let rest : IsGrown (after s e).book (state_from (after s e) es).book = from-grown (after s e) es one.0 in
    let first : s.book.next_cell ≤ (after s e).book.next_cell = one.1 in
    let later : (after s e).book.next_cell ≤ (state_from (after s e) es).book.next_cell = rest.1 in
    let last : (state_from (after s e) es).book.next_cell ≤ k = le in
    ap (λ xs. xs ++ applied_in k es) (call-unborn s e.call e.reply k h r.1.0 (omega (arith, first, later, last))) ∙ from-unborn (after s e) (jobs_after s js e.by e.call e.reply) es k one.0 r.1.1 le

-- in a legal history no delta was applied to a number that no cell has been given yet
pub state-touches : (n0 : Parts) (h : List Entry) → IsNotebook n0 → Legal n0 h → TouchesMadeCells (state n0 h)
state-touches n0 h note l = λ k le. ap length (from-taken (opening n0) h k ∙ from-unborn (opening n0) [] h k note l.replies le)
