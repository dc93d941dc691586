-- The next entry that a client receives was answered as its state says, and its own delta is what it has in flight.
use Rattle.std.proofs.Common.{◌≡◌, ℕ, true, List, [], ◌∷◌, Option, Some, None, refl, sym, ap, subst, ◌∙◌}
use Rattle.delta.specs.declared.Step.{Step}
use Rattle.notebook.specs.declared.parts.Parts.{Parts}
use Rattle.notebook.specs.Book.{cells, found}
use Rattle.session_ops.specs.declared.entry.Op.{Op}
use Rattle.session_ops.specs.declared.entry.Op.TheVariants.{Delta}
use Rattle.session_ops.specs.declared.entry.Call.{Call}
use Rattle.session_ops.specs.declared.entry.Call.TheVariants.{Client as ByClient, Start, Respond}
use Rattle.session_ops.specs.declared.entry.Reply.{Reply}
use Rattle.session_ops.specs.declared.entry.Reply.TheVariants.{Applied, Refused}
use Rattle.session_ops.specs.declared.entry.Entry.{Entry}
use Rattle.session_ops.specs.State.{State, state, opening, reply, HasReplies, Legal, jobs_from}
use Rattle.client_sync.specs.Client.{Client, Pending, pending_of}
use Rattle.client_sync.specs.Fits.{HasSource}
use Rattle.session_ops.specs.Structure.{change_of}
use Rattle.session_ops.specs.Deeds.{deed}
use Rattle.client_sync.specs.Stands.{IsOwnFlight, IsNextEntry}
use Rattle.world.specs.Applied.{is_own}
use Rattle.world.specs.Waiting.{IsKeptLive, IsKept, IsHonest}
use Rattle.world.proofs.Honest.{later-replies}
use Rattle.world.proofs.Keeping.{IsOwnBack, own-back, own-entry, not-quiet, live-from}
use Rattle.world.proofs.Receiving.{taken-there}
use Rattle.world.proofs.Quiet.{quiet-flight}

-- something is in flight for the cell of an own delta, and the delta is it
own-pending : (s : State) (e : Entry) (es : List Entry) (n k rev : ℕ) (ops : List Op) (x : List Step) (o : Option Pending) → is_own n k e ≡ true → e.reply ≡ Applied rev x → IsKeptLive s (e ∷ es) n k ops o → (p : Pending) × ((o ≡ Some p) × (x ≡ p.flight))
own-pending s e es n k rev ops x None mine answer kept = absurd (not-quiet s e es n k ops mine kept)
own-pending s e es n k rev ops x (Some p) mine answer kept =
    let back : IsOwnBack s e es n k ops p = own-back s e es n k ops p mine kept in
    let both : Applied rev x ≡ Applied back.rev p.flight = sym answer ∙ back.answer in
    (p, (refl, cc both))

own-flight : (s : State) (c : Client) (e : Entry) (es : List Entry) (call : Call) (answer : Reply) → e.call ≡ call → e.reply ≡ answer → answer ≡ reply s call → ((k : ℕ) → IsKept s (e ∷ es) c.number k c.outbox (found k (cells s.book)) (pending_of k c.pending)) → IsOwnFlight c (deed call answer)
own-flight s c e es (ByClient n (Delta cell base d)) (Applied rev x) is answer right kept =
    λ same. let mine : is_own c.number cell e ≡ true = own-entry c.number cell base rev d x e (is ∙ ap (λ m. ByClient m (Delta cell base d)) same) answer in
    let there : (t : List ℕ) × HasSource s.book cell t = taken-there s n cell base rev d x right in
    own-pending s e es c.number cell rev c.outbox x (pending_of cell c.pending) mine answer (live-from s (e ∷ es) c.number cell c.outbox (pending_of cell c.pending) there.0 there.1 (kept cell))
own-flight s c e es (ByClient n op) (Refused why) is same right kept = tt
own-flight s c e es (ByClient n op) answer is same right kept = quiet-flight c (change_of op)
own-flight s c e es (Start lane) answer is same right kept = tt
own-flight s c e es (Respond eval shown) answer is same right kept = tt

-- what a client receives next, where it stands as it should to a legal history
pub next-entry : (n0 : Parts) (h : List Entry) (c : Client) → Legal n0 h → (is : IsHonest n0 h c) → (e : Entry) (es : List Entry) → is.later ≡ e ∷ es → IsNextEntry n0 c e
next-entry n0 h c l is e es more =
    let s : State = state n0 c.seen in
    let replies : HasReplies s (jobs_from (opening n0) [] c.seen) (e ∷ es) = subst (HasReplies s (jobs_from (opening n0) [] c.seen)) more (later-replies n0 h c l is) in
    record { right = replies.1.0; own = own-flight s c e es e.call e.reply refl refl replies.1.0 (λ k. subst (λ later. IsKept s later c.number k c.outbox (found k (cells s.book)) (pending_of k c.pending)) more (is.kept k)) }
