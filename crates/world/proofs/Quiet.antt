-- Entries that applied no delta: what they leave as it is.
use Rattle.std.proofs.Common.{◌≡◌, ℕ, false, List, [], Option, Some, None, refl}
use Rattle.delta.specs.declared.Step.{Step}
use Rattle.notebook.specs.declared.parts.Parts.{Parts}
use Rattle.notebook.specs.declared.change.Change.{Change}
use Rattle.session_ops.specs.Deeds.{changes_if}
use Rattle.client_sync.specs.Client.{Client, with_deed}
use Rattle.client_sync.specs.Stands.{IsOwnFlight}
use Rattle.world.specs.Applied.{edits_of, is_own_edit}

pub quiet-edits : (k : ℕ) (o : Option Change) → edits_of k (changes_if o) ≡ []
quiet-edits k None = refl
quiet-edits k (Some asked) = refl

pub quiet-own : (n k : ℕ) (o : Option Change) → is_own_edit n k (changes_if o) ≡ false
quiet-own n k None = refl
quiet-own n k (Some asked) = refl

pub quiet-seen : (n : Parts) (c : Client) (o : Option Change) → (with_deed n c (changes_if o)).seen ≡ c.seen
quiet-seen n c None = refl
quiet-seen n c (Some asked) = refl

pub quiet-number : (n : Parts) (c : Client) (o : Option Change) → (with_deed n c (changes_if o)).number ≡ c.number
quiet-number n c None = refl
quiet-number n c (Some asked) = refl

pub quiet-outbox : (n : Parts) (c : Client) (o : Option Change) → (with_deed n c (changes_if o)).outbox ≡ c.outbox
quiet-outbox n c None = refl
quiet-outbox n c (Some asked) = refl

pub quiet-flight : (c : Client) (o : Option Change) → IsOwnFlight c (changes_if o)
quiet-flight c None = tt
quiet-flight c (Some asked) = tt
