-- A book has one cause at most for which it isn't read, beside want of memory, and none if it is accepted.
use Rattle.std.proofs.Common.{◌≡◌, ℕ, inl, inr, List, Result, Ok, Err, refl, sym, ◌∙◌, arith}
use Rattle.std.specs.Prelude.{MatchResult}
use Rattle.notebook.specs.declared.parts.Parts.{Parts}
use Rattle.livemd_format.specs.declared.notices.Notice.{Notice}
use Rattle.livemd_format.specs.Accepts.{IsAccepted, HasFewCells, HasManyCells}
use Rattle.livemd_format.specs.Made.{notebook_of}
use Rattle.livemd_format.specs.Reads.{Reads, items_of}
use Rattle.livemd_read.specs.declared.types.BookError.{BookError}
use Rattle.livemd_read.specs.declared.types.BookError.TheVariants.{TooLarge, NotUtf8, TooManySections, TooManyCells, OutOfMemory}
use Rattle.livemd_read.specs.declared.types.Read.{Read}
use Rattle.livemd_read.specs.Causes.{IsBookCause}

-- a book is read as one notebook, with the same notices
pub one_notebook : (bytes : List ℕ) (n m : Parts) (ns ms : List Notice) → Reads bytes n ns → Reads bytes m ms → n ≡ m
one_notebook bytes n m ns ms h k = h.notebook ∙ sym k.notebook

pub same_notices : (bytes : List ℕ) (n m : Parts) (ns ms : List Notice) → Reads bytes n ns → Reads bytes m ms → ns ≡ ms
same_notices bytes n m ns ms h k = h.notes ∙ sym k.notes

too_many : (n : Parts) → HasFewCells n → HasManyCells n → ⊥
too_many n few (inl h) = omega (arith, few.cells)
too_many n few (inr h) = omega (arith, few.code_cells)

-- an accepted book is refused for want of memory alone
pub accepted_cause : (bytes : List ℕ) (e : BookError) → IsAccepted bytes → IsBookCause bytes e → e ≡ OutOfMemory
accepted_cause bytes TooLarge a h = absurd (omega (arith, a.text.small))
accepted_cause bytes (NotUtf8 at) a h = absurd (h.1.0 a.text.text)
accepted_cause bytes TooManySections a h = absurd (omega (arith, a.few_sections, h.1))
accepted_cause bytes TooManyCells a h = absurd (too_many (notebook_of (items_of bytes)) a.few_cells h.1.1)
accepted_cause bytes OutOfMemory a h = refl

-- what a reader answers where a book is accepted and is read as the notebook: that notebook with these notices, or want of memory
pub accepted_answer : (bytes : List ℕ) (n : Parts) (notices : List Notice) (r : Result Read BookError) → IsAccepted bytes → Reads bytes n notices → MatchResult r (λ x. Reads bytes x.notebook x.notices) (IsBookCause bytes)
    → MatchResult r (λ x. (x.notebook ≡ n) × (x.notices ≡ notices)) (λ e. e ≡ OutOfMemory)
accepted_answer bytes n notices (Ok x) a h k = (one_notebook bytes x.notebook n x.notices notices k h, same_notices bytes x.notebook n x.notices notices k h)
accepted_answer bytes n notices (Err e) a h k = accepted_cause bytes e a k
