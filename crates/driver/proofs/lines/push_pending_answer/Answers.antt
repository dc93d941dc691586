use Rattle.std.proofs.Common.{◌≡◌, ◌++◌, Option, Some, None, OnOk, subst, string_bytes}
use Rattle.notebook.specs.declared.parts.Cell.{Cell}
use Rattle.client_sync.specs.Client.{Pending}
use Rattle.client_sync.specs.Stands.{IsPendingOf, IsViewOf}
use Rattle.client_sync.specs.declared.pending.PendingEdits.{PendingEdits}
use Rattle.driver.specs.Lines.{pending_answer}
use Rattle.driver.proofs.lines.push_pending_answer.Goals as goal

-- edits are shown of a live cell alone
of-live : (own : Option Cell) (e : Option PendingEdits) (v : PendingEdits) (p : Option Pending) (P : Option Cell → Type 0) → e ≡ Some v → IsPendingOf own e p → ((k : Cell) → IsViewOf v p → P (Some k)) → P own
of-live None e v p P is h f = absurd (subst (λ x. IsPendingOf None x p) is h)
of-live (Some k) e v p P is h f = f k (subst (λ x. IsPendingOf (Some k) x p) is h)

pub returns-in-Some : goal.returns-in-Some
returns-in-Some c = λ own p h.
    of-live own c.args.edits c.in-Some.edits p (λ o. OnOk c.push_edits.result (string_bytes c.push_edits.new.out ≡ string_bytes c.args.out.now ++ pending_answer o p c.args.messages)) c.in-Some.is h (λ k view. c.push_edits.ensures k p view)
