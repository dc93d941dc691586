-- Worked runs, by computation: a check of the definitions.
use Rattle.std.proofs.Common.{◌≡◌, ℕ, List, [], ◌∷◌, ◌++◌, map, length, take, None, refl, codes}
use Rattle.delta.specs.declared.Step.TheVariants as step
use Rattle.notebook.specs.declared.parts.Cell.{Cell}
use Rattle.notebook.specs.declared.parts.Parts.{Parts}
use Rattle.notebook.specs.declared.parts.Kind.TheVariants.{Markdown}
use Rattle.notebook.specs.Book.{untitled, cells}
use Rattle.session_ops.specs.declared.entry.Op.TheVariants as op
use Rattle.session_ops.specs.declared.entry.Refusal.TheVariants as why
use Rattle.session_ops.specs.declared.entry.Reply.{Reply}
use Rattle.session_ops.specs.declared.entry.Reply.TheVariants.{Accepted, Applied, NewCell, Refused}
use Rattle.client_sync.specs.Client.{held}
use Rattle.world.specs.declared.event.Event.{Event}
use Rattle.world.specs.declared.event.Event.TheVariants.{Join, Leave, Edit, Post, Report, Take, Receive, RawJoin, Raw}
use Rattle.world.specs.World.{World, run}

abbrev book : Parts
book =
    record untitled {
      sections = record { id = 1; name = codes "S"; before = []; parent = None; cells = record { id = 1; kind = Markdown; source = codes "ab"; before = []; saved = [] } ∷ [] } ∷ [];
      next_cell = 2;
      next_section = 2;
    }

-- two clients join, the first edits and receives all, the second has nothing to send
abbrev first_day : List Event
first_day = Join 0 ∷ Join 1 ∷ Edit 0 1 (step.Insert (codes "X") ∷ []) ∷ Take 0 ∷ Receive 0 ∷ Receive 0 ∷ Take 1 ∷ []

-- both edit at once, and one goes on editing before its first edit comes back
abbrev both_edit : List Event
both_edit =
    Join 0 ∷ Join 1 ∷ Receive 0 ∷ Edit 0 1 (step.Insert (codes "X") ∷ []) ∷ Edit 1 1 (step.Insert (codes "Y") ∷ []) ∷ Edit 1 1 (step.Retain 3 ∷ step.Insert (codes "Z") ∷ []) ∷ Take 0 ∷ Take 1 ∷ Receive 1 ∷ Receive 1 ∷ Take 1
    ∷ Receive 0 ∷ Receive 0 ∷ Receive 0 ∷ Receive 1 ∷ []

abbrev source_of : Cell → List ℕ
source_of c = c.source

abbrev cursors : World → List ℕ
cursors w = map (λ c. length c.seen) w.clients

abbrev texts : World → List (List (List ℕ))
texts w = map (λ c. map source_of (cells (held w.opening c))) w.clients

abbrev replies : World → List Reply
replies w = map (λ e. e.reply) w.history

first_day-length : length (run book first_day).history ≡ 3
first_day-length = refl

first_day-cursors : cursors (run book first_day) ≡ 3 ∷ 2 ∷ []
first_day-cursors = refl

first_day-texts : texts (run book first_day) ≡ ([] ∷ codes "Xab" ∷ []) ∷ ([] ∷ codes "ab" ∷ []) ∷ []
first_day-texts = refl

both_edit-cursors : cursors (run book both_edit) ≡ 5 ∷ 5 ∷ []
both_edit-cursors = refl

-- before the server has taken anything, and after the second client has received the first one's edit
both_edit-apart : texts (run book (take 6 both_edit)) ≡ ([] ∷ codes "Xab" ∷ []) ∷ ([] ∷ codes "YabZ" ∷ []) ∷ []
both_edit-apart = refl

both_edit-moved : texts (run book (take 9 both_edit)) ≡ ([] ∷ codes "Xab" ∷ []) ∷ ([] ∷ codes "XYabZ" ∷ []) ∷ []
both_edit-moved = refl

both_edit-texts : texts (run book both_edit) ≡ ([] ∷ codes "XYabZ" ∷ []) ∷ ([] ∷ codes "XYabZ" ∷ []) ∷ []
both_edit-texts = refl

-- a second joining is refused and stands in the history; a stranger, and a joining that is posted, do nothing
joined-twice : replies (run book (Join 0 ∷ Join 0 ∷ Take 1 ∷ Receive 1 ∷ Post 0 op.Join ∷ Take 0 ∷ [])) ≡ Accepted ∷ Refused why.AlreadyJoined ∷ []
joined-twice = refl

joined-twice-cursors : cursors (run book (Join 0 ∷ Join 0 ∷ [])) ≡ 1 ∷ []
joined-twice-cursors = refl

-- a delete crosses an edit: the edit is refused, the client loses it at the delivery and goes on
abbrev crossing : List Event
crossing = Join 0 ∷ Join 1 ∷ Edit 1 1 (step.Insert (codes "Y") ∷ []) ∷ Post 0 (op.DeleteCell 1) ∷ Take 0 ∷ Take 1 ∷ Receive 1 ∷ Receive 1 ∷ []

crossing-replies : replies (run book crossing) ≡ Accepted ∷ Accepted ∷ Accepted ∷ Refused why.NoCell ∷ []
crossing-replies = refl

crossing-texts : map (λ w. texts w) (run book (take 6 crossing) ∷ run book (take 7 crossing) ∷ []) ≡ (([] ∷ codes "ab" ∷ []) ∷ ([] ∷ codes "Yab" ∷ []) ∷ []) ∷ (([] ∷ codes "ab" ∷ []) ∷ ([] ∷ []) ∷ []) ∷ []
crossing-texts = refl

crossing-pending : map (λ c. length c.pending) (run book (take 6 crossing)).clients ++ map (λ c. length c.pending) (run book (take 7 crossing)).clients ≡ 0 ∷ 1 ∷ 0 ∷ 0 ∷ []
crossing-pending = refl

-- a restored cell has a number of its own, with the server's text
abbrev restoring : List Event
restoring = crossing ++ (Post 1 (op.RestoreCell 1 1 0) ∷ Take 1 ∷ Receive 1 ∷ Edit 1 2 (step.Insert (codes "Z") ∷ []) ∷ Take 1 ∷ Receive 1 ∷ [])

restoring-replies : replies (run book restoring) ≡ Accepted ∷ Accepted ∷ Accepted ∷ Refused why.NoCell ∷ NewCell 2 ∷ Applied 1 (step.Insert (codes "Z") ∷ []) ∷ []
restoring-replies = refl

restoring-texts : texts (run book restoring) ≡ ([] ∷ codes "ab" ∷ []) ∷ ([] ∷ codes "Zab" ∷ []) ∷ []
restoring-texts = refl

-- one who leaves and joins again begins anew: the old outbox is gone
abbrev returning : List Event
returning = Join 0 ∷ Edit 0 1 (step.Insert (codes "X") ∷ []) ∷ Leave 0 ∷ Take 0 ∷ Join 0 ∷ Take 0 ∷ Edit 0 1 (step.Insert (codes "Y") ∷ []) ∷ Take 0 ∷ Receive 0 ∷ []

returning-replies : replies (run book returning) ≡ Accepted ∷ Accepted ∷ Accepted ∷ Applied 1 (step.Insert (codes "Y") ∷ []) ∷ []
returning-replies = refl

returning-texts : texts (run book returning) ≡ ([] ∷ codes "Yab" ∷ []) ∷ []
returning-texts = refl

-- reports raise the least floor, so that a raw delta is too old, and a client's never is
abbrev reporting : List Event
reporting =
    Join 0 ∷ RawJoin 7 ∷ Edit 0 1 (step.Insert (codes "X") ∷ []) ∷ Take 0 ∷ Receive 0 ∷ Receive 0 ∷ Report 0 1 ∷ Take 0 ∷ Raw 7 (op.Delta 1 0 (step.Insert (codes "R") ∷ [])) ∷ Raw 7 (op.Report 1 2)
    ∷ Raw 7 (op.Delta 1 0 (step.Insert (codes "Q") ∷ [])) ∷ Raw 0 (op.DeleteCell 1) ∷ Edit 0 1 (step.Insert (codes "Z") ∷ []) ∷ Take 0 ∷ []

reporting-replies : replies (run book reporting) ≡ Accepted ∷ Accepted ∷ Applied 1 (step.Insert (codes "X") ∷ []) ∷ Accepted ∷ Applied 2 (step.Retain 1 ∷ step.Insert (codes "R") ∷ []) ∷ Accepted ∷ Refused (why.TooOld 1) ∷ Applied 3 (step.Insert (codes "Z") ∷ []) ∷ []
reporting-replies = refl

-- a call of a number that hasn't joined is refused, and a raw leaving lets it join again
stranger-replies : replies (run book (Raw 3 (op.SetName (codes "N")) ∷ RawJoin 3 ∷ Join 3 ∷ Raw 3 op.Leave ∷ Join 3 ∷ Raw 3 op.Leave ∷ [])) ≡ Refused why.NotJoined ∷ Accepted ∷ Refused why.AlreadyJoined ∷ Accepted ∷ Accepted ∷ []
stranger-replies = refl
