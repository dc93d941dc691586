-- What entries did to a cell.
use Rattle.std.specs.Prelude.{◌≡◌, ℕ, ◌==◌, ◌&&◌, Bool, false, if◌then◌else◌, List, [], ◌∷◌, ◌++◌}
use Rattle.std.specs.List.{AllByRecursion}
use Rattle.delta.specs.declared.Step.{Step}
use Rattle.delta.specs.Moves.{FitsText, text_after}
use Rattle.session_ops.specs.declared.entry.Op.TheVariants.{Leave}
use Rattle.session_ops.specs.declared.entry.Call.{Call}
use Rattle.session_ops.specs.declared.entry.Call.TheVariants.{Client as ByClient}
use Rattle.session_ops.specs.declared.entry.Reply.{Reply}
use Rattle.session_ops.specs.declared.entry.Entry.{Entry}
use Rattle.session_ops.specs.Deeds.{Deed, Nothing, Edits, Changes, deed}

-- the delta that an entry applied to a cell, if it did
abbrev pub edits_of : ℕ → Deed → List (List Step)
edits_of cell Nothing = []
edits_of cell (Edits e) = if e.cell == cell then e.delta ∷ [] else []
edits_of cell (Changes asked) = []

abbrev pub applied_by : ℕ → Call → Reply → List (List Step)
applied_by cell call answer = edits_of cell (deed call answer)

-- the deltas that entries applied to a cell, in order
abbrev pub applied_in : ℕ → List Entry → List (List Step)
applied_in cell [] = []
applied_in cell (e ∷ es) = applied_by cell e.call e.reply ++ applied_in cell es

-- whether an entry applied a delta of the number to a cell
abbrev pub is_own_edit : ℕ → ℕ → Deed → Bool
is_own_edit n cell Nothing = false
is_own_edit n cell (Edits e) = (e.client == n) && (e.cell == cell)
is_own_edit n cell (Changes asked) = false

abbrev pub is_own_call : ℕ → ℕ → Call → Reply → Bool
is_own_call n cell call answer = is_own_edit n cell (deed call answer)

abbrev pub is_own : ℕ → ℕ → Entry → Bool
is_own n cell e = is_own_call n cell e.call e.reply

-- none of the entries applied a delta of the number to the cell
abbrev pub HasNoOwn : ℕ → ℕ → List Entry → Type 0
HasNoOwn n cell es = AllByRecursion (λ e. is_own n cell e ≡ false) es

-- whether a call is the number's leaving
abbrev pub is_leaving : ℕ → Call → Bool
is_leaving n (ByClient m Leave) = m == n
is_leaving n call = false

-- none of the entries is the number's leaving
abbrev pub HasNotLeft : ℕ → List Entry → Type 0
HasNotLeft n es = AllByRecursion (λ e. is_leaving n e.call ≡ false) es

-- a text after some deltas, one after the other
abbrev pub text_after_each : List ℕ → List (List Step) → List ℕ
text_after_each t [] = t
text_after_each t (x ∷ xs) = text_after_each (text_after x t) xs

-- each of these deltas fits in its turn
abbrev pub FitInTurn : List ℕ → List (List Step) → Type 0
FitInTurn t [] = Unit {0}
FitInTurn t (x ∷ xs) = FitsText x t × FitInTurn (text_after x t) xs
