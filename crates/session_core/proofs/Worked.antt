-- What a state says of a cell's source, at small histories: a check of the definitions.
use Rattle.std.proofs.Common.{◌≡◌, ℕ, [], ◌∷◌, List, refl}
use Rattle.delta.specs.declared.Step.{Step}
use Rattle.delta.specs.declared.Step.TheVariants.{Retain, Insert, Delete as Erase}
use Rattle.notebook.specs.Book.{untitled}
use Rattle.revisions.specs.Answer.{answer}
use Rattle.revisions.specs.Source.{least_of}
use Rattle.session_ops.specs.declared.entry.Op.TheVariants.{Join, Leave, Delta, Report}
use Rattle.session_ops.specs.declared.entry.Call.{Call}
use Rattle.session_ops.specs.declared.entry.Call.TheVariants.{Client}
use Rattle.session_ops.specs.State.{State, opening, reply, after_call, least}
use Rattle.session_core.specs.Stands.{as_reply, source_in}

-- the state after calls that are made one after the other
abbrev played : State → List Call → State
played s [] = s
played s (c ∷ cs) = played (after_call s c (reply s c)) cs

abbrev insert : ℕ → List Step
insert c = Insert (c ∷ []) ∷ []

-- 7 and 9 join, both put a letter before the setup cell's empty source, and 7 puts a third one in later
abbrev typed : State
typed = played (opening untitled) (Client 7 Join ∷ Client 9 Join ∷ Client 7 (Delta 0 0 (insert 97)) ∷ Client 9 (Delta 0 0 (insert 98)) ∷ Client 7 (Delta 0 1 (insert 99)) ∷ [])

abbrev text : List ℕ
text = 99 ∷ 97 ∷ 98 ∷ []

-- the deltas in their order, and each client's floor: the revision of its last delta
source : source_in typed 0 text ≡ record { first = []; taken = insert 97 ∷ (Retain 1 ∷ insert 98) ∷ insert 99 ∷ []; text = text; floors = record { client = 7; rev = 3 } ∷ record { client = 9; rev = 2 } ∷ [] }
source = refl

least-floor : least typed 0 ≡ 2
least-floor = refl

source-least : least_of (source_in typed 0 text) ≡ 2
source-least = refl

-- a report raises a floor, and never lowers one
reported : (source_in (played typed (Client 9 (Report 0 3) ∷ [])) 0 text).floors ≡ record { client = 7; rev = 3 } ∷ record { client = 9; rev = 3 } ∷ []
reported = refl

reported-late : source_in (played typed (Client 7 (Report 0 1) ∷ [])) 0 text ≡ source_in typed 0 text
reported-late = refl

-- who leaves holds nothing back; with nobody joined the least floor is the revision
one-left : (source_in (played typed (Client 9 Leave ∷ [])) 0 text).floors ≡ record { client = 7; rev = 3 } ∷ []
one-left = refl

none-left : least_of (source_in (played typed (Client 9 Leave ∷ Client 7 Leave ∷ [])) 0 text) ≡ 3
none-left = refl

-- who joins later has the present revision
joined-later : (source_in (played typed (Client 5 Join ∷ [])) 0 text).floors ≡ record { client = 7; rev = 3 } ∷ record { client = 9; rev = 2 } ∷ record { client = 5; rev = 3 } ∷ []
joined-later = refl

-- what is refused, by the session and by the source
too-new : as_reply (answer (source_in typed 0 text) 4 (insert 100)) ≡ reply typed (Client 9 (Delta 0 4 (insert 100)))
too-new = refl

too-old : as_reply (answer (source_in typed 0 text) 1 (insert 100)) ≡ reply typed (Client 9 (Delta 0 1 (insert 100)))
too-old = refl

past-end : as_reply (answer (source_in typed 0 text) 2 (Erase 3 ∷ [])) ≡ reply typed (Client 9 (Delta 0 2 (Erase 3 ∷ [])))
past-end = refl

applied : as_reply (answer (source_in typed 0 text) 2 (insert 100)) ≡ reply typed (Client 9 (Delta 0 2 (insert 100)))
applied = refl
