-- The definitions at a small source, as a check of what they say.
use Rattle.std.proofs.Common.{◌≡◌, ℕ, [], ◌∷◌, List, refl}
use Rattle.delta.specs.declared.Step.{Step}
use Rattle.delta.specs.declared.Step.TheVariants.{Retain, Insert, Delete as Erase}
use Rattle.revisions.specs.Answer.{Answer, Takes, TooNew, TooOld, PastEnd, SplitsPair, answer}
use Rattle.revisions.specs.Source.{Source, begun, least_of, taking, reporting, joining, leaving}
use Rattle.revisions.specs.Kept.{made_by}

abbrev insert : ℕ → List Step
insert c = Insert (c ∷ []) ∷ []

-- 7 and 9 have joined an empty source, both put a letter in, and 7 puts a third one in later
abbrev moved : Answer → List Step
moved (Takes rev x) = x
moved other = []

abbrev take_delta : ℕ → ℕ → List Step → Source → Source
take_delta client base d s = taking client (moved (answer s base d)) s

abbrev typed : Source
typed = take_delta 7 1 (insert 99) (take_delta 9 0 (insert 98) (take_delta 7 0 (insert 97) (begun [] (7 ∷ 9 ∷ []))))

-- the first comes first in the tie, and the third goes over the second alone
tie : typed.taken ≡ insert 97 ∷ (Retain 1 ∷ insert 98) ∷ insert 99 ∷ []
tie = refl

text : typed.text ≡ 99 ∷ 97 ∷ 98 ∷ []
text = refl

made : made_by typed.taken typed.first ≡ typed.text
made = refl

-- each client's floor is the revision of its last delta
floors : typed.floors ≡ record { client = 7; rev = 3 } ∷ record { client = 9; rev = 2 } ∷ []
floors = refl

least : least_of typed ≡ 2
least = refl

-- a report raises a floor, and never lowers one
reported : (reporting 9 3 typed).floors ≡ record { client = 7; rev = 3 } ∷ record { client = 9; rev = 3 } ∷ []
reported = refl

reported-late : reporting 7 1 typed ≡ typed
reported-late = refl

-- who leaves holds nothing back, and a stranger who leaves changes nothing; with nobody joined the least floor is the revision
one-left : (leaving 9 typed).floors ≡ record { client = 7; rev = 3 } ∷ []
one-left = refl

none-left : least_of (leaving 7 (leaving 9 typed)) ≡ 3
none-left = refl

stranger-left : leaving 5 typed ≡ typed
stranger-left = refl

-- who joins has the present revision, also who has joined already, and has one floor
joined-later : (joining 5 typed).floors ≡ record { client = 7; rev = 3 } ∷ record { client = 9; rev = 2 } ∷ record { client = 5; rev = 3 } ∷ []
joined-later = refl

joined-again : (joining 9 typed).floors ≡ record { client = 7; rev = 3 } ∷ record { client = 9; rev = 3 } ∷ []
joined-again = refl

-- what is refused
too-new : answer typed 4 (insert 100) ≡ TooNew 3
too-new = refl

too-old : answer typed 1 (insert 100) ≡ TooOld 2
too-old = refl

past-end : answer typed 2 (Erase 3 ∷ []) ≡ PastEnd 3
past-end = refl

-- an emoji before the place
splits : answer (begun (128512 ∷ []) (7 ∷ [])) 0 (Retain 1 ∷ insert 98) ≡ SplitsPair 1
splits = refl
