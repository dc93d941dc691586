-- One cell's source in a session, and what becomes of it.
use Rattle.std.specs.Prelude.{ℕ, ◌+◌, List, [], ◌∷◌, ◌++◌, length}
use Rattle.delta.specs.declared.Step.{Step}
use Rattle.delta.specs.Moves.{text_after}
use Rattle.revisions.specs.declared.floors.Floor.{Floor}
use Rattle.revisions.specs.Floors.{lowest, raised, with_client, without, at_zero}

-- the text with which it began, the deltas that it took, in order, its present text, and the floors of the clients that have joined
pub record Source : Type 0 where
  pub first : List ℕ
  pub taken : List (List Step)
  pub text : List ℕ
  pub floors : List Floor

-- a source that has taken no delta, with these clients
abbrev pub begun : List ℕ → List ℕ → Source
begun source clients = record { first = source; taken = []; text = source; floors = at_zero clients }

-- its revision is the number of deltas that it took
abbrev pub rev_of : Source → ℕ
rev_of s = length s.taken

-- the least floor of those who have joined; the revision where nobody has
abbrev pub least_of : Source → ℕ
least_of s = lowest (rev_of s) s.floors

-- the source once it takes a client's delta, which is then its next revision
abbrev pub taking : ℕ → List Step → Source → Source
taking client x s =
    record s {
      taken = s.taken ++ x ∷ [];
      text = text_after x s.text;
      floors = raised client (rev_of s + 1) s.floors;
    }

-- the source once a client is known to have a revision
abbrev pub reporting : ℕ → ℕ → Source → Source
reporting client rev s = record s { floors = raised client rev s.floors }

-- the source once a client has joined, which then has the present revision
abbrev pub joining : ℕ → Source → Source
joining client s = record s { floors = with_client client (rev_of s) s.floors }

-- the source once a client has left
abbrev pub leaving : ℕ → Source → Source
leaving client s = record s { floors = without client s.floors }
