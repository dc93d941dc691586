-- The floors of the clients that have joined.
use Rattle.std.specs.Prelude.{ℕ, ◌==◌, max, min, not, if◌then◌else◌, Bool, true, false, List, [], ◌∷◌, ◌++◌, map, filter}
use Rattle.revisions.specs.declared.floors.Floor.{Floor}

-- each client's floor is 0
abbrev pub at_zero : List ℕ → List Floor
at_zero [] = []
at_zero (n ∷ ns) = record { client = n; rev = 0 } ∷ at_zero ns

-- the least of a revision and the floors
abbrev pub lowest : ℕ → List Floor → ℕ
lowest rev [] = rev
lowest rev (f ∷ fs) = lowest (min rev f.rev) fs

-- whether a client has a floor
abbrev pub has_floor : ℕ → List Floor → Bool
has_floor client [] = false
has_floor client (f ∷ fs) = if f.client == client then true else has_floor client fs

-- a floor, at least this revision where it is the client's
abbrev pub raised_one : ℕ → ℕ → Floor → Floor
raised_one client rev f = record { client = f.client; rev = if f.client == client then max f.rev rev else f.rev }

-- the client's floor is at least this revision
abbrev pub raised : ℕ → ℕ → List Floor → List Floor
raised client rev fs = map (raised_one client rev) fs

-- whether a floor is another client's
abbrev pub is_of_other : ℕ → Floor → Bool
is_of_other client f = not (f.client == client)

-- the floors of the others
abbrev pub without : ℕ → List Floor → List Floor
without client fs = filter (is_of_other client) fs

-- the floors of the others, and the client's at this revision: the only one that it has
abbrev pub with_client : ℕ → ℕ → List Floor → List Floor
with_client client rev fs = without client fs ++ record { client = client; rev = rev } ∷ []
