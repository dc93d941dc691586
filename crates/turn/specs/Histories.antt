-- Lists of entries, each under a number, and what one turn does to such a list.
use Rattle.std.specs.Prelude.{◌≡◌, ℕ, ◌≤◌, ◌⊎◌, List, [], ◌∷◌, ◌++◌, length, drop}
use mathlib.Core.List.{IsPrefix}
pub use Rattle.plain_list.specs.Numbered.{entries_by}

-- For the list behind a lock, and for any other history whose entries each stand under a number.
module _ {E : Type 0} (number_of : E → ℕ) where
  -- the list stays as it is, or has one entry more, which stands under p
  abbrev pub Extends : ℕ → List E → List E → Type 0
  Extends p log log' = (log' ≡ log) ⊎ ((e : E) × (number_of e ≡ p) × (log' ≡ log ++ e ∷ []))

  -- what a turn of the number p may find, where p has seen `seen` and was told that the list has at least so many entries
  pub record MayFind (p : ℕ) (seen : List E) (least : ℕ) (log : List E) : Type 0 where
    -- the list begins with what p has seen
    pub begins : IsPrefix seen log
    -- under p stand just the entries that p has seen there
    pub own : entries_by number_of p log ≡ entries_by number_of p seen
    -- and the list has as many entries as p was told of
    pub known : least ≤ length log

  -- a turn of p, which had seen `seen`, was told of at least so many entries, and has now seen `seen'`: the list that it found,
  -- and what the act did with it
  pub record TakesTurn (p : ℕ) (seen : List E) (least : ℕ) (act : List E → List E → Type 0) (seen' : List E) : Type 0 where
    pub found : List E
    pub may_find : MayFind p seen least found
    pub acted : act found seen'
    pub extends : Extends p found seen'
    -- what p has seen begins with what it had seen
    pub longer : IsPrefix seen seen'
    -- under p stand the old entries and the act's
    pub own : entries_by number_of p seen' ≡ entries_by number_of p seen ++ drop (length found) seen'
