-- Items that are taken out of a list and put elsewhere.
use Rattle.std.specs.Prelude.{◌≡◌, ℕ, List, Some, slice_get, insert, remove}

-- the item at a place stands at the index among the others
pub record IsShifted {X : Type 0} (old : List X) (at index : ℕ) (new : List X) : Type 0 where
  pub item : X
  pub there : slice_get old at ≡ Some item
  pub after : new ≡ insert (remove old at) index item

-- the item at a place of one list stands at the index of the other
pub record IsTransferred {X : Type 0} (from : List X) (at : ℕ) (left to : List X) (index : ℕ) (new : List X) : Type 0 where
  pub item : X
  pub there : slice_get from at ≡ Some item
  pub rest : left ≡ remove from at
  pub after : new ≡ insert to index item
