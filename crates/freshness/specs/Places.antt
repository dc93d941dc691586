-- Where the first element that passes stands.
use Rattle.std.specs.Prelude.{◌≡◌, ℕ, Bool, true, List, ◌∷◌, ◌++◌, None, length, find}

-- the first element that passes stands at the place
pub record IsFirst {X : Type 0} (p : X → Bool) (xs : List X) (at : ℕ) : Type 0 where
  pub front : List X
  pub item : X
  pub back : List X
  pub parts : xs ≡ front ++ item ∷ back
  pub none : find p front ≡ None
  pub here : p item ≡ true
  pub place : at ≡ length front
