-- What the next event may rely on.
use Rattle.std.specs.Prelude.{◌≡◌, ℕ, false, List, [], ◌∷◌, map}
use Rattle.session_ops.specs.Numbers.{is_in}
use Rattle.world.specs.World.{World}
use Rattle.world.specs.Claims.{IsWhole, number_of}
use Rattle.world.specs.Waiting.{AreHonest}

-- no number stands twice
abbrev pub AreApart : List ℕ → Type 0
AreApart [] = Unit {0}
AreApart (n ∷ ns) = (is_in n ns ≡ false) × AreApart ns

-- no number holds two clients
abbrev pub IsApart : World → Type 0
IsApart w = AreApart (map number_of w.clients)

-- the history is legal, each client stands as it should, and no number holds two
pub record IsSound (w : World) : Type 0 where
  pub whole : IsWhole w
  pub honest : AreHonest w
  pub apart : IsApart w
