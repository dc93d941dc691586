-- The side that goes first.
use Rattle.std.specs.Prelude.{Bool, true, false}
use Rattle.delta.specs.declared.moves.Side.{Side}
use Rattle.delta.specs.declared.moves.Side.TheVariants.{Left, Right}

abbrev pub is_right : Side → Bool
is_right Left = false
is_right Right = true
