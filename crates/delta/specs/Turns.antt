-- One turn of a walk over two fronts.
use Rattle.std.specs.Prelude.{◌≡◌, ℕ, ◌+◌, ◌<◌, Bool, ◌++◌, length, take}
use Rattle.delta.specs.Compose.{composed_small}
use Rattle.delta.specs.Transform.{transformed_small}
use Rattle.delta.specs.Fronts.{left, head_small, IsFront, IsNewOf}
use Rattle.delta.specs.declared.front.Head.{Head}
use Rattle.delta.specs.declared.front.Head.TheVariants.{End, Kept, Gone, New}
use Rattle.delta.specs.declared.front.Front.{Front}

-- one turn of a transform puts this piece out, and leaves these fronts
pub record IsMoveTurn (right_first : Bool) (l r : Front) (piece : Head) (l' r' : Front) : Type 0 where
  pub left_front : IsFront l'
  pub right_front : IsFront r'
  pub same : transformed_small right_first (left l) (left r) ≡ head_small piece ++ transformed_small right_first (left l') (left r')
  pub fewer : length (left l') + length (left r') < length (left l) + length (left r)

-- one turn of a composition puts this piece out, and leaves these fronts
pub record IsJoinTurn (a b : Front) (piece : Head) (a' b' : Front) : Type 0 where
  pub first_front : IsFront a'
  pub second_front : IsFront b'
  pub same : composed_small (left a) (left b) ≡ head_small piece ++ composed_small (left a') (left b')
  pub fewer : length (left a') + length (left b') < length (left a) + length (left b)

-- what the right does with m units that the left keeps, where neither puts anything in
abbrev pub moved_piece : Head → Head → ℕ → Head
moved_piece (Gone a) r m = End
moved_piece End (Gone b) m = Gone m
moved_piece (Kept a) (Gone b) m = Gone m
moved_piece (New us) (Gone b) m = Gone m
moved_piece l r m = Kept m

-- what becomes of m units of the first's result, as the second says
abbrev pub IsJoined : Head → Head → ℕ → Head → Type 0
IsJoined (New us) (Gone b) m piece = piece ≡ End
IsJoined (New us) b m piece = IsNewOf piece (take m us.now)
IsJoined a (Gone b) m piece = piece ≡ Gone m
IsJoined a b m piece = piece ≡ Kept m
