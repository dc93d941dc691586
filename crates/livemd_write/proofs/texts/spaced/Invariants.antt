use Rattle.std.proofs.Common.{◌∷◌, []}
use Rattle.std.specs.String.{string_bytes}
use Rattle.livemd_write.proofs.Pieces.{IsJoined}
use Rattle.livemd_write.proofs.texts.spaced.Given as goal

abbrev pub invariant-loop-piece : goal.invariant-loop-piece
invariant-loop-piece l = IsJoined (32 ∷ []) (λ t. t) l.yielded (string_bytes l.out) l.between
