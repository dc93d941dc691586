use Rattle.std.proofs.Common.{◌∷◌, []}
use Rattle.std.specs.String.{string_bytes}
use Rattle.blanks.specs.Blanks.{drop_end, is_cr}
use Rattle.livemd_write.proofs.Pieces.{IsJoined}
use Rattle.livemd_write.proofs.texts.clean.Given as goal

abbrev pub invariant-loop-piece : goal.invariant-loop-piece
invariant-loop-piece l = IsJoined (10 ∷ []) (drop_end is_cr) l.yielded (string_bytes l.out) l.between
