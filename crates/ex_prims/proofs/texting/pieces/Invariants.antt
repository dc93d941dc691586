use Rattle.std.proofs.Common.{◌≡◌, ◌++◌, length, map}
use denote.Text.{Utf8}
use denote.Shadow.{shadow}
use Rattle.ex_terms.specs.declared.values.Value.TheVariants.{Str}
use Rattle.ex_prims.specs.Texts.{pieces_past}
use Rattle.ex_prims.proofs.texting.pieces.Given as goal

-- the pieces so far and those of the rest are all
abbrev pub invariant-loop-piece : goal.invariant-loop-piece
invariant-loop-piece l = shadow (Utf8 l.rest) × (l.pieces.items ++ map Str (pieces_past l.mark 0 l.rest) ≡ map Str (pieces_past l.mark 0 l.whole))

abbrev pub decreases-loop-piece : goal.decreases-loop-piece
decreases-loop-piece l = length l.rest
