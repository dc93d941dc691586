use Rattle.std.proofs.Common.{◌≡◌, ◌∷◌, []}
use Rattle.std.specs.Prelude.{◌==◌}
use Rattle.std.specs.List.{slice_split}
use Rattle.std.proofs.lemmas.Iterator.Splits.{YieldsList-from_str_split}
use Rattle.std.proofs.lemmas.Iterator.Consumers.{YieldsList-end}
use Rattle.livemd_write.specs.Texts.{texts}
use Rattle.livemd_write.proofs.Pieces.{join_turn, spaced_made}
use Rattle.livemd_write.proofs.texts.spaced.Goals as goal

pub loop-piece-preserved : goal.loop-piece-preserved
loop-piece-preserved c = join_turn (32 ∷ []) (λ t. t) _ _ _ _ _ _ c.loop-piece.invariant c.in_ok-push_str.ensures.bytes c.in_ok-push_str-2.ensures.bytes

pub returns : goal.returns
returns c =
    let all : texts c.loop-piece.yielded ≡ slice_split (λ b. b == c.args.mark) c.args.text.now = (YieldsList-end (YieldsList-from_str_split c.args.mark c.args.text.now c.requires (cc) (cc) (cc)) c.loop-piece.yielded _ c.loop-piece.yielded_by _ _ c.in-None.is c.next.ensures.steps).0 in
    spaced_made c.args.mark c.args.text.now _ _ all c.loop-piece.invariant.text
