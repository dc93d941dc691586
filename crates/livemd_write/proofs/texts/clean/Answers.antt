use Rattle.std.proofs.Common.{◌≡◌, ◌∷◌, ◌++◌, [], lit<, map, ap, ◌∙◌}
use Rattle.std.specs.List.{slice_split}
use Rattle.std.specs.String.{string_bytes}
use Rattle.std.proofs.lemmas.Iterator.Splits.{YieldsList-from_str_split}
use Rattle.std.proofs.lemmas.Iterator.Consumers.{YieldsList-end}
use Rattle.blanks.specs.Blanks.{drop_end, is_cr}
use Rattle.livemd_lines.specs.Lines.{is_lf}
use Rattle.livemd_write.specs.Texts.{texts}
use Rattle.livemd_write.proofs.Pieces.{clean_made, join_turn}
use Rattle.livemd_write.proofs.texts.clean.Goals as goal

pub loop-piece-preserved : goal.loop-piece-preserved
loop-piece-preserved c = join_turn (10 ∷ []) (drop_end is_cr) _ _ _ _ _ _ c.loop-piece.invariant c.in_ok-push_str.ensures.bytes (c.in_ok-push_str-2.ensures.bytes ∙ ap (λ w. string_bytes c.push_str.new.self ++ w) c.without_crs.ensures)

pub returns : goal.returns
returns c =
    let all : texts c.loop-piece.yielded ≡ slice_split is_lf c.args.text.now = (YieldsList-end (YieldsList-from_str_split 10 c.args.text.now (lit< tt) (cc) (cc) (cc)) c.loop-piece.yielded _ c.loop-piece.yielded_by _ _ c.in-None.is c.next.ensures.steps).0 in
    clean_made c.args.text.now _ _ (ap (map (drop_end is_cr)) all) c.loop-piece.invariant.text
