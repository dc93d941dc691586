use Rattle.std.proofs.Common.{◌≡◌, ◌++◌, ◌∷◌, refl, sym, ◌∙◌}
use Rattle.std.specs.Str.Lines as str
use Rattle.std.specs.String.{string_bytes}
use Rattle.std.proofs.lemmas.List.{append-nil}
use Rattle.std.proofs.lemmas.Iterator.Splits.{YieldsList-from_lines}
use Rattle.std.proofs.lemmas.Iterator.Consumers.{YieldsList-end}
use Rattle.livemd_lines.specs.Lines.{lines}
use Rattle.livemd_lines.specs.Kinds.{kinds_of}
use Rattle.livemd_lines.specs.Views.{line_view}
use Rattle.livemd_lines.specs.Written.{text_of_lines}
use Rattle.livemd_lines.proofs.Walks.{leaves_first, leaves_last, leaves_on, texts}
use Rattle.livemd_format.specs.Write.{forced_lines}
use Rattle.livemd_write.proofs.Blocks.{forced_turn}
use Rattle.livemd_write.proofs.page.push_lines.Goals as goal

pub loop-piece-init : goal.loop-piece-init
loop-piece-init c = leaves_first c.args.source.now (λ ks. string_bytes c.args.out.now ++ text_of_lines (forced_lines ks))

pub loop-piece-preserved : goal.loop-piece-preserved
loop-piece-preserved c =
    leaves_on
    c.args.source.now
    c.loop-piece.yielded
    c.in-Some.piece
    (line_view c.in_ok-line.line)
    c.loop-piece.around
    c.open_after-around.result
    (λ ks. string_bytes c.loop-piece.out ++ text_of_lines (forced_lines ks))
    (λ ks. string_bytes c.push_forced.new.out ++ text_of_lines (forced_lines ks))
    (string_bytes c.args.out.now ++ text_of_lines (forced_lines (kinds_of (lines c.args.source.now))))
    c.loop-piece.invariant
    c.in_ok-line.ensures
    c.open_after-around.ensures
    (λ ls. forced_turn (line_view c.in_ok-line.line ∷ ls) ls (line_view c.in_ok-line.line) (string_bytes c.loop-piece.out) (string_bytes c.push_forced.new.out) _ refl refl c.in_ok-push_forced.ensures.ok)

pub returns : goal.returns
returns c =
    let all : texts c.loop-piece.yielded ≡ str.lines c.args.source.now = (YieldsList-end (YieldsList-from_lines c.args.source.now (cc)) c.loop-piece.yielded _ c.loop-piece.yielded_by _ _ c.in-None.is c.next.ensures.steps).0 in
    record {
      ok = sym (append-nil (string_bytes c.loop-piece.out))
          ∙ leaves_last
          c.args.source.now
          c.loop-piece.yielded
          c.loop-piece.around
          (λ ks. string_bytes c.loop-piece.out ++ text_of_lines (forced_lines ks))
          (string_bytes c.args.out.now ++ text_of_lines (forced_lines (kinds_of (lines c.args.source.now))))
          c.loop-piece.invariant
          all;
    }
