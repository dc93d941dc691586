use Rattle.std.proofs.Common.{◌≡◌, ◌++◌, sym, ◌∙◌}
use Rattle.std.specs.Str.Lines as str
use Rattle.std.proofs.lemmas.Iterator.Splits.{YieldsList-from_lines}
use Rattle.std.proofs.lemmas.Iterator.Consumers.{YieldsList-end}
use Rattle.std.proofs.lemmas.List.{append-nil}
use Rattle.livemd_lines.specs.Lines.{lines}
use Rattle.livemd_lines.specs.Kinds.{kinds_of}
use Rattle.livemd_lines.specs.Views.{lines_view}
use Rattle.livemd_lines.proofs.Walks.{texts, leaves_first, leaves_last}
use Rattle.livemd_lines.proofs.kinds.lines.Goals as goal

pub loop-piece-init : goal.loop-piece-init
loop-piece-init c = rw c.new-done.ensures.items (leaves_first c.args.text.now (λ ls. ls))

pub returns : goal.returns
returns c =
    let all : texts c.loop-piece.yielded ≡ str.lines c.args.text.now = (YieldsList-end (YieldsList-from_lines c.args.text.now (cc)) c.loop-piece.yielded _ c.loop-piece.yielded_by _ _ c.in-None.is c.next.ensures.steps).0 in
    sym (append-nil (lines_view c.loop-piece.done.items))
    ∙ leaves_last c.args.text.now c.loop-piece.yielded c.loop-piece.around (λ ls. lines_view c.loop-piece.done.items ++ ls) (kinds_of (lines c.args.text.now)) c.loop-piece.invariant all
