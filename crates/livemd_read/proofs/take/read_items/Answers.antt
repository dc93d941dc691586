use Rattle.std.proofs.Common.{◌≡◌, ℕ, ◌+◌, suc, [], ◌∷◌, length-append, refl, ap, ◌∙◌, arith}
use Rattle.std.specs.Str.Lines as str
use Rattle.std.proofs.lemmas.Iterator.Splits.{YieldsList-from_lines}
use Rattle.std.proofs.lemmas.Iterator.Consumers.{YieldsList-end}
use Rattle.livemd_lines.specs.Lines.{lines}
use Rattle.livemd_lines.specs.Kinds.{kinds_of}
use Rattle.livemd_lines.specs.Views.{line_view}
use Rattle.livemd_lines.proofs.Walks.{leaves_first, leaves_last, leaves_on, texts}
use Rattle.livemd_format.specs.Items.{items}
use Rattle.livemd_read.specs.Resume.{resume}
use Rattle.livemd_read.specs.Views.{cut_of}
use Rattle.livemd_read.proofs.take.read_items.Goals as goal

pub loop-piece-init : goal.loop-piece-init
loop-piece-init c = record { number = refl; done = c.new-done.ensures.done; all = rw c.new-done.ensures.none (leaves_first c.args.text.now (items [] 1 0)) }

pub loop-piece-preserved : goal.loop-piece-preserved
loop-piece-preserved c =
    let next : c.loop-piece.number + 1 ≡ suc c.loop-piece.number = omega arith in
    record {
      number = omega (arith, c.loop-piece.invariant.number, length-append c.loop-piece.yielded (c.in-Some.piece ∷ []));
      done = c.in_ok-pending.ensures.done;
      all = leaves_on
          c.args.text.now
          c.loop-piece.yielded
          c.in-Some.piece
          (line_view c.in_ok-line.line)
          c.loop-piece.around
          c.open_after-around.result
          (resume (cut_of c.loop-piece.done) c.loop-piece.pending c.loop-piece.number)
          (resume (cut_of c.take.new.done) c.in_ok-pending.pending (c.loop-piece.number + 1))
          (items [] 1 0 (kinds_of (lines c.args.text.now)))
          c.loop-piece.invariant.all
          c.in_ok-line.ensures
          c.open_after-around.ensures
          (λ ls. ap (λ (n : ℕ). resume (cut_of c.take.new.done) c.in_ok-pending.pending n ls) next ∙ c.in_ok-pending.ensures.step ls);
    }

pub returns : goal.returns
returns c =
    let all : texts c.loop-piece.yielded ≡ str.lines c.args.text.now = (YieldsList-end (YieldsList-from_lines c.args.text.now (cc)) c.loop-piece.yielded _ c.loop-piece.yielded_by _ _ c.in-None.is c.next.ensures.steps).0 in
    c.in_ok-finish.ensures.ok c.loop-piece.number
    ∙ leaves_last
    c.args.text.now
    c.loop-piece.yielded
    c.loop-piece.around
    (resume (cut_of c.loop-piece.done) c.loop-piece.pending c.loop-piece.number)
    (items [] 1 0 (kinds_of (lines c.args.text.now)))
    c.loop-piece.invariant.all
    all
