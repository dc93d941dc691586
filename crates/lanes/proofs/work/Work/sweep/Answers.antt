use Rattle.std.proofs.Common.{◌≡◌, ◌<◌, length, arith, ap, subst, ◌∙◌}
use Rattle.notebook.specs.Rules.{IsNotebook}
use Rattle.lanes.specs.Changes.{swept_mark}
use Rattle.lanes.proofs.Lists.{half-start, half-length}
use Rattle.lanes.proofs.Sweeping.{swept-turn, swept-done}
use Rattle.lanes.proofs.work.Work.sweep.Goals as goal

pub loop-at-init : goal.loop-at-init
loop-at-init c = (ap (λ ms. record c.args.self.now { marks = ms }) (half-start _ _), c.len-at-end.ensures)

pub sweep_at-requires : goal.sweep_at-requires
sweep_at-requires c =
    let size : length c.loop-at.self.marks ≡ length c.args.self.now.marks = ap (λ w. length w.marks) c.loop-at.invariant.0 ∙ half-length (swept_mark c.args.book.now c.args.self.now) c.loop-at.at c.args.self.now.marks in
    omega (arith, size, c.loop-at.invariant.1, c.loop-at-test.true)

pub loop-at-preserved : goal.loop-at-preserved
loop-at-preserved c =
    let book : IsNotebook c.args.book.now = subst IsNotebook c.parts-rules.ensures.parts c.parts-rules.ensures.rules in
    let within : c.loop-at.at < length c.args.self.now.marks = omega (arith, c.loop-at.invariant.1, c.loop-at-test.true) in
    (swept-turn c.args.book.now c.args.self.now c.loop-at.self c.sweep_at.new.self c.loop-at.at book c.loop-at.invariant.0 within c.sweep_at.ensures.running c.sweep_at.ensures.started c.sweep_at.ensures.mark, c.loop-at.invariant.1)

pub returns : goal.returns
returns c = swept-done c.args.book.now c.args.self.now c.loop-at.self c.loop-at.at c.loop-at.invariant.0 (omega (arith, c.loop-at.invariant.1, c.loop-at-test.false))
