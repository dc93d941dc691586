use Rattle.std.proofs.Common.{◌∙◌, sym}
use Rattle.ex_source.proofs.Going.{going_start, going_turn, going_falls, going_done, going_failed}
use Rattle.ex_source.proofs.parser.Parser.read.Goals as goal

pub loop-self-init : goal.loop-self-init
loop-self-init c = λ all a. going_start _ _ all _ c.requires.free

pub loop-self-preserved : goal.loop-self-preserved
loop-self-preserved c = λ all a. going_turn _ _ _ _ _ all _ _ _ (c.loop-self.invariant all a) (λ st h. c.in_ok-now.ensures all st a h)

pub loop-self-smaller : goal.loop-self-smaller
loop-self-smaller c =
    let all = c.requires.shown.0 in
    let a = c.requires.shown.1 in
    going_falls _ _ _ _ _ _ all _ _ _ a (c.loop-self.invariant all a) (λ st h. c.in_ok-now.ensures all st a h) (sym c.is_over.ensures ∙ c.loop-self-test.true)

pub returns-in-Finished : goal.returns-in-Finished
returns-in-Finished c = λ all a. going_done _ _ c.loop-self.self.stack.items all _ c.in-Finished.at c.in-Finished.i (rw c.in-Finished.is at c.loop-self.invariant all a)

pub returns-in_default : goal.returns-in_default
returns-in_default c = λ all a. going_failed _ _ _ all _ _ (sym c.is_over.ensures ∙ c.loop-self-test.false) c.in_default.not-Finished (c.loop-self.invariant all a)
