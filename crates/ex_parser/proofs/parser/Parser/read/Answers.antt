use Rattle.std.proofs.Common.{◌∙◌, sym}
use Rattle.ex_parser.proofs.Runs.{going_start, going_turn, going_falls, going_done, going_failed}
use Rattle.ex_parser.proofs.parser.Parser.read.Goals as goal

pub loop-self-init : goal.loop-self-init
loop-self-init c = going_start _ _ _ _ c.requires.free

pub loop-self-preserved : goal.loop-self-preserved
loop-self-preserved c = going_turn _ _ _ _ _ _ _ _ _ c.loop-self.invariant (λ st h. c.in_ok-now.ensures st c.requires.tokens h)

pub loop-self-smaller : goal.loop-self-smaller
loop-self-smaller c =
    let g = c.loop-self.invariant in
    going_falls _ _ _ _ _ _ _ _ _ g (λ st h. c.in_ok-now.ensures st c.requires.tokens h) (sym (c.is_over.ensures _ _ _ g.st g.shows) ∙ c.loop-self-test.true)

pub returns-in-Finished : goal.returns-in-Finished
returns-in-Finished c = going_done _ _ _ _ _ _ _ (rw c.in-Finished.is at c.loop-self.invariant)

pub returns-in_default : goal.returns-in_default
returns-in_default c =
    let g = c.loop-self.invariant in
    going_failed _ _ _ _ _ _ g (sym (c.is_over.ensures _ _ _ g.st g.shows) ∙ c.loop-self-test.false) c.in_default.not-Finished
