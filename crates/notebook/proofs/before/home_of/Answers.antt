use Rattle.std.proofs.Common.{refl}
use Rattle.notebook.proofs.Standing.{home-made, home-more}
use Rattle.notebook.proofs.before.home_of.Goals as goal

pub returns-in-Some : goal.returns-in-Some
returns-in-Some c = home-made _ _ _ _ _ _ c.loop-at-test.true c.index-sections-at.is refl refl c.as_slice.ensures c.loop-at.invariant c.in-Some.ensures

pub loop-at-preserved : goal.loop-at-preserved
loop-at-preserved c = home-more _ _ _ _ _ c.loop-at-test.true c.index-sections-at.is c.as_slice.ensures c.loop-at.invariant c.in_default.ensures
