use Rattle.notebook.proofs.Spots.{spot_at}
use Rattle.notebook.proofs.sections.section_at.Goals as goal

pub returns-then-section-id : goal.returns-then-section-id
returns-then-section-id c = spot_at _ _ _ _ c.loop-at-test.true c.index-sections-at.is c.loop-at.invariant c.if-section-id.true
