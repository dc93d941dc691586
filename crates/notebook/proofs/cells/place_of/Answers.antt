use Rattle.notebook.proofs.Finding.{found-section, place_at}
use Rattle.notebook.proofs.cells.place_of.Goals as goal

pub returns-in-Some : goal.returns-in-Some
returns-in-Some c =
    place_at _ _ _ _ _ c.loop-section-test.true c.index-sections-section.is c.loop-section.invariant (rw c.as_slice.ensures at c.in-Some.ensures)

pub loop-section-preserved : goal.loop-section-preserved
loop-section-preserved c =
    found-section _ _ _ _ c.loop-section-test.true c.index-sections-section.is c.loop-section.invariant (rw c.as_slice.ensures at c.in_default.ensures)
