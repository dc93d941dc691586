use Rattle.delta_laws.proofs.Laws.{nothing_law}
use Rattle.delta_laws.proofs.nothing.Goals as goal

pub returns-clause-laws : goal.returns-clause-laws
returns-clause-laws c = rw c.in-Ok.ensures.0 (rw c.new.ensures.items nothing_law)
