use Rattle.notebook.proofs.Sources.{IsNotebook-with_source}
use Rattle.notebook.proofs.book.Notebook.set_source.Goals as goal

pub invariant_of-self : goal.invariant_of-self
invariant_of-self c = rw c.set_source.ensures.set (IsNotebook-with_source _ _ _ c.self.invariant)
