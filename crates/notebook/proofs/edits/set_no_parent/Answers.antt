use Rattle.notebook.proofs.Making.{made-no-parent}
use Rattle.notebook.proofs.edits.set_no_parent.Goals as goal

pub returns : goal.returns
returns c = made-no-parent _ _ _ _ c.requires (rw c.as_slice.ensures at c.in-Some.ensures) c.item_mut.ensures.value
