use Rattle.notebook.proofs.Making.{made-section_name}
use Rattle.notebook.proofs.edits.set_section_name.Goals as goal

pub returns : goal.returns
returns c = made-section_name _ _ _ _ _ c.requires (rw c.as_slice.ensures at c.in-Some.ensures) c.item_mut.ensures.value
