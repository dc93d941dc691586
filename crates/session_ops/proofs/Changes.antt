-- The notebook's laws of changes, as the states of histories use them.
use Rattle.std.proofs.Common.{◌≡◌}
use Rattle.notebook.specs.declared.parts.Parts.{Parts}
use Rattle.notebook.specs.declared.change.Change.{Change}
use Rattle.notebook.specs.declared.change.Changed.{Changed}
use Rattle.notebook.specs.Change.{Makes, change}
use Rattle.notebook.specs.Rules.{IsNotebook}
use Rattle.notebook.proofs.Keeping.{change-keeps, change-counts}
use Rattle.notebook.proofs.Living.{change-found}
use Rattle.session_ops.proofs.Structures.{HasChanged}

-- what a change makes of the live cells
pub changed-so : (n n' : Parts) (asked : Change) (made : Changed) → IsNotebook n → change n asked ≡ Makes n' made → HasChanged n n' asked
changed-so n n' asked made is e = record { keeps = change-keeps n n' asked made is e; more = (change-counts n n' asked made is e).0; live = λ id. change-found n n' asked made id is e }
