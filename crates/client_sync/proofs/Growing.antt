-- A history that grows by an entry.
use Rattle.std.proofs.Common.{◌≡◌, List, [], ◌∷◌, ◌++◌, refl}
use Rattle.notebook.specs.declared.parts.Parts.{Parts}
use Rattle.session_ops.specs.declared.entry.Entry.{Entry}
use Rattle.session_ops.specs.State.{State, state, state_from, after, opening}

from-append : (s : State) (h : List Entry) (e : Entry) → state_from s (h ++ e ∷ []) ≡ after (state_from s h) e
from-append s [] e = refl
from-append s (x ∷ h) e = from-append (after s x) h e

-- the state after one entry more
pub state-append : (n0 : Parts) (h : List Entry) (e : Entry) → state n0 (h ++ e ∷ []) ≡ after (state n0 h) e
state-append n0 h e = from-append (opening n0) h e
