-- The entry that comes next in a session.
use Rattle.std.specs.Prelude.{◌≡◌}
use Rattle.notebook.specs.declared.parts.Parts.{Parts}
use Rattle.session_ops.specs.declared.entry.Entry.{Entry}
use Rattle.session_ops.specs.State.{State, reply}

-- the notebook is the state's, and the entry has the answer that a call gets there
pub record IsNextOf (s : State) (n : Parts) (e : Entry) : Type 0 where
  pub book : n ≡ s.book
  pub right : e.reply ≡ reply s e.call
