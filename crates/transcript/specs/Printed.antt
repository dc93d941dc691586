-- Lines that a call puts at the end of a text in memory.
use Rattle.std.specs.Prelude.{◌≡◌, ℕ, List, [], ◌∷◌, ◌++◌, String, string_bytes}
use Rattle.std.specs.declared.alloc.Global.{Global}
pub use Rattle.utf16_text.specs.Appended.{Appends}
use Rattle.transcript.specs.Texts.{as_text}

-- these lines, each ended, and a line
abbrev pub AppendsLines : List (List ℕ) → String Global → String Global → Type 0
AppendsLines lines old new = Appends (as_text lines) old new

abbrev pub AppendsLine : List ℕ → String Global → String Global → Type 0
AppendsLine line old new = Appends (as_text (line ∷ [])) old new
