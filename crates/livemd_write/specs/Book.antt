-- The tidy form of a notebook and its text, given again for those who write books.
use Rattle.std.specs.Prelude.{ℕ, List}
use Rattle.notebook.specs.declared.parts.Parts.{Parts}
use Rattle.livemd_format.specs.Tidy as format
use Rattle.livemd_format.specs.Write as page

-- what of a notebook a book can tell
abbrev pub tidied : Parts → Parts
tidied n = format.tidied n

-- the text of a tidy notebook
abbrev pub text_of : Parts → List ℕ
text_of n = page.text_of n
