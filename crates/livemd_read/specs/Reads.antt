-- What a book is read as, given again for those who read books.
use Rattle.std.specs.Prelude.{ℕ, List}
use Rattle.notebook.specs.declared.parts.Parts.{Parts}
use Rattle.livemd_format.specs.declared.notices.Notice.{Notice}
use Rattle.livemd_format.specs.Items.{Item}
use Rattle.livemd_format.specs.Reads as format

-- the items of all lines
abbrev pub items_of : List ℕ → List Item
items_of bytes = format.items_of bytes

-- the notebook and the notices of a book
abbrev pub Reads : List ℕ → Parts → List Notice → Type 0
Reads bytes n notices = format.Reads bytes n notices
