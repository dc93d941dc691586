-- What a book is read as.
use Rattle.std.specs.Prelude.{◌≡◌, ℕ, List, []}
use Rattle.notebook.specs.declared.parts.Parts.{Parts}
use Rattle.livemd_lines.specs.Lines.{lines}
use Rattle.livemd_lines.specs.Kinds.{kinds_of}
use Rattle.livemd_format.specs.declared.notices.Notice.{Notice}
use Rattle.livemd_format.specs.Items.{Item, items}
use Rattle.livemd_format.specs.Made.{notebook_of, notices_of}

-- the items of all lines, with nothing cut before
abbrev pub items_of : List ℕ → List Item
items_of bytes = items [] 1 0 (kinds_of (lines bytes))

-- the notebook and the notices of a book: those of its items
pub record Reads (bytes : List ℕ) (n : Parts) (notices : List Notice) : Type 0 where
  pub notebook : n ≡ notebook_of (items_of bytes)
  pub notes : notices ≡ notices_of (items_of bytes)
