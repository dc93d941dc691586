-- Why a book isn't read.
use Rattle.limits.specs.Limits.{most_file_bytes, most_sections}
use Rattle.std.specs.Prelude.{◌≡◌, ℕ, ◌<◌, List, length, IsUtf8}
use Rattle.std.specs.Str.Lossy.{utf8_valid_len}
use Rattle.livemd_format.specs.Accepts.{HasFewSections, HasManyCells, IsBookText, IsSmall}
use Rattle.livemd_format.specs.Made.{notebook_of}
use Rattle.livemd_format.specs.Reads.{items_of}
use Rattle.livemd_read.specs.declared.types.BookError.{BookError}
use Rattle.livemd_read.specs.declared.types.BookError.TheVariants.{TooLarge, NotUtf8, TooManySections, TooManyCells, OutOfMemory}

-- why a book isn't read: the first cause in the order of the checks; want of memory is told only of the text of a book
abbrev pub IsBookCause : List ℕ → BookError → Type 0
IsBookCause bytes TooLarge = most_file_bytes < length bytes
IsBookCause bytes (NotUtf8 at) = IsSmall bytes × ((¬ IsUtf8 bytes) × (at ≡ utf8_valid_len bytes))
IsBookCause bytes TooManySections = IsBookText bytes × (most_sections < length (notebook_of (items_of bytes)).sections)
IsBookCause bytes TooManyCells = IsBookText bytes × (HasFewSections (notebook_of (items_of bytes)) × HasManyCells (notebook_of (items_of bytes)))
IsBookCause bytes OutOfMemory = IsBookText bytes
