-- How a fault is told: names and fields with single spaces between.
use Rattle.std.specs.Prelude.{ℕ, List, ◌∷◌, ◌++◌, codes}
use Rattle.std.specs.Fmt.{decimal}
use Rattle.driver.specs.declared.outcome.RunFault.{RunFault}
use Rattle.driver.specs.declared.outcome.RunFault.TheVariants.{Usage, BookUnread, BookRefused, ScriptUnread, ScriptRefused, SinkFailed, OutOfMemory}
use Rattle.livemd_read.specs.declared.types.BookError.{BookError}
use Rattle.livemd_read.specs.declared.types.BookError.TheVariants as book
use Rattle.script.specs.declared.error.ScriptError.{ScriptError}
use Rattle.script.specs.declared.error.ScriptError.TheVariants as script
use Rattle.script.specs.declared.error.LineFault.{LineFault}
use Rattle.script.specs.declared.error.LineFault.TheVariants.{NotUtf8, Unbuilt}

-- why a book was refused
abbrev pub book_words : BookError → List ℕ
book_words book.TooLarge = codes "TooLarge"
book_words (book.NotUtf8 at) = codes "NotUtf8 " ++ decimal at
book_words book.TooManySections = codes "TooManySections"
book_words book.TooManyCells = codes "TooManyCells"
book_words book.OutOfMemory = codes "OutOfMemory"

-- what is wrong with a line
abbrev pub kind_word : LineFault → List ℕ
kind_word NotUtf8 = codes "NotUtf8"
kind_word Unbuilt = codes "Unbuilt"

-- why a script was refused
abbrev pub script_words : ScriptError → List ℕ
script_words script.TooLarge = codes "TooLarge"
script_words (script.At line kind) = codes "At " ++ (decimal line ++ (codes " " ++ kind_word kind))
script_words script.OutOfMemory = codes "OutOfMemory"

-- a fault: its name, and why a book or a script was refused
abbrev pub told : RunFault → List ℕ
told Usage = codes "Usage"
told BookUnread = codes "BookUnread"
told (BookRefused error) = codes "BookRefused " ++ book_words error
told ScriptUnread = codes "ScriptUnread"
told (ScriptRefused error) = codes "ScriptRefused " ++ script_words error
told SinkFailed = codes "SinkFailed"
told OutOfMemory = codes "OutOfMemory"
