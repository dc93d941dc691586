-- The forms of a script's lines.
use Rattle.std.specs.Prelude.{◌≡◌, ℕ, List, [], codes, slice_get, Option, Some, None}
use Rattle.script.specs.declared.line.ScriptLine.{ScriptLine}
use Rattle.script.specs.declared.line.ScriptLine.TheVariants.{Join, Leave, Edit, Post, PostReport, Send, Recv, Sync, Show, Pending, Settle, Cells, Book, RawJoin, Raw}
use Rattle.script.specs.declared.line.Count.{Count}
use Rattle.script.specs.declared.line.Count.TheVariants.{AtMost, All}
use Rattle.script.specs.Words.{first_word, after_word}
use Rattle.script.specs.Number.{IsNumber}
use Rattle.script.specs.Delta.{IsDelta}
use Rattle.script.specs.Ops.{IsOp, IsRawOp, IsReport}

-- the word with which a line begins
abbrev pub word_of : ScriptLine → List ℕ
word_of (Join client) = codes "join"
word_of (Leave client) = codes "leave"
word_of (Edit client cell delta) = codes "edit"
word_of (Post client op) = codes "post"
word_of (PostReport client cell) = codes "post"
word_of (Send client count) = codes "send"
word_of (Recv client count) = codes "recv"
word_of (Sync) = codes "sync"
word_of (Show client) = codes "show"
word_of (Pending client cell) = codes "pending"
word_of (Settle) = codes "settle"
word_of (Cells) = codes "cells"
word_of (Book) = codes "book"
word_of (RawJoin client) = codes "rawjoin"
word_of (Raw client op) = codes "raw"

-- the client whose name a line has
abbrev pub client_of : ScriptLine → Option ℕ
client_of (Join client) = Some client
client_of (Leave client) = Some client
client_of (Edit client cell delta) = Some client
client_of (Post client op) = Some client
client_of (PostReport client cell) = Some client
client_of (Send client count) = Some client
client_of (Recv client count) = Some client
client_of (Sync) = None
client_of (Show client) = Some client
client_of (Pending client cell) = Some client
client_of (Settle) = None
client_of (Cells) = None
client_of (Book) = None
client_of (RawJoin client) = Some client
client_of (Raw client op) = Some client

-- the text is the count: a number or `all`
abbrev pub IsCount : List ℕ → Count → Type 0
IsCount text (AtMost most) = IsNumber text most
IsCount text (All) = text ≡ codes "all"

-- what a line ends with, after its word and its client's name
abbrev pub IsEnd : List ℕ → ScriptLine → Type 0
IsEnd text (Join client) = text ≡ []
IsEnd text (Leave client) = text ≡ []
IsEnd text (Edit client cell delta) = IsNumber (first_word text) cell × IsDelta (after_word text) delta
IsEnd text (Post client op) = IsOp text op
IsEnd text (PostReport client cell) = IsReport text cell
IsEnd text (Send client count) = IsCount text count
IsEnd text (Recv client count) = IsCount text count
IsEnd text (Sync) = text ≡ []
IsEnd text (Show client) = text ≡ []
IsEnd text (Pending client cell) = IsNumber text cell
IsEnd text (Settle) = text ≡ []
IsEnd text (Cells) = text ≡ []
IsEnd text (Book) = text ≡ []
IsEnd text (RawJoin client) = text ≡ []
IsEnd text (Raw client op) = IsRawOp text op

-- the client's name is the word; names are ASCII, so their characters are their bytes
abbrev pub IsNamed : List (List ℕ) → ℕ → List ℕ → Type 0
IsNamed names client word = slice_get names client ≡ Some word

-- what follows a line's word: its client's name, where it has one, and its end
abbrev pub IsRest : List (List ℕ) → List ℕ → Option ℕ → ScriptLine → Type 0
IsRest names text None line = IsEnd text line
IsRest names text (Some client) line = IsNamed names client (first_word text) × IsEnd (after_word text) line

-- the text is this line: `join NAME`, `leave NAME`, `edit NAME CELL DELTA`, `post NAME OP`, `post NAME report CELL`,
-- `send NAME COUNT`, `recv NAME COUNT`, `sync`, `show NAME`, `pending NAME CELL`, `settle`, `cells`, `book`,
-- `rawjoin NAME` or `raw NAME RAWOP`
abbrev pub IsLine : List (List ℕ) → List ℕ → ScriptLine → Type 0
IsLine names text line = (first_word text ≡ word_of line) × IsRest names (after_word text) (client_of line) line
