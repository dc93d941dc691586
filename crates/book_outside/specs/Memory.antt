-- Shelves and sinks in memory.
use Rattle.std.specs.Prelude.{ℕ, ◌==◌, ◌||◌, if◌then◌else◌, Bool, List, ◌++◌, Option, None, Vec, String, string_bytes, is_none}
use Rattle.std.specs.List.{list_any}
use Rattle.std.specs.declared.alloc.Global.{Global}
use Rattle.book_outside.specs.Outside.{Reading, held_under, one_more, with_reading}

-- a book's name and bytes
abbrev pub entry_of : String Global × Vec ℕ Global → List ℕ × List ℕ
entry_of b = (string_bytes b.0, b.1.items)

-- a shelf: its books with their names, the calls that fail, the reads so far in order, and how often it was called and failed
pub record OnShelf : Type 0 where
  pub books : List (List ℕ × List ℕ)
  pub fail : List ℕ
  pub readings : List Reading
  pub calls : ℕ
  pub faults : ℕ

-- whether the call of that number is one that fails
abbrev pub is_listed : List ℕ → ℕ → Bool
is_listed fail call = list_any (λ n. n == call) fail

-- what the call of that number finds under the name: nothing where it is one that fails
abbrev pub found_by : List ℕ → ℕ → List ℕ → List (List ℕ × List ℕ) → Option (List ℕ)
found_by fail call name books = if is_listed fail call then None else held_under name books

-- whether the next read of the name fails: where its call is listed, and where no book has the name
abbrev pub read_fails : OnShelf → List ℕ → Bool
read_fails s name = is_listed s.fail (one_more s.calls) || is_none (held_under name s.books)

-- the shelf after a read of the name that was listed
abbrev pub after_read : OnShelf → List ℕ → OnShelf
after_read s name =
    record s { readings = with_reading s.readings name (read_fails s name); calls = one_more s.calls; faults = if read_fails s name then one_more s.faults else s.faults }

-- a sink: what was written, the calls that fail, and how often it was called and failed
pub record OnSink : Type 0 where
  pub bytes : List ℕ
  pub fail : List ℕ
  pub calls : ℕ
  pub faults : ℕ

-- whether the next write fails: where its call is listed
abbrev pub write_fails : OnSink → Bool
write_fails s = is_listed s.fail (one_more s.calls)

-- the sink after a write that took these bytes
abbrev pub after_write : OnSink → List ℕ → OnSink
after_write s taken = record s { bytes = s.bytes ++ taken; calls = one_more s.calls; faults = if write_fails s then one_more s.faults else s.faults }

-- a sink that never fails: what was written, and how often it was called
pub record OnPlainSink : Type 0 where
  pub bytes : List ℕ
  pub calls : ℕ
