-- The reads that a shelf keeps.
use Rattle.std.specs.Prelude.{List, map, string_bytes}
use Rattle.book_outside.specs.Outside.{Reading}
use Rattle.book_outside.specs.declared.readings.NamedRead.{NamedRead}

-- a read, by its name's bytes
abbrev pub reading_of : NamedRead → Reading
reading_of r = record { name = string_bytes r.name; failed = r.failed }

-- the reads in order
abbrev pub readings_of : List NamedRead → List Reading
readings_of reads = map reading_of reads
