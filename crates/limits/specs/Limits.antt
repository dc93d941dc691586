-- The limits of books, scripts, notebooks and edits.
use Rattle.std.specs.Prelude.{ℕ, ◌^◌}

-- the most bytes of a book or a script
abbrev pub most_file_bytes : ℕ
most_file_bytes = 8388608

-- the most sections of a notebook, cells of its sections, and code cells among them
abbrev pub most_sections : ℕ
most_sections = 1000

abbrev pub most_cells : ℕ
most_cells = 4000

abbrev pub most_code_cells : ℕ
most_code_cells = 1000

-- the most UTF-16 units that an edit puts in
abbrev pub most_inserted : ℕ
most_inserted = 65536

-- the numbers of cells and sections are below this one
abbrev pub numbers_end : ℕ
numbers_end = 2 ^ 63
