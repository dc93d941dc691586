-- Real files and the output: what is counted of them.
use Rattle.std.specs.Prelude.{ℕ, List}
use Rattle.book_outside.specs.Outside.{Reading}

-- the files: the reads so far in order, and how often one failed
pub record OnFiles : Type 0 where
  pub readings : List Reading
  pub faults : ℕ

-- the output: how many writes it was asked for, and how often one failed
pub record OnOutput : Type 0 where
  pub calls : ℕ
  pub faults : ℕ
