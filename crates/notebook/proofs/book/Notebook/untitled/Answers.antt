use Rattle.std.proofs.Common.{refl}
use Rattle.std.specs.Str.{chars}
use Rattle.notebook.proofs.book.Notebook.untitled.Goals as goal

pub returns : goal.returns
unfolding chars
returns c = rw (c.in_ok-of.ensures, c.new.ensures, c.new-2.ensures, c.new-3.ensures, c.new-4.ensures, c.new-5.ensures, c.new-6.ensures, c.new-7.ensures) refl
