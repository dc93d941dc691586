-- What a source is read as, and that it is read as nothing else.
use Rattle.std.specs.Prelude.{◌≡◌, ℕ, List}
use Rattle.ex_model.specs.Tree.{Tree}
use Rattle.ex_model.specs.Reads.{Reads}

-- the source reads as these expressions, and as no others
pub record IsReading (source : List ℕ) (trees : List Tree) : Type 0 where
  pub reads : Reads source trees
  pub only : (others : List Tree) → Reads source others → others ≡ trees
