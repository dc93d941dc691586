-- Texts as they are written in a script: JSON strings.
use Rattle.std.specs.Prelude.{◌≡◌, ℕ, List, Some}
use Rattle.std.specs.Str.{chars}
use Rattle.serde_json.specs.Data.{string}
use Rattle.serde_json.specs.Read.{read}

-- the bytes are JSON of a string of these characters
pub record IsText (bytes : List ℕ) (text : List ℕ) : Type 0 where
  pub inside : List ℕ
  pub json : read bytes ≡ Some (string inside)
  pub characters : text ≡ chars inside
