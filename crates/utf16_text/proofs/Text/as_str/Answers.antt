use Rattle.std.proofs.Common.{sym}
use Rattle.std.specs.String.{string_bytes}
use Rattle.std.proofs.lemmas.Str.{encodes-chars, IsUtf8-string_bytes}
use Rattle.utf16_text.proofs.Scalars.{chars-AreScalars}
use Rattle.utf16_text.proofs.Text.as_str.Goals as goal

pub returns-clause-bytes : goal.returns-clause-bytes
returns-clause-bytes c =
    rw (c.as_str.ensures.value, ← c.self.view_is) (sym (encodes-chars (string_bytes c.self.inside.text) (IsUtf8-string_bytes c.self.inside.text)))

pub returns-clause-scalars : goal.returns-clause-scalars
returns-clause-scalars c = rw (← c.self.view_is) (chars-AreScalars (string_bytes c.self.inside.text) (IsUtf8-string_bytes c.self.inside.text))
