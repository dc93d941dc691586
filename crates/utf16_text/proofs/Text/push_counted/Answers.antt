use Rattle.std.proofs.Common.{◌≡◌, ◌++◌, ap, ◌∙◌, arith}
use Rattle.std.specs.Str.{chars}
use Rattle.std.specs.String.{string_bytes}
use Rattle.std.proofs.lemmas.Str.{chars-append, IsUtf8-string_bytes}
use Rattle.utf16_text.proofs.Counts.{unit_count-le-bytes, unit_count-append}
use Rattle.utf16_text.proofs.Scalars.{chars-AreScalars}
use Rattle.utf16_text.specs.Units.{unit_count}
use Rattle.utf16_text.proofs.Text.push_counted.Goals as goal

pub returns-in_err-push_str-clause-scalars : goal.returns-in_err-push_str-clause-scalars
returns-in_err-push_str-clause-scalars c = chars-AreScalars (string_bytes c.push_str.new.self) (IsUtf8-string_bytes c.push_str.new.self)

pub overflow_add-self : goal.overflow_add-self
overflow_add-self c =
    let made : chars (string_bytes c.push_str.new.self) ≡ chars (string_bytes c.self.inside.text) ++ chars c.args.s.now = ap chars c.in_ok-push_str.ensures.bytes ∙ chars-append (string_bytes c.self.inside.text) c.args.s.now (IsUtf8-string_bytes c.self.inside.text) in
    omega (arith, ap unit_count made, unit_count-append (chars (string_bytes c.self.inside.text)) (chars c.args.s.now), c.self.invariant, c.requires, unit_count-le-bytes (string_bytes c.push_str.new.self) (IsUtf8-string_bytes c.push_str.new.self))

pub invariant_of-self-2 : goal.invariant_of-self-2
invariant_of-self-2 c =
    let made : chars (string_bytes c.push_str.new.self) ≡ chars (string_bytes c.self.inside.text) ++ chars c.args.s.now = ap chars c.in_ok-push_str.ensures.bytes ∙ chars-append (string_bytes c.self.inside.text) c.args.s.now (IsUtf8-string_bytes c.self.inside.text) in
    omega (arith, ap unit_count made, unit_count-append (chars (string_bytes c.self.inside.text)) (chars c.args.s.now), c.self.invariant, c.requires)

pub returns-clause-ok : goal.returns-clause-ok
returns-clause-ok c =
    rw (c.in_ok-push_str.ensures.bytes, ← c.self.view_is)
    (chars-append (string_bytes c.self.inside.text) c.args.s.now (IsUtf8-string_bytes c.self.inside.text))

pub returns-clause-scalars : goal.returns-clause-scalars
returns-clause-scalars c = chars-AreScalars (string_bytes c.push_str.new.self) (IsUtf8-string_bytes c.push_str.new.self)
