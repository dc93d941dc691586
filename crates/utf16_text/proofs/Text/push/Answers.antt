use Rattle.std.proofs.Common.{◌≡◌, true, ap, ◌∙◌, arith}
use Rattle.std.proofs.lemmas.Str.{IsUtf8-string_bytes}
use Rattle.std.proofs.lemmas.Bool.Decides.{nat_tests}
use Rattle.std.specs.Str.{chars}
use Rattle.std.specs.String.{string_bytes}
use Rattle.utf16_text.proofs.Counts.{unit_count-le-bytes, count_pushed}
use Rattle.utf16_text.proofs.Places.{chars-push}
use Rattle.utf16_text.specs.Units.{is_scalar}
use Rattle.utf16_text.proofs.Text.push.Goals as goal

pub overflow_add-self : goal.overflow_add-self
overflow_add-self c =
    let made = ap chars c.in_ok-push.ensures.bytes ∙ chars-push (string_bytes c.self.inside.text) c.args.c (IsUtf8-string_bytes c.self.inside.text) (grind (arith, nat_tests, c.ranges.c)) in
    let good : is_scalar c.args.c ≡ true = grind (arith, nat_tests, c.ranges.c) in
    omega (
      arith,
      count_pushed _ _ c.args.c _ _ good made c.self.invariant c.len_utf16.ensures.bmp c.len_utf16.ensures.surrogate_pair,
      unit_count-le-bytes (string_bytes c.push.new.self) (IsUtf8-string_bytes c.push.new.self),
    )

pub invariant_of-self-2 : goal.invariant_of-self-2
invariant_of-self-2 c =
    let made = ap chars c.in_ok-push.ensures.bytes ∙ chars-push (string_bytes c.self.inside.text) c.args.c (IsUtf8-string_bytes c.self.inside.text) (grind (arith, nat_tests, c.ranges.c)) in
    let good : is_scalar c.args.c ≡ true = grind (arith, nat_tests, c.ranges.c) in
    count_pushed _ _ c.args.c _ _ good made c.self.invariant c.len_utf16.ensures.bmp c.len_utf16.ensures.surrogate_pair

pub returns-clause-ok : goal.returns-clause-ok
returns-clause-ok c =
    rw (c.in_ok-push.ensures.bytes, ← c.self.view_is)
    (chars-push (string_bytes c.self.inside.text) c.args.c (IsUtf8-string_bytes c.self.inside.text) (grind (arith, nat_tests, c.ranges.c)))
