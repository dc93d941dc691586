use Rattle.std.proofs.Common.{refl}
use Rattle.std.proofs.lemmas.Str.{chars-nil}
use Rattle.utf16_text.proofs.Text.with_room.Goals as goal

pub invariant_of-result : goal.invariant_of-result
invariant_of-result c = rw (c.in_ok-with_capacity.ensures.bytes, chars-nil) refl

pub returns : goal.returns
returns c = rw c.in_ok-with_capacity.ensures.bytes chars-nil
