use Rattle.std.proofs.Common.{◌≡◌, ◌≤◌, ◌*◌, take}
use Rattle.utf16_text.specs.Bytes.{begun_in}
use Rattle.utf16_text.proofs.begun_after.Given as goal

abbrev pub invariant-loop-byte : goal.invariant-loop-byte
invariant-loop-byte l = (l.count ≡ begun_in (take l.byte-index l.byte-items)) × (l.count ≤ 2 * l.byte-index)
