use Rattle.std.proofs.Common.{◌≡◌, ◌≤◌, ◌*◌, take}
use Rattle.utf16_text.specs.Bytes.{begun_in}
use Rattle.utf16_text.proofs.begun_in.Given as goal

abbrev pub invariant-loop-byte : goal.invariant-loop-byte
invariant-loop-byte l = (l.count ≡ begun_in (take l.byte-index l.block)) × (l.count ≤ 2 * l.byte-index)
