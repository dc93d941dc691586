use Rattle.std.proofs.Common.{arith}
use Rattle.utf16_text.proofs.Bytes.{front_all}
use Rattle.utf16_text.proofs.Counts.{unit_count-le-bytes}
use Rattle.utf16_text.proofs.unit_len.Goals as goal

pub overflow_add-result : goal.overflow_add-result
overflow_add-result c = omega (arith, front_all c.as_bytes-bytes.result.now _ _ _ _ c.as_bytes-bytes.ensures.utf8 c.front_within-front.ensures c.begun_after.ensures, unit_count-le-bytes c.as_bytes-bytes.result.now c.as_bytes-bytes.ensures.utf8, c.type_inv.s)

pub returns : goal.returns
returns c = rw (← c.as_bytes-bytes.ensures.value) (front_all c.as_bytes-bytes.result.now _ _ _ _ c.as_bytes-bytes.ensures.utf8 c.front_within-front.ensures c.begun_after.ensures)
