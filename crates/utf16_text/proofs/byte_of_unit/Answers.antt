use Rattle.std.proofs.Common.{◌≡◌, length, arith}
use Rattle.utf16_text.proofs.Bytes.{unit_more, place_answer, place_end, place_past}
use Rattle.utf16_text.proofs.byte_of_unit.Goals as goal

pub overflow_add-after : goal.overflow_add-after
overflow_add-after c =
    omega (arith, unit_more c.as_bytes-bytes.result.now c.loop-byte.byte _ _ c.as_bytes-bytes.ensures.utf8 c.loop-byte-test.true c.begun_at.ensures.units c.loop-byte.invariant.0)

pub returns-then-at-after : goal.returns-then-at-after
returns-then-at-after c =
    rw (← c.as_bytes-bytes.ensures.value)
    (place_answer c.as_bytes-bytes.result.now _ c.loop-byte.byte _ _ _ c.as_bytes-bytes.ensures.utf8 c.loop-byte-test.true c.begun_at.ensures.units c.loop-byte.invariant.0 c.loop-byte.invariant.1 c.if-at-after.true c.place_before.ensures)

pub returns-then-unit-at : goal.returns-then-unit-at
returns-then-unit-at c =
    let all : c.loop-byte.byte ≡ length c.as_bytes-bytes.result.now = omega (arith, c.loop-byte.auto.byte-end, c.front_within-front.ensures.within) in
    rw (← c.as_bytes-bytes.ensures.value)
    (place_end c.as_bytes-bytes.result.now _ _ c.as_bytes-bytes.ensures.utf8 (rw all at c.loop-byte.invariant.0) c.if-unit-at.true)

pub returns : goal.returns
returns c =
    let all : c.loop-byte.byte ≡ length c.as_bytes-bytes.result.now = omega (arith, c.loop-byte.auto.byte-end, c.front_within-front.ensures.within) in
    rw (← c.as_bytes-bytes.ensures.value)
    (place_past c.as_bytes-bytes.result.now _ _ c.as_bytes-bytes.ensures.utf8 (rw all at c.loop-byte.invariant.0) c.loop-byte.invariant.1 c.if-unit-at.false)
