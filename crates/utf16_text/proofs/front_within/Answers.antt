use Rattle.std.proofs.Common.{arith, ap, ◌∙◌}
use Rattle.utf16_text.specs.Bytes.{begun_in}
use Rattle.utf16_text.proofs.Bytes.{front_more, whole_rest}
use Rattle.utf16_text.proofs.front_within.Goals as goal

pub loop-block-preserved : goal.loop-block-preserved
loop-block-preserved c =
    let cut = rw (whole_rest c.args.bytes.now c.loop-block.front.bytes) at c.in-Some.ensures.cases in
    front_more _ _ _ _ 64 _ c.loop-block.invariant cut.0 (c.begun_in-more.ensures ∙ ap begun_in cut.1) (omega arith)
