use Rattle.std.proofs.Common.{◌∙◌, ap, arith}
use Rattle.notebook.specs.Rules.{code_count}
use Rattle.notebook.proofs.Counting.{code-from}
use Rattle.notebook.proofs.sections.section_code_count.Goals as goal

pub code_count-count-requires : goal.code_count-count-requires
code_count-count-requires c =
    let e = code-from _ _ _ c.loop-section-test.true c.section-item.is in
    rw c.as_slice.ensures (omega (arith, e, c.loop-section.invariant, c.requires))

pub overflow_add-count : goal.overflow_add-count
overflow_add-count c =
    let e = code-from _ _ _ c.loop-section-test.true c.section-item.is in
    let here = c.code_count-count.ensures ∙ ap code_count c.as_slice.ensures in
    omega (arith, e, here, c.loop-section.invariant, c.requires)

pub loop-section-preserved : goal.loop-section-preserved
loop-section-preserved c =
    let e = code-from _ _ _ c.loop-section-test.true c.section-item.is in
    let here = c.code_count-count.ensures ∙ ap code_count c.as_slice.ensures in
    omega (arith, e, here, c.loop-section.invariant)
