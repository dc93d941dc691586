use Rattle.std.proofs.Common.{◌≡◌, ◌<◌, ◌-◌, false, get_or, arith}
use native.Mathlib.Nat.{sub-zero}
use Rattle.blanks.specs.Blanks.{is_space_or_tab}
use Rattle.blanks.proofs.Trims.{cut_back, cut_ends}
use Rattle.blanks.proofs.trim.without_end_blanks.Goals as goal
use Rattle.blanks.proofs.trim.without_end_blanks.Goals.{then-loop-end-test+else-is_space_or_tab, else-loop-end-test}

pub loop-end-preserved : goal.loop-end-preserved
loop-end-preserved c = record {
  within = omega (arith, c.loop-end.invariant.within);
  blank = λ _. (cc);
  kept = cut_back is_space_or_tab c.args.text.now c.loop-end.end (omega arith) c.loop-end.invariant.within (cc) c.loop-end.invariant.kept;
}

pub returns : goal.returns
returns c =
    let stops : 0 < c.loop-end.end → is_space_or_tab (get_or c.args.text.now (c.loop-end.end - 1) 0) ≡ false =
    elim c.loop-end-test.branch [ then-loop-end-test+else-is_space_or_tab w ↦ λ _. (cc) | else-loop-end-test w ↦ λ h. absurd (omega arith) ] in
    rw (c.range.ensures.value, sub-zero) (cut_ends is_space_or_tab c.args.text.now c.loop-end.end c.loop-end.invariant.within stops c.loop-end.invariant.kept)
