use Rattle.std.proofs.Common.{ap, ◌+◌, min, ◌∙◌, arith}
use Rattle.ex_terms.proofs.Sums.{added, added-all}
use Rattle.ex_terms.proofs.items.size_together.Goals as goal

pub loop-value-init : goal.loop-value-init
loop-value-init c = record { all = omega arith; fits = omega arith }

pub loop-value-preserved : goal.loop-value-preserved
loop-value-preserved c = record {
  all = added c.args.values.now c.loop-value.value-index c.value-item.result c.loop-value.size c.saturating_add-size.result _ c.loop-value-test.true c.value-item.is (c.saturating_add-size.ensures ∙ ap (λ v. min (c.loop-value.size + v) 18446744073709551615) c.size.ensures) c.loop-value.invariant.all;
  fits = omega (arith, c.saturating_add-size.ensures);
}

pub returns : goal.returns
returns c = added-all c.args.values.now c.loop-value.value-index c.loop-value.size _ c.loop-value-test.false c.loop-value.invariant.fits c.loop-value.invariant.all
