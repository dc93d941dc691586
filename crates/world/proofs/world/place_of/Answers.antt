use Rattle.std.proofs.Common.{◌∙◌, sym}
use Rattle.world.proofs.Mirroring.{first-at, nobody-more, nobody-at-all, place-passed}
use Rattle.world.proofs.world.place_of.Goals as goal

pub returns-then-number-clause-place : goal.returns-then-number-clause-place
returns-then-number-clause-place c = λ n0 ms all.
    first-at n0 c.args.clients.now ms c.args.number c.loop-place.place c.index-clients-place.result all c.loop-place-test.true c.index-clients-place.is (c.loop-place.invariant.nobody n0 ms all)
    (λ m is. sym (c.number.ensures ∙ is.number) ∙ c.if-number.true)

pub loop-place-preserved : goal.loop-place-preserved
loop-place-preserved c = record {
  nobody = λ n0 ms all.
      nobody-more n0 c.args.clients.now ms c.args.number c.loop-place.place c.index-clients-place.result all c.loop-place-test.true c.index-clients-place.is (c.loop-place.invariant.nobody n0 ms all)
      (λ m is same. c.if-number.false (c.number.ensures ∙ is.number ∙ same));
  first = c.loop-place.invariant.first ∙ place-passed c.args.number c.args.clients.now c.loop-place.place c.index-clients-place.result c.loop-place-test.true c.index-clients-place.is (λ same. c.if-number.false (c.number.ensures ∙ same));
}

pub returns-clause-place : goal.returns-clause-place
returns-clause-place c = λ n0 ms all. nobody-at-all n0 c.args.clients.now ms c.args.number c.loop-place.place all c.loop-place-test.false (c.loop-place.invariant.nobody n0 ms all)
