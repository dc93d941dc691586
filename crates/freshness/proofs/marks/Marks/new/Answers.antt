use Rattle.std.proofs.Common.{[], ap, ◌∙◌}
use Rattle.freshness.specs.Following.{followed}
use Rattle.freshness.proofs.Followed.{made-new, new-marked}
use Rattle.freshness.proofs.marks.Marks.new.Goals as goal

pub returns : goal.returns
returns c =
    made-new c.args.book.now _ c.in_ok-copy.ensures
    (c.in_ok-follow.ensures.ok ∙ (ap (λ ms. followed c.in_ok-copy.copy ms) c.new-marks.ensures ∙ ap (λ n. followed n []) c.in_ok-copy.ensures))

pub invariant_of-result : goal.invariant_of-result
invariant_of-result c = new-marked c.args.book.now _ (returns c)
