use Rattle.std.proofs.Common.{ap, ◌∙◌}
use Rattle.freshness.specs.Marked.{Marked}
use Rattle.freshness.specs.Following.{followed}
use Rattle.freshness.proofs.Followed.{made-brought, brought-marked}
use Rattle.freshness.proofs.marks.Marks.changed.Goals as goal

pub returns-clause-ok : goal.returns-clause-ok
returns-clause-ok c =
    made-brought c.args.book.now c.args.self.now _ c.in_ok-copy.ensures
    (c.in_ok-follow.ensures.ok ∙ (ap (λ ms. followed c.in_ok-copy.copy ms) (ap (λ (m : Marked). m.marks) c.self.view_is) ∙ ap (λ n. followed n c.args.self.now.marks) c.in_ok-copy.ensures))

pub invariant_of-self-2 : goal.invariant_of-self-2
invariant_of-self-2 c = brought-marked c.args.book.now c.args.self.now _ (returns-clause-ok c)
