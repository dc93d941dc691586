use Rattle.std.proofs.Common.{refl, sym, subst, ◌∙◌}
use Rattle.driver.specs.Standing.{HasPostedIf}
use Rattle.driver.proofs.AnswerLaws.{on-ok-both}
use Rattle.driver.proofs.player.post_own.Goals as goal

pub put_own-requires : goal.put_own-requires
put_own-requires c = sym c.is_postable.ensures ∙ c.if-not-is_postable.false

-- it may not be posted
pub returns-then-not-is_postable : goal.returns-then-not-is_postable
returns-then-not-is_postable c = λ n0 m mir. subst (HasPostedIf n0 c.args.name.now c.args.op.now c.args.own.now m _ _) (sym c.if-not-is_postable.true ∙ c.is_postable.ensures) (mir, refl)

pub returns : goal.returns
returns c = λ n0 m mir.
    on-ok-both c.put_own.result
    (λ put printed. subst (HasPostedIf n0 c.args.name.now c.args.op.now c.put_own.new.own m _ _) (sym c.if-not-is_postable.false ∙ c.is_postable.ensures) (put, printed))
    (c.put_own.ensures.posted n0 m mir) c.put_own.ensures.printed
