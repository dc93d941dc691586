use Rattle.std.proofs.Common.{refl, Some}
use Rattle.ex_lexer.proofs.SettlingTokens.{put_adds}
use Rattle.ex_lexer.proofs.settled.Settled.put.Goals as goal

pub returns : goal.returns
returns c = λ made before t k s. put_adds _ _ _ t c.args.from c.args.to made before _ _ (c.in_ok-separate.ensures made before (Some t) s (c.drops_before.ensures t k)) (k, refl, refl) c.in_ok-push.ensures.items (c.drops_after-self.ensures t k)
