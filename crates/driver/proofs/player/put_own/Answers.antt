use Rattle.std.proofs.Common.{subst, ap, ◌∙◌}
use Rattle.session_ops.specs.Structure.{is_postable}
use Rattle.client_sync.specs.Client.{with_message}
use Rattle.client_sync.specs.Stands.{Mirrors}
use Rattle.driver.proofs.player.put_own.Goals as goal

pub post-requires : goal.post-requires
post-requires c = ap is_postable c.in_ok-copy.ensures ∙ c.requires

pub returns-clause-posted : goal.returns-clause-posted
returns-clause-posted c = λ n0 m mir. subst (λ op. Mirrors n0 c.post.new.self (with_message m op)) c.in_ok-copy.ensures (c.in_ok-post.ensures.posted n0 m mir)
