use Rattle.std.proofs.Common.{Some, ◌∙◌}
use Rattle.ex_source.proofs.Settling.{put_adds, before_same}
use Rattle.ex_source.specs.Settled.{gap_of}
use Rattle.ex_source.proofs.tokens.Settled.put.Goals as goal

pub returns : goal.returns
returns c = λ made before t i h e.
    put_adds c.separate.new.self.tokens.items _ c.args.lexeme t made before (gap_of c.args.self.now.gap) c.drops_after-self.result
    (c.in_ok-separate.ensures made before (Some t) h e (c.drops_before.ensures ∙ before_same i)) i c.in_ok-push.ensures.items c.drops_after-self.ensures
