use Rattle.ex_source.proofs.Settling.{separated}
use Rattle.ex_source.specs.Settled.{gap_of}
use Rattle.ex_source.proofs.tokens.Settled.separate.Goals as goal

pub returns : goal.returns
returns c = λ made before after h e f.
    separated _ _ made before after (gap_of c.args.self.now.gap) c.args.self.now.drops c.args.drops c.separates.result h e f c.separates.ensures c.if-not-separates.false c.in_ok-push.ensures.items
