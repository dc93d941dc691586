use Rattle.delta.proofs.PackerLemmas.{take_keeps}
use Rattle.delta.proofs.packer.Packer.keep.Goals as goal

pub returns : goal.returns
returns c = take_keeps c.args.self.now c.flush.new.self c.args.n c.if-n-eq0.false c.in_ok-flush.ensures
