use Rattle.delta.proofs.PackerLemmas.{finished}
use Rattle.delta.proofs.packer.Packer.finish.Goals as goal

pub returns : goal.returns
returns c = finished _ _ c.in_ok-flush.ensures
