use Rattle.std.proofs.Common.{refl}
use Rattle.delta.proofs.PackerLemmas.{take_puts}
use Rattle.delta.proofs.packer.Packer.put.Goals as goal

pub returns : goal.returns
returns c = take_puts _ _ _ c.in_ok-extend_from_slice.ensures.items refl refl refl
