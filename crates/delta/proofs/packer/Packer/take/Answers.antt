use Rattle.std.proofs.Common.{arith}
use Rattle.delta.proofs.PackerLemmas.{take_drops, head_reach_kept, head_reach_gone}
use Rattle.delta.proofs.packer.Packer.take.Goals as goal

pub keep-requires : goal.keep-requires
keep-requires c = omega (arith, head_reach_kept _ _ c.in-Kept.is)

pub overflow_add-self : goal.overflow_add-self
overflow_add-self c = omega (arith, head_reach_gone _ _ c.in-Gone.is)

pub returns-in-Gone : goal.returns-in-Gone
returns-in-Gone c = rw c.in-Gone.is (take_drops c.args.self.now c.in-Gone.n)
