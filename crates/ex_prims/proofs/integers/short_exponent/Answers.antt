use Rattle.std.proofs.Common.{arith}
use Rattle.ex_prims.proofs.IntegerPowers.{as-short}
use Rattle.ex_prims.proofs.integers.short_exponent.Goals as goal

pub returns-else-exponent-lt128 : goal.returns-else-exponent-lt128
returns-else-exponent-lt128 c = as-short c.args.exponent (omega arith)
