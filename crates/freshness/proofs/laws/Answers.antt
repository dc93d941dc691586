-- Each law is proved beside the definitions that it speaks of. The worked marks are cited, so that they are checked.
use Rattle.freshness.proofs.Validities.{has-read, counts-at-once}
use Rattle.freshness.proofs.Worked.{worked}
use Rattle.freshness.proofs.laws.Goals as goal

pub returns : goal.returns
returns c = let rows = worked in record { read = has-read; at_once = counts-at-once }
