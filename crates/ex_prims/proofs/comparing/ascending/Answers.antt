use Rattle.ex_prims.proofs.Sorting.{sorted-is}
use Rattle.ex_prims.proofs.comparing.ascending.Goals as goal

-- the copies in order are the sorted values
pub returns : goal.returns
returns c = sorted-is c.args.items.now c.sort.new.self.items (rw c.in_ok-values.ensures at c.sort.ensures.permutation) (c.in_ok-sort.ensures.sorted)
