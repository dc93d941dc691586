use Rattle.ex_prims.proofs.ListShared.{to-tuple}
use Rattle.ex_prims.proofs.listing.list_to_tuple.Goals as goal

pub returns-in_ok-copy-in-List : goal.returns-in_ok-copy-in-List
returns-in_ok-copy-in-List c = to-tuple c.args.value.now c.in-List.items c.in_ok-copy-in-List.field-0 c.in-List.is c.in_ok-copy-in-List.ensures
