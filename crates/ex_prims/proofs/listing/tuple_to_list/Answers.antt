use Rattle.ex_prims.proofs.ListShared.{to-list}
use Rattle.ex_prims.proofs.listing.tuple_to_list.Goals as goal

pub returns-in_ok-copy-in-Tuple : goal.returns-in_ok-copy-in-Tuple
returns-in_ok-copy-in-Tuple c = to-list c.args.value.now c.in-Tuple.items c.in_ok-copy-in-Tuple.field-0 c.in-Tuple.is c.in_ok-copy-in-Tuple.ensures
