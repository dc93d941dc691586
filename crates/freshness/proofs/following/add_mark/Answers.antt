use Rattle.std.proofs.Common.{rules}
use Rattle.freshness.proofs.Followed.{mark-known}
use Rattle.freshness.proofs.following.add_mark.Goals as goal

pub returns-then-is_some-clause-ok : goal.returns-then-is_some-clause-ok
returns-then-is_some-clause-ok c = mark-known c.args.cell c.args.marks.now c.place_of.result (rw c.as_slice.ensures at c.place_of.ensures) (search rules)
