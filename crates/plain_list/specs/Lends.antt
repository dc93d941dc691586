-- What a list ends as, where an element of it was lent.
use Rattle.std.specs.Prelude.{ℕ, List, slice_set}
use Rattle.std.specs.Borrow.{Lends, Fml, RattleType, MutBor}
use Rattle.plain_list.specs.contracts.Items.{the_row}

-- once the loan r ends, the element at the place is the last value behind r, and the others are as they were
abbrev pub LendsItem : (T : RattleType) → MutBor (List T.Denot) → ℕ → MutBor T.Denot → Fml
LendsItem T items at r = Lends (the_row T) T items r (slice_set items.now at)
