use Rattle.std.proofs.Common.{◌≡◌, drop}
use Rattle.ex_prims.specs.Lists.{unique}
use Rattle.ex_prims.proofs.Firsts.{IsSetOf, with-new}
use Rattle.ex_prims.proofs.comparing.without_repeats.Given as goal

-- the first ones so far, and the new ones of what follows, are the first ones of all
abbrev pub invariant-loop-item : goal.invariant-loop-item
invariant-loop-item l = record {
  rest : with-new l.firsts.items (drop l.item-index l.items) ≡ unique l.items;
  same : IsSetOf l.seen l.firsts.items;
}
