use Rattle.std.proofs.Common.{◌≡◌, drop, string_bytes}
use Rattle.ex_prims.specs.Texts.{joined, texts_of}
use Rattle.ex_prims.proofs.TextJoining.{joined_past}
use Rattle.ex_prims.proofs.texting.joined.Given as goal

-- what is put so far and the items that are left are all
abbrev pub invariant-loop-item : goal.invariant-loop-item
invariant-loop-item l = joined_past l.is_first (string_bytes l.out) l.between (texts_of (drop l.item-index l.items)) ≡ joined l.between (texts_of l.items)
