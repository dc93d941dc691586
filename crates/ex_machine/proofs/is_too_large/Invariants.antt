use Rattle.std.proofs.Common.{◌≡◌, ◌+◌, ◌≤◌, ◌^◌, drop}
use Rattle.ex_value.specs.Values.{size_of}
use Rattle.ex_model.specs.Meaning.{made_size}
use Rattle.ex_machine.proofs.is_too_large.Given as goal

abbrev pub invariant-loop-binding : goal.invariant-loop-binding
invariant-loop-binding l = record {
  total : l.size + made_size (drop l.binding-index l.binding-items) ≡ size_of l.value + made_size l.binding-items;
  small : l.size ≤ 2 ^ 61;
}
