use Rattle.std.proofs.Common.{◌≡◌, drop}
use Rattle.ex_model.specs.Bound.{value_of}
use Rattle.ex_model.proofs.bindings.Bindings.get.Given as goal

abbrev pub invariant-loop-binding : goal.invariant-loop-binding
invariant-loop-binding l = value_of (drop l.binding-index l.binding-items) l.name ≡ value_of l.binding-items l.name
