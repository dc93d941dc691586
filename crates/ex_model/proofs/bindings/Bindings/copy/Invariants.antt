use Rattle.std.proofs.Common.{◌≡◌, take}
use Rattle.ex_model.proofs.bindings.Bindings.copy.Given as goal

abbrev pub invariant-loop-binding : goal.invariant-loop-binding
invariant-loop-binding l = (l.binding-items ≡ l.self) × (l.bindings.items ≡ take l.binding-index l.binding-items)
