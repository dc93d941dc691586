use Rattle.std.proofs.Common.{◌≡◌, drop}
use Rattle.ex_model.specs.Bound.{put_all}
use Rattle.ex_model.proofs.bindings.Bindings.with.Given as goal

abbrev pub invariant-loop-binding : goal.invariant-loop-binding
invariant-loop-binding l = put_all l.all (drop l.binding-index l.binding-items) ≡ put_all l.self l.binding-items
