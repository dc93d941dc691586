use Rattle.std.proofs.Common.{◌≡◌, ◌++◌, drop, option_map}
use Rattle.serde_json.specs.View.{items_view}
use Rattle.script.specs.Delta.{steps_of}
use Rattle.script.proofs.delta_text.steps_of.Given as goal

-- the steps of all items are those taken and those of the items left
abbrev pub invariant-loop-item : goal.invariant-loop-item
invariant-loop-item l = steps_of (items_view l.items) ≡ option_map (λ left. l.steps.items ++ left) (steps_of (items_view (drop l.item-index l.items)))
