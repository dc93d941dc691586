use Rattle.std.proofs.Common.{◌≡◌, List, [], drop}
use Rattle.ex_value.specs.Values.{nil}
use Rattle.ex_model.specs.Tree.{Tree}
use Rattle.ex_model.specs.At.{AreAt}
use Rattle.ex_model.specs.Meaning.{and_then, in_turn}
use Rattle.ex_machine.specs.Evaluations.{evaluated}
use Rattle.ex_machine.proofs.evaluate_in_turn.Given as goal

-- whichever trees stand at the roots, what is given so far and what is left give what all give
abbrev pub invariant-loop-root : goal.invariant-loop-root
invariant-loop-root l = (trees : List Tree) → AreAt l.nodes l.roots trees →
    and_then (evaluated l.ended.outcome l.ended.made l.ended.left) (λ v made left. in_turn l.base (drop l.root-index trees) v made left) ≡ in_turn l.base trees nil [] l.fn.limit
