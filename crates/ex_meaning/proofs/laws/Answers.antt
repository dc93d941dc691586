-- What is printed and which steps are used follow from one induction over all evaluations. The worked cells are cited, so that they are checked.
use Rattle.std.proofs.Common.{[], arith}
use Rattle.ex_prims.specs.Answers.{nil}
use Rattle.ex_meaning.specs.Going.{State, and_then}
use Rattle.ex_meaning.specs.Evaluating.{in_turn}
use Rattle.ex_meaning.specs.Means.{kept_small}
use Rattle.ex_meaning.proofs.Evaluations.{comes_after, means_on, shows_fitting, shows_used}
use Rattle.ex_meaning.proofs.Worked.{sum-shows}
use Rattle.ex_meaning.proofs.laws.Goals as goal

pub returns-clause-prints_fit : goal.returns-clause-prints_fit
returns-clause-prints_fit c = λ trees base limit.
    let start : State = record { made = []; printed = []; left = limit } in
    shows_fitting limit start (and_then (in_turn base trees nil start) kept_small) (omega arith) ((means_on base trees).goes start)

pub returns-clause-too_many_are_all : goal.returns-clause-too_many_are_all
returns-clause-too_many_are_all c = λ trees base limit.
    let start : State = record { made = []; printed = []; left = limit } in
    shows_used limit start (and_then (in_turn base trees nil start) kept_small) ((means_on base trees).goes start)

pub returns-clause-states_follow : goal.returns-clause-states_follow
returns-clause-states_follow c = let worked = sum-shows in λ base tree s t v e. (comes_after base tree s t v e).follows
