use Rattle.std.proofs.Common.{subst}
use Rattle.ex_machine.specs.Futures.{IsFrame}
use Rattle.ex_machine.proofs.Turns.{goes_to_second, goes_to_apply}
use Rattle.ex_machine.proofs.machine.Machine.act.Goals as goal

pub returns-in_ok-next-in-First-clause-future : goal.returns-in_ok-next-in-First-clause-future
returns-in_ok-next-in-First-clause-future c = λ nodes base rest rests is are.
    goes_to_second nodes base _ _ _ _ _ _ _ rests are c.in-First.operator c.in-First.second c.args.value rest (subst (λ f. IsFrame nodes f rest) c.in-First.is is) c.in_ok-next-in-First.ensures

pub returns-in_ok-next-in-Second-clause-future : goal.returns-in_ok-next-in-Second-clause-future
returns-in_ok-next-in-Second-clause-future c = λ nodes base rest rests is are.
    goes_to_apply nodes base _ _ _ _ _ _ rests c.in-Second.operator c.in-Second.first c.args.value rest (subst (λ f. IsFrame nodes f rest) c.in-Second.is is) (c.in_ok-next-in-Second.ensures.future nodes base rests are)
