use Rattle.std.proofs.Common.{ap, drop}
use Rattle.ex_parser.specs.Machine.{take}
use Rattle.ex_parser.specs.Shown.{tokens_of}
use Rattle.ex_parser.proofs.StepTurns.{at_state}
use Rattle.ex_parser.proofs.parser.Parser.take.Goals as goal

pub returns-in_ok-moved-in-Operator : goal.returns-in_ok-moved-in-Operator
returns-in_ok-moved-in-Operator c = λ s v k i.
    let all = tokens_of c.args.tokens.now in
    at_state _ (ap (λ n. take n s v (drop c.args.after all)) c.in-Operator.is) (c.in_ok-moved-in-Operator.ensures all s v k i)

pub returns-in_ok-moved-in-Match : goal.returns-in_ok-moved-in-Match
returns-in_ok-moved-in-Match c = λ s v k i.
    let all = tokens_of c.args.tokens.now in
    at_state _ (ap (λ n. take n s v (drop c.args.after all)) c.in-Match.is) (c.in_ok-moved-in-Match.ensures all s v k i)

pub returns-in_ok-moved-in-Pipe : goal.returns-in_ok-moved-in-Pipe
returns-in_ok-moved-in-Pipe c = λ s v k i.
    let all = tokens_of c.args.tokens.now in
    at_state _ (ap (λ n. take n s v (drop c.args.after all)) c.in-Pipe.is) (c.in_ok-moved-in-Pipe.ensures s v k i)
