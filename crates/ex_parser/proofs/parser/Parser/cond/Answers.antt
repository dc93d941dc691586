use Rattle.std.proofs.Common.{drop}
use Rattle.ex_parser.specs.declared.follow.Next.TheVariants.{Do}
use Rattle.ex_parser.specs.Follow.{follow}
use Rattle.ex_parser.specs.Machine.{want_cond, FirstCondition}
use Rattle.ex_parser.specs.Shown.{tokens_of, is_first_condition}
use Rattle.ex_parser.proofs.Turns.{begins, next_is, at_next}
use Rattle.ex_parser.proofs.parser.Parser.cond.Goals as goal

pub returns-in_ok-moved-in-Do : goal.returns-in_ok-moved-in-Do
returns-in_ok-moved-in-Do c = λ s k.
    let all = tokens_of c.args.tokens.now in
    let f = follow (drop c.args.at all) in
    at_next (λ n. want_cond n f.rest s) Do f (next_is all _ f Do c.in-Do.is c.follow_at-follow.ensures) (begins _ _ all f.rest s FirstCondition c.in_ok-moved-in-Do.ensures k is_first_condition c.follow_at-follow.ensures.1)
