use Rattle.ex_parser.proofs.TokenPlaces.{of_drop_nil, of_drop}
use Rattle.ex_parser.proofs.follow.kind_at.Goals as goal

pub returns-in-None : goal.returns-in-None
returns-in-None c = of_drop_nil c.args.tokens.now c.args.at c.in-None.ensures

pub returns-in-Some : goal.returns-in-Some
returns-in-Some c = (c.in-Some.ensures.0, of_drop c.args.tokens.now c.args.at c.in-Some.token.now _ c.in-Some.ensures.1)
