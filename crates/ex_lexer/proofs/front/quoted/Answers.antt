use Rattle.std.proofs.Common.{arith}
use Rattle.ex_lexer.proofs.FrontCode as X
use Rattle.ex_lexer.proofs.front.quoted.Goals as goal

pub quoted_front-requires : goal.quoted_front-requires
quoted_front-requires c = omega (arith, X.run_within c.args.text.now, c.in_ok-run.ensures.1)
