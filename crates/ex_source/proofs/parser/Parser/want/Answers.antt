use Rattle.ex_source.proofs.Stacks.{want_failed, want_first}
use Rattle.ex_source.proofs.parser.Parser.want.Goals as goal

pub returns-in-None : goal.returns-in-None
returns-in-None c = λ all s rest a h r. want_failed _ _ c.args.tokens.now all rest c.args.at s a c.in-None.ensures r

pub returns-in_ok-after-in-Some : goal.returns-in_ok-after-in-Some
returns-in_ok-after-in-Some c = λ all s rest a h r.
    want_first _ _ _ c.args.tokens.now all rest _ c.args.at s c.in-Some.lexeme.now a r c.in-Some.ensures.1 (λ u i. c.in_ok-after-in-Some.ensures all s u a i h)
