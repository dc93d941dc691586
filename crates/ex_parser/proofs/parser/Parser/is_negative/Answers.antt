use Rattle.ex_parser.proofs.KeyTurns.{negative_is}
use Rattle.ex_parser.proofs.parser.Parser.is_negative.Goals as goal

pub returns-then-held : goal.returns-then-held
returns-then-held c = λ v i. negative_is _ c.args.prefix c.args.held.node c.args.held.is_pattern _ v.pattern c.in-Negate.is i.pattern c.if-held.true c.is_integer.ensures
