use Rattle.ex_parser.proofs.BracketTurns.{shuts}
use Rattle.ex_parser.proofs.parser.Parser.shut.Goals as goal

pub returns : goal.returns
returns c = λ e l i j m all s k.
    shuts _ c.enclosed.result c.in_ok-node.node _ c.args.items all s e l c.in_ok-node.ensures (c.level_of-level.ensures e i)
    (λ xs. c.enclosed.ensures.tree _ e xs i) (λ qs q. c.enclosed.ensures.pattern _ e qs q i) j m k
