use Rattle.std.proofs.Common.{refl, drop}
use Rattle.ex_parser.specs.Machine.{Items}
use Rattle.ex_parser.specs.Shown.{tokens_of, is_items}
use Rattle.ex_parser.proofs.BracketTurns.{opens_closed, opens_begun}
use Rattle.ex_parser.proofs.Turns.{begins}
use Rattle.ex_parser.proofs.parser.Parser.open.Goals as goal

pub returns-in_ok-moved-in-Some : goal.returns-in_ok-moved-in-Some
returns-in_ok-moved-in-Some c = λ e l i j m s k. opens_closed c.in-Some.after e l s _ (drop c.args.at (tokens_of c.args.tokens.now)) c.bracket_of.result (c.bracket_of.ensures e i) c.in-Some.ensures (c.in_ok-moved-in-Some.ensures e l i j m _ s k)

pub returns-in_ok-moved-in-None : goal.returns-in_ok-moved-in-None
returns-in_ok-moved-in-None c = λ e l i j m s k. opens_begun e l s _ (drop c.args.at (tokens_of c.args.tokens.now)) c.bracket_of.result (c.bracket_of.ensures e i) c.in-None.ensures (begins _ _ _ _ s (Items e l) c.in_ok-moved-in-None.ensures k (is_items i j m) refl)
