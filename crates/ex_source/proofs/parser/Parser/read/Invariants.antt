use Rattle.std.proofs.Common.{List, [], drop}
use Rattle.ex_model.specs.Tokens.{Token}
use Rattle.ex_source.specs.Lexemes.{AreLexemes}
use Rattle.ex_source.specs.Machine.{Want}
use Rattle.ex_source.proofs.Going.{Going, code_weight}
use Rattle.ex_source.proofs.parser.Parser.read.Given as goal

abbrev pub invariant-loop-self : goal.invariant-loop-self
invariant-loop-self l = (all : List Token) → AreLexemes l.tokens all → Going l.fn.self.nodes.items l.self.nodes.items l.self.stack.items all l.now (Want [] (drop l.from all))

abbrev pub decreases-loop-self : goal.decreases-loop-self
decreases-loop-self l = code_weight l.tokens l.now l.self.stack.items
