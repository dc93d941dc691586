use Rattle.std.proofs.Common.{[], drop}
use Rattle.ex_parser.specs.Machine.{Want}
use Rattle.ex_parser.specs.Shown.{tokens_of}
use Rattle.ex_parser.proofs.Runs.{Going, code_weight}
use Rattle.ex_parser.proofs.parser.Parser.read.Given as goal

abbrev pub invariant-loop-self : goal.invariant-loop-self
invariant-loop-self l = Going l.fn.self.nodes.items l.self.nodes.items l.self.stack.items (tokens_of l.tokens) l.now (Want [] (drop l.from (tokens_of l.tokens)))

abbrev pub decreases-loop-self : goal.decreases-loop-self
decreases-loop-self l = code_weight (tokens_of l.tokens) l.now l.self.stack.items
