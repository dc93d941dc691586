use Rattle.ex_parser.proofs.Depths.{Nested}
use Rattle.ex_parser.proofs.nesting.first_too_deep.Given as goal

abbrev pub invariant-loop-token : goal.invariant-loop-token
invariant-loop-token l = Nested l.tokens l.token-index l.levels.count l.levels.inner l.levels.outer.items
