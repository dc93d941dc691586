use Rattle.ex_source.proofs.Depths.{Nested}
use Rattle.ex_source.proofs.nesting.nests_within.Given as goal

abbrev pub invariant-loop-lexeme : goal.invariant-loop-lexeme
invariant-loop-lexeme l = Nested l.tokens l.lexeme-index l.levels.count l.levels.inner l.levels.outer.items
