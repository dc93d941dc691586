use Rattle.std.proofs.Common.{length}
use Rattle.ex_grammar.specs.Nests.{Open}
use Rattle.ex_parser.specs.Levels.{IsOpen}
use Rattle.ex_parser.proofs.Depths.{Closing}
use Rattle.ex_parser.proofs.nesting.Levels.close_hole.Given as goal

abbrev pub invariant-loop-self : goal.invariant-loop-self
invariant-loop-self l = (before : Open) → IsOpen l.fn.self.count l.fn.self.inner l.fn.self.outer.items before → Closing l.fn.self.count l.fn.self.inner l.self.count l.self.inner l.fn.self.outer.items l.self.outer.items before

abbrev pub decreases-loop-self : goal.decreases-loop-self
decreases-loop-self l = length l.self.outer.items
