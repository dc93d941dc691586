use Rattle.std.proofs.Common.{◌≡◌, ◌-◌, List, [], length}
use Rattle.ex_model.specs.Tokens.{Token}
use Rattle.ex_source.specs.Lexemes.{AreLexemes}
use Rattle.ex_source.proofs.Going.{Parsed}
use Rattle.ex_source.proofs.parser.parse.Given as goal

-- the expressions so far stand among the nodes
abbrev pub invariant-loop-at : goal.invariant-loop-at
invariant-loop-at l = record {
  free : l.parser.stack.items ≡ [];
  parsed : (all : List Token) → AreLexemes l.tokens all → Parsed l.parser.nodes.items l.roots.items all l.at;
}

abbrev pub decreases-loop-at : goal.decreases-loop-at
decreases-loop-at l = length l.tokens - l.at
