use Rattle.std.proofs.Common.{◌≡◌, [], length, drop}
use Rattle.ex_parser.specs.Shown.{tokens_of}
use Rattle.ex_parser.proofs.Runs.{SoFar}
use Rattle.ex_parser.proofs.parser.parse.Given as goal

abbrev pub invariant-loop-at : goal.invariant-loop-at
invariant-loop-at l = record {
  free : l.parser.stack.items ≡ [];
  so_far : SoFar l.parser.nodes.items l.roots.items (tokens_of l.tokens) l.at;
}

abbrev pub decreases-loop-at : goal.decreases-loop-at
decreases-loop-at l = length (drop l.at (tokens_of l.tokens))
