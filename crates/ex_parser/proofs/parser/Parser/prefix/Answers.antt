use Rattle.ex_grammar.specs.Operators.{unary_level}
use Rattle.ex_parser.specs.Machine.{value, prefixed, negative, negates}
use Rattle.ex_parser.proofs.KeyTurns.{prefixed_held, holds}
use Rattle.ex_parser.proofs.parser.Parser.prefix.Goals as goal

pub returns : goal.returns
returns c = λ all s v k i.
    holds _ _ all s (value (prefixed c.args.prefix v.tree) (negative c.args.prefix v.pattern) unary_level (negates c.args.prefix)) c.args.at unary_level c.args.held.is_tree c.is_negative-is_pattern.result c.negates.result c.in_ok-node.ensures k
    (prefixed_held _ c.args.prefix c.args.held v c.is_negative-is_pattern.result c.negates.result i (c.is_negative-is_pattern.ensures v i) c.negates.ensures)
