use Rattle.ex_grammar.specs.Trees.{NoTree}
use Rattle.ex_parser.specs.Machine.{Body}
use Rattle.ex_parser.specs.Shown.{is_body}
use Rattle.ex_parser.proofs.Turns.{begins}
use Rattle.ex_parser.proofs.parser.Parser.begin_body.Goals as goal

pub returns : goal.returns
returns c = λ all rest s b k h r. begins _ _ all rest s (Body b NoTree) c.in_ok-moved.ensures k (is_body h c.new-body.ensures.items) r
