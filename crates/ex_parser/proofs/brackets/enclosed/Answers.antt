use Rattle.ex_parser.proofs.BracketTurns.{tuple_at, list_at, call_at, tuple_pattern_at, list_pattern_at}
use Rattle.ex_parser.proofs.brackets.enclosed.Goals as goal

pub returns-in-Tuple-clause-tree : goal.returns-in-Tuple-clause-tree
returns-in-Tuple-clause-tree c = λ ns e xs i h. tuple_at ns c.args.places xs c.in-Tuple.is i h

pub returns-in-Tuple-clause-pattern : goal.returns-in-Tuple-clause-pattern
returns-in-Tuple-clause-pattern c = λ ns e ps p i h k. tuple_pattern_at ns c.args.places ps p c.in-Tuple.is i h k

pub returns-in-List-clause-tree : goal.returns-in-List-clause-tree
returns-in-List-clause-tree c = λ ns e xs i h. list_at ns c.args.places xs c.in-List.is i h

pub returns-in-List-clause-pattern : goal.returns-in-List-clause-pattern
returns-in-List-clause-pattern c = λ ns e ps p i h k. list_pattern_at ns c.args.places ps p c.in-List.is i h k

pub returns-in-Call-clause-tree : goal.returns-in-Call-clause-tree
returns-in-Call-clause-tree c = λ ns e xs i h. call_at ns c.args.places c.in-Call.name _ xs c.in-Call.is i h
