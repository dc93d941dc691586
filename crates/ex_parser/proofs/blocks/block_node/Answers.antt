use Rattle.ex_parser.proofs.BlockTurns.{then_node, otherwise_node, clause_node, choice_node, for_node}
use Rattle.ex_parser.proofs.blocks.block_node.Goals as goal

pub returns-in-Then : goal.returns-in-Then
returns-in-Then c = λ ns b xs k l. then_node _ _ xs c.in-Then.is k l

pub returns-in-Else : goal.returns-in-Else
returns-in-Else c = λ ns b xs k l. otherwise_node _ _ _ xs c.in-Else.is k l

pub returns-in_ok-push-in-Clause : goal.returns-in_ok-push-in-Clause
returns-in_ok-push-in-Clause c = λ ns b xs k l. clause_node _ _ _ _ c.args.body xs c.in-Clause.is c.in_ok-push-in-Clause.ensures.items k l

pub returns-in_ok-push-in-Choice : goal.returns-in_ok-push-in-Choice
returns-in_ok-push-in-Choice c = λ ns b xs k l. choice_node _ _ _ c.args.body xs c.in-Choice.is c.in_ok-push-in-Choice.ensures.items k l

pub returns-in-For : goal.returns-in-For
returns-in-For c = λ ns b xs k l. for_node _ _ xs c.in-For.is k l
