use Rattle.ex_parser.proofs.FirstTurns.{begins_keys, true_by_not}
use Rattle.ex_parser.proofs.parser.Parser.begin_keys.Goals as goal

pub returns-in_ok-moved-in_default : goal.returns-in_ok-moved-in_default
returns-in_ok-moved-in_default c = λ e l h i all s k.
    begins_keys _ c.args.key c.args.items c.new-keys.result l.trees all s h c.in_default.not-Tuple (true_by_not c.args.items.are_trees c.if-not-items.false) c.new-keys.ensures.items i.trees c.in_ok-moved-in_default.ensures k
