use Rattle.std.proofs.Common.{◌∙◌, sym, length}
use Rattle.ex_lexer.proofs.FrontCode as X
use Rattle.ex_lexer.proofs.front.named.Goals as goal

pub returns-in_ok-key-in-Some : goal.returns-in_ok-key-in-Some
returns-in_ok-key-in-Some c = X.key_front c.in_ok-key-in-Some.key c.args.name.now c.args.after.now c.in-Some.more (length c.args.name.now) (sym c.in-Some.is ∙ c.key_len.ensures) c.in_ok-key-in-Some.ensures

pub returns-in_ok-kind-in-None : goal.returns-in_ok-kind-in-None
returns-in_ok-kind-in-None c = X.word_front c.in_ok-kind-in-None.kind c.args.name.now c.args.after.now c.begins_with.result (length c.args.name.now) (sym c.in-None.is ∙ c.key_len.ensures) c.begins_with.ensures c.in_ok-kind-in-None.ensures
