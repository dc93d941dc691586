use Rattle.std.proofs.Common.{string_bytes}
use Rattle.ex_terms.proofs.Quotes.{hash-turn, plain-turn}
use Rattle.ex_terms.proofs.quoting.push_char.Goals as goal

pub returns-then-c-eq35 : goal.returns-then-c-eq35
returns-then-c-eq35 c = hash-turn (string_bytes c.args.out.now) (string_bytes c.push_waiting.new.out) c.args.waits c.args.c c.in_ok-push_waiting.ensures c.if-c-eq35.true

pub returns : goal.returns
returns c = plain-turn (string_bytes c.args.out.now) (string_bytes c.push_waiting.new.out) (string_bytes c.push_escaped.new.out) c.args.waits c.args.c c.in_ok-push_waiting.ensures c.in_ok-push_escaped.ensures c.if-c-eq35.false
