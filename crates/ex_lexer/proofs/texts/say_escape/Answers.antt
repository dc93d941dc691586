use Rattle.std.proofs.Common.{refl}
use Rattle.std.specs.String.{string_bytes}
use Rattle.ex_lexer.proofs.TextRuns.{said_escape, stops_escape}
use Rattle.ex_lexer.proofs.texts.say_escape.Goals as goal

pub returns-in-None : goal.returns-in-None
returns-in-None c = λ u. (refl, stops_escape c.args.after.now c.in-None.ensures.value)

pub returns-in_ok-push-in-Some : goal.returns-in_ok-push-in-Some
returns-in_ok-push-in-Some c = λ u. said_escape (string_bytes c.args.said.now) (string_bytes c.push.new.self) c.args.after.now c.in-Some.c c.in-Some.len u c.in-Some.ensures.value c.in_ok-push-in-Some.ensures.bytes
