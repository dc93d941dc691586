use Rattle.std.proofs.Common.{◌++◌, ap, ◌∙◌, string_bytes}
use Rattle.std.specs.Str.{encode_utf8_all}
use Rattle.ex_terms.specs.Printed.{inner}
use Rattle.ex_terms.proofs.Quotes.{next-turn, last-turn, all-given}
use Rattle.ex_terms.proofs.quoting.push_inner.Goals as goal

pub loop-c-preserved : goal.loop-c-preserved
loop-c-preserved c = next-turn (string_bytes c.args.out.now) (string_bytes c.loop-c.out) (string_bytes c.push_char.new.out) c.loop-c.waits _ c.loop-c.yielded c.in-Some.c c.loop-c.invariant c.in_ok-waits.ensures

pub returns : goal.returns
returns c =
    let all = all-given _ c.args.text.now c.utf8.text (cc) c.loop-c.yielded _ c.loop-c.yielded_by _ _ c.in-None.is c.next.ensures.steps in
    last-turn (string_bytes c.args.out.now) (string_bytes c.loop-c.out) (string_bytes c.push_waiting.new.out) c.loop-c.waits c.loop-c.yielded c.loop-c.invariant c.in_ok-push_waiting.ensures ∙ ap (λ xs. string_bytes c.args.out.now ++ encode_utf8_all (inner xs)) all
