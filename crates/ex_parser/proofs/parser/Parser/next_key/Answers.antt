use Rattle.std.proofs.Common.{sym, drop, ◌∙◌, Some}
use Rattle.ex_parser.specs.Follow.{first_key, tail}
use Rattle.ex_parser.specs.Machine.{Keyed}
use Rattle.ex_parser.specs.Shown.{tokens_of, is_keyed}
use Rattle.ex_parser.proofs.Turns.{begins, drop_tail}
use Rattle.ex_parser.proofs.KeyTurns.{at_key}
use Rattle.ex_parser.proofs.parser.Parser.next_key.Goals as goal

pub returns-in_ok-moved-in-Some : goal.returns-in_ok-moved-in-Some
returns-in_ok-moved-in-Some c = λ e xs ks i h k s q.
    let all = tokens_of c.args.tokens.now in
    at_key (first_key (drop c.args.at all)) (Some c.in-Some.key) e xs ks s (drop c.args.at all) (sym c.in_ok-key_at.ensures.value ∙ c.in-Some.is)
    (begins _ _ all (tail (drop c.args.at all)) s (Keyed e xs ks c.in-Some.key) c.in_ok-moved-in-Some.ensures q (is_keyed i h k) (drop_tail all c.args.at))
