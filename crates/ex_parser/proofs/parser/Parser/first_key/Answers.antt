use Rattle.std.proofs.Common.{sym, ◌∙◌, drop}
use Rattle.ex_parser.proofs.FirstTurns.{key_last, no_key_last}
use Rattle.ex_parser.proofs.parser.Parser.first_key.Goals as goal

pub returns-in_ok-moved-in-Items : goal.returns-in_ok-moved-in-Items
returns-in_ok-moved-in-Items c = λ all s k.
    key_last _ c.pop.new.self.items c.in-Some-pop.top c.in-Items.enclosure c.in-Items.items _ c.in-Some.key s (drop c.args.after all) (sym c.in_ok-key.ensures ∙ c.in-Some.is) c.in-Some-pop.ensures.items c.in-Items.is k
    (λ e l h i t j. c.in_ok-moved-in-Items.ensures e l h i all t j)

pub returns-in_default-top : goal.returns-in_default-top
returns-in_default-top c = λ all s k.
    no_key_last _ _ c.pop.new.self.items c.in-Some-pop.top all _ c.in-Some.key s (drop c.args.after all) (sym c.in_ok-key.ensures ∙ c.in-Some.is) c.in-Some-pop.ensures.items c.in_default-top.not-Items k
