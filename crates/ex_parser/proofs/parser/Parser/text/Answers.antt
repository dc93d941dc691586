use Rattle.std.proofs.Common.{sym, ◌∙◌, drop}
use Rattle.ex_parser.specs.Follow.{text_goes}
use Rattle.ex_parser.specs.Machine.{want_text}
use Rattle.ex_parser.specs.Shown.{tokens_of}
use Rattle.ex_parser.proofs.FirstTurns.{at_same, text_ends, text_goes_on}
use Rattle.ex_parser.proofs.parser.Parser.text.Goals as goal

pub returns-in_ok-moved-in-Ends : goal.returns-in_ok-moved-in-Ends
returns-in_ok-moved-in-Ends c = λ s k.
    let all = tokens_of c.args.tokens.now in
    let ts = drop c.args.after all in
    at_same (λ bytes. want_text (text_goes ts) bytes s ts) c.in_ok-says.says c.args.says.now (sym c.in_ok-says.ensures)
    (text_ends _ c.in_ok-says.says c.new-holes.result all c.args.after s (sym c.text_goes_at.ensures.value ∙ c.in-Ends.is) c.new-holes.ensures.items c.in_ok-moved-in-Ends.ensures k)

pub returns-in_ok-moved-in-Hole : goal.returns-in_ok-moved-in-Hole
returns-in_ok-moved-in-Hole c = λ s k.
    let all = tokens_of c.args.tokens.now in
    let ts = drop c.args.after all in
    at_same (λ bytes. want_text (text_goes ts) bytes s ts) c.in_ok-says.says c.args.says.now (sym c.in_ok-says.ensures)
    (text_goes_on _ c.in_ok-says.says c.new-holes.result all c.args.after s (sym c.text_goes_at.ensures.value ∙ c.in-Hole.is) c.new-holes.ensures.items c.in_ok-moved-in-Hole.ensures k)
