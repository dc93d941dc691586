use Rattle.std.proofs.Common.{◌+◌}
use Rattle.ex_grammar.specs.Tokens.{TextBegins}
use Rattle.ex_grammar.specs.Coded.{is_text_begins}
use Rattle.ex_lexer.specs.Settled.{gap_of}
use Rattle.ex_lexer.proofs.Opening as O
use Rattle.ex_lexer.proofs.lexer.Lexer.begin_text.Goals as goal

pub returns : goal.returns
returns c = λ holes made before r o s e f g.
    let a = c.in_ok-put.ensures made before (TextBegins c.args.said) is_text_begins s in
    let d = c.in_ok-done.ensures (c.args.at + 1) holes a.made' a.before' (O.open_more c.args.at c.args.self.now.inner c.args.self.now.outer.items holes o) a.settled in
    O.text_done (c.args.at + 1) c.args.at c.args.at c.args.len c.args.said c.args.stop r made before (gap_of c.args.self.now.settled.gap) holes TextBegins c.stop.new.self.settled c.stop.new.self.inner c.stop.new.self.outer.items c.in_ok-done.done e f g
    (O.stop_after (c.args.at + 1) c.args.at (c.args.at + (1 + c.args.len)) (1 + c.args.len) made before (gap_of c.args.self.now.settled.gap) _ holes c.args.stop _ _ _ c.stop.new.self.settled c.stop.new.self.inner c.stop.new.self.outer.items c.in_ok-done.done a d)
