use Rattle.std.proofs.Common.{◌+◌, [], ◌∷◌, sym, subst}
use Rattle.ex_grammar.specs.Tokens.{HoleBegins, TextEnds}
use Rattle.ex_grammar.specs.Lexing.{Whole, part}
use Rattle.ex_grammar.specs.Coded.{is_hole_begins, is_text_ends}
use Rattle.ex_lexer.specs.Settled.{gap_of, Adds}
use Rattle.ex_lexer.proofs.Opening as O
use Rattle.ex_lexer.proofs.lexer.Lexer.stop.Goals as goal

pub returns-in_ok-put-in-Quote : goal.returns-in_ok-put-in-Quote
returns-in_ok-put-in-Quote c = λ most holes made before o s. O.stop_quote most c.args.opening c.args.at c.args.len made before _ holes c.args.stop _ _ _ c.in-Quote.is o (c.in_ok-put-in-Quote.ensures made before TextEnds is_text_ends s)

pub returns-in_ok-enter_hole-in-Hole : goal.returns-in_ok-enter_hole-in-Hole
returns-in_ok-enter_hole-in-Hole c = λ most holes made before o s.
    let a = c.in_ok-put-in-Hole.ensures made before HoleBegins is_hole_begins s in
    let e = c.in_ok-enter_hole-in-Hole.ensures in
    O.stop_hole most c.args.opening c.args.at c.args.len made before (gap_of c.args.self.now.settled.gap) holes c.args.stop c.enter_hole.new.self.settled c.enter_hole.new.self.inner c.enter_hole.new.self.outer.items c.in-Hole.is (e.opened most holes o)
    (subst (λ v. Adds made before (gap_of c.args.self.now.settled.gap) (part (Whole HoleBegins) c.args.at (c.args.at + 2) ∷ []) v.tokens.items v.drops (gap_of v.gap)) (sym e.settled) a)
