use Rattle.std.proofs.Common.{refl, sym, subst, ◌∙◌}
use Rattle.ex_parser.specs.Levels.{IsOpen}
use Rattle.ex_parser.proofs.Depths.{closed_bracket, closed_none}
use Rattle.ex_parser.proofs.nesting.Levels.close.Goals as goal

pub returns-then-in_bracket : goal.returns-then-in_bracket
returns-then-in_bracket c = λ before h.
    let e = c.end.ensures.ended before h in
    subst (λ o. IsOpen c.leave.new.self.count c.leave.new.self.inner c.leave.new.self.outer.items o) (closed_bracket before.outer (sym (c.in_bracket.ensures _ e) ∙ c.if-in_bracket.true)) (c.leave.ensures _ e refl)

pub returns-else-in_bracket : goal.returns-else-in_bracket
returns-else-in_bracket c = λ before h.
    let e = c.end.ensures.ended before h in
    subst (λ o. IsOpen c.end.new.self.count c.end.new.self.inner c.end.new.self.outer.items o) (closed_none before.inner before.outer (sym (c.in_bracket.ensures _ e) ∙ c.if-in_bracket.false)) e
