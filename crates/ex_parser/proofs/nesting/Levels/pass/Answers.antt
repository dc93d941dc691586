use Rattle.std.proofs.Common.{◌∙◌, sym, ap, subst}
use Rattle.ex_parser.specs.Levels.{IsOpen, turned}
use Rattle.ex_parser.proofs.nesting.Levels.pass.Goals as goal

pub returns-in_ok-open-in-Does : goal.returns-in_ok-open-in-Does
returns-in_ok-open-in-Does c = λ before t h o.
    subst (λ u. IsOpen c.open-in-Does.new.self.count c.open-in-Does.new.self.inner c.open-in-Does.new.self.outer.items u) (sym (c.turn_of.ensures t before h ∙ ap (λ r. turned r before) c.in-Does.is))
    (c.in_ok-open-in-Does.ensures _ (c.end.ensures.ended before o))
