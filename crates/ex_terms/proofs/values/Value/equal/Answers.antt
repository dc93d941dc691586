use Rattle.std.proofs.Common.{sym, ◌∙◌}
use Rattle.ex_terms.proofs.Equality.{equal-values, same-place, is-equal, equal-is}
use Rattle.ex_terms.proofs.values.Value.equal.Goals as goal

pub returns : goal.returns
returns c = (
  λ told. equal-values c.args.self.now c.args.other.now (sym c.order.ensures ∙ is-equal c.order.result c.eq.result c.eq.ensures told),
  λ same. equal-is c.order.result c.eq.result c.eq.ensures (c.order.ensures ∙ same-place c.args.self.now c.args.other.now same),
)
