use Rattle.std.proofs.Common.{arith, ap, ◌∙◌}
use Rattle.std.specs.Prelude.{nat_le}
use Rattle.utf16_text.specs.Units.{unit_count}
use Rattle.delta_laws.proofs.PastEnds.{some_units, one_felt}
use Rattle.delta_laws.proofs.is_felt.Goals as goal

pub returns-in-Insert-clause-value : goal.returns-in-Insert-clause-value
returns-in-Insert-clause-value c = rw c.in-Insert.is (ap (λ n. nat_le 1 n) (c.unit_len.ensures ∙ ap unit_count c.as_str.ensures.characters))

pub returns-in-Insert-clause-some : goal.returns-in-Insert-clause-some
returns-in-Insert-clause-some c =
    λ proper old. one_felt c.unit_len.result (omega (arith, c.unit_len.ensures, ap unit_count c.as_str.ensures.characters, some_units c.in-Insert.text c.as_str.ensures.scalars (rw c.in-Insert.is at proper)))
