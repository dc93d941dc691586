use Rattle.std.proofs.Common.{sym, ◌∙◌, subst}
use Rattle.notebook.specs.declared.parts.Parts.{Parts}
use Rattle.notebook.specs.Rules.{IsNotebook}
use Rattle.livemd_write.proofs.Telling.{stays_tidy}
use Rattle.livemd_write.proofs.Tidying.{keeps_rules}
use Rattle.livemd_write.proofs.writer.tidy.Goals as goal

pub of-requires : goal.of-requires
of-requires c = subst (λ (n : Parts). IsNotebook n) (sym c.in_ok-parts.ensures.tidy) (keeps_rules c.parts.result.now c.parts.ensures.rules)

pub returns-clause-twice : goal.returns-clause-twice
returns-clause-twice c = stays_tidy c.parts.result.now _ (c.of.ensures ∙ c.in_ok-parts.ensures.tidy) c.in_ok-parts.ensures.characters
