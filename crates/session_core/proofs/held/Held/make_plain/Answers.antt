use Rattle.std.proofs.Common.{if◌then◌else◌, refl, ap, ◌∙◌}
use Rattle.std.specs.Prelude.{filter}
use Rattle.session_core.specs.Logs.{log_lives}
use Rattle.session_core.proofs.StructureLaws.{plain-made}
use Rattle.session_core.proofs.held.Held.make_plain.Goals as goal

pub returns-in-Ok-clause-made : goal.returns-in-Ok-clause-made
returns-in-Ok-clause-made c = λ s h o.
    let ls = c.args.self.now.logs.items in
    plain-made s c.args.change c.in-Ok.made c.args.self.now _ h o c.in-Ok.ensures.made c.requires.plain refl (c.drop_gone.ensures ∙ ap (λ b. if b then filter (log_lives c.change.new.self) ls else ls) c.takes_away-gone.ensures) c.house.ensures
