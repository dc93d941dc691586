use Rattle.std.proofs.Common.{refl, ne_eqb, ap, ◌∙◌}
use Rattle.notebook.proofs.Standing.{stands-setup, stands-home}
use Rattle.notebook.proofs.before.standing.Goals as goal

pub returns-then-parts-id : goal.returns-then-parts-id
returns-then-parts-id c = stands-setup _ _ _ c.if-parts-id.true c.at_setup.ensures.lane c.at_setup.ensures.cell c.at_setup.ensures.earlier c.at_setup.ensures.flow

pub returns : goal.returns
returns c = stands-home c.args.parts.now c.args.id _ _ c.in_ok-home.home _ c.requires (ne_eqb _ _ c.if-parts-id.false) c.as_slice-sections.ensures c.in_ok-home.ensures c.front_of-front.ensures c.lane.ensures refl refl refl
