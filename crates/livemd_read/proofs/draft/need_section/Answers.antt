use Rattle.std.proofs.Common.{refl}
use Rattle.livemd_read.proofs.Building.{made_section}
use Rattle.livemd_read.proofs.draft.need_section.Goals as goal

pub returns-in_ok-push_section-clause-ok : goal.returns-in_ok-push_section-clause-ok
returns-in_ok-push_section-clause-ok c = made_section c.args.parts.now _ _ (c.if-is_empty.ensures.0 refl) c.new.ensures c.in_ok-push_section.ensures.ok
