use Rattle.std.proofs.Common.{sym}
use Rattle.livemd_write.proofs.Cleaning.{clean_copy}
use Rattle.livemd_write.proofs.texts.clean_text.Goals as goal

pub returns-else-has_crs-clause-tidy : goal.returns-else-has_crs-clause-tidy
returns-else-has_crs-clause-tidy c = clean_copy c.args.text.now c.as_str.result.now c.copy.result c.as_str.ensures.bytes c.as_str.ensures.characters (sym c.if-has_crs.ensures) c.copy.ensures
