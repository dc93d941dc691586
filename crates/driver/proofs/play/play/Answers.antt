use Rattle.std.proofs.Common.{◌∙◌, ap, Err}
use Rattle.driver.proofs.play.play.Goals as goal

-- what was played found no memory
pub returns-in-Err-OutOfMemory : goal.returns-in-Err-OutOfMemory
returns-in-Err-OutOfMemory g c = record { played = c.play_all.ensures.stopped c.args.book c.in-Ok.ensures (c.in-Err-OutOfMemory.is ∙ ap Err c.in-Err-OutOfMemory.field-0-is) }
