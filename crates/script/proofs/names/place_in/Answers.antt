use Rattle.script.proofs.Spelling.{place-is}
use Rattle.script.proofs.names.place_in.Goals as goal

pub returns : goal.returns
returns c = place-is c.args.names.now c.args.name.now c.first_place.result c.requires c.first_place.ensures
