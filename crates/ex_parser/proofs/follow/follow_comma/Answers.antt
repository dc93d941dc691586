use Rattle.std.proofs.Common.{◌∙◌, sym}
use Rattle.ex_parser.specs.Shown.{tokens_of}
use Rattle.ex_parser.proofs.TokenPlaces.{comma_some}
use Rattle.ex_parser.proofs.follow.follow_comma.Goals as goal

pub returns-in-Some : goal.returns-in-Some
returns-in-Some c = comma_some (tokens_of c.args.tokens.now) c.args.after c.in-Some.next (sym c.block_key_at.ensures.value ∙ c.in-Some.is)
