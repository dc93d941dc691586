use Rattle.std.proofs.Common.{◌∙◌, sym}
use Rattle.ex_parser.specs.Shown.{tokens_of}
use Rattle.ex_parser.proofs.TokenPlaces.{skip_separator}
use Rattle.ex_parser.proofs.follow.after_separator.Goals as goal

pub returns-then-is_separator_at : goal.returns-then-is_separator_at
returns-then-is_separator_at c = skip_separator (tokens_of c.args.tokens.now) c.args.at (sym c.is_separator_at.ensures.value ∙ c.if-is_separator_at.true)
