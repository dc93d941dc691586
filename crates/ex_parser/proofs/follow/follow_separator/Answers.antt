use Rattle.std.proofs.Common.{◌∙◌, sym}
use Rattle.ex_parser.specs.Shown.{tokens_of}
use Rattle.ex_parser.proofs.TokenPlaces.{separator_else, separator_end}
use Rattle.ex_parser.proofs.follow.follow_separator.Goals as goal

pub returns-in-Else : goal.returns-in-Else
returns-in-Else c = separator_else (tokens_of c.args.tokens.now) c.args.after c.after_separator.result (sym c.block_end_at.ensures ∙ c.in-Else.is) c.after_separator.ensures

pub returns-in-End : goal.returns-in-End
returns-in-End c = separator_end (tokens_of c.args.tokens.now) c.args.after (sym c.block_end_at.ensures ∙ c.in-End.is)
