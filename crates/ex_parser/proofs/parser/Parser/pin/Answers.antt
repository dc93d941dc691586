use Rattle.std.proofs.Common.{sym, ap, ◌∙◌}
use Rattle.ex_grammar.specs.declared.token.TokenKind.TheVariants.{Name}
use Rattle.ex_parser.specs.Shown.{tokens_of}
use Rattle.ex_parser.proofs.FirstTurns.{reads_pinned}
use Rattle.ex_parser.proofs.parser.Parser.pin.Goals as goal

pub returns-in_ok-moved-in-Some-Name : goal.returns-in_ok-moved-in-Some-Name
returns-in_ok-moved-in-Some-Name c = λ s k.
    reads_pinned _ c.in-Some-Name.field-0.now c.in_ok-copy-in-Some-Name.field-0 (tokens_of c.args.tokens.now) c.args.at s c.in-Some-Name.ensures.1 (c.in-Some-Name.field-0-is ∙ ap Name (sym c.in_ok-copy-in-Some-Name.ensures)) c.in_ok-moved-in-Some-Name.ensures k
