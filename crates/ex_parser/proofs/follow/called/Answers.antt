use Rattle.std.proofs.Common.{◌∙◌, sym, subst, drop}
use Rattle.std.specs.Prelude.{Some, ◌+◌}
use Rattle.ex_parser.specs.Follow.{opens}
use Rattle.ex_parser.specs.Shown.{tokens_of, CallShows}
use Rattle.ex_parser.proofs.TokenPlaces.{opens_paren}
use Rattle.ex_parser.proofs.follow.called.Goals as goal

pub returns-else-underscore : goal.returns-else-underscore
returns-else-underscore c =
    let all = tokens_of c.args.tokens.now in
    subst (λ u. CallShows all (Some (c.args.name, c.args.at + 1)) (opens u c.args.name (drop c.args.at all))) (sym c.if-underscore.false) (opens_paren all c.args.at c.args.name (sym c.is_paren_at.ensures.value ∙ c.if-is_paren_at.true))
