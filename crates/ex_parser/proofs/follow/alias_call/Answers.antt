use Rattle.std.proofs.Common.{◌∙◌, sym, subst}
use Rattle.ex_parser.specs.Shown.{tokens_of, CallShows}
use Rattle.ex_parser.proofs.TokenPlaces.{alias_dot}
use Rattle.ex_parser.proofs.follow.alias_call.Goals as goal

pub returns-then-is_dot_at : goal.returns-then-is_dot_at
returns-then-is_dot_at c =
    let all = tokens_of c.args.tokens.now in
    subst (λ v. CallShows all c.in_ok-call.call v) (sym (alias_dot all c.args.at c.args.alias.now (sym c.is_dot_at.ensures.value ∙ c.if-is_dot_at.true))) c.in_ok-call.ensures
