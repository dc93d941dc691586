use Rattle.std.proofs.Common.{drop, sym, ◌∙◌}
use Rattle.std.proofs.lemmas.Result.{IfOk-weaker}
use Rattle.ex_parser.specs.Shown.{tokens_of}
use Rattle.ex_parser.proofs.StepTurns.{ends_whole, ends_last}
use Rattle.ex_parser.proofs.parser.Parser.end.Goals as goal

pub returns-in-None : goal.returns-in-None
returns-in-None c = λ s v k i.
    let all = tokens_of c.args.tokens.now in
    ends_whole _ _ _ all c.finished.result s v c.args.at (sym c.args.self.now.stack.ok.0 ∙ c.in-None.ensures.cases.0) c.in-None.ensures.items k (c.finished.ensures _ all v i)

pub returns-in-Some : goal.returns-in-Some
returns-in-Some c =
    let ts = drop c.args.at (tokens_of c.args.tokens.now) in
    IfOk-weaker c.end_by.result _ _ (λ m t. λ s v k i. ends_last _ _ _ _ s v ts c.pop.ensures.items c.in-Some.is k (λ f h s' k'. t f h s' v k' i)) c.end_by.ensures
