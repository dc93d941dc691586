use Rattle.std.proofs.Common.{◌+◌, subst, arith, lit<}
use Rattle.ex_grammar.specs.Tokens.{TextBegins}
use Rattle.ex_lexer.specs.Machine.{text_step}
use Rattle.ex_lexer.specs.Runs.{run}
use Rattle.ex_lexer.specs.Settled.{gap_of}
use Rattle.ex_lexer.specs.Open.{IsDone}
use Rattle.ex_lexer.proofs.FrontCode as X
use Rattle.ex_lexer.proofs.lexer.Lexer.text.Goals as goal

pub range_from-requires : goal.range_from-requires
range_from-requires c = λ _. X.byte_edge 34 c.args.rest.now (lit< tt) c.requires.quote c.utf8.rest

pub begin_text-requires : goal.begin_text-requires
begin_text-requires c = omega (arith, X.run_within c.range_from.result.now, c.in_ok-run.ensures.1, c.range_from.ensures.len, c.requires.small)

pub returns : goal.returns
returns c = λ holes made before o s. subst (λ v. IsDone (c.args.at + 1) made before (gap_of c.args.self.now.settled.gap) (text_step TextBegins holes c.args.at c.args.at (run 0 v)) c.begin_text.new.self.settled c.begin_text.new.self.inner c.begin_text.new.self.outer.items c.in_ok-done.done) c.range_from.ensures.value (c.in_ok-done.ensures holes made before (run 0 c.range_from.result.now) o s c.in_ok-run.ensures.0 c.in_ok-run.ensures.1 c.in_ok-run.ensures.2)
