use Rattle.std.proofs.Common.{rules, sym, subst}
use Rattle.std.proofs.lemmas.Fn.{filter_same}
use Rattle.section_queues.specs.Apart.{AreApart}
use Rattle.section_queues.specs.Wanted.{clashes, runs_other}
use Rattle.section_queues.proofs.Apart.{kept-apart}
use Rattle.section_queues.proofs.wants.drop_run.Goals as goal

pub returns-clause-rest : goal.returns-clause-rest
returns-clause-rest c = filter_same _ (runs_other c.args.cell) _ (λ x b f' k. search rules) _ _ c.retain.ensures

pub returns-clause-apart : goal.returns-clause-apart
returns-clause-apart c = subst (λ rs. AreApart clashes rs) (sym (returns-clause-rest c)) (kept-apart clashes (runs_other c.args.cell) c.args.runs.now c.requires)
