use Rattle.std.proofs.Common.{sym, subst}
use Rattle.section_queues.specs.Apart.{AreApart}
use Rattle.section_queues.specs.Wanted.{clashes}
use Rattle.section_queues.proofs.Apart.{more-apart, none-clashes}
use Rattle.section_queues.proofs.wants.push_run.Goals as goal

-- a run that clashes with none is put at the end
pub returns-clause-apart : goal.returns-clause-apart
returns-clause-apart c =
    subst (λ rs. AreApart clashes rs) (sym c.in_ok-push.ensures.ok)
    (more-apart clashes c.args.runs.now c.args.it (none-clashes c.args.runs.now c.args.it c.requires.lane c.requires.eval c.requires.cell) c.requires.apart)
