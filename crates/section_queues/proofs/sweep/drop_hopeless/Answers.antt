use Rattle.std.proofs.Common.{rules, sym, subst}
use Rattle.std.proofs.lemmas.Fn.{filter_same}
use Rattle.section_queues.specs.Apart.{AreApart}
use Rattle.section_queues.specs.Facts.{same_number, known}
use Rattle.section_queues.specs.Calls.{is_hopeful}
use Rattle.section_queues.proofs.Apart.{kept-apart}
use Rattle.section_queues.proofs.sweep.drop_hopeless.Goals as goal

pub returns-clause-rest : goal.returns-clause-rest
returns-clause-rest g c =
    filter_same _ (is_hopeful c.args.book.now (known (g.F.CellFacts.evaluated_cells c.args.facts.now) (g.F.CellFacts.faulty_cells c.args.facts.now))) _ (λ x b f' k. search rules) _ _ c.retain.ensures

pub returns-clause-once : goal.returns-clause-once
returns-clause-once g c =
    subst (λ ks. AreApart same_number ks) (sym (returns-clause-rest g c))
    (kept-apart same_number (is_hopeful c.args.book.now (known (g.F.CellFacts.evaluated_cells c.args.facts.now) (g.F.CellFacts.faulty_cells c.args.facts.now))) c.args.cells.now c.requires)
