use Rattle.std.proofs.Common.{rules, sym, subst}
use Rattle.std.proofs.lemmas.Fn.{filter_same}
use Rattle.section_queues.specs.Apart.{AreApart}
use Rattle.section_queues.specs.Facts.{same_number, is_other}
use Rattle.section_queues.proofs.Apart.{kept-apart}
use Rattle.section_queues.proofs.wants.drop_cell.Goals as goal

pub returns-clause-rest : goal.returns-clause-rest
returns-clause-rest c = filter_same _ (is_other c.args.cell) _ (λ x b f' k. search rules) _ _ c.retain.ensures

pub returns-clause-once : goal.returns-clause-once
returns-clause-once c = subst (λ ks. AreApart same_number ks) (sym (returns-clause-rest c)) (kept-apart same_number (is_other c.args.cell) c.args.cells.now c.requires)
