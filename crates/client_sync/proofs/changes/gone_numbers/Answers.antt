use Rattle.std.proofs.Common.{◌≡◌, map, sym, ap, subst, ◌∙◌}
use Rattle.std.proofs.lemmas.Result.{IfOk-weaker}
use Rattle.notebook.specs.Change.{Makes, change, cells_in}
use Rattle.notebook.specs.Living.{gone_cells}
use Rattle.notebook.specs.Rules.{cell_number}
use Rattle.client_sync.proofs.Gone.{cell-number, section-numbers}
use Rattle.client_sync.proofs.changes.gone_numbers.Goals as goal

pub returns-in_ok-from_array-in-DeleteCell : goal.returns-in_ok-from_array-in-DeleteCell
returns-in_ok-from_array-in-DeleteCell c = λ n n' made own e h.
    c.in_ok-from_array-in-DeleteCell.ensures.items
    ∙ (cell-number n n' made c.in-DeleteCell.cell (subst (λ a. change n a ≡ Makes n' made) c.in-DeleteCell.is h) ∙ ap (λ a. map cell_number (gone_cells n a)) (sym c.in-DeleteCell.is))

pub returns-in-DeleteSection : goal.returns-in-DeleteSection
returns-in-DeleteSection c = λ n n' made own e h.
    IfOk-weaker c.numbers_in.result _ _
    (λ ids w. w ∙ (ap (λ ss. map cell_number (cells_in c.in-DeleteSection.section ss)) (c.as_slice.ensures ∙ ap (λ b. b.sections) c.parts.ensures.parts)
    ∙ (section-numbers c.args.book.now n own c.in-DeleteSection.section e ∙ ap (λ a. map cell_number (gone_cells n a)) (sym c.in-DeleteSection.is))))
    c.numbers_in.ensures
