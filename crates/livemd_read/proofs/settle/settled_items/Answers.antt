use Rattle.std.proofs.Common.{ap, sym, ◌∙◌}
use Rattle.std.specs.List.{fold}
use Rattle.livemd_format.specs.Walk.{Draft, finished, new_draft, with_item}
use Rattle.livemd_format.proofs.Walking.{notebook_is_walked, notices_are_walked}
use Rattle.livemd_read.specs.Views.{views}
use Rattle.livemd_read.proofs.settle.settled_items.Goals as goal

pub returns-clause-sections : goal.returns-clause-sections
returns-clause-sections c =
    ap (λ n. n.sections) (notebook_is_walked (views c.args.items.items))
    ∙ ap (λ is. (fold with_item new_draft is).parts.sections) (sym c.settle.ensures)

pub returns-clause-notebook : goal.returns-clause-notebook
returns-clause-notebook c =
    notebook_is_walked (views c.args.items.items) ∙ ap (λ is. finished (fold with_item new_draft is)) (sym c.settle.ensures)

pub returns-clause-notices : goal.returns-clause-notices
returns-clause-notices c =
    notices_are_walked (views c.args.items.items)
    ∙ ap (λ is. (fold with_item new_draft is).notices) (sym c.settle.ensures)
