use Rattle.std.proofs.Common.{◌≡◌, sym, subst, ap}
use Rattle.std.specs.List.{fold}
use Rattle.notebook.specs.Rules.{IsNotebook}
use Rattle.livemd_format.specs.Walk.{Draft, finished, new_draft, with_item}
use Rattle.livemd_read.specs.Views.{views}
use Rattle.livemd_read.proofs.Numbering.{IsDraft-items, IsNotebook-finished}
use Rattle.livemd_read.proofs.build.built.Goals as goal

pub of-requires : goal.of-requires
of-requires c =
    subst
    (λ (d : Draft). IsNotebook (finished d))
    (sym c.in_ok-draft.ensures)
    (IsNotebook-finished (fold with_item new_draft (views c.args.items.now)) (IsDraft-items (views c.args.items.now)) c.requires.sections c.requires.cells)
