use Rattle.std.proofs.Common.{◌≡◌, false, refl, sym, ne_eqb}
use Rattle.std.specs.Prelude.{◌==◌}
use Rattle.notebook.proofs.Setting.{within-home, place-set, setup-set, none-live, place-live}
use Rattle.notebook.proofs.Sources.{with_source-none}
use Rattle.notebook.proofs.cells.set_source.Goals as goal

pub returns-then-parts-id-clause-set : goal.returns-then-parts-id-clause-set
returns-then-parts-id-clause-set c = setup-set _ _ _ c.requires c.if-parts-id.true

pub item_mut-cell-requires : goal.item_mut-cell-requires
item_mut-cell-requires c = within-home _ _ _ _ _ (rw c.as_slice.ensures at c.in-Some.ensures) c.item_mut-section.ensures.value

pub returns-in-Some-clause-live : goal.returns-in-Some-clause-live
returns-in-Some-clause-live c =
    let other : (c.args.parts.now.setup.id == c.args.id) ≡ false = ne_eqb _ _ c.if-parts-id.false in
    rw (place-live c.args.parts.now c.args.id _ _ other (rw c.as_slice.ensures at c.in-Some.ensures)) (λ _. refl, λ _. refl)

pub returns-in-Some-clause-set : goal.returns-in-Some-clause-set
returns-in-Some-clause-set c =
    place-set
    _
    _
    _
    _
    _
    _
    _
    c.requires
    (ne_eqb _ _ c.if-parts-id.false)
    (rw c.as_slice.ensures at c.in-Some.ensures)
    c.item_mut-section.ensures.value
    c.item_mut-cell.ensures.value

pub returns-in-None-clause-set : goal.returns-in-None-clause-set
returns-in-None-clause-set c =
    sym (with_source-none _ _ c.args.parts.now (none-live c.args.parts.now _ (ne_eqb _ _ c.if-parts-id.false) (rw c.as_slice.ensures at c.in-None.ensures)))
