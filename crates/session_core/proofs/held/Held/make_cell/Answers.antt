use Rattle.std.proofs.Common.{◌++◌, ◌∷◌, [], if◌then◌else◌, refl, ap, ◌∙◌}
use Rattle.notebook.specs.declared.parts.Parts.{Parts}
use Rattle.session_core.proofs.StructureLaws.{cell-made}
use Rattle.session_core.proofs.held.Held.make_cell.Goals as goal

pub returns-in-Ok-clause-made : goal.returns-in-Ok-clause-made
returns-in-Ok-clause-made c = λ s h o.
    let old = c.args.self.now.logs.items in
    let more = old ++ c.in_ok-log.log ∷ [] in
    cell-made s c.args.change c.in-Ok.made c.args.source c.as_slice.result.now c.parts.result.now.next_cell c.args.self.now _ c.in_ok-log.log h o c.in-Ok.ensures.made c.requires.begins c.as_slice.ensures.value
    (ap (λ (n : Parts). n.next_cell) c.parts.ensures.parts) (λ t f. c.in_ok-log.ensures t f) refl
    (c.push.ensures.items ∙ ap (λ b. if b then more else old) c.if-is_err.ensures.negation)
    c.house.ensures
