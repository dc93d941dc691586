use Rattle.std.proofs.Common.{refl, ◌∙◌, ap, ◌++◌}
use Rattle.utf16_text.specs.Units.{decoded}
use Rattle.delta.specs.Pack.{inserting, deleting}
use Rattle.delta.proofs.PackerLemmas.{flushed_some}
use Rattle.delta.proofs.packer.Packer.flush.Goals as goal

pub returns : goal.returns
returns c =
    flushed_some c.args.self.now _ c.in_ok-text.text (c.in_ok-text.ensures ∙ ap decoded c.deref.ensures.value) (c.is_idle.ensures.busy c.if-is_idle.false) c.clear.ensures.items refl refl
    (c.in_ok-push_delete.ensures ∙ ap (λ w. w ++ deleting c.args.self.now.drops) (c.in_ok-push_insert.ensures ∙ ap (λ w. w ++ inserting c.in_ok-text.text) c.in_ok-push_retain.ensures))
