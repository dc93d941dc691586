use Rattle.std.proofs.Common.{List, refl, sym, ap, ◌∙◌}
use Rattle.std.specs.Prelude.{is_some}
use Rattle.notebook.specs.declared.parts.Section.{Section}
use Rattle.notebook.specs.Change.{has_branches}
use Rattle.notebook.proofs.Making.{read-in}
use Rattle.notebook.proofs.Parents.{no-parent-section, later-parent, branch-parent, parent-of-branches, made-parent}
use Rattle.notebook.proofs.edits.set_parent.Goals as goal

pub returns-in_default-section_at : goal.returns-in_default-section_at
returns-in_default-section_at c = (no-parent-section c.args.parts.now c.args.section c.args.parent (rw c.as_slice-sections.ensures at c.in_default-section_at.ensures), refl)

pub returns-then-from-at : goal.returns-then-from-at
returns-then-from-at c = (
  later-parent c.args.parts.now
      c.args.section
      c.args.parent
      c.in-Some.at
      c.in-Some-section_at.from c.requires (rw c.as_slice-sections.ensures at c.in-Some.ensures) (rw c.as_slice-sections.ensures at c.in-Some-section_at.ensures) c.if-from-at.true,
  refl,
)

pub returns-then-is_some : goal.returns-then-is_some
returns-then-is_some c = (
  branch-parent c.args.parts.now
      c.args.section
      c.args.parent
      c.in-Some.at
      c.in-Some-section_at.from c.index-sections-from.result c.requires (rw c.as_slice-sections.ensures at c.in-Some.ensures) (rw c.as_slice-sections.ensures at c.in-Some-section_at.ensures) (read-in c.as_slice-sections.result.now c.args.parts.now.sections c.in-Some-section_at.from c.index-sections-from.result c.as_slice-sections.ensures c.index-sections-from.is) (ap (λ (s : Section). is_some s.parent) c.index-sections-from.is ∙ (sym c.is_some.ensures ∙ c.if-is_some.true)),
  refl,
)

pub returns-then-has_branches : goal.returns-then-has_branches
returns-then-has_branches c = (
  parent-of-branches c.args.parts.now
      c.args.section
      c.args.parent
      c.in-Some.at
      c.in-Some-section_at.from c.index-sections-from.result c.requires (rw c.as_slice-sections.ensures at c.in-Some.ensures) (rw c.as_slice-sections.ensures at c.in-Some-section_at.ensures) c.if-from-at.false (read-in c.as_slice-sections.result.now c.args.parts.now.sections c.in-Some-section_at.from c.index-sections-from.result c.as_slice-sections.ensures c.index-sections-from.is) (ap (λ (s : Section). is_some s.parent) c.index-sections-from.is ∙ (sym c.is_some.ensures ∙ c.if-is_some.false)) (ap (λ (ss : List Section). has_branches c.args.section ss) (sym c.as_slice-sections.ensures) ∙ (sym c.has_branches.ensures ∙ c.if-has_branches.true)),
  refl,
)

pub returns : goal.returns
returns c = made-parent c.args.parts.now
    c.args.section
    c.args.parent
    c.in-Some.at
    c.in-Some-section_at.from c.index-sections-from.result _ c.requires (rw c.as_slice-sections.ensures at c.in-Some.ensures) (rw c.as_slice-sections.ensures at c.in-Some-section_at.ensures) c.if-from-at.false (read-in c.as_slice-sections.result.now c.args.parts.now.sections c.in-Some-section_at.from c.index-sections-from.result c.as_slice-sections.ensures c.index-sections-from.is) (ap (λ (s : Section). is_some s.parent) c.index-sections-from.is ∙ (sym c.is_some.ensures ∙ c.if-is_some.false)) (ap (λ (ss : List Section). has_branches c.args.section ss) (sym c.as_slice-sections.ensures) ∙ (sym c.has_branches.ensures ∙ c.if-has_branches.false)) c.item_mut.ensures.value
