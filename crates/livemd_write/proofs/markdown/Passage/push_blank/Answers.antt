use Rattle.std.proofs.Common.{refl}
use Rattle.livemd_lines.specs.Views.{line_view}
use Rattle.livemd_write.proofs.Passaging.{fence_by, taken_blank, taken_none}
use Rattle.livemd_write.proofs.markdown.Passage.push_blank.Goals as goal

pub returns-then-not-self : goal.returns-then-not-self
returns-then-not-self c = record { ok = λ seen k h. taken_none seen c.args.line.now.text.now c.args.self.now c.requires c.if-not-self.true h }

pub returns : goal.returns
returns c = record {
  ok = λ seen k h. taken_blank
      seen
      c.args.line.now.text.now
      c.args.self.now
      _
      c.requires
      c.if-not-self.false
      refl
      refl
      refl
      c.in_ok-push_line.ensures.ok
      (fence_by _ _ (line_view c.args.line.now) _ k c.open_after-self.ensures)
      h;
}
