use Rattle.std.proofs.Common.{◌++◌, refl, ap, ◌∙◌}
use Rattle.std.specs.String.{string_bytes}
use Rattle.livemd_lines.specs.Views.{line_view}
use Rattle.livemd_write.proofs.Passaging.{fence_by, taken_line}
use Rattle.livemd_write.proofs.markdown.Passage.push.Goals as goal

pub returns : goal.returns
returns c = record {
  ok = λ seen k h. taken_line
      seen
      c.args.line.now.text.now
      (string_bytes c.push_str.new.self)
      c.args.self.now
      _
      c.requires
      (c.in_ok-push_str.ensures.bytes ∙ ap (λ w. string_bytes c.args.self.now.text ++ w) c.as_str.ensures.value)
      c.in_ok-push_line.ensures.ok
      refl
      refl
      c.clear.ensures.bytes
      (fence_by _ _ (line_view c.args.line.now) _ k c.open_after-self.ensures)
      h;
}
