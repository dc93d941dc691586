use Rattle.std.proofs.Common.{ap}
use Rattle.livemd_lines.specs.Kinds.{Heading1, Heading2, Opens}
use Rattle.livemd_lines.specs.Views.{kind_view, line_view}
use Rattle.livemd_read.specs.Views.{cut_of}
use Rattle.livemd_read.proofs.Steps.{cut_kind, fence_if, heading_if, line_cut}
use Rattle.livemd_read.proofs.take.begin_item.Goals as goal

pub returns-in-Opens : goal.returns-in-Opens
returns-in-Opens c =
    fence_if _ c.args.done.now c.args.number (line_view c.args.line.now) (Opens c.in-Opens.fence c.in-Opens.info.now) (ap kind_view c.in-Opens.is) c.requires.done c.begin_fence.ensures

pub returns-in-Heading1 : goal.returns-in-Heading1
returns-in-Heading1 c =
    heading_if _ c.args.done.now _ c.args.number (line_view c.args.line.now) (Heading1 c.in-Heading1.name.now) (ap kind_view c.in-Heading1.is) c.begin_heading.ensures

pub returns-in-Heading2 : goal.returns-in-Heading2
returns-in-Heading2 c =
    line_cut _ _ _ _ c.args.number _ (cut_kind (cut_of c.args.done.now) c.args.number (line_view c.args.line.now) (Heading2 c.in-Heading2.name.now) (ap kind_view c.in-Heading2.is)) c.push_line.ensures
