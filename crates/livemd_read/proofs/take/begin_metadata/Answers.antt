use Rattle.std.proofs.Common.{sym, ap, ◌∙◌}
use Rattle.livemd_lines.specs.Views.{line_view}
use Rattle.livemd_format.specs.Items.{Cut, Item, Stamp, Kept, cut_metadata, one_line}
use Rattle.livemd_lines.specs.declared.metadata.Metadata.{Metadata}
use Rattle.livemd_read.specs.Views.{cut_of}
use Rattle.livemd_read.proofs.Steps.{line_cut}
use Rattle.livemd_read.proofs.take.begin_metadata.Goals as goal

pub returns-in-BranchParentIndex : goal.returns-in-BranchParentIndex
returns-in-BranchParentIndex c = line_cut _ _ _ _ c.args.number _ (λ rest. ap (λ (m : Metadata). cut_metadata m (cut_of c.args.done.now) c.args.number (line_view c.args.line.now) rest) (sym c.in-BranchParentIndex.is)) c.push_line.ensures

pub returns-in-BreakMarkdown : goal.returns-in-BreakMarkdown
returns-in-BreakMarkdown c = line_cut _ _ _ _ c.args.number _ (λ rest. ap (λ (m : Metadata). cut_metadata m (cut_of c.args.done.now) c.args.number (line_view c.args.line.now) rest) (sym c.in-BreakMarkdown.is)) c.push_line-in-BreakMarkdown.ensures

pub returns-in-Stamp : goal.returns-in-Stamp
returns-in-Stamp c = line_cut _ _ _ _ c.args.number _ (λ rest. ap (λ t. one_line (Stamp t)) c.without_end_blanks.ensures ∙ ap (λ (m : Metadata). cut_metadata m (cut_of c.args.done.now) c.args.number (line_view c.args.line.now) rest) (sym c.in-Stamp.is)) c.push_line-in-Stamp.ensures

pub returns-in-Unknown : goal.returns-in-Unknown
returns-in-Unknown c = line_cut _ _ _ _ c.args.number _ (λ rest. ap (λ t. one_line (Kept t)) c.without_end_blanks-in-Unknown.ensures ∙ ap (λ (m : Metadata). cut_metadata m (cut_of c.args.done.now) c.args.number (line_view c.args.line.now) rest) (sym c.in-Unknown.is)) c.push_line-in-Unknown.ensures
