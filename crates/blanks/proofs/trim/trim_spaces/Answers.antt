use Rattle.std.proofs.Common.{lit<, ◌∙◌, ap}
use Rattle.blanks.specs.Blanks.{drop_end, is_space}
use Rattle.blanks.proofs.Trims.{trim_end-is, trim_start-is}
use Rattle.blanks.proofs.trim.trim_spaces.Goals as goal

pub returns : goal.returns
returns c =
    trim_end-is 32 _ _ (lit< tt) c.trim_end_matches.ensures.matches ∙ ap (drop_end is_space) (trim_start-is 32 _ _ (lit< tt) c.trim_start_matches.ensures.matches)
