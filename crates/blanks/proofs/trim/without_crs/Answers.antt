use Rattle.std.proofs.Common.{lit<}
use Rattle.blanks.proofs.Trims.{trim_end-is}
use Rattle.blanks.proofs.trim.without_crs.Goals as goal

pub returns : goal.returns
returns c = trim_end-is 13 _ _ (lit< tt) c.trim_end_matches.ensures.matches
