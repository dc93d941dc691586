use Rattle.std.proofs.Common.{rules}
use Rattle.ex_prims.specs.Texts.{joined, texts_of}
use Rattle.ex_prims.proofs.TextGaps.{answer-within, unpaid-gaps}
use Rattle.ex_prims.proofs.texting.joined_within.Goals as goal

pub returns-in-Ok : goal.returns-in-Ok
returns-in-Ok c = answer-within c.args.limits.now c.joined.result (joined c.args.between.now (texts_of c.args.items.now)) c.joined.ensures

pub returns-in-Err : goal.returns-in-Err
returns-in-Err c = unpaid-gaps c.args.limits.now c.repeated_size.result c.saturating_sub-gaps.result c.args.between.now c.args.items.now c.in-Err.refused (search rules) (search rules) c.requires c.in-Err.ensures
