use Rattle.std.proofs.Common.{arith}
use Rattle.delta.proofs.FrontLemmas.{past_whole, past_shorter, has_more}
use Rattle.delta.proofs.front.past.Goals as goal

pub shorter-requires : goal.shorter-requires
shorter-requires c = has_more c.args.front.now.head c.args.m c.run_len.result c.run_len.ensures (omega arith)

pub returns-then-m-run_len : goal.returns-then-m-run_len
returns-then-m-run_len c = past_whole _ _ _ c.run_len.result c.requires.run c.run_len.ensures (omega arith) c.requires.front c.front_of.ensures.front c.front_of.ensures.same

pub returns : goal.returns
returns c =
    past_shorter c.args.front.now.head c.shorter.result c.args.front.now.rest c.args.m (has_more c.args.front.now.head c.args.m c.run_len.result c.run_len.ensures (omega arith)) c.shorter.ensures c.requires.front
