use Rattle.std.proofs.Common.{length}
use denote.Text.{Utf8}
use denote.Shadow.{shadow}
use Rattle.ex_source.specs.Settled.{gap_of}
use Rattle.ex_source.proofs.Settling.{Lexed}
use Rattle.ex_source.proofs.tokens.tokens.Given as goal

-- the tokens so far and those of the rest are the source's
abbrev pub invariant-loop-rest : goal.invariant-loop-rest
invariant-loop-rest l = record {
  text : shadow (Utf8 l.rest);
  lexed : Lexed l.source l.rest l.settled.tokens.items l.settled.drops (gap_of l.settled.gap);
}

abbrev pub decreases-loop-rest : goal.decreases-loop-rest
decreases-loop-rest l = length l.rest
