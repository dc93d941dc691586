use Rattle.std.proofs.Common.{◌≡◌, drop}
use Rattle.transcript.specs.Texts.{rev_in as rev_among}
use Rattle.transcript.proofs.book.rev_in.Given as goal

abbrev pub invariant-loop-id : goal.invariant-loop-id
invariant-loop-id l = rev_among l.revs l.cell ≡ rev_among (drop l.id-index l.revs) l.cell
