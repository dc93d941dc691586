use Rattle.std.proofs.Common.{◌≡◌, false, sym, ap, ◌∙◌, arith}
use Rattle.revisions.specs.Floors.{has_floor, without}
use Rattle.revisions.specs.Source.{leaving, rev_of}
use Rattle.revisions.proofs.Keeping.{refloored, same-floors}
use Rattle.revisions.proofs.Lowest.{lowest-left, without-stranger}
use Rattle.revisions.proofs.source_log.SourceLog.left.Goals as goal

pub returns-then-has-clause-gone : goal.returns-then-has-clause-gone
returns-then-has-clause-gone c = λ s h.
    let old = c.args.self.now in
    let client = c.args.client in
    c.let_go.ensures.log (leaving client s)
    (refloored s old _ _ h.holds (c.remove.ensures ∙ ap (without client) h.holds.known))
    (omega (arith, h.lowest, lowest-left client (rev_of s) s.floors))

pub returns-else-has-clause-gone : goal.returns-else-has-clause-gone
returns-else-has-clause-gone c = λ s h.
    let out : has_floor c.args.client s.floors ≡ false = ap (has_floor c.args.client) (sym h.holds.known) ∙ sym c.if-has.ensures in
    same-floors s (without c.args.client s.floors) c.args.self.now h (sym (without-stranger c.args.client s.floors out))
