use Rattle.std.proofs.Common.{List, MatchOption, subst}
use Rattle.ex_model.specs.Tree.{Tree}
use Rattle.ex_model.specs.Reads.{Reads}
use Rattle.ex_model.specs.Means.{is_too_long, is_unread, is_read}
use Rattle.ex_source.specs.Reading.{IsReading}
use Rattle.ex_machine.proofs.run.Goals as goal

pub returns-then-source-gt-MOST_BYTES : goal.returns-then-source-gt-MOST_BYTES
returns-then-source-gt-MOST_BYTES c = rw c.in_ok-ran.ensures (is_too_long c.if-source-gt-MOST_BYTES.true)

pub returns-in_ok-ran-in-Some : goal.returns-in_ok-ran-in-Some
returns-in_ok-ran-in-Some c =
    let reading = subst (λ o. MatchOption o ((trees : List Tree) → ¬ Reads c.args.source.now trees) (IsReading c.args.source.now)) c.in-Some.is c.in_ok-ast.ensures in
    rw c.in_ok-ran-in-Some.ensures (is_read c.if-source-gt-MOST_BYTES.false reading.reads)

pub returns-in_ok-ran-in-None : goal.returns-in_ok-ran-in-None
returns-in_ok-ran-in-None c =
    let unread = subst (λ o. MatchOption o ((trees : List Tree) → ¬ Reads c.args.source.now trees) (IsReading c.args.source.now)) c.in-None.is c.in_ok-ast.ensures in
    rw c.in_ok-ran-in-None.ensures (is_unread c.if-source-gt-MOST_BYTES.false unread)
