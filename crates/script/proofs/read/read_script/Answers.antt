use Rattle.std.proofs.Common.{◌≡◌, ◌+◌, [], true, subst, sym, rules}
use Rattle.script.specs.declared.error.LineError.TheVariants.{Fault}
use Rattle.script.specs.Lines.{lines}
use Rattle.script.specs.Script.{IsScriptOf, IsFirstBad}
use Rattle.script.specs.Next.{IsStop}
use Rattle.script.proofs.Spelling.{empty-from_test}
use Rattle.script.proofs.Reading.{scripts-same}
use Rattle.script.proofs.Loop.{reading-end, reading-stop}
use Rattle.script.proofs.Fronts.{cause-none}
use Rattle.script.proofs.read.read_script.Goals as goal

pub returns-in-Err-Fault-clause-none : goal.returns-in-Err-Fault-clause-none
returns-in-Err-Fault-clause-none c =
    let stop : IsStop c.first_line.result.0.now c.loop-rest.script (Fault c.in-Err-Fault.kind) = rw (c.in-Err-Fault.is, c.in-Err-Fault.field-0-is) at c.with_line.ensures in
    let bad : IsFirstBad (lines c.args.bytes.now) (c.loop-rest.line + 1) c.in-Err-Fault.kind = reading-stop c.args.bytes.now c.loop-rest.rest.now c.loop-rest.line c.loop-rest.script c.first_line.result.0.now c.first_line.result.1.now c.in-Err-Fault.kind c.loop-rest.invariant.reading c.first_line.ensures.lines stop in
    cause-none c.args.bytes.now _ (c.loop-rest.invariant.small, subst (λ kind. IsFirstBad (lines c.args.bytes.now) (c.loop-rest.line + 1) kind) (sym c.in-Err-Fault.kind-is) bad)

pub returns-clause-single : goal.returns-clause-single
returns-clause-single c =
    let empty : c.is_empty.result ≡ true = search rules in
    let done : c.loop-rest.rest.now ≡ [] = empty-from_test c.loop-rest.rest.now c.is_empty.result c.is_empty.ensures empty in
    let one : IsScriptOf c.args.bytes.now c.loop-rest.script = reading-end c.args.bytes.now c.loop-rest.rest.now c.loop-rest.line c.loop-rest.script c.loop-rest.invariant.reading done c.loop-rest.invariant.small in
    λ other is. scripts-same (lines c.args.bytes.now) other c.loop-rest.script is.script one.script
