use Rattle.std.proofs.Common.{◌++◌, ◌∷◌, [], refl, sym, subst, ◌∙◌}
use Rattle.session_ops.specs.State.{opening}
use Rattle.session_core.specs.Stands.{StandsFor}
use Rattle.session_core.specs.Logs.{LineUp}
use Rattle.session_core.specs.declared.logs.CellLog.{CellLog}
use Rattle.session_core.proofs.LogLaws.{logs-more}
use Rattle.session_core.proofs.Standing.{stands-new}
use Rattle.session_core.proofs.logs.push_log.Goals as goal

pub returns : goal.returns
returns c = λ n before begins h.
    let x = c.args.cell.now in
    let log : StandsFor (opening n) x.id c.in_ok-copy.field-0 c.in_ok-log.log =
    stands-new (opening n) x.id c.in_ok-copy.field-0 [] c.in_ok-log.log (record { joined_are = refl; began = begins ∙ sym c.in_ok-copy.ensures; taken = refl; known = λ m. refl }) c.in_ok-log.ensures in
    let l : CellLog = record { cell = x.id; log = c.in_ok-log.log } in
    let more = logs-more (opening n) before c.args.logs.now.items x l h (record { cell = refl; log = subst (λ t. StandsFor (opening n) x.id t c.in_ok-log.log) c.in_ok-copy.ensures log }) in
    subst (LineUp (opening n) (before ++ x ∷ [])) (sym c.in_ok-push.ensures.items) more
