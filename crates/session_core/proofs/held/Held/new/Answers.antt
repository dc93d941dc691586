use Rattle.std.proofs.Common.{refl, sym, subst}
use Rattle.std.specs.List.{AllByRecursion}
use Rattle.notebook.specs.Book.{cells}
use Rattle.notebook.specs.Rules.{IsNotebook}
use Rattle.session_ops.specs.State.{opening}
use Rattle.session_core.specs.Logs.{LineUp, BeginsIn}
use Rattle.session_core.proofs.HistoryLaws.{owes-room}
use Rattle.session_core.proofs.Owners.{all-begin}
use Rattle.session_core.proofs.SessionLaws.{opening-session}
use Rattle.session_core.proofs.held.Held.new.Goals as goal

pub returns : goal.returns
returns c =
    let n = c.args.book in
    let rules : IsNotebook n = subst IsNotebook c.parts-parts.ensures.parts c.parts-parts.ensures.rules in
    let logs : LineUp (opening n) (cells n) c.in_ok-logs.logs.items = subst (λ m. LineUp (opening m) (cells m) c.in_ok-logs.logs.items) c.parts-parts.ensures.parts (c.in_ok-logs.ensures (subst (λ m. AllByRecursion (BeginsIn m) (cells m)) (sym c.parts-parts.ensures.parts) (all-begin n rules))) in
    (opening-session n _ rules refl c.new.ensures.items logs c.new-2.ensures c.new-3.ensures.entries c.new-3.ensures.owed (owes-room c.new-3.result 0 c.new-3.ensures.owed c.new-3.ensures.room), c.new-3.ensures.entries)
