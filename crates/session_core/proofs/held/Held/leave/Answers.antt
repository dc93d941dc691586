use Rattle.std.proofs.Common.{◌≡◌, true, false, map, refl, sym, subst, ap, ◌∙◌}
use Rattle.std.specs.Vec.{with_items}
use Rattle.std.specs.List.{AllByRecursion}
use Rattle.std.proofs.lemmas.List.{with_items_is}
use Rattle.session_ops.specs.declared.entry.Op.TheVariants.{Leave}
use Rattle.session_ops.specs.Numbers.{is_in}
use Rattle.session_ops.specs.State.{once_left}
use Rattle.session_core.specs.Logs.{IsLogIn, log_cell}
use Rattle.session_core.specs.Held.{state_of}
use Rattle.session_core.proofs.HistoryLaws.{grown-after}
use Rattle.session_core.proofs.SessionLaws.{outsider-reply, left-session, untouched, on-err}
use Rattle.session_core.proofs.held.Held.leave.Goals as goal

pub returns-then-not-is_in-clause-ok : goal.returns-then-not-is_in-clause-ok
returns-then-not-is_in-clause-ok c = λ n0 is.
    let e : is_in c.args.client c.args.self.now.joined.items ≡ false = subst (λ js. is_in c.args.client js ≡ false) c.as_slice.ensures.value (sym c.if-not-is_in.ensures) in
    c.refuse.ensures.ok n0 is (outsider-reply n0 c.args.self.now c.args.client Leave is e)

pub returns-in_err-make_room-clause-err : goal.returns-in_err-make_room-clause-err
returns-in_err-make_room-clause-err c = λ n0 is. on-err _ _ (untouched n0 c.args.self.now _ is c.make_room.ensures.kept refl refl refl refl)

pub returns-clause-ok : goal.returns-clause-ok
returns-clause-ok c = λ n0 is.
    let s = c.args.self.now in
    let st = state_of n0 s in
    let e : is_in c.args.client s.joined.items ≡ true = subst (λ js. is_in c.args.client js ≡ true) c.as_slice.ensures.value (sym c.if-not-is_in.ensures) in
    let written : (with_items s.logs c.leave_all.new.logs).items ≡ c.leave_all.new.logs = with_items_is s.logs c.leave_all.new.logs (c.leave_all.ensures.len ∙ c.deref_mut.ensures.len) in
    left-session n0 s _ c.args.by c.args.client is e (grown-after s.history c.make_room.new.self _ _ c.make_room.ensures.kept c.append.ensures) refl c.remove.ensures
    (ap (map log_cell) written ∙ (c.leave_all.ensures.cells ∙ ap (map log_cell) c.deref_mut.ensures.value))
    (subst (AllByRecursion (IsLogIn (once_left c.args.client st))) (sym written) (c.leave_all.ensures.logs st (subst (AllByRecursion (IsLogIn st)) (sym c.deref_mut.ensures.value) is.logs.logs)))
    refl
