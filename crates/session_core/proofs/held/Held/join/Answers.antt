use Rattle.std.proofs.Common.{◌≡◌, true, false, refl, sym, subst}
use Rattle.session_ops.specs.declared.entry.Op.TheVariants.{Join}
use Rattle.session_ops.specs.Numbers.{is_in}
use Rattle.session_core.specs.Held.{state_of}
use Rattle.session_core.proofs.Owners.{logs-kept}
use Rattle.session_core.proofs.HistoryLaws.{grown-after}
use Rattle.session_core.proofs.SessionLaws.{member-reply, joined-session, member-of, as-before, untouched, on-err}
use Rattle.session_core.proofs.held.Held.join.Goals as goal

pub returns-then-is_in-clause-ok : goal.returns-then-is_in-clause-ok
returns-then-is_in-clause-ok c = λ n0 is.
    let e : is_in c.args.client c.args.self.now.joined.items ≡ true = subst (λ js. is_in c.args.client js ≡ true) c.as_slice.ensures.value (sym c.if-is_in.ensures) in
    c.refuse.ensures.ok n0 is (member-reply n0 c.args.self.now c.args.client Join is e)

pub returns-in_err-make_room-clause-err : goal.returns-in_err-make_room-clause-err
returns-in_err-make_room-clause-err c = λ n0 is. on-err _ _ (untouched n0 c.args.self.now _ is c.make_room.ensures.kept refl refl refl refl)

pub returns-clause-ok : goal.returns-clause-ok
returns-clause-ok c = λ n0 is.
    let s = c.args.self.now in
    let e : is_in c.args.client s.joined.items ≡ false = subst (λ js. is_in c.args.client js ≡ false) c.as_slice.ensures.value (sym c.if-is_in.ensures) in
    joined-session n0 s _ c.args.by c.args.client is e (grown-after s.history c.make_room.new.self _ _ c.make_room.ensures.kept c.append.ensures) refl c.in_ok-take_part.ensures.joined_ok c.in_ok-take_part.ensures.cells (c.in_ok-take_part.ensures.logs_ok (state_of n0 s) (member-of n0 s c.args.client false is e) is.logs.logs) refl

pub returns-in_err-take_part-clause-err : goal.returns-in_err-take_part-clause-err
returns-in_err-take_part-clause-err c = λ n0 is.
    let s = c.args.self.now in
    let e : is_in c.args.client s.joined.items ≡ false = subst (λ js. is_in c.args.client js ≡ false) c.as_slice.ensures.value (sym c.if-is_in.ensures) in
    let st = state_of n0 s in
    on-err _ _ (as-before n0 s _ is c.make_room.ensures.kept refl c.in_err-take_part.ensures.joined_err
    (logs-kept st st s.logs.items _ is.logs refl c.in_err-take_part.ensures.cells (c.in_err-take_part.ensures.logs_err st (member-of n0 s c.args.client false is e) is.logs.logs)) refl)
