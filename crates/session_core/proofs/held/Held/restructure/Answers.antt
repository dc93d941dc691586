use Rattle.std.proofs.Common.{◌≡◌, ◌+◌, true, false, refl, sym, subst}
use Rattle.session_ops.specs.declared.entry.Call.TheVariants.{Client}
use Rattle.session_ops.specs.Numbers.{is_in}
use Rattle.session_ops.specs.State.{made_reply}
use Rattle.session_core.specs.declared.history.History.{History}
use Rattle.session_core.specs.History.{Appends, HasRoom, KeepsEntries}
use Rattle.session_core.specs.Held.{HasAnswered, state_of}
use Rattle.session_core.specs.Session.{entry_of}
use Rattle.session_core.proofs.HistoryLaws.{grown-after}
use Rattle.session_core.proofs.SessionLaws.{untouched, on-err}
use Rattle.session_core.proofs.StructureLaws.{stranger-change, changed-session, unchanged-session, unmade-before, holds-pushed, orderly-session}
use Rattle.session_core.proofs.held.Held.restructure.Goals as goal

pub returns-then-not-is_in-clause-ok : goal.returns-then-not-is_in-clause-ok
returns-then-not-is_in-clause-ok c = λ n0 is.
    let s = c.args.self.now in
    let out : is_in c.args.client s.joined.items ≡ false = subst (λ js. is_in c.args.client js ≡ false) c.as_slice.ensures.value (sym c.if-not-is_in.ensures) in
    c.refuse.ensures.ok n0 is (stranger-change n0 s c.args.client c.args.op c.args.change is out c.requires)

pub returns-in_err-make_room-clause-err : goal.returns-in_err-make_room-clause-err
returns-in_err-make_room-clause-err c = λ n0 is. on-err _ _ (untouched n0 c.args.self.now _ is c.make_room.ensures.kept refl refl refl refl)

pub append-requires : goal.append-requires
append-requires c = subst (λ (h : History). HasRoom (h.owed + 1) h) (sym c.in-Ok.ensures.history) c.in_ok-make_room.ensures.room

pub append-requires-in-Some : goal.append-requires-in-Some
append-requires-in-Some c = subst (λ (h : History). HasRoom (h.owed + 1) h) (sym c.in-Err.ensures.history) c.in_ok-make_room.ensures.room

pub returns-in-Ok-clause-ok : goal.returns-in-Ok-clause-ok
returns-in-Ok-clause-ok c = λ n0 is.
    let s = c.args.self.now in
    let m = c.make.new.self in
    let call = Client c.args.client c.args.op in
    let member : is_in c.args.client s.joined.items ≡ true = subst (λ js. is_in c.args.client js ≡ true) c.as_slice.ensures.value (sym c.if-not-is_in.ensures) in
    let done = c.in-Ok.ensures.made (state_of n0 s) (holds-pushed n0 s _ is refl refl refl refl) (orderly-session n0 s is) in
    let kept : KeepsEntries s.history m.history = subst (KeepsEntries s.history) (sym c.in-Ok.ensures.history) c.make_room.ensures.kept in
    let grown = grown-after s.history m.history _ (entry_of c.args.by call (made_reply c.in-Ok.made)) kept (subst (λ r. Appends m.history (entry_of c.args.by call r) m.history.owed c.append.new.self) c.reply_of.ensures c.append.ensures) in
    subst (HasAnswered n0 c.args.by call s _) (sym c.reply_of-in-Ok.ensures) (changed-session n0 s m _ c.args.by c.args.client c.args.op c.args.change c.in-Ok.made is member c.requires done grown refl refl refl c.sweep.ensures)

pub returns-in-Some-clause-ok : goal.returns-in-Some-clause-ok
returns-in-Some-clause-ok c = λ n0 is.
    let s = c.args.self.now in
    let m = c.make.new.self in
    let member : is_in c.args.client s.joined.items ≡ true = subst (λ js. is_in c.args.client js ≡ true) c.as_slice.ensures.value (sym c.if-not-is_in.ensures) in
    let done = c.in-Err.ensures.made (state_of n0 s) (holds-pushed n0 s _ is refl refl refl refl) (orderly-session n0 s is) in
    let kept : KeepsEntries s.history m.history = subst (KeepsEntries s.history) (sym c.in-Err.ensures.history) c.make_room.ensures.kept in
    unchanged-session n0 s m _ c.args.by c.args.client c.args.op c.args.change c.in-Err.fault c.in-Some.why is member c.requires done c.in-Some.ensures
    (grown-after s.history m.history _ _ kept c.append-in-Some.ensures)
    refl refl refl refl

pub returns-in-None-clause-err : goal.returns-in-None-clause-err
returns-in-None-clause-err c = λ n0 is.
    let s = c.args.self.now in
    let done = c.in-Err.ensures.made (state_of n0 s) (holds-pushed n0 s _ is refl refl refl refl) (orderly-session n0 s is) in
    unmade-before n0 s c.make.new.self _ c.args.change c.in-Err.fault is done (subst (KeepsEntries s.history) (sym c.in-Err.ensures.history) c.make_room.ensures.kept) refl refl refl refl
