use Rattle.std.proofs.Common.{◌≡◌, Some, None, true, false, sym, subst}
use Rattle.session_ops.specs.declared.entry.Op.TheVariants.{Delta}
use Rattle.session_ops.specs.Numbers.{is_in}
use Rattle.session_core.specs.Logs.{place_in}
use Rattle.session_core.specs.Held.{state_of}
use Rattle.session_core.proofs.Owners.{absent}
use Rattle.session_core.proofs.SessionLaws.{outsider-reply}
use Rattle.session_core.proofs.SourceLaws.{delta-answer}
use Rattle.session_core.proofs.held.Held.edit.Goals as goal

pub edit_at-requires : goal.edit_at-requires
edit_at-requires c = subst (λ ls. Some c.in-Some.at ≡ place_in c.args.edit.cell ls) c.as_slice-2.ensures.value c.in-Some.ensures

pub returns-then-not-is_in-clause-ok : goal.returns-then-not-is_in-clause-ok
returns-then-not-is_in-clause-ok c = λ n0 is.
    let s = c.args.self.now in
    let e = c.args.edit in
    let out : is_in e.client s.joined.items ≡ false = subst (λ js. is_in e.client js ≡ false) c.as_slice.ensures.value (sym c.if-not-is_in.ensures) in
    c.refuse_edit.ensures.ok n0 is (outsider-reply n0 s e.client (Delta e.cell e.base e.delta) is out)

pub returns-in-None-clause-ok : goal.returns-in-None-clause-ok
returns-in-None-clause-ok c = λ n0 is.
    let s = c.args.self.now in
    let e = c.args.edit in
    let member : is_in e.client s.joined.items ≡ true = subst (λ js. is_in e.client js ≡ true) c.as_slice.ensures.value (sym c.if-not-is_in.ensures) in
    c.refuse_edit-in-None.ensures.ok n0 is (delta-answer n0 s e.client e.cell e.base e.delta None is member (absent (state_of n0 s) e.cell s.logs.items is.logs (subst (λ ls. None ≡ place_in e.cell ls) c.as_slice-2.ensures.value c.in-None.ensures)))

pub returns-in-Some-clause-ok : goal.returns-in-Some-clause-ok
returns-in-Some-clause-ok c = λ n0 is.
    let member : is_in c.args.edit.client c.args.self.now.joined.items ≡ true = subst (λ js. is_in c.args.edit.client js ≡ true) c.as_slice.ensures.value (sym c.if-not-is_in.ensures) in
    c.edit_at.ensures.ok n0 is member

pub returns-in-Some-clause-err : goal.returns-in-Some-clause-err
returns-in-Some-clause-err c = λ n0 is.
    let member : is_in c.args.edit.client c.args.self.now.joined.items ≡ true = subst (λ js. is_in c.args.edit.client js ≡ true) c.as_slice.ensures.value (sym c.if-not-is_in.ensures) in
    c.edit_at.ensures.err n0 is member
