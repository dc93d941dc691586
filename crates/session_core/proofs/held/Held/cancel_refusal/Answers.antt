use Rattle.std.proofs.Common.{◌≡◌, Some, None, true, false, refl, sym, subst}
use Rattle.session_ops.specs.Numbers.{is_in}
use Rattle.session_core.proofs.QueueLaws.{stranger-cancel, member-cancel, cancel-kind}
use Rattle.session_core.proofs.held.Held.cancel_refusal.Goals as goal

pub returns-then-not-is_in : goal.returns-then-not-is_in
returns-then-not-is_in c = λ n0 is.
    let out : is_in c.args.client c.args.self.now.joined.items ≡ false = subst (λ js. is_in c.args.client js ≡ false) c.as_slice.ensures.value (sym c.if-not-is_in.ensures) in
    stranger-cancel n0 c.args.self.now c.args.client c.args.cell is out

pub returns-in-None : goal.returns-in-None
returns-in-None c = λ n0 is.
    let member : is_in c.args.client c.args.self.now.joined.items ≡ true = subst (λ js. is_in c.args.client js ≡ true) c.as_slice.ensures.value (sym c.if-not-is_in.ensures) in
    member-cancel n0 c.args.self.now c.args.client c.args.cell None _ is member (sym c.in-None.ensures) refl

pub returns-in-Some : goal.returns-in-Some
returns-in-Some c = λ n0 is.
    let s = c.args.self.now in
    let member : is_in c.args.client s.joined.items ≡ true = subst (λ js. is_in c.args.client js ≡ true) c.as_slice.ensures.value (sym c.if-not-is_in.ensures) in
    member-cancel n0 s c.args.client c.args.cell (Some c.in-Some.found.now) _ is member (sym c.in-Some.ensures) (cancel-kind n0 s c.args.cell c.in-Some.found.now _ is c.wanted_refusal.ensures)
