use Rattle.std.proofs.Common.{◌≡◌, ◌∙◌, map, ap, sym, subst}
use Rattle.std.specs.Vec.{with_items}
use Rattle.std.specs.List.{AllByRecursion}
use Rattle.std.proofs.lemmas.List.{with_items_is}
use Rattle.session_core.specs.Logs.{IsLogIn, log_cell, once_joined}
use Rattle.session_core.proofs.LogLaws.{popped}
use Rattle.session_core.proofs.logs.take_part.Goals as goal

pub returns-in-Ok-clause-cells : goal.returns-in-Ok-clause-cells
returns-in-Ok-clause-cells c =
    let written : (with_items c.args.logs.now c.join_all.new.logs).items ≡ c.join_all.new.logs = with_items_is c.args.logs.now c.join_all.new.logs (c.in-Ok.ensures.len ∙ c.deref_mut.ensures.len) in
    ap (map log_cell) written ∙ (c.in-Ok.ensures.cells ∙ ap (map log_cell) c.deref_mut.ensures.value)

pub returns-in-Err-clause-cells : goal.returns-in-Err-clause-cells
returns-in-Err-clause-cells c =
    let written : (with_items c.args.logs.now c.join_all.new.logs).items ≡ c.join_all.new.logs = with_items_is c.args.logs.now c.join_all.new.logs (c.in-Err.ensures.len ∙ c.deref_mut.ensures.len) in
    ap (map log_cell) written ∙ (c.in-Err.ensures.cells ∙ ap (map log_cell) c.deref_mut.ensures.value)

pub returns-in-Ok-clause-logs_ok : goal.returns-in-Ok-clause-logs_ok
returns-in-Ok-clause-logs_ok c = λ s out h.
    let written : (with_items c.args.logs.now c.join_all.new.logs).items ≡ c.join_all.new.logs = with_items_is c.args.logs.now c.join_all.new.logs (c.in-Ok.ensures.len ∙ c.deref_mut.ensures.len) in
    subst (AllByRecursion (IsLogIn (once_joined c.args.client s))) (sym written) (c.in-Ok.ensures.ok s out (subst (AllByRecursion (IsLogIn s)) (sym c.deref_mut.ensures.value) h))

pub returns-in-Err-clause-logs_err : goal.returns-in-Err-clause-logs_err
returns-in-Err-clause-logs_err c = λ s out h.
    let written : (with_items c.args.logs.now c.join_all.new.logs).items ≡ c.join_all.new.logs = with_items_is c.args.logs.now c.join_all.new.logs (c.in-Err.ensures.len ∙ c.deref_mut.ensures.len) in
    subst (AllByRecursion (IsLogIn s)) (sym written) (c.in-Err.ensures.err s out (subst (AllByRecursion (IsLogIn s)) (sym c.deref_mut.ensures.value) h))

pub returns-in-Err-clause-joined_err : goal.returns-in-Err-clause-joined_err
returns-in-Err-clause-joined_err c = popped c.args.joined.now.items c.push.new.self.items c.pop.new.self.items c.args.client _ c.in_ok-push.ensures.items (sym c.push.new.self.ok.0) c.pop.ensures.rest
