use Rattle.std.proofs.Common.{◌≡◌, subst, ◌∙◌}
use Rattle.std.proofs.lemmas.Result.{on_ok_weaker}
use Rattle.client_sync.specs.Client.{own_source}
use Rattle.client_sync.specs.Going.{HasForgotten}
use Rattle.client_sync.proofs.Changing.{gone_of, changed-over}
use Rattle.client_sync.proofs.client.Client.take_change.Goals as goal

pub returns : goal.returns
returns c = λ n n' ps made is below h.
    let gone : c.deref.result.now ≡ gone_of n c.args.asked = c.deref.ensures.value ∙ c.in_ok-gone.ensures n n' made (own_source ps) is.book h in
    let forgot : HasForgotten c.args.self.now c.forget_all.new.self (gone_of n c.args.asked) = subst (HasForgotten c.args.self.now c.forget_all.new.self) gone c.forget_all.ensures in
    on_ok_weaker c.make.result (λ w. changed-over n n' c.args.self.now c.forget_all.new.self c.make.new.self ps c.args.asked made is below h forgot w.0 w.1.0 w.1.1.0 w.1.1.1) c.make.ensures
