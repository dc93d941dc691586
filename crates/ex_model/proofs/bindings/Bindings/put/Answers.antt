use Rattle.std.proofs.Common.{◌∙◌, sym, ap, slice_set}
use Rattle.std.specs.Prelude.{position}
use Rattle.ex_model.specs.Bound.{put}
use Rattle.ex_model.proofs.Puts.{has, put_in_place, put_at_end}
use Rattle.ex_model.proofs.bindings.Bindings.put.Goals as goal

pub returns-in-Some-clause-ok : goal.returns-in-Some-clause-ok
returns-in-Some-clause-ok c =
    let place = ap (λ bs. position (has c.as_str.result.now) bs) c.deref.ensures.value ∙ ap (λ x. position (has x) c.self.inside.bindings.items) c.as_str.ensures in
    ap (λ b. slice_set c.self.inside.bindings.items c.in-Some.place b) c.become_of.ensures
    ∙ (put_in_place c.self.inside.bindings.items c.args.name c.args.value c.in-Some.place (sym c.in-Some.is ∙ (c.place_of.ensures ∙ place))
    ∙ ap (λ bs. put bs c.args.name c.args.value) c.self.view_is)

pub returns-in_ok-push-in-None-clause-ok : goal.returns-in_ok-push-in-None-clause-ok
returns-in_ok-push-in-None-clause-ok c =
    let place = ap (λ bs. position (has c.as_str.result.now) bs) c.deref.ensures.value ∙ ap (λ x. position (has x) c.self.inside.bindings.items) c.as_str.ensures in
    c.in_ok-push-in-None.ensures.items
    ∙ (put_at_end c.self.inside.bindings.items c.args.name c.args.value (sym c.in-None.is ∙ (c.place_of.ensures ∙ place))
    ∙ ap (λ bs. put bs c.args.name c.args.value) c.self.view_is)
