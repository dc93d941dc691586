use Rattle.std.proofs.Common.{ap, sym, ◌∙◌, ◌++◌}
use Rattle.utf16_text.specs.Units.{units}
use Rattle.utf16_text.proofs.Counts.{chars_turn, chars_end, units-push}
use Rattle.utf16_text.proofs.units_of.Goals as goal

pub loop-c-preserved : goal.loop-c-preserved
loop-c-preserved c =
    let turn = chars_turn _ c.args.s.now c.utf8.s (cc) c.loop-c.yielded _ c.loop-c.yielded_by _ _ c.in-Some.c c.in-Some.is c.next.ensures.steps in
    c.in_ok-extend_from_slice.ensures.items ∙ (ap (λ w. w ++ c.encode_utf16.result.now) c.loop-c.invariant ∙ (ap (λ w. units c.loop-c.yielded ++ w) c.encode_utf16.ensures.value ∙ sym (units-push c.loop-c.yielded c.in-Some.c turn.good)))

pub returns : goal.returns
returns c =
    let e = chars_end _ c.args.s.now c.utf8.s (cc) c.loop-c.yielded _ c.loop-c.yielded_by _ _ c.in-None.is c.next.ensures.steps in
    c.loop-c.invariant ∙ ap units e
