use Rattle.std.proofs.Common.{◌≡◌, ◌<◌, false, length, get_or, ◌∙◌, arith}
use Rattle.blanks.proofs.Fronts.{front_boundary, drop_front-is}
use Rattle.blanks.specs.Blanks.{is_space_or_tab}
use Rattle.blanks.proofs.trim.without_front_blanks.Goals as goal
use Rattle.blanks.proofs.trim.without_front_blanks.Goals.{then-loop-start-test+else-is_space_or_tab, else-loop-start-test}

pub range_from-requires : goal.range_from-requires
range_from-requires c = λ _. front_boundary c.args.text.now c.loop-start.start c.utf8.text c.loop-start.invariant.within c.loop-start.invariant.cut

pub returns : goal.returns
returns c =
    let stops : c.loop-start.start < length c.args.text.now → is_space_or_tab (get_or c.args.text.now c.loop-start.start 0) ≡ false =
    elim c.loop-start-test.branch [ then-loop-start-test+else-is_space_or_tab w ↦ λ _. (cc) | else-loop-start-test w ↦ λ h. absurd (omega arith) ] in
    c.range_from.ensures.value ∙ drop_front-is is_space_or_tab c.args.text.now c.loop-start.start c.loop-start.invariant.within c.loop-start.invariant.cut stops
