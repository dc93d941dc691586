use Rattle.std.proofs.Common.{◌∙◌, sym, arith}
use Rattle.ex_parser.proofs.Depths.{outer_length, left_shorter}
use Rattle.ex_parser.proofs.nesting.Levels.close_hole.Goals as goal

pub loop-self-smaller : goal.loop-self-smaller
loop-self-smaller c =
    let n = c.loop-self.invariant c.requires.0 c.requires.1 in
    let b = sym (c.in_bracket.ensures n.now n.is_open) ∙ c.loop-self-test.true in
    let e = c.end-in-loop-self.ensures.ended _ (c.leave.ensures n.now n.is_open n.none) in
    omega (arith, outer_length _ _ e.around, outer_length _ _ n.is_open.around, left_shorter n.now.outer b)
