use Rattle.std.proofs.Common.{◌≡◌, ◌∙◌, take}
use native.Mathlib.Nat.{sub-zero}
use Rattle.ex_lexer.proofs.FrontCode as X
use Rattle.ex_lexer.proofs.front.atom.Goals as goal

pub returns : goal.returns
returns c =
    let r : c.range.result.now ≡ take c.args.len c.args.rest.now = rw sub-zero at c.range.ensures.value in
    X.atom_front c.in_ok-atom.atom (take c.args.len c.args.rest.now) _ (c.in_ok-atom.ensures ∙ r)
