use Rattle.ex_model.proofs.Arena.{trees_found, trees_stand}
use Rattle.ex_model.proofs.ast.Ast.of.Goals as goal

pub returns : goal.returns
returns c = λ trees h. trees_found _ _ trees h

pub invariant_of-result : goal.invariant_of-result
invariant_of-result c = trees_stand _ _ c.requires
