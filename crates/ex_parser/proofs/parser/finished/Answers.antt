use Rattle.std.proofs.Common.{subst}
use Rattle.ex_parser.specs.Shown.{TreeShows}
use Rattle.ex_parser.proofs.StepTurns.{whole_none, whole_some}
use Rattle.ex_parser.proofs.parser.finished.Goals as goal

pub returns-in-None : goal.returns-in-None
returns-in-None c = λ ns all v i. whole_none ns all v.tree c.args.at (subst (λ o. TreeShows ns o v.tree) c.in-None.is (c.tree_of.ensures ns v i))

pub returns-in-Some : goal.returns-in-Some
returns-in-Some c = λ ns all v i. whole_some ns all v.tree c.in-Some.root c.args.at (subst (λ o. TreeShows ns o v.tree) c.in-Some.is (c.tree_of.ensures ns v i))
