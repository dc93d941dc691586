use Rattle.std.proofs.Common.{subst, ◌∷◌}
use Rattle.ex_grammar.specs.Trees.{OneMore}
use Rattle.ex_parser.specs.Machine.{Want, Body}
use Rattle.ex_parser.specs.Shown.{TreeShows, is_body}
use Rattle.ex_parser.proofs.Turns.{no_tree, a_tree, begins}
use Rattle.ex_parser.proofs.parser.Parser.more_body.Goals as goal

pub returns-in_default : goal.returns-in_default
returns-in_default c = λ b xs j l all rest s v k i r. no_tree _ _ all v.tree _ (subst (λ o. TreeShows c.args.self.now.nodes.items o v.tree) c.in_default.is (c.tree_of.ensures _ v i))

pub returns : goal.returns
returns c = λ b xs j l all rest s v k i r.
    a_tree c.in-Some.tree v.tree (λ t. Want (Body b (OneMore t xs) ∷ s) rest) (subst (λ o. TreeShows c.args.self.now.nodes.items o v.tree) c.in-Some.is (c.tree_of.ensures _ v i))
    (λ t q. begins _ _ all rest s (Body b (OneMore t xs)) c.in_ok-moved.ensures k (is_body j (_, c.in-Some.tree, c.in_ok-push.ensures.items, q, l)) r)
