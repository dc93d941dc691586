use Rattle.std.proofs.Common.{refl, drop, subst}
use Rattle.ex_grammar.specs.Trees.{Match}
use Rattle.ex_parser.specs.Machine.{Have, made}
use Rattle.ex_parser.specs.Shown.{TreeShows}
use Rattle.ex_parser.proofs.Turns.{no_tree, a_tree, makes, match_at}
use Rattle.ex_parser.proofs.parser.Parser.bind.Goals as goal

pub returns-in-None : goal.returns-in-None
returns-in-None c = λ p h all s v k i. no_tree _ _ all v.tree _ (subst (λ o. TreeShows c.args.self.now.nodes.items o v.tree) c.in-None.is (c.tree_of.ensures _ v i))

pub returns-in_ok-moved-in-Some : goal.returns-in_ok-moved-in-Some
returns-in_ok-moved-in-Some c = λ p h all s v k i.
    a_tree c.in-Some.tree v.tree (λ t. Have s (made (Match p t) 0) (drop c.args.at all)) (subst (λ o. TreeShows c.args.self.now.nodes.items o v.tree) c.in-Some.is (c.tree_of.ensures _ v i))
    (λ t q. makes _ _ all _ s _ c.in_ok-moved-in-Some.ensures k (match_at _ c.args.pattern c.in-Some.tree p t h q) refl)
