use Rattle.std.proofs.Common.{subst}
use Rattle.ex_grammar.specs.Trees.{NoPart}
use Rattle.ex_parser.specs.Machine.{after_part, head}
use Rattle.ex_parser.specs.Shown.{TreeShows}
use Rattle.ex_parser.proofs.Turns.{no_tree, a_tree}
use Rattle.ex_parser.proofs.parser.Parser.for_source.Goals as goal

pub returns-in_default : goal.returns-in_default
returns-in_default c = λ p h all s v f k i e. no_tree _ _ all v.tree _ (subst (λ o. TreeShows c.args.self.now.nodes.items o v.tree) c.in_default.is (c.tree_of.ensures _ v i))

pub returns : goal.returns
returns c = λ p h all s v f k i e.
    a_tree c.in-Some.source v.tree (λ g. after_part f.next f.rest (head p g NoPart) s) (subst (λ o. TreeShows c.args.self.now.nodes.items o v.tree) c.in-Some.is (c.tree_of.ensures _ v i))
    (λ g q. c.in_ok-moved.ensures all s (head p g NoPart) f k (record { pattern = h; source = q; parts = c.new.ensures.items }) e)
