use Rattle.std.proofs.Common.{subst}
use Rattle.ex_parser.specs.Machine.{after_part, and_generator}
use Rattle.ex_parser.specs.Shown.{TreeShows}
use Rattle.ex_parser.proofs.Turns.{no_tree, a_tree, head_generator}
use Rattle.ex_parser.proofs.parser.Parser.part_source.Goals as goal

pub returns-in_default : goal.returns-in_default
returns-in_default c = λ h p j l all s v f k i e. no_tree _ _ all v.tree _ (subst (λ o. TreeShows c.args.self.now.nodes.items o v.tree) c.in_default.is (c.tree_of.ensures _ v i))

pub returns : goal.returns
returns c = λ h p j l all s v f k i e.
    a_tree c.in-Some.source v.tree (λ g. after_part f.next f.rest (and_generator h p g) s) (subst (λ o. TreeShows c.args.self.now.nodes.items o v.tree) c.in-Some.is (c.tree_of.ensures _ v i))
    (λ g q. c.in_ok-moved.ensures all s (and_generator h p g) f k (head_generator _ c.args.head c.in_ok-head.head h c.args.pattern c.in-Some.source p g c.in_ok-head.ensures j l q) e)
