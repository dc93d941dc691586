use Rattle.std.proofs.Common.{subst}
use Rattle.ex_parser.specs.declared.follow.Next.TheVariants.{Do}
use Rattle.ex_parser.specs.Machine.{subject, FirstPattern}
use Rattle.ex_parser.specs.Shown.{TreeShows, is_first_pattern}
use Rattle.ex_parser.proofs.Turns.{no_tree, a_tree, begins, next_is, at_next}
use Rattle.ex_parser.proofs.parser.Parser.subject.Goals as goal

pub returns-in_default : goal.returns-in_default
returns-in_default c = λ all s v f k i e. no_tree _ _ all v.tree _ (subst (λ o. TreeShows c.args.self.now.nodes.items o v.tree) c.in_default.is (c.tree_of.ensures _ v i))

pub returns-in_ok-moved-in-Do : goal.returns-in_ok-moved-in-Do
returns-in_ok-moved-in-Do c = λ all s v f k i e.
    a_tree c.in-Some.subject v.tree (λ t. subject f.next f.rest t s) (subst (λ o. TreeShows c.args.self.now.nodes.items o v.tree) c.in-Some.is (c.tree_of.ensures _ v i))
    (λ t q. at_next (λ n. subject n f.rest t s) Do f (next_is all _ f _ c.in-Do.is e) (begins _ _ all f.rest s (FirstPattern t) c.in_ok-moved-in-Do.ensures k (is_first_pattern q) e.1))
