use Rattle.std.proofs.Common.{subst}
use Rattle.ex_parser.specs.declared.follow.Next.TheVariants.{Do, CommaDo}
use Rattle.ex_parser.specs.Machine.{condition, DoIf, Then}
use Rattle.ex_parser.specs.Shown.{TreeShows, is_do_if, is_then}
use Rattle.ex_parser.proofs.Turns.{no_tree, a_tree, begins, next_is, at_next}
use Rattle.ex_parser.proofs.parser.Parser.condition.Goals as goal

pub returns-in_default : goal.returns-in_default
returns-in_default c = λ all s v f k i e. no_tree _ _ all v.tree _ (subst (λ o. TreeShows c.args.self.now.nodes.items o v.tree) c.in_default.is (c.tree_of.ensures _ v i))

pub returns-in_ok-moved-in-Do : goal.returns-in_ok-moved-in-Do
returns-in_ok-moved-in-Do c = λ all s v f k i e.
    a_tree c.in-Some.condition v.tree (λ t. condition f.next f.rest t s) (subst (λ o. TreeShows c.args.self.now.nodes.items o v.tree) c.in-Some.is (c.tree_of.ensures _ v i))
    (λ t q. at_next (λ n. condition n f.rest t s) Do f (next_is all _ f _ c.in-Do.is e) (c.in_ok-moved-in-Do.ensures all f.rest s (Then t) k (is_then q) e.1))

pub returns-in_ok-moved-in-CommaDo : goal.returns-in_ok-moved-in-CommaDo
returns-in_ok-moved-in-CommaDo c = λ all s v f k i e.
    a_tree c.in-Some.condition v.tree (λ t. condition f.next f.rest t s) (subst (λ o. TreeShows c.args.self.now.nodes.items o v.tree) c.in-Some.is (c.tree_of.ensures _ v i))
    (λ t q. at_next (λ n. condition n f.rest t s) CommaDo f (next_is all _ f _ c.in-CommaDo.is e) (begins _ _ all f.rest s (DoIf t) c.in_ok-moved-in-CommaDo.ensures k (is_do_if q) e.1))
