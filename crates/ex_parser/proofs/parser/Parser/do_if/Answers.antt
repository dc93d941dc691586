use Rattle.std.proofs.Common.{refl, sym, subst, drop}
use Rattle.ex_parser.specs.declared.follow.Next.TheVariants.{CommaElse}
use Rattle.ex_parser.specs.Machine.{do_if, DoElse}
use Rattle.ex_parser.specs.Shown.{TreeShows, Turned, is_do_else}
use Rattle.ex_parser.proofs.Turns.{no_tree, a_tree, begins, makes, if_at, next_is, other_next, at_next, do_if_other}
use Rattle.ex_parser.proofs.parser.Parser.do_if.Goals as goal

pub returns-in_default : goal.returns-in_default
returns-in_default c = λ t h all s v f k i e. no_tree _ _ all v.tree _ (subst (λ o. TreeShows c.args.self.now.nodes.items o v.tree) c.in_default.is (c.tree_of.ensures _ v i))

pub returns-in_ok-moved-in-CommaElse : goal.returns-in_ok-moved-in-CommaElse
returns-in_ok-moved-in-CommaElse c = λ t h all s v f k i e.
    a_tree c.in-Some.body v.tree (λ a. do_if f.next f.rest t a s (drop c.args.at all)) (subst (λ o. TreeShows c.args.self.now.nodes.items o v.tree) c.in-Some.is (c.tree_of.ensures _ v i))
    (λ a q. at_next (λ n. do_if n f.rest t a s (drop c.args.at all)) CommaElse f (next_is all _ f _ c.in-CommaElse.is e) (begins _ _ all f.rest s (DoElse t a) c.in_ok-moved-in-CommaElse.ensures k (is_do_else h q) e.1))

pub returns-in_ok-moved-in_default-next : goal.returns-in_ok-moved-in_default-next
returns-in_ok-moved-in_default-next c = λ t h all s v f k i e.
    a_tree c.in-Some.body v.tree (λ a. do_if f.next f.rest t a s (drop c.args.at all)) (subst (λ o. TreeShows c.args.self.now.nodes.items o v.tree) c.in-Some.is (c.tree_of.ensures _ v i))
    (λ a q. subst (λ st. Turned c.args.self.now.nodes.items c.made.new.self.nodes.items c.made.new.self.stack.items all c.in_ok-moved-in_default-next.moved st)
    (sym (do_if_other f.next f.rest (drop c.args.at all) t a s (other_next all _ f CommaElse e c.in_default-next.not-CommaElse)))
    (makes _ _ all _ s _ c.in_ok-moved-in_default-next.ensures k (if_at _ c.args.condition c.in-Some.body _ t a h c.in_ok-body-in_default-next.ensures q) refl))
