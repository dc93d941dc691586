use Rattle.std.proofs.Common.{refl, subst, drop, true, Some, None, nat_le}
use Rattle.ex_grammar.specs.Operators.{pipe_level}
use Rattle.ex_grammar.specs.Trees.{NoTree, OneMore}
use Rattle.ex_parser.specs.Machine.{InCall, listed, take_call}
use Rattle.ex_parser.specs.Follow.{call_head}
use Rattle.ex_parser.specs.Shown.{tokens_of, TreeShows, CallShows, is_call}
use Rattle.ex_parser.proofs.Turns.{no_tree, a_tree, at_true}
use Rattle.ex_parser.proofs.KeyTurns.{pipes, is_below}
use Rattle.ex_parser.proofs.parser.Parser.pipe.Goals as goal

pub returns-in_default : goal.returns-in_default
returns-in_default c = λ s v k i. no_tree _ _ _ v.tree _ (subst (λ o. TreeShows c.args.self.now.nodes.items o v.tree) c.in_default.is (c.tree_of.ensures _ v i))

pub returns : goal.returns
returns c = λ s v k i.
    let all = tokens_of c.args.tokens.now in
    a_tree c.in-Some.left v.tree (λ a. take_call (nat_le pipe_level v.level) a s (drop c.args.after all)) (subst (λ o. TreeShows c.args.self.now.nodes.items o v.tree) c.in-Some.is (c.tree_of.ensures _ v i))
    (λ a q. at_true (λ b. take_call b a s (drop c.args.after all)) true (nat_le pipe_level v.level) (is_below pipe_level c.args.held.level v.level c.if-held-lt-PIPE.false i.level)
    (pipes all (c.in-Some-2.name, c.in-Some-2.inside) (call_head (drop c.args.after all)) a s (subst (λ o. CallShows all o (call_head (drop c.args.after all))) c.in-Some-2.is c.in_ok-name.ensures)
    (c.in_ok-moved.ensures (InCall c.in-Some-2.name pipe_level) (listed (Some (OneMore a NoTree)) None) is_call (record { trees = (refl, (_, c.in-Some.left, c.in_ok-push.ensures.items, q, c.new-places.ensures.items)); patterns = refl }) refl s k)))
