use Rattle.std.proofs.Common.{refl, sym, ap, subst, drop, ◌∙◌, [], ◌∷◌, ◌++◌}
use Rattle.ex_grammar.specs.Trees.{NoTree}
use Rattle.ex_parser.specs.declared.tree.Node.TheVariants.{List as ListOf}
use Rattle.ex_parser.specs.Machine.{Have, made, onto, with_keys, enclosed, level_of}
use Rattle.ex_parser.specs.Shown.{Turned}
use Rattle.ex_parser.proofs.Turns.{makes}
use Rattle.ex_parser.proofs.KeyTurns.{is_the_call, no_call, call_keys, all_keys, stack_grown, turned_on}
use Rattle.ex_parser.proofs.parser.Parser.shut_keys.Goals as goal

pub returns-in_ok-moved-in-Call : goal.returns-in_ok-moved-in-Call
returns-in_ok-moved-in-Call c = λ e xs ks i h k all s q.
    subst (λ x. Turned c.args.self.now.nodes.items c.made.new.self.nodes.items c.made.new.self.stack.items all c.in_ok-moved-in-Call.moved (Have s (made (with_keys x xs ks) (level_of x)) (drop c.args.at all)))
    (sym (is_the_call c.in-Call.name c.in-Call.level i c.in-Call.is))
    (turned_on (ListOf c.args.keys ∷ [], c.in_ok-last-in-Call.ensures.1)
    (makes _ _ all _ s _ c.in_ok-moved-in-Call.ensures (stack_grown _ _ _ _ s (ListOf c.args.keys ∷ [], c.in_ok-last-in-Call.ensures.1) c.in_ok-last-in-Call.ensures.2 q)
    (call_keys c.args.self.now.nodes.items _ c.in-Call.name c.args.keys c.push.new.self c.args.items.items c.in_ok-last-in-Call.last xs ks (c.in_ok-last-in-Call.ensures.0, c.in_ok-last-in-Call.ensures.1) c.in_ok-push-in-Call.ensures.items h k) refl))

pub returns-in_ok-moved-in_default : goal.returns-in_ok-moved-in_default
returns-in_ok-moved-in_default c = λ e xs ks i h k all s q.
    subst (λ t. Turned c.args.self.now.nodes.items c.made-in_default.new.self.nodes.items c.made-in_default.new.self.stack.items all c.in_ok-moved-in_default.moved (Have s (made t (level_of e)) (drop c.args.at all)))
    (sym (no_call xs ks i c.in_default.not-Call))
    (subst (λ l. Turned c.args.self.now.nodes.items c.made-in_default.new.self.nodes.items c.made-in_default.new.self.stack.items all c.in_ok-moved-in_default.moved (Have s (made (enclosed e (onto xs (onto ks NoTree))) l) (drop c.args.at all)))
    (c.level_of-level.ensures e i)
    (makes _ _ all _ s _ c.in_ok-moved-in_default.ensures q (c.enclosed.ensures.tree _ e (onto xs (onto ks NoTree)) i
    (all_keys c.args.self.now.nodes.items c.args.items.items c.args.keys.items _ xs ks (c.in_ok-extend_from_slice-in_default.ensures.items ∙ ap (λ v. c.args.items.items ++ v) c.as_slice.ensures.value) h k)) refl))
