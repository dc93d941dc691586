use Rattle.std.proofs.Common.{sym, ap, subst, ◌∙◌, true}
use Rattle.ex_grammar.specs.Grammar.{pair}
use Rattle.ex_grammar.specs.Trees.{OneMore}
use Rattle.ex_parser.specs.declared.follow.Next.TheVariants.{Comma, Close}
use Rattle.ex_parser.specs.Follow.{first_key}
use Rattle.ex_parser.specs.Machine.{Have, made, keyed, next_key, shut_keys, with_keys, level_of, bracket_of, same_bracket}
use Rattle.ex_parser.specs.Shown.{tokens_of, TreeShows, Turned}
use Rattle.ex_parser.proofs.Turns.{no_tree, a_tree, next_is, at_next, at_true}
use Rattle.ex_parser.proofs.KeyTurns.{behind_grown, stack_grown, turned_on}
use Rattle.ex_parser.proofs.parser.Parser.keyed.Goals as goal

pub returns-in_default : goal.returns-in_default
returns-in_default c = λ e xs ks i h k s v f q l w. no_tree _ _ _ v.tree _ (subst (λ o. TreeShows c.args.self.now.nodes.items o v.tree) c.in_default.is (c.tree_of.ensures _ v l))

pub returns-in_ok-moved-in-Comma : goal.returns-in_ok-moved-in-Comma
returns-in_ok-moved-in-Comma c = λ e xs ks i h k s v f q l w.
    let all = tokens_of c.args.tokens.now in
    a_tree c.in-Some.value v.tree (λ t. keyed f.next f.rest e xs (OneMore (pair c.args.key t) ks) s) (subst (λ o. TreeShows c.args.self.now.nodes.items o v.tree) c.in-Some.is (c.tree_of.ensures _ v l))
    (λ t r. at_next (λ n. keyed n f.rest e xs (OneMore (pair c.args.key t) ks) s) Comma f (next_is all _ f _ c.in-Comma.is w)
    (turned_on c.in_ok-keys.ensures.0
    (subst (λ ts. Turned c.more_keys.new.self.nodes.items c.next_key.new.self.nodes.items c.next_key.new.self.stack.items all c.in_ok-moved-in-Comma.moved (next_key (first_key ts) e xs (OneMore (pair c.args.key t) ks) s ts)) w.1
    (c.in_ok-moved-in-Comma.ensures e xs (OneMore (pair c.args.key t) ks) i (behind_grown _ _ c.args.items.items xs c.in_ok-keys.ensures.0 h) (c.in_ok-keys.ensures.2 ks t k r) s (stack_grown _ _ _ _ s c.in_ok-keys.ensures.0 c.in_ok-keys.ensures.1 q)))))

pub returns-in_ok-moved-in-Close : goal.returns-in_ok-moved-in-Close
returns-in_ok-moved-in-Close c = λ e xs ks i h k s v f q l w.
    let all = tokens_of c.args.tokens.now in
    a_tree c.in-Some.value v.tree (λ t. keyed f.next f.rest e xs (OneMore (pair c.args.key t) ks) s) (subst (λ o. TreeShows c.args.self.now.nodes.items o v.tree) c.in-Some.is (c.tree_of.ensures _ v l))
    (λ t r. at_next (λ n. keyed n f.rest e xs (OneMore (pair c.args.key t) ks) s) (Close c.in-Close.bracket) f (next_is all _ f _ c.in-Close.is w)
    (at_true (λ b. shut_keys b e xs (OneMore (pair c.args.key t) ks) s f.rest) true (same_bracket c.in-Close.bracket (bracket_of e)) (sym (c.same_bracket.ensures ∙ ap (λ b. same_bracket c.in-Close.bracket b) (c.bracket_of.ensures e i)) ∙ c.if-not-same_bracket.false)
    (turned_on c.in_ok-keys.ensures.0
    (subst (λ ts. Turned c.more_keys.new.self.nodes.items c.shut_keys.new.self.nodes.items c.shut_keys.new.self.stack.items all c.in_ok-moved-in-Close.moved (Have s (made (with_keys e xs (OneMore (pair c.args.key t) ks)) (level_of e)) ts)) w.1
    (c.in_ok-moved-in-Close.ensures e xs (OneMore (pair c.args.key t) ks) i (behind_grown _ _ c.args.items.items xs c.in_ok-keys.ensures.0 h) (c.in_ok-keys.ensures.2 ks t k r) all s (stack_grown _ _ _ _ s c.in_ok-keys.ensures.0 c.in_ok-keys.ensures.1 q))))))
