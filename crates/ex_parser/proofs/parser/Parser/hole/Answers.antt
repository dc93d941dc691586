use Rattle.std.proofs.Common.{refl, sym, subst, drop, ◌∙◌}
use Rattle.ex_parser.specs.declared.tree.Hole.{Hole}
use Rattle.ex_parser.specs.Follow.{hole_says}
use Rattle.ex_parser.specs.Machine.{hole}
use Rattle.ex_parser.specs.Shown.{tokens_of, TreeShows}
use Rattle.ex_parser.proofs.Turns.{no_tree, a_tree}
use Rattle.ex_parser.proofs.FirstTurns.{hole_goes_on, hole_ends, hole_stuck}
use Rattle.ex_parser.proofs.parser.Parser.hole.Goals as goal

pub returns-in_default : goal.returns-in_default
returns-in_default c = λ hs b s v k i. no_tree _ _ (tokens_of c.args.tokens.now) v.tree _ (subst (λ o. TreeShows c.args.self.now.nodes.items o v.tree) c.in_default.is (c.tree_of.ensures _ v i))

pub returns-in_ok-moved-in-Hole : goal.returns-in_ok-moved-in-Hole
returns-in_ok-moved-in-Hole c = λ hs b s v k i.
    let all = tokens_of c.args.tokens.now in
    let h : Hole = record { tree = c.in-Some.tree; says = c.in-Some-2.more } in
    a_tree c.in-Some.tree v.tree (λ t. hole (hole_says (drop c.args.at all)) c.args.says hs t s (drop c.args.at all)) (subst (λ o. TreeShows c.args.self.now.nodes.items o v.tree) c.in-Some.is (c.tree_of.ensures _ v i))
    (λ t q. hole_goes_on _ c.args.says c.in-Some-2.more c.args.holes.items h c.push.new.self hs t all c.args.at s (sym c.in_ok-more.ensures.value ∙ c.in-Some-2.is) (sym c.text_goes_at.ensures.value ∙ c.in-Hole.is) b c.in_ok-push.ensures.items q refl c.in_ok-moved-in-Hole.ensures k)

pub returns-in_ok-moved-in-Ends : goal.returns-in_ok-moved-in-Ends
returns-in_ok-moved-in-Ends c = λ hs b s v k i.
    let all = tokens_of c.args.tokens.now in
    let h : Hole = record { tree = c.in-Some.tree; says = c.in-Some-2.more } in
    a_tree c.in-Some.tree v.tree (λ t. hole (hole_says (drop c.args.at all)) c.args.says hs t s (drop c.args.at all)) (subst (λ o. TreeShows c.args.self.now.nodes.items o v.tree) c.in-Some.is (c.tree_of.ensures _ v i))
    (λ t q. hole_ends _ c.args.says c.in-Some-2.more c.args.holes.items h c.push.new.self hs t all c.args.at s (sym c.in_ok-more.ensures.value ∙ c.in-Some-2.is) (sym c.text_goes_at.ensures.value ∙ c.in-Ends.is) b c.in_ok-push.ensures.items q refl c.in_ok-moved-in-Ends.ensures k)

pub returns-in-Other : goal.returns-in-Other
returns-in-Other c = λ hs b s v k i.
    let all = tokens_of c.args.tokens.now in
    a_tree c.in-Some.tree v.tree (λ t. hole (hole_says (drop c.args.at all)) c.args.says hs t s (drop c.args.at all)) (subst (λ o. TreeShows c.args.self.now.nodes.items o v.tree) c.in-Some.is (c.tree_of.ensures _ v i))
    (λ t q. hole_stuck _ _ c.args.says c.in-Some-2.more hs t all c.args.at s (sym c.in_ok-more.ensures.value ∙ c.in-Some-2.is) (sym c.text_goes_at.ensures.value ∙ c.in-Other.is))
