use Rattle.std.proofs.Common.{subst}
use Rattle.ex_parser.specs.Machine.{else_body, onto, one, Otherwise}
use Rattle.ex_parser.specs.Shown.{TreeShows, is_otherwise}
use Rattle.ex_parser.proofs.Turns.{no_tree, a_tree, fails, else_then, else_other, body_whole}
use Rattle.ex_parser.proofs.BlockTurns.{if_ok, turned_as}
use Rattle.ex_parser.proofs.parser.Parser.else_body.Goals as goal
use Rattle.ex_parser.proofs.parser.Parser.else_body.Goals.{in-Then+in_ok-moved-in-Then, in_default-block}

pub returns-in_default : goal.returns-in_default
returns-in_default c = λ b xs j l all rest s v k i r. no_tree _ _ all v.tree _ (subst (λ o. TreeShows c.args.self.now.nodes.items o v.tree) c.in_default.is (c.tree_of.ensures _ v i))

pub returns : goal.returns
returns c =
    elim c.match-block-3.branch [
      | in-Then+in_ok-moved-in-Then w ↦ if_ok _ _ w.result-is (λ b xs j l all rest s v k i r.
          a_tree c.in-Some.tree v.tree (λ t. else_body b (onto xs (one t)) s rest) (subst (λ o. TreeShows c.args.self.now.nodes.items o v.tree) c.in-Some.is (c.tree_of.ensures _ v i))
          (λ t q. else_then (onto xs (one t)) s rest w.in-Then.condition j w.in-Then.is (λ cond h. turned_as w.self-is
          (w.in_ok-moved-in-Then.ensures all rest s (Otherwise cond (onto xs (one t))) k (is_otherwise h (body_whole _ c.args.body.items _ c.in-Some.tree xs t l c.in_ok-push.ensures.items q)) r))))
      | in_default-block w ↦ if_ok _ _ w.result-is (λ b xs j l all rest s v k i r.
          a_tree c.in-Some.tree v.tree (λ t. else_body b (onto xs (one t)) s rest) (subst (λ o. TreeShows c.args.self.now.nodes.items o v.tree) c.in-Some.is (c.tree_of.ensures _ v i))
          (λ t q. turned_as w.self-is (fails _ _ all (else_other (onto xs (one t)) s rest j w.in_default-block.not-Then))))
    ]
