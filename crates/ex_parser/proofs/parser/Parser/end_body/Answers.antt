use Rattle.std.proofs.Common.{subst}
use Rattle.ex_parser.specs.Machine.{Have, made, block_tree, onto, one}
use Rattle.ex_parser.specs.Shown.{TreeShows}
use Rattle.ex_parser.proofs.Turns.{no_tree, a_tree, makes, body_whole}
use Rattle.ex_parser.proofs.parser.Parser.end_body.Goals as goal

pub returns-in_default : goal.returns-in_default
returns-in_default c = λ b xs j l all rest s v k i r. no_tree _ _ all v.tree _ (subst (λ o. TreeShows c.args.self.now.nodes.items o v.tree) c.in_default.is (c.tree_of.ensures _ v i))

pub returns : goal.returns
returns c = λ b xs j l all rest s v k i r.
    a_tree c.in-Some.tree v.tree (λ t. Have s (made (block_tree b (onto xs (one t))) 11) rest) (subst (λ o. TreeShows c.args.self.now.nodes.items o v.tree) c.in-Some.is (c.tree_of.ensures _ v i))
    (λ t q. makes _ _ all rest s _ c.in_ok-moved.ensures k (c.in_ok-node.ensures _ b (onto xs (one t)) j (body_whole _ c.args.body.items _ c.in-Some.tree xs t l c.in_ok-push.ensures.items q)) r)
