use Rattle.ex_source.proofs.Stacks.{completed}
use Rattle.ex_source.proofs.parser.Parser.complete.Goals as goal

pub returns-in_ok-held-in-Some-node_of : goal.returns-in_ok-held-in-Some-node_of
returns-in_ok-held-in-Some-node_of c = λ all s t rest h it r.
    completed _ _ _ _ _ _ _ s t all rest _ _ c.in_ok-held-in-Some-node_of.ensures c.in-Some-node_of.ensures (rw c.in-Some.is at h) it r
