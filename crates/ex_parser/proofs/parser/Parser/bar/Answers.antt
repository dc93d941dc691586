use Rattle.ex_parser.proofs.BracketTurns.{bar_list, bar_other}
use Rattle.ex_parser.proofs.Turns.{fails}
use Rattle.ex_parser.proofs.parser.Parser.bar.Goals as goal
use Rattle.ex_parser.proofs.parser.Parser.bar.Goals.{in-List+in_ok-moved-in-List, in_default}

pub returns : goal.returns
returns c =
    elim c.match-enclosure.branch [
      | in-List+in_ok-moved-in-List w ↦ rw (w.result-is, w.self-is) (λ e l i j all rest s k r. bar_list c.args.after _ c.args.items all rest s l w.in-List.is i w.in_ok-moved-in-List.ensures j k r)
      | in_default w ↦ rw (w.result-is, w.self-is) (λ e l i j all rest s k r. fails _ _ all (bar_other l s rest w.in_default.not-List i))
    ]
