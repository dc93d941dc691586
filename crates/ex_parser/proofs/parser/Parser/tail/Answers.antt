use Rattle.std.proofs.Common.{rules, ◌≡◌, ◌&&◌, ◌∙◌}
use Rattle.ex_parser.specs.declared.follow.Bracket.TheVariants.{Square}
use Rattle.ex_parser.specs.declared.follow.Next.TheVariants.{Close}
use Rattle.ex_parser.specs.Machine.{tail_end}
use Rattle.ex_parser.proofs.BracketTurns.{reads_then, both_first, both_not}
use Rattle.ex_parser.proofs.Turns.{next_is, at_next}
use Rattle.ex_parser.proofs.parser.Parser.tail.Goals as goal
use Rattle.ex_parser.proofs.parser.Parser.tail.Goals.{then-are_trees, else-are_trees, then-are_patterns, else-are_patterns}

pub returns-in_ok-moved-in-Close-Square : goal.returns-in_ok-moved-in-Close-Square
returns-in_ok-moved-in-Close-Square c = λ l j all s v f k q h.
    let trees : c.if-are_trees.plain ≡ c.args.items.are_trees && c.args.held.is_tree = elim c.if-are_trees.branch [
      | then-are_trees w ↦ both_first _ _ _ w.if-are_trees.true w.plain-is
      | else-are_trees w ↦ both_not _ _ _ w.if-are_trees.false (w.plain-is ∙ w.if-are_trees.false)
    ] in
    let patterns : c.if-are_patterns.plain ≡ c.args.items.are_patterns && c.args.held.is_pattern = elim c.if-are_patterns.branch [
      | then-are_patterns w ↦ both_first _ _ _ w.if-are_patterns.true w.plain-is
      | else-are_patterns w ↦ both_not _ _ _ w.if-are_patterns.false (w.plain-is ∙ w.if-are_patterns.false)
    ] in
    let closes : c.args.follow.next ≡ Close Square = search rules in
    at_next (λ n. tail_end n f.rest l v s) (Close Square) f (next_is all _ f _ closes h)
    (reads_then _ c.args.items c.args.held c.if-are_trees.plain c.if-are_patterns.plain all f.rest s l v trees patterns c.in_ok-moved-in-Close-Square.ensures k j q h.1)
