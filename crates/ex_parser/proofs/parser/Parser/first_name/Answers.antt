use Rattle.std.proofs.Common.{Some, sym, ap, ◌∙◌, drop, not}
use Rattle.ex_grammar.specs.Grammar.{is_underscore}
use Rattle.ex_grammar.specs.Patterns.{Named}
use Rattle.ex_parser.specs.Machine.{Have, plain, name_tree}
use Rattle.ex_parser.proofs.FirstTurns.{at_same, reads_name}
use Rattle.ex_parser.proofs.parser.Parser.first_name.Goals as goal

pub returns : goal.returns
returns c = λ all s k.
    let x = c.in_ok-copy.field-0 in
    at_same (λ y. Have s (plain (name_tree (is_underscore y) y) (Some (Named y))) (drop c.args.after all)) x c.args.name.now (sym c.in_ok-copy.ensures)
    (reads_name _ x _ all s (ap not (c.is_underscore-is_tree.ensures ∙ ap is_underscore (sym c.in_ok-copy.ensures))) c.in_ok-moved.ensures k)
