use Rattle.ex_source.proofs.Stacks.{first_integer, first_name, first_sign, first_separator}
use Rattle.ex_source.proofs.parser.Parser.first.Goals as goal

pub returns-in_ok-held-in-Integer : goal.returns-in_ok-held-in-Integer
returns-in_ok-held-in-Integer c = λ all s u a i h.
    first_integer _ _ _ _ all _ c.args.after s c.in-Integer.n i c.in-Integer.is c.in_ok-held-in-Integer.ensures h

pub returns-in_ok-held-in-Name : goal.returns-in_ok-held-in-Name
returns-in_ok-held-in-Name c = λ all s u a i h.
    first_name _ _ c.args.self.now.stack.items _ all _ c.args.after s c.in-Name.word c.in_ok-name-in-Name.name i c.in-Name.is c.in_ok-name-in-Name.ensures (λ rest r. c.in_ok-held-in-Name.ensures all s rest a h r)

pub returns-in_ok-wanted-in-Mark : goal.returns-in_ok-wanted-in-Mark
returns-in_ok-wanted-in-Mark c = λ all s u a i h.
    first_sign _ _ c.args.self.now.stack.items _ all _ c.args.after s c.in-Mark.mark i c.in-Mark.is (c.in_ok-wanted-in-Mark.ensures all s h)

pub returns-in-Separator : goal.returns-in-Separator
returns-in-Separator c = λ all s u a i h. first_separator _ _ all c.args.after s i c.in-Separator.is
