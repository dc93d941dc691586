use Rattle.ex_parser.specs.declared.follow.Next.TheVariants.{Separator, RightArrow, Else, End}
use Rattle.ex_parser.specs.Machine.{body}
use Rattle.ex_parser.proofs.Turns.{next_is, at_next}
use Rattle.ex_parser.proofs.parser.Parser.body.Goals as goal

pub returns-in_ok-moved-in-Separator : goal.returns-in_ok-moved-in-Separator
returns-in_ok-moved-in-Separator c = λ b xs j l all s v f k i e. at_next (λ n. body n f.rest b xs v s) Separator f (next_is all _ f _ c.in-Separator.is e) (c.in_ok-moved-in-Separator.ensures b xs j l all f.rest s v k i e.1)

pub returns-in_ok-moved-in-RightArrow : goal.returns-in_ok-moved-in-RightArrow
returns-in_ok-moved-in-RightArrow c = λ b xs j l all s v f k i e. at_next (λ n. body n f.rest b xs v s) RightArrow f (next_is all _ f _ c.in-RightArrow.is e) (c.in_ok-moved-in-RightArrow.ensures b xs j l all f.rest s v k i e.1)

pub returns-in_ok-moved-in-Else : goal.returns-in_ok-moved-in-Else
returns-in_ok-moved-in-Else c = λ b xs j l all s v f k i e. at_next (λ n. body n f.rest b xs v s) Else f (next_is all _ f _ c.in-Else.is e) (c.in_ok-moved-in-Else.ensures b xs j l all f.rest s v k i e.1)

pub returns-in_ok-moved-in-End : goal.returns-in_ok-moved-in-End
returns-in_ok-moved-in-End c = λ b xs j l all s v f k i e. at_next (λ n. body n f.rest b xs v s) End f (next_is all _ f _ c.in-End.is e) (c.in_ok-moved-in-End.ensures b xs j l all f.rest s v k i e.1)
