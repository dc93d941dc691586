use Rattle.std.proofs.Common.{inl}
use Rattle.ex_parser.specs.Shown.{tokens_of}
use Rattle.ex_parser.proofs.Runs.{whole, goes_off}
use Rattle.ex_parser.proofs.parser.Parser.read_whole.Goals as goal

pub returns-in_default : goal.returns-in_default
returns-in_default c = inl (rw c.in_default.is at c.in_ok-root.ensures)

pub returns-in-None : goal.returns-in-None
returns-in-None c = goes_off _ _ _ (tokens_of c.args.tokens.now) c.args.from _ c.in-Some.end (rw c.in-Some.is at c.in_ok-root.ensures) c.in-None.ensures

pub returns-in-Some-after_whole : goal.returns-in-Some-after_whole
returns-in-Some-after_whole c = whole _ _ _ (tokens_of c.args.tokens.now) c.args.from _ c.in-Some.end c.in-Some-after_whole.next (rw c.in-Some.is at c.in_ok-root.ensures) c.in-Some-after_whole.ensures
