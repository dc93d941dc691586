use Rattle.std.proofs.Common.{◌-◌, ◌≤◌, length}
use denote.Text.{Utf8}
use denote.Shadow.{shadow}
use Rattle.ex_lexer.proofs.Running.{Running}
use Rattle.ex_lexer.proofs.lexer.lex.Given as goal

-- the parts so far, and then those of the rest
abbrev pub invariant-loop-rest : goal.invariant-loop-rest
invariant-loop-rest l = record {
  text : shadow (Utf8 l.rest);
  within : length l.rest ≤ length l.source;
  running : Running l.source l.rest (length l.source - length l.rest) l.lexer.settled l.lexer.inner l.lexer.outer.items;
}

abbrev pub decreases-loop-rest : goal.decreases-loop-rest
decreases-loop-rest l = length l.rest
