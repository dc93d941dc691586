use Rattle.std.proofs.Common.{◌≡◌, ◌≤◌, ◌-◌, length}
use denote.Text.{Utf8}
use denote.Shadow.{shadow}
use Rattle.std.specs.String.{string_bytes}
use Rattle.ex_lexer.specs.Runs.{run, longer}
use Rattle.ex_lexer.proofs.texts.read_run.Given as goal

-- what was said so far, and then what the rest says
abbrev pub invariant-loop-rest : goal.invariant-loop-rest
invariant-loop-rest l = record {
  text : shadow (Utf8 l.rest);
  within : length l.rest ≤ length l.text;
  goes : run 0 l.text ≡ longer (length l.text - length l.rest) (string_bytes l.said) (run 0 l.rest);
}

abbrev pub decreases-loop-rest : goal.decreases-loop-rest
decreases-loop-rest l = length l.rest
