use Rattle.ex_lexer.proofs.Escapes.{coded_none, coded_some}
use Rattle.ex_lexer.proofs.texts.coded_escape.Goals as goal

pub returns-in-None-clause-value : goal.returns-in-None-clause-value
returns-in-None-clause-value c = let h = c.in-Some.ensures in let v = c.in-None.ensures in coded_none c.args.digits.now c.in-Some.code c.in-len4-up.len_at_least h.1 v.value

pub returns-in-Some-from_u32-clause-value : goal.returns-in-Some-from_u32-clause-value
returns-in-Some-from_u32-clause-value c = let h = c.in-Some.ensures in let v = c.in-Some-from_u32.ensures.value in coded_some c.args.digits.now c.in-Some.code c.in-Some-from_u32.c c.in-len4-up.len_at_least h.0 h.1 v.0 v.1
