use Rattle.std.proofs.Common.{sym, arith, ◌∙◌}
use Rattle.std.proofs.lemmas.List.Sums.{prefix_len_is}
use Rattle.ex_grammar.specs.Names.{is_alias_byte}
use Rattle.ex_lexer.proofs.front.alias_len.Goals as goal

pub returns-else-is_alias_byte : goal.returns-else-is_alias_byte
returns-else-is_alias_byte c = sym (prefix_len_is is_alias_byte c.args.bytes.now c.loop-len.len 0 c.loop-len.invariant.within c.loop-len.invariant.passes (λ _. sym c.is_alias_byte.ensures ∙ c.if-is_alias_byte.false))

pub returns-after-loop-len : goal.returns-after-loop-len
returns-after-loop-len c = sym (prefix_len_is is_alias_byte c.args.bytes.now c.loop-len.len 0 c.loop-len.invariant.within c.loop-len.invariant.passes (λ h. absurd (omega arith)))
