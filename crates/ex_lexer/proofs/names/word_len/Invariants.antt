use Rattle.std.proofs.Common.{◌≡◌, true, length}
use Rattle.std.specs.List.{list_all}
use Rattle.std.specs.Str.{encode_utf8_all}
use Rattle.ex_grammar.specs.Names.{is_in_name}
use Rattle.ex_lexer.proofs.names.word_len.Given as goal

-- all characters so far may stand in a name
abbrev pub invariant-loop-c : goal.invariant-loop-c
invariant-loop-c l = record { takes : l.len ≡ length (encode_utf8_all l.yielded); passes : list_all is_in_name l.yielded ≡ true }
