use Rattle.std.proofs.Common.{◌≡◌, take}
use native.Mathlib.Nat.{sub-zero}
use Rattle.std.specs.List.{prefix_len}
use Rattle.ex_model.specs.Tokens.{is_word_byte}
use Rattle.ex_source.proofs.Fronts.{word_boundary, found_word}
use Rattle.ex_source.proofs.front.word_front.Goals as goal

pub range-requires-clause-end_boundary : goal.range-requires-clause-end_boundary
range-requires-clause-end_boundary c = word_boundary c.args.rest.now c.word_len-len.result (cc) c.utf8.rest

pub returns-in-Some : goal.returns-in-Some
returns-in-Some c = λ after.
    let len : c.word_len-len.result ≡ prefix_len is_word_byte c.args.rest.now = cc in
    let word : c.range.result.now ≡ take c.word_len-len.result c.args.rest.now = rw sub-zero at c.range.ensures.value in
    let h = rw c.in-Some.is at c.in_ok-word_token.ensures in
    found_word c.args.rest.now after c.in-Some.lexeme c.word_len-len.result c.range.result.now len word h
