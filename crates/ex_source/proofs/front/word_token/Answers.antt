use Rattle.std.proofs.Common.{◌≡◌, true, false}
use Rattle.ex_model.specs.Tokens.{is_digit, is_name, is_keyword}
use Rattle.ex_source.specs.Front.{first_is}
use Rattle.ex_source.proofs.Words.{name_read}
use Rattle.ex_source.proofs.front.word_token.Goals as goal

pub returns : goal.returns
returns c =
    let first : first_is is_digit c.args.word.now ≡ false = cc in
    let named : is_name c.args.word.now ≡ true = cc in
    let plain : is_keyword c.args.word.now ≡ false = cc in
    name_read c.args.word.now c.in_ok-of.field-0 first named plain c.in_ok-of.ensures
