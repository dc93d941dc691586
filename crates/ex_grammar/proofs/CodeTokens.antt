-- The token that a sign or a word of the code stands for.
use Rattle.std.proofs.Common.{◌≡◌}
use Rattle.ex_grammar.specs.declared.token.Sign.{Sign}
use Rattle.ex_grammar.specs.declared.token.Keyword.{Keyword}
use Rattle.ex_grammar.specs.declared.token.TokenKind.{TokenKind}
use Rattle.ex_grammar.specs.declared.token.TokenKind.TheVariants as C
use Rattle.ex_grammar.specs.Tokens.{Token, Mark, Word}
use Rattle.ex_grammar.specs.Coded.{IsToken, is_integer, is_name, is_called, is_alias, is_key, is_atom, is_word, is_sign, is_text_begins, is_hole_begins, is_hole_ends, is_text_ends, is_separator}

pub sign_is : {kind : TokenKind} {t : Token} (s : Sign) → kind ≡ C.Sign s → IsToken kind t → t ≡ Mark s
sign_is s e (is_integer h) = absurd (cc)
sign_is s e is_name = absurd (cc)
sign_is s e is_called = absurd (cc)
sign_is s e is_alias = absurd (cc)
sign_is s e is_key = absurd (cc)
sign_is s e is_atom = absurd (cc)
sign_is s e is_word = absurd (cc)
sign_is s e is_sign = cc
sign_is s e is_text_begins = absurd (cc)
sign_is s e is_hole_begins = absurd (cc)
sign_is s e is_hole_ends = absurd (cc)
sign_is s e is_text_ends = absurd (cc)
sign_is s e is_separator = absurd (cc)

pub word_is : {kind : TokenKind} {t : Token} (k : Keyword) → kind ≡ C.Word k → IsToken kind t → t ≡ Word k
word_is k e (is_integer h) = absurd (cc)
word_is k e is_name = absurd (cc)
word_is k e is_called = absurd (cc)
word_is k e is_alias = absurd (cc)
word_is k e is_key = absurd (cc)
word_is k e is_atom = absurd (cc)
word_is k e is_word = cc
word_is k e is_sign = absurd (cc)
word_is k e is_text_begins = absurd (cc)
word_is k e is_hole_begins = absurd (cc)
word_is k e is_hole_ends = absurd (cc)
word_is k e is_text_ends = absurd (cc)
word_is k e is_separator = absurd (cc)
