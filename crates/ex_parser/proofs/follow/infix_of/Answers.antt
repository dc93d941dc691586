use Rattle.ex_parser.proofs.TokenPlaces.{sign_token, word_token}
use Rattle.ex_parser.proofs.follow.infix_of.Goals as goal

pub returns-in-Sign : goal.returns-in-Sign
returns-in-Sign c = c.of.ensures _ (sign_token _ _ c.in-Sign.is)

pub returns-in-Word : goal.returns-in-Word
returns-in-Word c = c.of-in-Word.ensures _ (word_token _ _ c.in-Word.is)
