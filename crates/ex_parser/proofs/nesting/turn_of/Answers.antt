use Rattle.std.proofs.Common.{◌≡◌, sym, subst}
use Rattle.ex_grammar.specs.Nests.{open_at}
use Rattle.ex_grammar.specs.Coded.{IsToken, is_sign, is_word}
use Rattle.ex_parser.specs.Levels.{turned}
use Rattle.ex_parser.proofs.Depths.{token_same}
use Rattle.ex_parser.proofs.nesting.turn_of.Goals as goal

pub returns-in-Sign : goal.returns-in-Sign
returns-in-Sign c = λ t before h. subst (λ u. open_at before u ≡ turned c.sign_turn.result before) (sym (token_same (subst (λ k. IsToken k t) c.in-Sign.is h) is_sign)) (c.sign_turn.ensures before)

pub returns-in-Word : goal.returns-in-Word
returns-in-Word c = λ t before h. subst (λ u. open_at before u ≡ turned c.word_turn.result before) (sym (token_same (subst (λ k. IsToken k t) c.in-Word.is h) is_word)) (c.word_turn.ensures before)
