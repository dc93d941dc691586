use Rattle.std.proofs.Common.{refl}
use Rattle.ex_lexer.specs.Settled.{gap_of}
use Rattle.ex_lexer.proofs.SettlingTokens.{separated, not_separated}
use Rattle.ex_lexer.proofs.settled.Settled.separate.Goals as goal

pub returns-in_ok-push-in-Some : goal.returns-in_ok-push-in-Some
returns-in_ok-push-in-Some c = λ made before after s f. separated _ _ _ made before after (gap_of c.args.self.now.gap) c.args.self.now.drops c.args.drops c.separator.result c.in-Some.from c.in-Some.to s f c.separator.ensures c.in-Some.is c.in_ok-push-in-Some.ensures.items refl refl refl

pub returns-in-None : goal.returns-in-None
returns-in-None c = λ made before after s f. not_separated _ made before after (gap_of c.args.self.now.gap) c.args.self.now.drops c.args.drops c.separator.result s f c.separator.ensures c.in-None.is
