use Rattle.ex_lexer.proofs.Opening as O
use Rattle.ex_lexer.proofs.lexer.Lexer.count_braces.Goals as goal

pub returns-in-Some-clause-opened : goal.returns-in-Some-clause-opened
returns-in-Some-clause-opened c = λ at holes p i o. O.counted_some at c.braces_after.result c.in-Some.hole c.args.self.now.inner c.args.self.now.outer.items holes p c.in-Some.is (c.braces_after.ensures p i) o
