use Rattle.ex_lexer.proofs.FrontCode as X
use Rattle.ex_lexer.proofs.front.quoted_front.Goals as goal

pub returns-in-Quote : goal.returns-in-Quote
returns-in-Quote c = λ r e f g. X.quoted_atom r c.args.said c.args.len c.args.stop e f g c.in-Quote.is

pub returns-in-Hole : goal.returns-in-Hole
returns-in-Hole c = λ r e f g. X.quoted_hole r c.args.stop g c.in-Hole.is

pub returns-in-End : goal.returns-in-End
returns-in-End c = λ r e f g. X.quoted_end r c.args.stop g c.in-End.is

pub returns-in-Escape : goal.returns-in-Escape
returns-in-Escape c = λ r e f g. X.quoted_escape r c.args.stop g c.in-Escape.is
