use Rattle.session_core.specs.Held.{state_of}
use Rattle.session_core.proofs.ReaderLaws.{validity-none, validity-some}
use Rattle.session_core.proofs.held.Held.validity.Goals as goal

pub returns-in-None : goal.returns-in-None
returns-in-None c = λ n0 is. validity-none (state_of n0 c.args.self.now) c.args.cell (c.in-None.ensures n0 is)

pub returns-in-Some : goal.returns-in-Some
returns-in-Some c = λ n0 is. validity-some (state_of n0 c.args.self.now) c.args.cell c.in-Some.row (c.in-Some.ensures n0 is)
