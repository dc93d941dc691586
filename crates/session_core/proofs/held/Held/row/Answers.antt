use Rattle.std.proofs.Common.{◌≡◌, None}
use Rattle.std.specs.Prelude.{MatchOption}
use Rattle.notebook.specs.Flow.{path}
use Rattle.lanes.specs.Rows.{IsRow}
use Rattle.session_core.proofs.ReaderLaws.{by-state}
use Rattle.session_core.proofs.held.Held.row.Goals as goal

pub returns : goal.returns
returns c = λ n0 is. by-state (λ n w. MatchOption c.row.result (path n c.args.cell ≡ None) (IsRow n w c.args.cell)) n0 c.args.self.now is c.row.ensures
