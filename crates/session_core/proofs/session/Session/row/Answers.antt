use Rattle.std.proofs.Common.{◌≡◌, None}
use Rattle.std.specs.Prelude.{MatchOption}
use Rattle.notebook.specs.Flow.{path}
use Rattle.lanes.specs.Rows.{IsRow}
use Rattle.session_core.proofs.Seen.{told-seen}
use Rattle.session_core.proofs.session.Session.row.Goals as goal

pub returns : goal.returns
returns c = told-seen (λ st. MatchOption c.row.result (path st.book c.args.cell ≡ None) (IsRow st.book st.work c.args.cell)) c.self.inside.opening.value c.self.inside.held c.args.self.now c.self.view_is (c.row.ensures c.self.inside.opening.value c.self.invariant)
