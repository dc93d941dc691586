use Rattle.std.proofs.Common.{◌≡◌}
use Rattle.session_core.proofs.Seen.{told-seen}
use Rattle.session_core.proofs.session.Session.book.Goals as goal

pub returns : goal.returns
returns c = told-seen (λ st. c.book.result.now ≡ st.book) c.self.inside.opening.value c.self.inside.held c.args.self.now c.self.view_is (c.book.ensures c.self.inside.opening.value c.self.invariant)
