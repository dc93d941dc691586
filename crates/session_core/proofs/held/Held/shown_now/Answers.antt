use Rattle.std.proofs.Common.{sym, ◌∙◌, subst}
use Rattle.session_core.specs.Logs.{AreLogs}
use Rattle.session_core.specs.Held.{state_of}
use Rattle.session_core.proofs.ReaderLaws.{has-revisions}
use Rattle.session_core.proofs.held.Held.shown_now.Goals as goal

pub returns : goal.returns
returns c = λ n0 is.
    let s = c.args.self.now in
    let st = state_of n0 s in
    let logs = subst (AreLogs st) (sym c.as_slice.ensures.value) is.logs in
    record {
      book = c.in_ok-book.ensures ∙ is.book;
      revs = has-revisions st _ _ logs (c.in_ok-revs.ensures st logs.logs);
      cursor = c.len.ensures;
    }
