use Rattle.std.proofs.Common.{◌≡◌, ℕ, ◌++◌, ◌∷◌, [], List, Some, None, sym, subst}
use Rattle.notebook.specs.declared.parts.Parts.{Parts}
use Rattle.client_sync.specs.Client.{Client as Holder, reported}
use Rattle.client_sync.specs.Causes.{IsPostCause}
use Rattle.client_sync.specs.Stands.{Mirrors}
use Rattle.client_sync.specs.declared.client.Client.{Client}
use Rattle.transcript.specs.Texts.{as_text}
use Rattle.driver.specs.Lines.{posted_words, not_posted_words}
use Rattle.driver.specs.Standing.{HasReported, HasReportedSo}
use Rattle.driver.proofs.player.report_own.Goals as goal

-- the report waits to be sent
told : (n0 : Parts) (name : List ℕ) (cell : ℕ) (c : Client) (m m' : Holder) (before after : List ℕ) → reported n0 m cell ≡ Some m' → Mirrors n0 c m' → after ≡ before ++ as_text (posted_words name ∷ []) → HasReported n0 name cell c m before after
told n0 name cell c m m' before after e mir printed = subst (HasReportedSo n0 name c m before after) (sym e) (mir, printed)

-- there is no such cell
not-told : (n0 : Parts) (name : List ℕ) (cell : ℕ) (c : Client) (m : Holder) (before after : List ℕ) → reported n0 m cell ≡ None → Mirrors n0 c m → after ≡ before ++ as_text (not_posted_words name ∷ []) → HasReported n0 name cell c m before after
not-told n0 name cell c m before after e mir printed = subst (HasReportedSo n0 name c m before after) (sym e) (mir, printed)

pub returns-in_ok-push_posted-in-Ok : goal.returns-in_ok-push_posted-in-Ok
returns-in_ok-push_posted-in-Ok c = λ n0 m mir.
    let done = c.in-Ok.ensures.posted n0 m mir in
    told n0 c.args.name.now c.args.cell c.post_report.new.self m done.0 _ _ done.1.0 done.1.1 c.in_ok-push_posted-in-Ok.ensures

pub returns-in_ok-push_not_posted-in-Err-NoCell : goal.returns-in_ok-push_not_posted-in-Err-NoCell
returns-in_ok-push_not_posted-in-Err-NoCell c = λ n0 m mir.
    not-told n0 c.args.name.now c.args.cell c.post_report.new.self m _ _ (subst (IsPostCause (reported n0 m c.args.cell)) c.in-Err-NoCell.field-0-is (c.in-Err-NoCell.ensures.posted n0 m mir)) (subst (λ x. Mirrors n0 x m) (sym c.in-Err-NoCell.ensures.refused) mir) c.in_ok-push_not_posted-in-Err-NoCell.ensures
