use Rattle.std.proofs.Common.{◌≡◌, refl, sym, subst, ◌∙◌, arith}
use Rattle.std.specs.Prelude.{is_some, ◌-◌}
use Rattle.lanes.specs.Changes.{running_eval, stored}
use Rattle.session_ops.specs.declared.entry.Call.TheVariants.{Respond}
use Rattle.session_ops.specs.State.{jobs}
use Rattle.session_core.specs.Jobs.{answer_by}
use Rattle.session_core.specs.History.{Appends, Grows}
use Rattle.session_core.specs.Held.{HasAnswered, history_of}
use Rattle.session_core.specs.Session.{entry_of}
use Rattle.session_core.proofs.HistoryLaws.{one-fewer}
use Rattle.session_core.proofs.SessionLaws.{same-state}
use Rattle.session_core.proofs.EvaluationLaws.{responded-session, some-lent}
use Rattle.session_core.proofs.held.Held.respond.Goals as goal

pub append_answer-requires-clause-owed : goal.append_answer-requires-clause-owed
append_answer-requires-clause-owed c =
    let s = c.args.self.now in
    let js = jobs c.requires.0 (history_of s) in
    omega (arith, one-fewer c.requires.1.eval js c.requires.3.out c.requires.3.is_out c.requires.2.apart, c.requires.2.owed)

pub append_answer-requires-clause-room : goal.append_answer-requires-clause-room
append_answer-requires-clause-room c = c.requires.2.room

pub returns-clause-ok : goal.returns-clause-ok
returns-clause-ok c = λ n0 job is out number means.
    let s = c.args.self.now in
    let runs : c.is_some-runs.result ≡ is_some (running_eval s.work c.args.eval) = c.is_some-runs.ensures ∙ some-lent c.running.result (running_eval s.work c.args.eval) c.running.ensures in
    let shown = c.twice-shown.result.0 in
    let grown : Grows s.history (entry_of c.args.by (Respond c.args.eval shown) (answer_by c.args.eval c.is_some-runs.result)) c.append_answer.new.self =
    subst (λ a. Appends s.history (entry_of c.args.by (Respond c.args.eval shown) a) (s.history.owed - 1) c.append_answer.new.self) c.answer.ensures c.append_answer.ensures in
    subst (HasAnswered n0 c.args.by (Respond c.args.eval c.args.ran.shown) s _) (sym c.answer-2.ensures)
    (responded-session n0 s _ c.args.by c.args.eval c.is_some-runs.result c.store.new.self shown c.args.ran job is out number means c.twice-shown.ensures.0 runs grown
    refl refl refl (subst (λ x. c.store.new.self ≡ stored x s.work (running_eval s.work c.args.eval)) c.twice-shown.ensures.1 c.store.ensures.work) c.sweep.ensures)

pub returns-clause-late : goal.returns-clause-late
returns-clause-late c = λ n0 job is out number means. same-state n0 c.args.self.now _ c.args.by (Respond c.args.eval c.args.ran.shown) _ (returns-clause-ok c n0 job is out number means)
