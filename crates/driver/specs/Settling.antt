-- What evaluations make of a session.
use Rattle.std.specs.Prelude.{◌≡◌, ℕ, true, List, [], ◌∷◌, ◌++◌, None}
use Rattle.notebook.specs.declared.parts.Parts.{Parts}
use Rattle.session_ops.specs.declared.entry.Entry.{Entry}
use Rattle.lanes.specs.Work.{is_idle}
use Rattle.ex_model.specs.declared.ran.Shown.{Shown}
use Rattle.session_ops.specs.declared.entry.Call.TheVariants.{Respond}
use Rattle.session_ops.specs.declared.entry.Reply.{Reply}
use Rattle.session_core.specs.Session.{Session, IsSession, HasAnswered, history_of, state_of, ready_lane}
use Rattle.driver.specs.Headline.{AllAnswered, IsEvaluation, TakeReadyLanes}

-- evaluations under a number
abbrev pub AreEvaluationsBy : ℕ → List Entry → Type 0
AreEvaluationsBy by [] = Unit {0}
AreEvaluationsBy by (e ∷ es) = (e.by ≡ by) × (IsEvaluation e.call × AreEvaluationsBy by es)

-- the session goes on standing for its history, which has only evaluations more; each is in the first lane that could start, and each answer follows its start
pub record HasGoneOn (n0 : Parts) (by : ℕ) (old new : Session) : Type 0 where
  pub more : List Entry
  pub history : history_of new ≡ history_of old ++ more
  pub evaluations : AreEvaluationsBy by more
  pub ready : TakeReadyLanes n0 by (history_of old) more
  pub answered : AllAnswered (history_of old) → AllAnswered (history_of new)
  pub session : IsSession n0 new

-- and nothing is queued any more, and nothing runs: no lane may start
pub record HasSettled (n0 : Parts) (by : ℕ) (old new : Session) : Type 0 where
  pub gone : HasGoneOn n0 by old new
  pub idle : is_idle (state_of n0 new).work ≡ true
  pub over : ready_lane (state_of n0 new) ≡ None

-- the evaluation of the number was answered
abbrev pub HasResponded : Parts → ℕ → ℕ → Session → Session → Type 0
HasResponded n0 by eval old new = (shown : Shown) × ((answer : Reply) × HasAnswered n0 by (Respond eval shown) old new answer)
