-- What a log holds of its source.
use Rattle.std.specs.Prelude.{◌≡◌, ℕ, ◌+◌, ◌-◌, List, [], ◌∷◌, ◌++◌, take, drop}
use Rattle.utf16_text.specs.Units.{unit_count}
use Rattle.delta.specs.declared.Step.{Step}
use Rattle.revisions.specs.declared.moved.Move.{Move}
use Rattle.revisions.specs.declared.source_log.Accepted.{Accepted}
use Rattle.revisions.specs.declared.source_log.SourceLog.{SourceLog}
use Rattle.revisions.specs.Answer.{Takes, answer}
use Rattle.revisions.specs.Floors.{lowest, raised}
use Rattle.revisions.specs.Kept.{deltas_of, made_by, LeadsTo, HaveLens}
use Rattle.revisions.specs.Source.{Source, rev_of, least_of, taking}

-- the log has the source's text, revision and floors, and keeps just those of its deltas that come after its own least revision
pub record Holds (s : Source) (log : SourceLog) : Type 0 where
  pub now : log.text ≡ s.text
  pub known : log.floors ≡ s.floors
  pub rev : log.rev ≡ rev_of s
  pub kept : deltas_of log.kept ≡ drop log.least s.taken
  pub lens : HaveLens (made_by (take log.least s.taken) s.first) log.kept
  pub leads : LeadsTo s.first s.taken s.text

-- the log is the source's: besides, its least revision is the least floor
pub record IsLog (s : Source) (log : SourceLog) : Type 0 where
  pub holds : Holds s log
  pub lowest : log.least ≡ least_of s

-- the delta was taken as the source's next revision, and the log is that of the source then
pub record HasTaken (s : Source) (client : ℕ) (x : List Step) (a : Accepted) (log : SourceLog) : Type 0 where
  pub rev : a.rev ≡ rev_of s + 1
  pub delta : a.delta ≡ x
  pub after : IsLog (taking client x s) log

-- the log once it has dropped its deltas up to the least floor
abbrev pub let_go : SourceLog → SourceLog
let_go log =
    record log {
      kept = drop (lowest log.rev log.floors - log.least) log.kept;
      least = lowest log.rev log.floors;
    }

-- the log once it has a move's text and keeps its delta, whatever text the move was made of
abbrev pub keeping : ℕ → Move → SourceLog → SourceLog
keeping client m log =
    record log {
      text = m.text;
      rev = log.rev + 1;
      kept = log.kept ++ record { len = unit_count log.text; delta = m.delta } ∷ [];
      floors = raised client (log.rev + 1) log.floors;
    }

-- the move was taken as it is, as the log's next revision
pub record KeepsMove (client : ℕ) (m : Move) (before : SourceLog) (a : Accepted) (log : SourceLog) : Type 0 where
  pub rev : a.rev ≡ before.rev + 1
  pub delta : a.delta ≡ m.delta
  pub after : log ≡ let_go (keeping client m before)

-- the source takes the delta so, and the log is that of the source then
pub record IsTaken (s : Source) (client base : ℕ) (d : List Step) (a : Accepted) (log : SourceLog) : Type 0 where
  pub answered : answer s base d ≡ Takes a.rev a.delta
  pub after : IsLog (taking client a.delta s) log
