-- Runs that are still to come, of which the first may be used in part.
use Rattle.std.specs.Prelude.{◌≡◌, ℕ, ◌-◌, ◌^◌, ◌<◌, ◌≤◌, Bool, true, false, List, [], ◌++◌, map, replicate, take, drop, length}
use Rattle.delta.specs.Spread.{Small, Keep, Drop, Put}
use Rattle.delta.specs.Runs.{all_runs, AllRuns}
use Rattle.delta.specs.declared.front.Run.{Run}
use Rattle.delta.specs.declared.front.Head.{Head}
use Rattle.delta.specs.declared.front.Head.TheVariants.{End, Kept, Gone, New}
use Rattle.delta.specs.declared.front.Front.{Front}

abbrev pub head_small : Head → List Small
head_small End = []
head_small (Kept n) = replicate n Keep
head_small (Gone n) = replicate n Drop
head_small (New units) = map Put units.now

-- the small steps that are left
abbrev pub left : Front → List Small
left f = head_small f.head ++ all_runs f.rest.now

-- a head that is not empty, or the end of all
abbrev pub IsHead : Head → List Run → Type 0
IsHead End rest = rest ≡ []
IsHead (Kept n) rest = 0 < n
IsHead (Gone n) rest = 0 < n
IsHead (New units) rest = 0 < length units.now

pub record IsFront (f : Front) : Type 0 where
  pub head : IsHead f.head f.rest.now
  pub rest : AllRuns f.rest.now

-- the head is at least m units long: the end has no end
abbrev pub HasRun : Head → ℕ → Type 0
HasRun End m = Unit {0}
HasRun (Kept n) m = m ≤ n
HasRun (Gone n) m = m ≤ n
HasRun (New units) m = m ≤ length units.now

-- the small steps of the first m units of a head
abbrev pub run_of : Head → ℕ → List Small
run_of End m = []
run_of (Kept n) m = replicate m Keep
run_of (Gone n) m = replicate m Drop
run_of (New units) m = map Put (take m units.now)

-- the length of a head, which is the greatest number at the end
abbrev pub IsLongest : Head → ℕ → Type 0
IsLongest End m = m ≡ 2 ^ 64 - 1
IsLongest (Kept n) m = m ≡ n
IsLongest (Gone n) m = m ≡ n
IsLongest (New units) m = m ≡ length units.now

abbrev pub HasMore : Head → ℕ → Type 0
HasMore End m = Unit {0}
HasMore (Kept n) m = m < n
HasMore (Gone n) m = m < n
HasMore (New units) m = m < length units.now

abbrev pub IsNewOf : Head → List ℕ → Type 0
IsNewOf End us = ⊥
IsNewOf (Kept n) us = ⊥
IsNewOf (Gone n) us = ⊥
IsNewOf (New units) us = units.now ≡ us

-- a head without its first m units
abbrev pub IsShorter : Head → ℕ → Head → Type 0
IsShorter End m g = g ≡ End
IsShorter (Kept n) m g = g ≡ Kept (n - m)
IsShorter (Gone n) m g = g ≡ Gone (n - m)
IsShorter (New units) m g = IsNewOf g (drop m units.now)

-- a front without the first m units of its head
pub record IsPast (f : Front) (m : ℕ) (g : Front) : Type 0 where
  pub front : IsFront g
  pub parts : left f ≡ run_of f.head m ++ left g
  pub ends : f.head ≡ End → g.head ≡ End

abbrev pub is_new : Head → Bool
is_new End = false
is_new (Kept n) = false
is_new (Gone n) = false
is_new (New units) = true

abbrev pub is_gone : Head → Bool
is_gone End = false
is_gone (Kept n) = false
is_gone (Gone n) = true
is_gone (New units) = false
