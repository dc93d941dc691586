-- The history keeps room for the answers that are owed.
use Rattle.std.specs.Prelude.{◌≡◌, ◌≤◌, ℕ, false, ◌+◌, ◌-◌, List, [], ◌∷◌, ◌++◌}
use Rattle.std.specs.List.{AllByRecursion}
use Rattle.std.specs.Vec.{vec_len, vec_capacity}
use Rattle.session_ops.specs.declared.entry.Call.{Call}
use Rattle.session_ops.specs.declared.entry.Call.TheVariants.{Start, Respond}
use Rattle.session_ops.specs.declared.entry.Reply.{Reply}
use Rattle.session_ops.specs.declared.entry.Reply.TheVariants.{Started}
use Rattle.session_ops.specs.declared.entry.Entry.{Entry}
use Rattle.session_ops.specs.State.{Job, is_job}
use Rattle.session_core.specs.declared.history.History.{History}

-- all that was appended
abbrev pub entries_in : History → List Entry
entries_in h = h.entries.items

-- this many entries more take no memory
abbrev pub HasRoom : ℕ → History → Type 0
HasRoom more h = vec_len h.entries + more ≤ vec_capacity h.entries

-- at most the room changed, and it didn't shrink
pub record KeepsEntries (old new : History) : Type 0 where
  pub entries : entries_in new ≡ entries_in old
  pub owed : new.owed ≡ old.owed
  pub room : HasRoom old.owed old → HasRoom new.owed new

-- the entry was appended; so many answers are owed then, and there is room for them
pub record Appends (old : History) (entry : Entry) (count : ℕ) (new : History) : Type 0 where
  pub entries : entries_in new ≡ entries_in old ++ entry ∷ []
  pub owed : new.owed ≡ count
  pub room : HasRoom count new

-- how many answers are owed after an entry: a start owes one more, and an answer is owed no more
abbrev pub owed_after : ℕ → Call → Reply → ℕ
owed_after owed (Start lane) (Started eval cell) = owed + 1
owed_after owed (Respond eval shown) answer = owed - 1
owed_after owed call answer = owed

-- the entry was appended, and what it owes is counted
abbrev pub Grows : History → Entry → History → Type 0
Grows old entry new = Appends old entry (owed_after old.owed entry.call entry.reply) new

-- each job is under a number of its own
abbrev pub AreApart : List Job → Type 0
AreApart [] = Unit {0}
AreApart (j ∷ js) = AllByRecursion (λ k. is_job j.eval k ≡ false) js × AreApart js
