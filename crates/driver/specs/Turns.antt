-- The turns of the script's player: those in which it made an entry, and those in which it only looked.
use Rattle.std.specs.Prelude.{ℕ, ◌==◌, ◌≤◌, nat_le, if◌then◌else◌, List, [], ◌∷◌, ◌++◌, length}
use Rattle.session_ops.specs.declared.entry.Entry.{Entry}

-- a turn found these entries, and made one more or none
pub data Turn : Type 0 where
  Made : List Entry → Entry → Turn
  Looked : List Entry → Turn

-- the looks whose marks aren't above the number of entries, and the marks after them
abbrev pub looks_until : List Entry → List ℕ → List Turn
looks_until seen [] = []
looks_until seen (m ∷ ms) = if nat_le m (length seen) then Looked seen ∷ looks_until seen ms else []

abbrev pub marks_past : ℕ → List ℕ → List ℕ
marks_past p [] = []
marks_past p (m ∷ ms) = if nat_le m p then marks_past p ms else m ∷ ms

abbrev pub all_looks : List Entry → List ℕ → List Turn
all_looks seen [] = []
all_looks seen (m ∷ ms) = Looked seen ∷ all_looks seen ms

-- the player's entries stand under 0
abbrev pub made_by_0 : List Entry → Entry → List Turn
made_by_0 seen e = if e.by == 0 then Made seen e ∷ [] else []

-- the turns after these entries: the entry at place p stands before the mark m exactly where p is below m
abbrev pub turns_from : List Entry → List Entry → List ℕ → List Turn
turns_from seen [] marks = all_looks seen marks
turns_from seen (e ∷ es) marks = looks_until seen marks ++ (made_by_0 seen e ++ turns_from (seen ++ e ∷ []) es (marks_past (length seen) marks))

-- the marks from this one on never fall, and none is above the length
abbrev pub AreMarks : ℕ → List ℕ → ℕ → Type 0
AreMarks low [] len = Unit {0}
AreMarks low (m ∷ ms) len = (low ≤ m) × ((m ≤ len) × AreMarks m ms len)
