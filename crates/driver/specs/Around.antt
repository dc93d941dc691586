-- What shelf and sink tell around a run, and what is written of pieces.
use Rattle.std.specs.Prelude.{◌≡◌, ℕ, List, [], ◌∷◌, Option}
use Rattle.std.specs.List.{concat}
use Rattle.book_outside.specs.Outside.{Reading, one_more, AppendsAll, AppendsFront}

-- a shelf at one time: its reads so far in order, and how often it has failed
pub record Input : Type 0 where
  pub readings : List Reading
  pub faults : ℕ

-- a sink at one time: how many writes it was asked for, how often it has failed, and what was written, where it tells it
pub record Output : Type 0 where
  pub writes : ℕ
  pub faults : ℕ
  pub written : Option (List ℕ)

-- around a run: what the shelf holds, where it tells it, and shelf and sink before and after
pub record Around : Type 0 where
  pub held : Option (List (List ℕ × List ℕ))
  pub shelf_before : Input
  pub shelf_after : Input
  pub sink_before : Output
  pub sink_after : Output

-- these, by what shelves and sinks tell
abbrev pub input : {S : Type 0} → (S → List Reading) → (S → ℕ) → S → Input
input reads faults shelf = record { readings = reads shelf; faults = faults shelf }

abbrev pub output : {K : Type 0} → (K → ℕ) → (K → ℕ) → (K → Option (List ℕ)) → K → Output
output writes faults written sink = record { writes = writes sink; faults = faults sink; written = written sink }

abbrev pub around : Option (List (List ℕ × List ℕ)) → Input → Input → Output → Output → Around
around held shelf shelf' sink sink' = record { held = held; shelf_before = shelf; shelf_after = shelf'; sink_before = sink; sink_after = sink' }

-- just this text was written, by one write
pub record IsWrittenText (text : List ℕ) (before after : Output) : Type 0 where
  pub appended : AppendsAll before.written text after.written
  pub asked : after.writes ≡ one_more before.writes

-- one write was asked for, and just a front of this text was written
pub record IsCutText (text : List ℕ) (before after : Output) : Type 0 where
  pub front : AppendsFront before.written text after.written
  pub asked : after.writes ≡ one_more before.writes

-- the number of writes after a piece: one more, unless the piece is empty
abbrev pub write_of : List ℕ → ℕ → ℕ
write_of [] writes = writes
write_of (byte ∷ bytes) writes = one_more writes

-- the number of writes after some pieces: one more for each that isn't empty
abbrev pub writes_of : List (List ℕ) → ℕ → ℕ
writes_of [] writes = writes
writes_of (piece ∷ pieces) writes = writes_of pieces (write_of piece writes)

-- just these pieces were written one after the other, each that isn't empty by one write
pub record AreWritten (pieces : List (List ℕ)) (before after : Output) : Type 0 where
  pub appended : AppendsAll before.written (concat pieces) after.written
  pub asked : after.writes ≡ writes_of pieces before.writes

-- a write was asked for each of these pieces that isn't empty, and just a front of their texts was written
pub record AreCut (pieces : List (List ℕ)) (before after : Output) : Type 0 where
  pub front : AppendsFront before.written (concat pieces) after.written
  pub asked : after.writes ≡ writes_of pieces before.writes
