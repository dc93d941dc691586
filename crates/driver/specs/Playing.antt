-- What some lines of a script make of the player, and what is written of them.
use Rattle.std.specs.Prelude.{◌≡◌, ℕ, List, ◌++◌, Some}
use Rattle.script.specs.declared.line.ScriptLine.{ScriptLine}
use Rattle.driver.specs.Turns.{Turn}
use Rattle.driver.specs.Player.{Game, Stage, play}
use Rattle.driver.specs.Standing.{Stands, turns_of}
use Rattle.driver.specs.Around.{Output, AreWritten, AreCut}
use Rattle.driver.specs.declared.player.Player.{Player}

-- with just the turns that came with them, these lines lead from a stage to another, and print these pieces
pub record ArePlayed (g : Game) (lines : List ScriptLine) (old new : Player) (s : Stage) (pieces : List (List ℕ)) : Type 0 where
  pub stage : Stage
  pub more : List Turn
  pub grown : turns_of new ≡ turns_of old ++ more
  pub plays : (rest : List Turn) → play g lines (record s { turns = more ++ rest }) ≡ Some (record { pieces = pieces; stage = record stage { turns = rest } })
  pub stands : Stands g new stage

-- these lines were played, and just what they print was written, each piece by one write
pub record HavePlayed (g : Game) (lines : List ScriptLine) (old new : Player) (s : Stage) (before after : Output) : Type 0 where
  pub pieces : List (List ℕ)
  pub played : ArePlayed g lines old new s pieces
  pub written : AreWritten pieces before after

-- the first of these lines were played, and a front of what they print was written
pub record HaveBrokenOff (g : Game) (lines : List ScriptLine) (old new : Player) (s : Stage) (before after : Output) : Type 0 where
  pub first : List ScriptLine
  pub others : List ScriptLine
  pub parts : lines ≡ first ++ others
  pub pieces : List (List ℕ)
  pub played : ArePlayed g first old new s pieces
  pub written : AreCut pieces before after

-- a line found no memory: what stands written is what a play that broke off there, with this player, leaves
pub record HaveStopped (g : Game) (lines : List ScriptLine) (old : Player) (s : Stage) (before after : Output) : Type 0 where
  pub last : Player
  pub broken : HaveBrokenOff g lines old last s before after
