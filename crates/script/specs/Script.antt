-- What bytes stand for as a script, and why they stand for none.
use Rattle.limits.specs.Limits.{most_file_bytes}
use Rattle.std.specs.Prelude.{◌≡◌, ℕ, ◌+◌, ◌<◌, ◌≤◌, List, [], ◌∷◌, ◌++◌, length}
use Rattle.std.specs.List.{AllByRecursion}
use Rattle.std.specs.Str.{IsUtf8}
use Rattle.script.specs.declared.line.ScriptLine.{ScriptLine}
use Rattle.script.specs.declared.content.Content.{Content}
use Rattle.script.specs.declared.error.LineFault.{LineFault}
use Rattle.script.specs.declared.error.LineFault.TheVariants.{NotUtf8, Unbuilt}
use Rattle.script.specs.declared.error.ScriptError.{ScriptError}
use Rattle.script.specs.declared.error.ScriptError.TheVariants.{TooLarge, At, OutOfMemory}
use Rattle.script.specs.Lines.{lines, texts}
use Rattle.script.specs.Line.{IsLine}
use Rattle.script.specs.Clients.{IsNumbered}

-- each text is the line at its place
abbrev pub AreLines : List (List ℕ) → List (List ℕ) → List ScriptLine → Type 0
AreLines names [] [] = Unit {0}
AreLines names [] (line ∷ after) = ⊥
AreLines names (text ∷ texts) [] = ⊥
AreLines names (text ∷ texts) (line ∷ after) = IsLine names text line × AreLines names texts after

-- lines of bytes that stand for a script: all are UTF-8, those that aren't skipped are its lines, and these number the clients
pub record IsScript (ls : List (List ℕ)) (content : Content) : Type 0 where
  pub utf8 : AllByRecursion IsUtf8 ls
  pub each : AreLines content.names (texts ls) content.lines
  pub clients : IsNumbered content

-- the bytes are few enough, and their lines stand for the script
pub record IsScriptOf (bytes : List ℕ) (content : Content) : Type 0 where
  pub small : length bytes ≤ most_file_bytes
  pub script : IsScript (lines bytes) content

-- what is wrong with a line that can't stand where it does
abbrev pub IsFault : List ℕ → LineFault → Type 0
IsFault line NotUtf8 = ¬ IsUtf8 line
IsFault line Unbuilt = IsUtf8 line

-- the first line, counted from 1, with which the lines stand for no script
pub record IsFirstBad (ls : List (List ℕ)) (number : ℕ) (kind : LineFault) : Type 0 where
  pub before : List (List ℕ)
  pub line : List ℕ
  pub after : List (List ℕ)
  pub parts : ls ≡ before ++ line ∷ after
  pub counted : number ≡ length before + 1
  pub good : (content : Content) × IsScript before content
  pub bad : (content : Content) → ¬ (IsScript (before ++ line ∷ []) content)
  pub fault : IsFault line kind

-- why the bytes stand for no script; want of memory is told only where they are few enough
abbrev pub IsScriptCause : List ℕ → ScriptError → Type 0
IsScriptCause bytes TooLarge = most_file_bytes < length bytes
IsScriptCause bytes (At line kind) = (length bytes ≤ most_file_bytes) × IsFirstBad (lines bytes) line kind
IsScriptCause bytes OutOfMemory = length bytes ≤ most_file_bytes
