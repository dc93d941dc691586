-- How the clients of a script are named and numbered.
use Rattle.std.specs.Prelude.{◌≡◌, ℕ, ◌+◌, ◌≤◌, ◌==◌, if◌then◌else◌, List, [], ◌∷◌, length, slice_get, Option, Some, None}
use Rattle.script.specs.declared.line.ScriptLine.{ScriptLine}
use Rattle.script.specs.declared.content.Content.{Content}
use Rattle.script.specs.Name.{IsName}
use Rattle.script.specs.Line.{client_of}

-- a line's client was seen before, or is the next new one, where so many were seen
abbrev pub IsSeenOrNext : ℕ → Option ℕ → Type 0
IsSeenOrNext seen None = Unit {0}
IsSeenOrNext seen (Some client) = client ≤ seen

-- how many were seen with that line: one more where its client is new
abbrev pub seen_with : ℕ → Option ℕ → ℕ
seen_with seen None = seen
seen_with seen (Some client) = if client == seen then seen + 1 else seen

-- each line's client is one seen before or the next new one, and in the end all have appeared
abbrev pub AppearInOrder : ℕ → List ScriptLine → ℕ → Type 0
AppearInOrder seen [] all = seen ≡ all
AppearInOrder seen (line ∷ after) all = IsSeenOrNext seen (client_of line) × AppearInOrder (seen_with seen (client_of line)) after all

-- each name is in its form
abbrev pub AreNames : List (List ℕ) → Type 0
AreNames names = (client : ℕ) (name : List ℕ) → slice_get names client ≡ Some name → IsName name

-- no name stands at two places
abbrev pub Differ : List (List ℕ) → Type 0
Differ names = (client other : ℕ) (name : List ℕ) → slice_get names client ≡ Some name → slice_get names other ≡ Some name → client ≡ other

-- what each script keeps: at most 64 names, which differ, and the lines' clients in the order of their first appearance
pub record IsNumbered (script : Content) : Type 0 where
  pub forms : AreNames script.names
  pub differ : Differ script.names
  pub few : length script.names ≤ 64
  pub order : AppearInOrder 0 script.lines (length script.names)
