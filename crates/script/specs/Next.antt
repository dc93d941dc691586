-- How a script grows by one line.
use Rattle.std.specs.Prelude.{◌≡◌, ◌≢◌, ℕ, ◌<◌, ◌==◌, if◌then◌else◌, ◌⊎◌, List, [], ◌∷◌, ◌++◌, length, slice_get, Option, Some, None, MatchOption}
use Rattle.script.specs.declared.line.ScriptLine.{ScriptLine}
use Rattle.script.specs.declared.content.Content.{Content}
use Rattle.script.specs.declared.error.LineError.{LineError}
use Rattle.script.specs.declared.error.LineError.TheVariants.{Fault, OutOfMemory}
use Rattle.script.specs.declared.error.LineFault.TheVariants.{Unbuilt}
use Rattle.script.specs.Name.{IsName}
use Rattle.script.specs.Words.{first_word, after_word}
use Rattle.script.specs.Line.{word_of, client_of, IsEnd}
use Rattle.script.specs.Script.{IsScript, IsFault}

-- no name and no line
abbrev pub no_content : Content
no_content = record { names = []; lines = [] }

-- the word is a name that may come as the next one
pub record IsNewName (names : List (List ℕ)) (word : List ℕ) : Type 0 where
  pub new : (place : ℕ) → slice_get names place ≢ Some word
  pub form : IsName word
  pub few : length names < 64

-- the number that a name has, or gets as the next one
abbrev pub HasNumber : List (List ℕ) → List ℕ → ℕ → Type 0
HasNumber names word client = (slice_get names client ≡ Some word) ⊎ ((client ≡ length names) × IsNewName names word)

-- the line has the word, no client, and the rest as its end
pub record IsPlainLine (word rest : List ℕ) (line : ScriptLine) : Type 0 where
  pub word_is : word ≡ word_of line
  pub client : client_of line ≡ None
  pub end_is : IsEnd rest line

-- the line has the word, that client, and the rest as its end
pub record IsClientLine (word : List ℕ) (number : ℕ) (rest : List ℕ) (line : ScriptLine) : Type 0 where
  pub word_is : word ≡ word_of line
  pub client : client_of line ≡ Some number
  pub end_is : IsEnd rest line

-- an answer is what P holds of, or tells that there is none
abbrev pub Tells : {A : Type 0} → (A → Type 0) → Option A → Type 0
Tells {A} P answer = MatchOption answer ((a : A) → ¬ (P a)) P

-- what follows a line's word after lines with these names: its client's name, where it has one, and its end
abbrev pub IsNextRest : List (List ℕ) → List ℕ → Option ℕ → ScriptLine → Type 0
IsNextRest names rest None line = IsEnd rest line
IsNextRest names rest (Some client) line = HasNumber names (first_word rest) client × IsEnd (after_word rest) line

-- the word and the rest are the line after lines with these names
abbrev pub IsNextLine : List (List ℕ) → List ℕ → List ℕ → ScriptLine → Type 0
IsNextLine names word rest line = (word ≡ word_of line) × IsNextRest names rest (client_of line) line

-- the names after a line: with its client's name where that one is new
abbrev pub names_with : List (List ℕ) → Option ℕ → List ℕ → List (List ℕ)
names_with names None name = names
names_with names (Some client) name = if client == length names then names ++ name ∷ [] else names

-- the word and the rest are one more line
pub record IsNext (old : Content) (word rest : List ℕ) (new : Content) : Type 0 where
  pub line : ScriptLine
  pub is : IsNextLine old.names word rest line
  pub added : new.lines ≡ old.lines ++ line ∷ []
  pub names : new.names ≡ names_with old.names (client_of line) (first_word rest)

-- why the word and the rest are no further line
abbrev pub IsUnfit : Content → List ℕ → List ℕ → LineError → Type 0
IsUnfit old word rest (Fault kind) = (kind ≡ Unbuilt) × ((line : ScriptLine) → ¬ (IsNextLine old.names word rest line))
IsUnfit old word rest OutOfMemory = Unit {0}

-- after lines that stand for the old script, the line makes them stand for the new one
abbrev pub ReadsOn : List ℕ → Content → Content → Type 0
ReadsOn line old new = (before : List (List ℕ)) → IsScript before old → IsScript (before ++ line ∷ []) new

-- why it makes them stand for no script
abbrev pub IsStop : List ℕ → Content → LineError → Type 0
IsStop line old (Fault kind) = IsFault line kind × ((before : List (List ℕ)) (new : Content) → IsScript before old → ¬ (IsScript (before ++ line ∷ []) new))
IsStop line old OutOfMemory = Unit {0}
