-- What a script prints over a history.
use Rattle.std.specs.Prelude.{ℕ, List, [], ◌∷◌, ◌++◌, Option, Some, None, codes}
use Rattle.notebook.specs.declared.parts.Parts.{Parts}
use Rattle.session_ops.specs.declared.entry.Entry.{Entry}
use Rattle.session_ops.specs.State.{State, state, revision}
use Rattle.transcript.specs.Texts.{book_lines, as_text}
use Rattle.script.specs.declared.line.ScriptLine.{ScriptLine}
use Rattle.script.specs.declared.content.Content.{Content}
use Rattle.driver.specs.Turns.{Turn, turns_from}
use Rattle.driver.specs.Statuses.{status_lines}
use Rattle.driver.specs.Player.{Game, Stage, Printed, or_none, play, settled}

abbrev pub game : Parts → Content → Game
game n0 script = record { opening = n0; names = script.names }

-- before the first line: all turns are to come
abbrev pub begun : List Entry → List ℕ → Stage
begun h marks = record { turns = turns_from [] h marks; seen = []; clients = []; asked = []; sent = []; helped = []; said = [] }

-- some lines of the script, played from its beginning
abbrev pub printed_by : Parts → Content → List ScriptLine → List Entry → List ℕ → Option Printed
printed_by n0 script lines h marks = play (game n0 script) lines (begun h marks)

-- the end settles, without a line
abbrev pub ended : Parts → Content → Printed → Option Printed
ended n0 script p = or_none (settled (game n0 script) p.stage) (λ s. Some (record p { stage = s }))

-- all lines and the end: what each line printed, and the stage after the end
abbrev pub finished : Parts → Content → List Entry → List ℕ → Option Printed
finished n0 script h marks = or_none (printed_by n0 script script.lines h marks) (ended n0 script)

-- the end: the server's notebook, and the states of its cells
abbrev pub end_lines : State → List (List ℕ)
end_lines s = codes "end" ∷ (book_lines (revision s) s.book ++ status_lines s.book s.work)

-- the pieces of a play: one of the notices' lines, one of each line of the script, and one of the end
abbrev pub pieces_of : Parts → List (List ℕ) → List Entry → List (List ℕ) → List (List ℕ)
pieces_of n0 notices h lines = as_text notices ∷ (lines ++ as_text (end_lines (state n0 h)) ∷ [])

-- these, where all turns are used up
abbrev pub ending : Parts → List (List ℕ) → List Entry → List (List ℕ) → List Turn → Option (List (List ℕ))
ending n0 notices h lines [] = Some (pieces_of n0 notices h lines)
ending n0 notices h lines (t ∷ ts) = None

-- the transcript: the pieces that the play of the script over the history prints, one after the other
abbrev pub transcript : Parts → List (List ℕ) → Content → List Entry → List ℕ → Option (List (List ℕ))
transcript n0 notices script h marks = or_none (finished n0 script h marks) (λ p. ending n0 notices h p.pieces p.stage.turns)
