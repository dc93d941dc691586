-- Operations as they are written in a script: a word and its operands.
use Rattle.std.specs.Prelude.{◌≡◌, ℕ, true, List, codes, Option, Some, None}
use Rattle.notebook.specs.declared.change.CellKind.{CellKind}
use Rattle.notebook.specs.declared.change.CellKind.TheVariants.{Code, Markdown}
use Rattle.session_ops.specs.declared.entry.Op.{Op}
use Rattle.session_ops.specs.declared.entry.Op.TheVariants.{Join, Leave, SetName, InsertSection, SetSectionName, DeleteSection, MoveSection, SetParent, InsertCell, DeleteCell, RestoreCell, MoveCell, Delta, Report, Queue, Cancel}
use Rattle.session_ops.specs.Structure.{is_postable}
use Rattle.script.specs.Words.{first_word, after_word}
use Rattle.script.specs.Number.{IsNumber}
use Rattle.script.specs.Text.{IsText}
use Rattle.script.specs.Delta.{IsDelta}

-- the word for a kind of cell
abbrev pub kind_word : CellKind → List ℕ
kind_word Code = codes "code"
kind_word Markdown = codes "markdown"

-- the word is a section's number, or `none`
abbrev pub IsParent : List ℕ → Option ℕ → Type 0
IsParent word None = word ≡ codes "none"
IsParent word (Some section) = IsNumber word section

-- the text is a number and a rest, of which P holds
abbrev pub IsNumberAnd : List ℕ → ℕ → (List ℕ → Type 0) → Type 0
IsNumberAnd text number P = IsNumber (first_word text) number × P (after_word text)

-- the word and what follows it ask the server for the operation: `set_name TEXT`, `insert_section INDEX TEXT`,
-- `set_section_name SECTION TEXT`, `delete_section SECTION`, `move_section SECTION INDEX`, `set_parent SECTION PARENT`,
-- `insert_cell SECTION INDEX KIND`, `delete_cell CELL`, `restore_cell CELL SECTION INDEX`, `move_cell CELL SECTION INDEX`,
-- `delta CELL BASE DELTA`, `report CELL REV`, `queue CELL` or `cancel CELL`
abbrev pub IsOperation : List ℕ → List ℕ → Op → Type 0
IsOperation word rest Join = ⊥
IsOperation word rest Leave = ⊥
IsOperation word rest (SetName name) = (word ≡ codes "set_name") × IsText rest name
IsOperation word rest (InsertSection index name) = (word ≡ codes "insert_section") × IsNumberAnd rest index (λ rest. IsText rest name)
IsOperation word rest (SetSectionName section name) = (word ≡ codes "set_section_name") × IsNumberAnd rest section (λ rest. IsText rest name)
IsOperation word rest (DeleteSection section) = (word ≡ codes "delete_section") × IsNumber rest section
IsOperation word rest (MoveSection section index) = (word ≡ codes "move_section") × IsNumberAnd rest section (λ rest. IsNumber rest index)
IsOperation word rest (SetParent section parent) = (word ≡ codes "set_parent") × IsNumberAnd rest section (λ rest. IsParent rest parent)
IsOperation word rest (InsertCell section index kind) = (word ≡ codes "insert_cell") × IsNumberAnd rest section (λ rest. IsNumberAnd rest index (λ rest. rest ≡ kind_word kind))
IsOperation word rest (DeleteCell cell) = (word ≡ codes "delete_cell") × IsNumber rest cell
IsOperation word rest (RestoreCell cell section index) = (word ≡ codes "restore_cell") × IsNumberAnd rest cell (λ rest. IsNumberAnd rest section (λ rest. IsNumber rest index))
IsOperation word rest (MoveCell cell section index) = (word ≡ codes "move_cell") × IsNumberAnd rest cell (λ rest. IsNumberAnd rest section (λ rest. IsNumber rest index))
IsOperation word rest (Delta cell base delta) = (word ≡ codes "delta") × IsNumberAnd rest cell (λ rest. IsNumberAnd rest base (λ rest. IsDelta rest delta))
IsOperation word rest (Report cell rev) = (word ≡ codes "report") × IsNumberAnd rest cell (λ rest. IsNumber rest rev)
IsOperation word rest (Queue cell) = (word ≡ codes "queue") × IsNumber rest cell
IsOperation word rest (Cancel cell) = (word ≡ codes "cancel") × IsNumber rest cell

-- the text is such an operation
abbrev pub IsRawOp : List ℕ → Op → Type 0
IsRawOp text op = IsOperation (first_word text) (after_word text) op

-- the text is an operation that a client may post as it is: any of these but `delta` and `report`
abbrev pub IsOp : List ℕ → Op → Type 0
IsOp text op = (is_postable op ≡ true) × IsRawOp text op

-- the text posts a report of a cell: `report CELL`
abbrev pub IsReport : List ℕ → ℕ → Type 0
IsReport text cell = (first_word text ≡ codes "report") × IsNumber (after_word text) cell
