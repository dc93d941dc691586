-- The states of the setup and code cells, as lines.
use Rattle.std.specs.declared.alloc.Global.{Global}
use Rattle.std.specs.Prelude.{◌≡◌, ℕ, ◌==◌, if◌then◌else◌, List, [], ◌∷◌, ◌++◌, length, IsSome, option_map, unwrap_or, OnOk, Result, String}
use Rattle.notebook.specs.declared.parts.Cell.{Cell}
use Rattle.notebook.specs.declared.parts.Section.{Section}
use Rattle.notebook.specs.declared.parts.Kind.{Kind}
use Rattle.notebook.specs.declared.parts.Kind.TheVariants.{Setup, Code, Markdown}
use Rattle.notebook.specs.declared.parts.Parts.{Parts}
use Rattle.notebook.specs.declared.states.Lane.{Lane}
use Rattle.notebook.specs.declared.states.Lane.TheVariants.{Main}
use Rattle.notebook.specs.declared.states.Validity.{Validity}
use Rattle.notebook.specs.Flow.{path, section_lane}
use Rattle.notebook.specs.Validity.{validity_by, status_by}
use Rattle.lanes.specs.declared.work.Work.{Work}
use Rattle.lanes.specs.Work.{is_queued, is_aborted, is_running, last_finished, path_read, shown_in}
use Rattle.transcript.specs.States.{state_line}
use Rattle.session_core.specs.Session.{Session, IsSession, state_of}
use Rattle.transcript.specs.Printed.{AppendsLines}

-- what a cell's last evaluation is worth now
abbrev pub validity_now : Parts → Work → ℕ → Validity
validity_now n w cell = validity_by (is_aborted w cell) (option_map path_read (last_finished w cell)) (unwrap_or (path n cell) [])

-- a cell of a lane, with what is asked for it and what it shows
abbrev pub cell_line : Parts → Work → Lane → ℕ → List ℕ
cell_line n w lane cell = state_line cell lane (status_by (is_running w cell) (is_queued w cell)) (validity_now n w cell) (option_map shown_in (last_finished w cell))

abbrev pub line_of_kind : Parts → Work → Lane → Cell → Kind → List (List ℕ)
line_of_kind n w lane c Setup = []
line_of_kind n w lane c Code = cell_line n w lane c.id ∷ []
line_of_kind n w lane c Markdown = []

-- the code cells among some cells of a lane
abbrev pub code_lines : Parts → Work → Lane → List Cell → List (List ℕ)
code_lines n w lane [] = []
code_lines n w lane (c ∷ cs) = line_of_kind n w lane c c.kind ++ code_lines n w lane cs

abbrev pub section_code_lines : Parts → Work → List Section → List (List ℕ)
section_code_lines n w [] = []
section_code_lines n w (s ∷ ss) = code_lines n w (section_lane s) s.cells ++ section_code_lines n w ss

-- the setup cell's line is left out where its source is empty
abbrev pub setup_line : Parts → Work → Cell → List (List ℕ)
setup_line n w c = if length c.source == 0 then [] else cell_line n w Main c.id ∷ []

-- the states of the setup and code cells in notebook order
abbrev pub status_lines : Parts → Work → List (List ℕ)
status_lines n w = setup_line n w n.setup ++ section_code_lines n w n.sections

-- a cell has a path; so have the code cells among some cells, and those of some sections
abbrev pub HasPath : Parts → ℕ → Type 0
HasPath n cell = IsSome (path n cell)

abbrev pub HasPathIfCode : Parts → Cell → Kind → Type 0
HasPathIfCode n c Setup = Unit {0}
HasPathIfCode n c Code = HasPath n c.id
HasPathIfCode n c Markdown = Unit {0}

abbrev pub AllHavePaths : Parts → List Cell → Type 0
AllHavePaths n [] = Unit {0}
AllHavePaths n (c ∷ cs) = HasPathIfCode n c c.kind × AllHavePaths n cs

abbrev pub AllSectionsHavePaths : Parts → List Section → Type 0
AllSectionsHavePaths n [] = Unit {0}
AllSectionsHavePaths n (s ∷ ss) = AllHavePaths n s.cells × AllSectionsHavePaths n ss

-- the session tells of this notebook and of this work on it
pub record Tells (n : Parts) (w : Work) (s : Session) : Type 0 where
  pub opening : Parts
  pub session : IsSession opening s
  pub book : n ≡ (state_of opening s).book
  pub work : w ≡ (state_of opening s).work

-- whatever notebook and work the session tells of, where all have paths whose lines these are, the lines are put at the end of a text
abbrev pub Lists : {T E : Type 0} → Result T E → (Parts → Type 0) → (Parts → Work → List (List ℕ)) → Session → String Global → String Global → Type 0
Lists result have_paths lines s out out' = (n : Parts) (w : Work) → Tells n w s → have_paths n → OnOk result (AppendsLines (lines n w) out out')
