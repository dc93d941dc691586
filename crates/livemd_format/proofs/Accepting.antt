-- A text that isn't too large is accepted, if it is read as a notebook that keeps the rules: these have the reader's limits.
use Rattle.std.proofs.Common.{ℕ, List, subst}
use Rattle.notebook.specs.declared.parts.Parts.{Parts}
use Rattle.notebook.specs.Rules.{IsNotebook}
use Rattle.livemd_format.specs.declared.notices.Notice.{Notice}
use Rattle.livemd_format.specs.Accepts.{HasFewCells, HasFewSections, IsAccepted, IsBookText}
use Rattle.livemd_format.specs.Reads.{Reads}

few_cells : (n : Parts) → IsNotebook n → HasFewCells n
few_cells n r = record { cells = r.few_cells; code_cells = r.few_code_cells }

pub read_is_accepted : (bytes : List ℕ) (n : Parts) (notices : List Notice) → IsBookText bytes → IsNotebook n → Reads bytes n notices → IsAccepted bytes
read_is_accepted bytes n notices t r h = record {
  text = t;
  few_sections = subst (λ (m : Parts). HasFewSections m) h.notebook r.few_sections;
  few_cells = subst (λ (m : Parts). HasFewCells m) h.notebook (few_cells n r);
}
