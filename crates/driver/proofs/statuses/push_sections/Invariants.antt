use Rattle.std.proofs.Common.{◌≡◌, ◌++◌, drop, string_bytes}
use Rattle.notebook.specs.declared.parts.Parts.{Parts}
use Rattle.lanes.specs.declared.work.Work.{Work}
use Rattle.driver.specs.Statuses.{Tells}
use Rattle.transcript.specs.Texts.{as_text}
use Rattle.driver.specs.Statuses.{AllSectionsHavePaths, section_code_lines}
use Rattle.driver.proofs.statuses.push_sections.Given as goal

-- what is printed so far and the sections that are left are all
abbrev pub invariant-loop-section : goal.invariant-loop-section
invariant-loop-section l =
    (n : Parts) (w : Work) → Tells n w l.session → AllSectionsHavePaths n l.sections
    → (string_bytes l.out ++ as_text (section_code_lines n w (drop l.section-index l.sections)) ≡ string_bytes l.initial.out ++ as_text (section_code_lines n w l.sections)) × AllSectionsHavePaths n (drop l.section-index l.sections)
