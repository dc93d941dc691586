-- What of a notebook a book is told: of its outputs those of code alone.
use Rattle.std.specs.Prelude.{if◌then◌else◌, List, [], map}
use Rattle.notebook.specs.declared.parts.Cell.{Cell}
use Rattle.notebook.specs.declared.parts.Kind.{Kind}
use Rattle.notebook.specs.declared.parts.Parts.{Parts}
use Rattle.notebook.specs.declared.parts.Saved.{Saved}
use Rattle.notebook.specs.declared.parts.Section.{Section}
use Rattle.livemd_format.specs.Tidy.{is_markdown}

abbrev pub told_saved : Kind → List Saved → List Saved
told_saved kind saved = if is_markdown kind then [] else saved

abbrev pub told_cell : Cell → Cell
told_cell c = record c { saved = told_saved c.kind c.saved }

abbrev pub told_section : Section → Section
told_section s = record s { cells = map told_cell s.cells }

abbrev pub told : Parts → Parts
told n = record n { setup = told_cell n.setup; sections = map told_section n.sections }
