-- A client that has received all and has nothing pending holds the server's notebook.
use Rattle.std.proofs.Common.{◌≡◌, ◌∷◌, [], List, refl, ap}
use Rattle.notebook.specs.declared.parts.Cell.{Cell}
use Rattle.notebook.specs.declared.parts.Section.{Section}
use Rattle.notebook.specs.declared.parts.Parts.{Parts}
use Rattle.notebook.specs.Book.{resourced_cells, resourced_sections, resourced}
use Rattle.session_ops.specs.declared.entry.Entry.{Entry}
use Rattle.session_ops.specs.State.{state}
use Rattle.client_sync.specs.Client.{Client, own_source, held}

sources-stay : (cs : List Cell) → resourced_cells (own_source []) cs ≡ cs
sources-stay [] = refl
sources-stay (c ∷ cs) = ap (λ rest. c ∷ rest) (sources-stay cs)

with-section : Section → List Cell → Section
with-section s cs = record s { cells = cs }

cells-stay : (ss : List Section) → resourced_sections (own_source []) ss ≡ ss
unfolding with-section
cells-stay [] = refl
cells-stay (s ∷ ss) = rw (sources-stay s.cells, cells-stay ss) refl

pub note-stays : (n : Parts) → resourced (own_source []) n ≡ n
note-stays n = rw (cells-stay n.sections) refl

pub holds-all : (n0 : Parts) (h : List Entry) (c : Client) → c.seen ≡ h → c.pending ≡ [] → held n0 c ≡ (state n0 h).book
holds-all n0 h c all none = rw (all, none, note-stays (state n0 h).book) refl
