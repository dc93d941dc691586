-- What the reader's walk adds to the last section of a notebook.
use Rattle.std.proofs.Common.{◌≡◌, ℕ, ◌+◌, Bool, false, cond, List, [], ◌∷◌, ◌++◌, None, codes, refl, ap, ◌∙◌}
use Rattle.notebook.specs.declared.parts.Cell.{Cell}
use Rattle.notebook.specs.declared.parts.Saved.{Saved}
use Rattle.notebook.specs.declared.parts.Section.{Section}
use Rattle.notebook.specs.declared.parts.Parts.{Parts}
use Rattle.notebook.specs.declared.parts.Kind.{Kind}
use Rattle.blanks.specs.Blanks.{is_empty}
use Rattle.livemd_format.specs.Walk.{add_cell, add_last_output, add_output, on_last, with_cell, with_output, with_section, with_some_section}

pub not_nothing : {X : Type 0} (xs : List X) (x : X) (ys : List X) → is_empty (xs ++ x ∷ ys) ≡ false
not_nothing [] x ys = refl
not_nothing (y ∷ xs) x ys = refl

pub on_last_at : {X : Type 0} (f : X → X) (xs : List X) (x : X) → on_last f (xs ++ x ∷ []) ≡ xs ++ f x ∷ []
on_last_at f [] x = refl
on_last_at f (y ∷ []) x = refl
on_last_at f (y ∷ z ∷ xs) x = ap (λ w. y ∷ w) (on_last_at f (z ∷ xs) x)

-- the notebook with these sections and numbers
abbrev pub parts_at : Parts → List Section → ℕ → ℕ → Parts
parts_at n ss next_cell next_section = record n { sections = ss; next_cell = next_cell; next_section = next_section }

abbrev pub cell_of : ℕ → Kind → List ℕ → List (List ℕ) → List Saved → Cell
cell_of id kind source before saved = record { id = id; kind = kind; source = source; before = before; saved = saved }

pub cell_added : (n : Parts) (front : List Section) (s : Section) (cs : List Cell) (nc ns : ℕ) (kind : Kind) (source : List ℕ) (w : List (List ℕ))
    → with_cell kind source w (with_some_section (parts_at n (front ++ record s { cells = cs } ∷ []) nc ns)) ≡ parts_at n (front ++ record s { cells = cs ++ cell_of nc kind source w [] ∷ [] } ∷ []) (nc + 1) ns
cell_added n front s cs nc ns kind source w =
    let p : Parts = parts_at n (front ++ record s { cells = cs } ∷ []) nc ns in
    ap (λ (b : Bool). with_cell kind source w (cond b (with_section (codes "Section") [] None p) p)) (not_nothing front (record s { cells = cs }) [])
    ∙ ap (λ ss. parts_at n ss (nc + 1) ns) (on_last_at (add_cell (cell_of nc kind source w [])) front (record s { cells = cs }))

pub output_put : (n : Parts) (front : List Section) (s : Section) (nc ns : ℕ) (o : Saved)
    → with_output o (parts_at n (front ++ s ∷ []) nc ns) ≡ parts_at n (front ++ add_last_output o s ∷ []) nc ns
output_put n front s nc ns o =
    let p : Parts = parts_at n (front ++ s ∷ []) nc ns in
    ap (λ (b : Bool). cond b (record p { setup = add_output o p.setup }) (record p { sections = on_last (add_last_output o) p.sections })) (not_nothing front s [])
    ∙ ap (λ ss. parts_at n ss nc ns) (on_last_at (add_last_output o) front s)

pub output_added : (n : Parts) (front : List Section) (s : Section) (cs : List Cell) (c : Cell) (nc ns : ℕ) (o : Saved)
    → with_output o (parts_at n (front ++ record s { cells = cs ++ c ∷ [] } ∷ []) nc ns) ≡ parts_at n (front ++ record s { cells = cs ++ add_output o c ∷ [] } ∷ []) nc ns
output_added n front s cs c nc ns o =
    output_put n front (record s { cells = cs ++ c ∷ [] }) nc ns o
    ∙ ap (λ ds. parts_at n (front ++ record s { cells = ds } ∷ []) nc ns) (on_last_at (add_output o) cs c)
