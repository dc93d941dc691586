-- How many code cells there are.
use Rattle.std.proofs.Common.{◌≡◌, ℕ, ◌+◌, ◌<◌, List, [], ◌∷◌, ◌++◌, length, drop, get_or, sym, ap, ◌∙◌, arith, add-one, drop-cons}
use Rattle.std.specs.List.{flat_map}
use Rattle.notebook.specs.declared.parts.Cell.{Cell}
use Rattle.notebook.specs.declared.parts.Section.{Section}
use Rattle.notebook.specs.Book.{cells_of}
use Rattle.notebook.specs.Rules.{code_count}

pub code_count-append : (xs ys : List Cell) → code_count (xs ++ ys) ≡ code_count xs + code_count ys
code_count-append [] ys = omega arith
code_count-append (c ∷ xs) ys = let rest : code_count (xs ++ ys) ≡ code_count xs + code_count ys = code_count-append xs ys in omega arith

-- the code of the sections from a place on
pub code-from : (ss : List Section) (i : ℕ) (s : Section) → i < length ss → s ≡ get_or ss i s → code_count (flat_map cells_of (drop i ss)) ≡ code_count s.cells + code_count (flat_map cells_of (drop (i + 1) ss))
code-from ss i s within at =
    let one : drop i ss ≡ get_or ss i s ∷ drop (i + 1) ss = rw add-one (drop-cons ss i s within) in
    let here : drop i ss ≡ s ∷ drop (i + 1) ss = one ∙ ap (λ t. t ∷ drop (i + 1) ss) (sym at) in
    ap (λ (ts : List Section). code_count (flat_map cells_of ts)) here ∙ code_count-append s.cells (flat_map cells_of (drop (i + 1) ss))
