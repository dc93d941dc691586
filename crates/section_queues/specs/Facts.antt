-- What is known of cells from outside.
use Rattle.std.specs.Prelude.{ℕ, ◌==◌, ◌&&◌, not, Bool, List}
use Rattle.std.specs.List.{list_any}

-- whether two numbers are one
abbrev pub same_number : ℕ → ℕ → Bool
same_number a b = a == b

-- whether a number is this one, another one, and among some
abbrev pub is_number : ℕ → ℕ → Bool
is_number cell k = k == cell

abbrev pub is_other : ℕ → ℕ → Bool
is_other cell k = not (k == cell)

abbrev pub is_in : ℕ → List ℕ → Bool
is_in cell ks = list_any (is_number cell) ks

-- the evaluated cells, and the cells that show a fault
pub record Facts : Type 0 where
  pub evaluated : List ℕ
  pub faulty : List ℕ

abbrev pub known : List ℕ → List ℕ → Facts
known evaluated faulty = record { evaluated = evaluated; faulty = faulty }

abbrev pub is_evaluated : Facts → ℕ → Bool
is_evaluated f cell = is_in cell f.evaluated

abbrev pub shows_fault : Facts → ℕ → Bool
shows_fault f cell = is_in cell f.faulty

-- a cell has failed: it is evaluated and shows a fault
abbrev pub has_failed : Facts → ℕ → Bool
has_failed f cell = is_evaluated f cell && shows_fault f cell
