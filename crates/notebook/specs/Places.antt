-- Where the first cell or section with a number stands.
use Rattle.std.specs.Prelude.{◌≡◌, ℕ, false, List, [], ◌∷◌, ◌++◌, None, length, map}
use Rattle.std.specs.List.{flat_map, list_any}
use Rattle.notebook.specs.declared.parts.Cell.{Cell}
use Rattle.notebook.specs.declared.parts.Section.{Section}
use Rattle.notebook.specs.Book.{cells_of, found}
use Rattle.notebook.specs.Flow.{is_section}
use Rattle.notebook.specs.Rules.{AreDistinct, ParentsStand, section_number}

-- the first of some cells that has the number stands at the place
pub record IsCellAt (cs : List Cell) (id at : ℕ) : Type 0 where
  pub front : List Cell
  pub cell : Cell
  pub back : List Cell
  pub parts : cs ≡ front ++ cell ∷ back
  pub number : cell.id ≡ id
  pub place : at ≡ length front
  pub first : found id front ≡ None

-- the first cell of some sections that has the number stands at the place in the section
pub record IsPlace (ss : List Section) (id section cell : ℕ) : Type 0 where
  pub front : List Section
  pub home : Section
  pub back : List Section
  pub parts : ss ≡ front ++ home ∷ back
  pub place : section ≡ length front
  pub first : found id (flat_map cells_of front) ≡ None
  pub inside : IsCellAt home.cells id cell

-- the first section of the number stands at the place
pub record IsSectionAt (ss : List Section) (id at : ℕ) : Type 0 where
  pub front : List Section
  pub home : Section
  pub back : List Section
  pub parts : ss ≡ front ++ home ∷ back
  pub number : home.id ≡ id
  pub place : at ≡ length front
  pub first : list_any (is_section id) front ≡ false

-- sections with numbers of their own, whose parents stand before their branches
pub record AreOrdered (ss : List Section) : Type 0 where
  pub numbers : AreDistinct (map section_number ss)
  pub parents : ParentsStand [] ss
