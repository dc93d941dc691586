-- Lists of things that each stand under a number.
use Rattle.std.specs.Prelude.{ℕ, ◌==◌, List, filter}

module _ {E : Type 0} (number_of : E → ℕ) where
  -- those under the number p, in their order
  abbrev pub entries_by : ℕ → List E → List E
  entries_by p log = filter (λ e. number_of e == p) log
