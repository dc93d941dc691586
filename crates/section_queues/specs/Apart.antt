-- Lists in which nothing stands twice.
use Rattle.std.specs.Prelude.{◌≡◌, Bool, false, List, [], ◌∷◌}
use Rattle.std.specs.List.{list_any}

-- no element clashes with one that stands after it
abbrev pub AreApart : {X : Type 0} → (X → X → Bool) → List X → Type 0
AreApart clash [] = Unit {0}
AreApart clash (x ∷ xs) = (list_any (clash x) xs ≡ false) × AreApart clash xs
