-- What goes from the ends of a line. A text is its bytes: each test is on ASCII bytes.
use Rattle.std.specs.Prelude.{ℕ, ◌==◌, ◌&&◌, ◌||◌, Bool, true, false, if◌then◌else◌, List, [], ◌∷◌}
use Rattle.std.specs.List.{list_all}

-- whether a list has nothing
abbrev pub is_empty : {X : Type 0} → List X → Bool
is_empty [] = true
is_empty (x ∷ xs) = false

-- the list without the elements at its end that pass
abbrev pub drop_end : {X : Type 0} → (X → Bool) → List X → List X
drop_end p [] = []
drop_end p (x ∷ xs) = if p x && is_empty (drop_end p xs) then [] else x ∷ drop_end p xs

-- the list without the elements at its front that pass
abbrev pub drop_front : {X : Type 0} → (X → Bool) → List X → List X
drop_front p [] = []
drop_front p (x ∷ xs) = if p x then drop_front p xs else x ∷ xs

-- the elements at the front that pass, up to the first that doesn't
abbrev pub front_of : {X : Type 0} → (X → Bool) → List X → List X
front_of p [] = []
front_of p (x ∷ xs) = if p x then x ∷ front_of p xs else []

-- a carriage return, a space, and what a blank line may have
abbrev pub is_cr : ℕ → Bool
is_cr b = b == 13

abbrev pub is_space : ℕ → Bool
is_space b = b == 32

abbrev pub is_space_or_tab : ℕ → Bool
is_space_or_tab b = b == 32 || b == 9

-- a blank line has only spaces and tabs, or nothing
abbrev pub is_blank : List ℕ → Bool
is_blank line = list_all is_space_or_tab line
