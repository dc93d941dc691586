-- How far characters are a name.
use Rattle.std.specs.Prelude.{ℕ, Bool, true, false, List, [], ◌∷◌}
use Rattle.ex_terms.specs.declared.names.Name.{Name}
use Rattle.ex_terms.specs.declared.names.Name.TheVariants.{Begins, GoesOn, Ends, Fails}
use Rattle.ex_terms.specs.Printed.{is_name, goes_on}

abbrev pub is_over : List ℕ → Bool
is_over [] = true
is_over (c ∷ cs) = false

-- whether what is read so far and these characters are a name
abbrev pub completes : Name → List ℕ → Bool
completes Begins cs = is_name cs
completes GoesOn cs = goes_on cs
completes Ends cs = is_over cs
completes Fails cs = false
