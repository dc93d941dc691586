-- What a call puts at the end of a text in memory.
use Rattle.std.specs.Prelude.{◌≡◌, ℕ, List, ◌++◌, String, string_bytes}
use Rattle.std.specs.declared.alloc.Global.{Global}

-- these bytes
abbrev pub Appends : List ℕ → String Global → String Global → Type 0
Appends bytes old new = string_bytes new ≡ string_bytes old ++ bytes
