-- Texts and lines as the code holds them.
use Rattle.std.specs.Prelude.{ℕ, ◌==◌, if◌then◌else◌, List, [], ◌∷◌, ◌++◌, map, Option, Some, None, replicate}
use Rattle.std.specs.Borrow.{Bor}
use Rattle.livemd_lines.specs.declared.fences.Fence.{Fence}
use Rattle.livemd_lines.specs.Kinds.{byte_of}

-- what references show
abbrev pub texts : List (Bor (List ℕ)) → List (List ℕ)
texts ls = map (λ l. l.now) ls

-- texts with another between two
abbrev pub joined_by : List ℕ → List (List ℕ) → List ℕ
joined_by between [] = []
joined_by between (x ∷ []) = x
joined_by between (x ∷ y ∷ more) = x ++ (between ++ joined_by between (y ∷ more))

-- a space in place of a byte
abbrev pub space_for : ℕ → ℕ → ℕ
space_for mark b = if b == mark then 32 else b

-- what is put behind a text to close the fence that is open
abbrev pub closing_text : Option Fence → List ℕ
closing_text None = []
closing_text (Some fence) = 10 ∷ replicate fence.count (byte_of fence.mark)
