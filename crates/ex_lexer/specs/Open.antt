-- The texts that are open at a `#{`, as the code keeps them, and what a step does.
use Rattle.std.specs.Prelude.{◌≡◌, ◌≤◌, ℕ, List, [], ◌∷◌, ◌++◌, Option, Some, None}
use Rattle.ex_grammar.specs.declared.token.LexErrorKind.TheVariants.{BadChar}
use Rattle.ex_grammar.specs.Tokens.{Token, Placed}
use Rattle.ex_grammar.specs.Newlines.{Gap}
use Rattle.ex_lexer.specs.declared.lexer.Hole.{Hole}
use Rattle.ex_lexer.specs.declared.lexer.Step.{Step as CodeStep}
use Rattle.ex_lexer.specs.declared.lexer.Step.TheVariants as C
use Rattle.ex_lexer.specs.declared.settled.Settled.{Settled}
use Rattle.ex_lexer.specs.Machine.{Holes, Step, Goes, Refuses, step}
use Rattle.ex_lexer.specs.Settled.{gap_of, Adds}

-- the code's hole is this one, and at most so many braces are open in it
pub record IsHole (most : ℕ) (x : Hole) (h : ℕ × ℕ) : Type 0 where
  pub opening : x.opening ≡ h.0
  pub braces : x.braces ≡ h.1
  pub small : h.1 ≤ most

-- the one list from the outside in is the other from the inside out
abbrev pub AreOuter : ℕ → List Hole → Holes → Type 0
AreOuter most xs [] = xs ≡ []
AreOuter most xs (h ∷ hs) = (below : List Hole) × (x : Hole) × (xs ≡ below ++ x ∷ []) × IsHole most x h × AreOuter most below hs

abbrev pub IsOpen : ℕ → Option Hole → List Hole → Holes → Type 0
IsOpen most None xs [] = xs ≡ []
IsOpen most None xs (h ∷ hs) = ⊥
IsOpen most (Some x) xs [] = ⊥
IsOpen most (Some x) xs (h ∷ hs) = IsHole most x h × AreOuter most xs hs

-- what the code has after a step
abbrev pub IsDone : ℕ → List Placed → Option Token → Gap → Step → Settled → Option Hole → List Hole → CodeStep → Type 0
IsDone most made before gap (Goes ps holes n) new inner outer (C.Goes m) = (m ≡ n) × IsOpen most inner outer holes × Adds made before gap ps new.tokens.items new.drops (gap_of new.gap)
IsDone most made before gap (Refuses at k) new inner outer (C.Refuses at' k') = (at' ≡ at) × (k' ≡ k)
IsDone most made before gap s new inner outer x = ⊥

-- the step at bytes
abbrev pub step_at : Holes → ℕ → List ℕ → Step
step_at holes at [] = Refuses at BadChar
step_at holes at (b ∷ bytes) = step holes at b bytes
