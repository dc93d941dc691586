-- What is written as lines: each ends with a line feed, and a fence is longer than what stands in it.
use Rattle.std.specs.Prelude.{◌≡◌, ℕ, ◌<◌, zero, max, false, Option, List, [], ◌∷◌, ◌++◌, replicate, ⊤}
use Rattle.std.specs.List.{AllByRecursion, list_any}
use Rattle.livemd_lines.specs.declared.fences.Fence.{Fence}
use Rattle.livemd_lines.specs.declared.fences.Mark.TheVariants.{Backtick}
use Rattle.blanks.specs.Blanks.{drop_end, is_cr}
use Rattle.livemd_lines.specs.Lines.{is_lf}
use Rattle.livemd_lines.specs.Kinds.{byte_of, is_byte, kind_in, open_after, run, trimmed}

-- a text may be a line where it has no line feed and no carriage return at its end
abbrev pub HasNoFeed : List ℕ → Type 0
HasNoFeed [] = ⊤
HasNoFeed (c ∷ cs) = (is_lf c ≡ false) × HasNoFeed cs

abbrev pub IsLine : List ℕ → Type 0
IsLine line = HasNoFeed line × (drop_end is_cr line ≡ line)

-- lines with a line feed behind each
abbrev pub text_of_lines : List (List ℕ) → List ℕ
text_of_lines [] = []
text_of_lines (l ∷ ls) = l ++ 10 ∷ text_of_lines ls

-- the fence that is open behind lines, where this one is open before them
abbrev pub open_behind : Option Fence → List (List ℕ) → Option Fence
open_behind around [] = around
open_behind around (l ∷ ls) = open_behind (open_after around (kind_in around l)) ls

-- the longest run of backticks in a line, and lines in which all runs are shorter
abbrev pub longest_run : List ℕ → ℕ
longest_run [] = zero
longest_run (c ∷ cs) = max (run (byte_of Backtick) (c ∷ cs)) (longest_run cs)

abbrev pub HasShortRuns : ℕ → List (List ℕ) → Type 0
HasShortRuns count ls = AllByRecursion (λ l. longest_run l < count) ls

-- so many backticks, and the lines of a fence of them
abbrev pub ticks : ℕ → List ℕ
ticks count = replicate count (byte_of Backtick)

abbrev pub fenced : ℕ → List ℕ → List (List ℕ) → List (List ℕ)
fenced count info ls = (ticks count ++ info) ∷ ls ++ ticks count ∷ []

-- an info has no backtick, and no spaces and tabs at its ends
pub record IsInfo (info : List ℕ) : Type 0 where
  pub none : list_any (is_byte (byte_of Backtick)) info ≡ false
  pub trim : trimmed info ≡ info
