-- What a line is. Lines inside a fence have no kind of their own.
use Rattle.std.specs.Prelude.{ℕ, ◌==◌, ◌&&◌, nat_le, not, Bool, if◌then◌else◌, Option, Some, None, option_map, unwrap_or, List, [], ◌∷◌, length, drop, codes}
use Rattle.std.specs.List.{list_all, list_any}
use Rattle.livemd_lines.specs.declared.fences.Fence.{Fence}
use Rattle.livemd_lines.specs.declared.fences.Mark.{Mark}
use Rattle.livemd_lines.specs.declared.fences.Mark.TheVariants.{Backtick, Tilde}
use Rattle.livemd_lines.specs.declared.metadata.Metadata.{Metadata}
use Rattle.blanks.specs.Blanks.{drop_end, drop_front, front_of, is_space, is_space_or_tab}
use Rattle.livemd_lines.specs.Meanings.{begins, metadata_of}

-- what a line is: it opens a fence with an info, stands inside one, closes one, or stands outside
pub data Kind : Type 0 where
  Opens : Fence → List ℕ → Kind
  Inside : Kind
  Closes : Kind
  Meta : Metadata → Kind
  Heading1 : List ℕ → Kind
  Heading2 : List ℕ → Kind
  Plain : Kind

-- a line with its kind
pub record Kinded : Type 0 where
  pub kind : Kind
  pub text : List ℕ

-- the byte that the character of a fence is
abbrev pub byte_of : Mark → ℕ
byte_of Backtick = 96
byte_of Tilde = 126

-- how often a byte stands at the front of a line, and what stands behind it
abbrev pub is_byte : ℕ → ℕ → Bool
is_byte mark b = b == mark

abbrev pub run : ℕ → List ℕ → ℕ
run mark line = length (front_of (is_byte mark) line)

abbrev pub after_run : ℕ → List ℕ → List ℕ
after_run mark line = drop_front (is_byte mark) line

-- a text without the spaces and tabs at its ends
abbrev pub trimmed : List ℕ → List ℕ
trimmed text = drop_end is_space_or_tab (drop_front is_space_or_tab text)

-- a line opens a fence with three or more backticks and no backtick behind them, or with three or more `~`
abbrev pub opens_ticks : List ℕ → Bool
opens_ticks line = nat_le 3 (run (byte_of Backtick) line) && not (list_any (is_byte (byte_of Backtick)) (after_run (byte_of Backtick) line))

abbrev pub opens_tildes : List ℕ → Bool
opens_tildes line = nat_le 3 (run (byte_of Tilde) line)

-- the fence of the mark that a line opens, and its info: what stands behind the mark
abbrev pub opens_with : Mark → List ℕ → Kind
opens_with mark line = Opens (record { mark = mark; count = run (byte_of mark) line }) (trimmed (after_run (byte_of mark) line))

-- the name of a heading with a mark of so many bytes: what stands behind the mark, without outer spaces
abbrev pub name_behind : ℕ → List ℕ → List ℕ
name_behind len line = drop_end is_space (drop_front is_space (drop len line))

-- a heading 1 begins with `# ` and a heading 2 with `## `; every other line is text
abbrev pub heading_kind : List ℕ → Kind
heading_kind line = if begins (codes "# ") line then Heading1 (name_behind 2 line) else (if begins (codes "## ") line then Heading2 (name_behind 3 line) else Plain)

-- what a line is that opens no fence
abbrev pub unfenced_kind : List ℕ → Kind
unfenced_kind line = unwrap_or (option_map Meta (metadata_of line)) (heading_kind line)

-- what a line outside fences is
abbrev pub kind_of : List ℕ → Kind
kind_of line = if opens_ticks line then opens_with Backtick line else (if opens_tildes line then opens_with Tilde line else unfenced_kind line)

-- a line closes a fence that, without the spaces and tabs at its end, has the fence's character alone, as often at least
abbrev pub is_closing : Fence → List ℕ → Bool
is_closing fence line = list_all (is_byte (byte_of fence.mark)) (drop_end is_space_or_tab line) && nat_le fence.count (length (drop_end is_space_or_tab line))

-- what a line is before which the fence is open, if one is
abbrev pub kind_in : Option Fence → List ℕ → Kind
kind_in None line = kind_of line
kind_in (Some fence) line = if is_closing fence line then Closes else Inside

-- the fence that is open after a line of the kind, where this one is open before it
abbrev pub open_after : Option Fence → Kind → Option Fence
open_after around (Opens fence info) = Some fence
open_after around Inside = around
open_after around Closes = None
open_after around (Meta meaning) = around
open_after around (Heading1 name) = around
open_after around (Heading2 name) = around
open_after around Plain = around

-- a line as the rules see it
abbrev pub kinded : Option Fence → List ℕ → Kinded
kinded around line = record { kind = kind_in around line; text = line }

-- the lines with their kinds, where the fence is open before them
abbrev pub kinds_in : Option Fence → List (List ℕ) → List Kinded
kinds_in around [] = []
kinds_in around (l ∷ ls) = kinded around l ∷ kinds_in (open_after around (kind_in around l)) ls

abbrev pub kinds_of : List (List ℕ) → List Kinded
kinds_of ls = kinds_in None ls
