-- What a reader that stands between two lines would still give.
use Rattle.std.specs.Prelude.{◌≡◌, ℕ, suc, if◌then◌else◌, Bool, true, false, List, [], ◌∷◌, ◌++◌, Option, Some, None}
use Rattle.std.specs.List.{flat_map}
use Rattle.std.specs.Option.{option_map}
use Rattle.std.specs.String.{string_bytes}
use Rattle.blanks.specs.Blanks.{is_empty, drop_end, is_blank}
use Rattle.livemd_lines.specs.Lines.{joined}
use Rattle.livemd_lines.specs.Kinds.{Kinded}
use Rattle.livemd_format.specs.Items as item
use Rattle.livemd_format.specs.Items.{Cut, Item, code_item, content, content_lines, items, markdown_at, markdown_of, saved_at, stretch, stretch_lines}
use Rattle.livemd_read.specs.declared.done.Done.{Done}
use Rattle.livemd_read.specs.declared.open.Content.{Content}
use Rattle.livemd_read.specs.declared.open.Content.TheVariants.{Code, Output}
use Rattle.livemd_read.specs.declared.open.Open.{Open}
use Rattle.livemd_read.specs.declared.open.Open.TheVariants as reader
use Rattle.livemd_read.specs.declared.open.Passage.{Passage}
use Rattle.livemd_read.specs.Views.{IsDone, cut_of}

-- each line behind a line feed
abbrev pub behind_feed : List ℕ → List ℕ
behind_feed line = 10 ∷ line

-- what lines add to a text: nothing if all are blank, else the blanks before them and each line up to the last that isn't blank
abbrev pub added_by : List ℕ → List (List ℕ) → List ℕ
added_by blanks ls = if is_empty ls then [] else blanks ++ flat_map behind_feed ls

abbrev pub added : List ℕ → List (List ℕ) → List ℕ
added blanks ls = added_by blanks (drop_end is_blank ls)

-- a text of which this was read, with lines that are still to come
abbrev pub longer : Passage → List (List ℕ) → List ℕ
longer p ls = string_bytes p.source ++ added (string_bytes p.blanks) ls

-- what stands in a fence, of which this was read, none where no line of it was, with lines that are still to come
abbrev pub source_with : Option (List ℕ) → List (List ℕ) → List ℕ
source_with None ls = joined ls
source_with (Some source) ls = source ++ flat_map behind_feed ls

-- the same with one line more read
abbrev pub source_after : Option (List ℕ) → List ℕ → List ℕ
source_after None line = line
source_after (Some source) line = source ++ 10 ∷ line

-- the item of a fence
abbrev pub fenced_item : List Item → Content → List ℕ → Item
fenced_item done Code text = code_item done text
fenced_item done (Output info) text = item.Saved info.now text

-- the items of what was read and of these lines after it, of which the first has the number
abbrev pub resume : List Item → Open → ℕ → List Kinded → List Item
resume done reader.Nothing number ls = items done number 0 ls
resume done reader.Forced number ls = items (done ++ markdown_of (stretch true ls) ∷ []) number (stretch_lines true ls) ls
resume done (reader.Text passage forced) number ls = items (done ++ item.Markdown (longer passage (stretch forced ls)) ∷ []) number (stretch_lines forced ls) ls
resume done (reader.Fence what source) number ls =
    items (done ++ fenced_item done what (source_with (option_map string_bytes source) (content ls)) ∷ []) number (content_lines ls) ls
resume done (reader.OutputLine line) number ls = items (done ++ (saved_at line ls).item ∷ []) number (saved_at line ls).more ls

-- a text of which just this line was read
pub record IsPassageOf (line : List ℕ) (p : Passage) : Type 0 where
  pub source : string_bytes p.source ≡ line
  pub blanks : string_bytes p.blanks ≡ []

-- a text with one line more: a blank one waits until more comes
pub record IsLonger (old : Passage) (line : List ℕ) (new : Passage) : Type 0 where
  pub source : string_bytes new.source ≡ (if is_blank line then string_bytes old.source else string_bytes old.source ++ (string_bytes old.blanks ++ 10 ∷ line))
  pub blanks : string_bytes new.blanks ≡ (if is_blank line then string_bytes old.blanks ++ 10 ∷ line else [])

-- whatever was cut before, what is open is the text that begins with the line
abbrev pub BeginsText : Kinded → Open → Type 0
BeginsText l new = (done : List Item) (number : ℕ) (rest : List Kinded) → resume done new number rest ≡ items (done ++ (markdown_at l rest).item ∷ []) number (markdown_at l rest).more rest

-- the reader has cut this item with the line of the number, by the lines behind it
pub record Cuts (before after : Done) (new : Open) (number : ℕ) (cut : List Kinded → Cut) : Type 0 where
  pub done : IsDone after
  pub step : (rest : List Kinded) → resume (cut_of after) new (suc number) rest ≡ items (cut_of before ++ (cut rest).item ∷ []) (suc number) (cut rest).more rest

-- the reader has taken the line of the number: what is still to come stays the same
pub record Takes (before : Done) (old : Open) (after : Done) (new : Open) (number : ℕ) (line : Kinded) : Type 0 where
  pub done : IsDone after
  pub step : (rest : List Kinded) → resume (cut_of after) new (suc number) rest ≡ resume (cut_of before) old number (line ∷ rest)
