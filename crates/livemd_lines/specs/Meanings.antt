-- What a metadata line means: it is a comment with a JSON object in it.
use Rattle.std.specs.Prelude.{ℕ, ◌==◌, ◌-◌, nat_eq, suc, Bool, false, if◌then◌else◌, Option, Some, None, option_map, option_and_then, unwrap_or, is_some, List, length, take, drop, codes}
use Rattle.std.specs.List.{starts_with, ends_with}
use Rattle.serde_json.specs.Data.{Data, Members, no_members, member}
use Rattle.serde_json.specs.Find.{get_member, as_bool, as_number, as_object, as_u64}
use Rattle.serde_json.specs.Read.{read}
use Rattle.livemd_lines.specs.declared.metadata.Metadata.{Metadata}
use Rattle.livemd_lines.specs.declared.metadata.Metadata.TheVariants.{BranchParentIndex, BreakMarkdown, ForceMarkdown, Output, Stamp, Unknown}
use Rattle.blanks.specs.Blanks.{drop_end, is_space_or_tab}

-- whether a text begins, or ends, so
abbrev pub begins : List ℕ → List ℕ → Bool
begins front text = starts_with nat_eq text front

abbrev pub ends : List ℕ → List ℕ → Bool
ends back text = ends_with nat_eq text back

-- what stands behind a front of a text, and before an end of it, where the text has that
abbrev pub behind : List ℕ → List ℕ → Option (List ℕ)
behind front text = if begins front text then Some (drop (length front) text) else None

abbrev pub before : List ℕ → List ℕ → Option (List ℕ)
before back text = if ends back text then Some (take (length text - length back) text) else None

-- what stands between the marks, spaces and tabs at the line's end aside
abbrev pub between : List ℕ → Option (List ℕ)
between line = option_and_then (before (codes " -->")) (behind (codes "<!-- livebook:") (drop_end is_space_or_tab line))

-- how many members an object has; a name that is written twice is one member, with the value written last
abbrev pub member_count : Members → ℕ
member_count no_members = 0
member_count (member name d ms) = suc (member_count ms)

-- the value of the member of this name, where the object has no other member
abbrev pub only : List ℕ → Members → Option Data
only name ms = if member_count ms == 1 then get_member name ms else None

-- the only member is `branch_parent_index`, and a whole number that is read as one of 64 bits without sign
abbrev pub parent_index : Members → Option ℕ
parent_index ms = option_and_then as_u64 (option_and_then as_number (only (codes "branch_parent_index") ms))

-- the only member is of this name, and true
abbrev pub is_set : List ℕ → Members → Bool
is_set name ms = unwrap_or (option_and_then as_bool (only name ms)) false

-- an object that is none of the four that are known has a member `stamp`, or is unknown
abbrev pub other_meaning : Members → Metadata
other_meaning ms = if is_some (get_member (codes "stamp") ms) then Stamp else Unknown

-- the three that are set to true, and the one with an index
abbrev pub set_meaning : Members → Metadata
set_meaning ms = if is_set (codes "break_markdown") ms then BreakMarkdown else (if is_set (codes "force_markdown") ms then ForceMarkdown else (if is_set (codes "output") ms then Output else other_meaning ms))

abbrev pub meaning : Members → Metadata
meaning ms = unwrap_or (option_map BranchParentIndex (parent_index ms)) (set_meaning ms)

-- what a text means that is read as an object
abbrev pub meaning_in : List ℕ → Option Metadata
meaning_in text = option_map meaning (option_and_then as_object (read text))

-- what a line means, where it is a metadata line
abbrev pub metadata_of : List ℕ → Option Metadata
metadata_of line = option_and_then meaning_in (between line)
