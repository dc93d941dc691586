-- Worked lines, by computation: a check of the definitions.
use Rattle.std.proofs.Common.{◌≡◌, ℕ, List, [], ◌∷◌, ◌++◌, Some, None, map, refl, codes}
use Rattle.serde_json.proofs.OnLiterals.{serde_json_on_literals}
use Rattle.livemd_lines.specs.declared.metadata.Metadata.TheVariants.{BranchParentIndex, BreakMarkdown, ForceMarkdown, Output, Stamp, Unknown}
use Rattle.livemd_lines.specs.declared.fences.Mark.TheVariants.{Backtick, Tilde}
use Rattle.livemd_lines.specs.Lines.{lines}
use Rattle.livemd_lines.specs.Meanings.{metadata_of}
use Rattle.livemd_lines.specs.Written.{longest_run, text_of_lines}
use Rattle.livemd_lines.specs.Kinds.{Kind, Opens, Inside, Closes, Meta, Heading1, Heading2, Plain, kind_of, kinds_of}

-- a fence that opens, of backticks and of `~`
abbrev ticks : ℕ → List ℕ → Kind
ticks count info = Opens (record { mark = Backtick; count = count }) info

abbrev tildes : ℕ → List ℕ → Kind
tildes count info = Opens (record { mark = Tilde; count = count }) info

abbrev kinds : List (List ℕ) → List Kind
kinds ls = map (λ l. l.kind) (kinds_of ls)

-- ---- lines

-- an empty last piece is no line, and a last piece of carriage returns alone is one
last_feed : lines (codes "a" ++ 10 ∷ 10 ∷ codes "b" ++ 10 ∷ []) ≡ codes "a" ∷ [] ∷ codes "b" ∷ []
last_feed = refl

last_piece : lines (97 ∷ 10 ∷ 13 ∷ 13 ∷ []) ≡ (97 ∷ []) ∷ [] ∷ []
last_piece = refl

no_lines : lines [] ≡ []
no_lines = refl

-- carriage returns at a line's end go, others stay
returns_go : lines (codes "a" ++ 13 ∷ 98 ∷ 13 ∷ 13 ∷ 10 ∷ codes "c" ++ 13 ∷ []) ≡ (97 ∷ 13 ∷ 98 ∷ []) ∷ codes "c" ∷ []
returns_go = refl

-- ---- fences

fence_info : kind_of (codes "``` " ++ codes "elixir x " ++ 9 ∷ []) ≡ ticks 3 (codes "elixir x")
fence_info = refl

fence_bare : kind_of (codes "`````") ≡ ticks 5 []
fence_bare = refl

fence_tildes : kind_of (codes "~~~~ a`b~") ≡ tildes 4 (codes "a`b~")
fence_tildes = refl

-- a backtick behind the backticks, too few, and a blank before them
backtick_behind : kind_of (codes "```a`") ≡ Plain
backtick_behind = refl

too_few : kinds (codes "``" ∷ codes "~~" ∷ codes " ```" ∷ []) ≡ Plain ∷ Plain ∷ Plain ∷ []
too_few = refl

-- a shorter run and one with more behind it don't close a fence, and a longer one does, blanks at its end aside
closes : kinds (codes "````elixir" ∷ codes "```" ∷ codes "## A" ∷ codes "<!-- livebook:{} -->" ∷ codes "```` x" ∷ codes "~~~~" ∷ (codes "````` " ++ 9 ∷ []) ∷ codes "## B" ∷ [])
    ≡ ticks 4 (codes "elixir") ∷ Inside ∷ Inside ∷ Inside ∷ Inside ∷ Inside ∷ Closes ∷ Heading2 (codes "B") ∷ []
closes = refl

unclosed : kinds (codes "~~~" ∷ codes "# T" ∷ codes "```" ∷ [] ∷ []) ≡ tildes 3 [] ∷ Inside ∷ Inside ∷ Inside ∷ []
unclosed = refl

closed_twice : kinds (codes "```" ∷ codes "```" ∷ codes "```" ∷ codes "x" ∷ []) ≡ ticks 3 [] ∷ Closes ∷ ticks 3 [] ∷ Inside ∷ []
closed_twice = refl

-- ---- headings

-- outer spaces of a name go, and tabs stay
headings : kinds (codes "#  T " ∷ codes "## " ∷ (codes "## " ++ 9 ∷ 32 ∷ []) ∷ []) ≡ Heading1 (codes "T") ∷ Heading2 [] ∷ Heading2 (9 ∷ []) ∷ []
headings = refl

no_headings : kinds (codes " # T" ∷ codes "#" ∷ codes "##S" ∷ codes "### S" ∷ (35 ∷ 9 ∷ []) ∷ [] ∷ []) ≡ Plain ∷ Plain ∷ Plain ∷ Plain ∷ Plain ∷ Plain ∷ []
no_headings = refl

-- ---- metadata

branch : metadata_of (codes "<!-- livebook:{\"branch_parent_index\":0} -->") ≡ Some (BranchParentIndex 0)
unfolding serde_json_on_literals
branch = refl

branch_greatest : metadata_of (codes "<!-- livebook:{\"branch_parent_index\":18446744073709551615} -->") ≡ Some (BranchParentIndex 18446744073709551615)
unfolding serde_json_on_literals
branch_greatest = refl

break : metadata_of (codes "<!-- livebook:{\"break_markdown\":true} -->") ≡ Some BreakMarkdown
unfolding serde_json_on_literals
break = refl

force : metadata_of (codes "<!-- livebook:{\"force_markdown\":true} -->") ≡ Some ForceMarkdown
unfolding serde_json_on_literals
force = refl

output : metadata_of (codes "<!-- livebook:{\"output\":true} -->") ≡ Some Output
unfolding serde_json_on_literals
output = refl

-- a line outside fences is of the kind, with blanks at its end and inside its object
output_blanks : kind_of (codes "<!-- livebook: { \"output\" : true }  --> " ++ 9 ∷ []) ≡ Meta Output
unfolding serde_json_on_literals
output_blanks = refl

stamp : metadata_of (codes "<!-- livebook:{\"offset\":3,\"stamp\":\"abc\"} -->") ≡ Some Stamp
unfolding serde_json_on_literals
stamp = refl

stamp_alone : metadata_of (codes "<!-- livebook:{\"stamp\":{}} -->") ≡ Some Stamp
unfolding serde_json_on_literals
stamp_alone = refl

-- a second member, a value that isn't true, an object with no member
output_more : metadata_of (codes "<!-- livebook:{\"output\":true,\"x\":1} -->") ≡ Some Unknown
unfolding serde_json_on_literals
output_more = refl

output_false : metadata_of (codes "<!-- livebook:{\"output\":false} -->") ≡ Some Unknown
unfolding serde_json_on_literals
output_false = refl

output_number : metadata_of (codes "<!-- livebook:{\"output\":1} -->") ≡ Some Unknown
unfolding serde_json_on_literals
output_number = refl

no_members : metadata_of (codes "<!-- livebook:{} -->") ≡ Some Unknown
unfolding serde_json_on_literals
no_members = refl

other_member : metadata_of (codes "<!-- livebook:{\"livebook_object\":\"smart_cell\"} -->") ≡ Some Unknown
unfolding serde_json_on_literals
other_member = refl

-- a number that isn't read as a whole one of 64 bits without sign
branch_point : metadata_of (codes "<!-- livebook:{\"branch_parent_index\":1.0} -->") ≡ Some Unknown
unfolding serde_json_on_literals
branch_point = refl

branch_exponent : metadata_of (codes "<!-- livebook:{\"branch_parent_index\":1e0} -->") ≡ Some Unknown
unfolding serde_json_on_literals
branch_exponent = refl

branch_minus : metadata_of (codes "<!-- livebook:{\"branch_parent_index\":-0} -->") ≡ Some Unknown
unfolding serde_json_on_literals
branch_minus = refl

branch_too_great : metadata_of (codes "<!-- livebook:{\"branch_parent_index\":18446744073709551616} -->") ≡ Some Unknown
unfolding serde_json_on_literals
branch_too_great = refl

-- a name that is written twice is one member, with its last value
twice : metadata_of (codes "<!-- livebook:{\"output\":false,\"output\":true} -->") ≡ Some Output
unfolding serde_json_on_literals
twice = refl

-- no object, no JSON, a mark that is missing, text behind it, a blank before it: text
no_object : metadata_of (codes "<!-- livebook:[true] -->") ≡ None
unfolding serde_json_on_literals
no_object = refl

no_json : kind_of (codes "<!-- livebook:{output:true} -->") ≡ Plain
unfolding serde_json_on_literals
no_json = refl

no_text : metadata_of (codes "<!-- livebook: -->") ≡ None
unfolding serde_json_on_literals
no_text = refl

no_end : metadata_of (codes "<!-- livebook:{\"output\":true}-->") ≡ None
no_end = refl

text_behind : metadata_of (codes "<!-- livebook:{\"output\":true} --> x") ≡ None
text_behind = refl

blank_before : kind_of (codes " <!-- livebook:{\"output\":true} -->") ≡ Plain
blank_before = refl

other_comment : kind_of (codes "<!-- a comment -->") ≡ Plain
other_comment = refl

-- inside a fence it is none
inside : kinds (codes "```" ∷ codes "<!-- livebook:{\"output\":true} -->" ∷ codes "```" ∷ codes "<!-- livebook:{\"output\":true} -->" ∷ []) ≡ ticks 3 [] ∷ Inside ∷ Closes ∷ Meta Output ∷ []
unfolding serde_json_on_literals
inside = refl

-- ---- what is written

written : text_of_lines (codes "a" ∷ [] ∷ codes "b" ∷ []) ≡ codes "a" ++ 10 ∷ 10 ∷ codes "b" ++ 10 ∷ []
written = refl

runs : longest_run (codes "`a```b``") ≡ 3
runs = refl
