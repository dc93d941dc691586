-- What a source means over bindings, within a limit of steps.
use Rattle.std.specs.Prelude.{ℕ, ◌+◌, ◌-◌, ◌≤◌, ◌<◌, nat_lt, if◌then◌else◌, List, [], length}
use Rattle.ex_grammar.specs.declared.token.LexErrorKind.{LexErrorKind}
use Rattle.ex_grammar.specs.Tokens.{Placed}
use Rattle.ex_grammar.specs.Newlines.{Lexes, bare}
use Rattle.ex_grammar.specs.Refusals.{IsRefused}
use Rattle.ex_grammar.specs.Reading.{Reads, NestsWithin, NestsTooDeep, NoTrees, IsSyntaxAt}
use Rattle.ex_grammar.specs.Trees.{Trees}
use Rattle.ex_terms.specs.declared.values.Value.{Value}
use Rattle.ex_faults.specs.declared.fault.Fault.{Fault}
use Rattle.ex_faults.specs.declared.fault.Fault.TheVariants.{SourceTooLong, Character, Nesting, Syntax, ValueTooLarge}
use Rattle.ex_prims.specs.Answers.{nil}
use Rattle.ex_meaning.specs.Bound.{Bindings, bound_size}
use Rattle.ex_meaning.specs.Going.{State, Going, Gives, Ends, ends, and_then}
use Rattle.ex_meaning.specs.Matching.{units}
use Rattle.ex_meaning.specs.Evaluating.{in_turn}

-- a value or a fault
pub data Outcome : Type 0 where
  IsValue : Value → Outcome
  IsFault : Fault → Outcome

-- what an evaluation shows, and the bindings that it made
pub record Ran : Type 0 where
  pub printed : List ℕ
  pub outcome : Outcome
  pub steps : ℕ
  pub made : Bindings

-- the most units that a value and all that a cell bound have together
abbrev pub value_limit : ℕ
value_limit = 8192

-- the value of the last expression, unless it is too large together with what was bound
abbrev pub kept_small : Value → State → Going Value
kept_small v s = if nat_lt value_limit (units v + bound_size s.made) then ends ValueTooLarge s else Gives v s

-- what is shown and made in the end; after a fault nothing is made, and what was printed stays
abbrev pub ran_of : ℕ → Going Value → Ran
ran_of limit (Gives v s) = record { printed = s.printed; outcome = IsValue v; steps = limit - s.left; made = s.made }
ran_of limit (Ends f printed left) = record { printed = printed; outcome = IsFault f; steps = limit - left; made = [] }

-- the meaning of expressions one after the other, of which there may be none
abbrev pub meaning : Trees → Bindings → ℕ → Ran
meaning trees base limit = ran_of limit (and_then (in_turn base trees nil (record { made = []; printed = []; left = limit })) kept_small)

-- a cell that ends by a fault before its first step
abbrev pub not_begun : Fault → Ran
not_begun fault = record { printed = []; outcome = IsFault fault; steps = 0; made = [] }

-- the most bytes of a source
abbrev pub source_limit : ℕ
source_limit = 1048576

-- what a source, a list of bytes, means
pub data Means : List ℕ → Bindings → ℕ → Ran → Type 0 where
  is_too_long : {source : List ℕ} {base : Bindings} {limit : ℕ} → source_limit < length source → Means source base limit (not_begun SourceTooLong)
  -- at a place no token stands
  has_no_tokens : {source : List ℕ} {base : Bindings} {limit at : ℕ} {k : LexErrorKind} → length source ≤ source_limit → IsRefused source at k → Means source base limit (not_begun (Character at))
  -- its tokens nest too deep
  nests_too_deep : {source : List ℕ} {base : Bindings} {limit at : ℕ} {tokens : List Placed} → length source ≤ source_limit → Lexes source tokens → NestsTooDeep tokens at → Means source base limit (not_begun (Nesting at))
  -- they derive nothing
  is_unread : {source : List ℕ} {base : Bindings} {limit at : ℕ} {tokens : List Placed} → length source ≤ source_limit → Lexes source tokens → NestsWithin (bare tokens) → NoTrees (bare tokens) → IsSyntaxAt tokens at
      → Means source base limit (not_begun (Syntax at))
  -- it reads as expressions, whose meaning this is
  is_read : {source : List ℕ} {base : Bindings} {limit : ℕ} {trees : Trees} → length source ≤ source_limit → Reads source trees → Means source base limit (meaning trees base limit)
