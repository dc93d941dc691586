-- How a pattern takes a value. Each pattern node that is tried takes a step, and the first part that fails ends it.
use Rattle.std.specs.Prelude.{ℕ, ◌+◌, ◌==◌, nat_le, neg_ℤ, pos, Bool, true, false, if◌then◌else◌, List, [], ◌∷◌, length, take, drop, Option, Some, None, codes}
use Rattle.ex_grammar.specs.declared.token.WordValue.{WordValue}
use Rattle.ex_grammar.specs.declared.token.WordValue.TheVariants as W
use Rattle.ex_grammar.specs.Grammar.{is_underscore}
use Rattle.ex_grammar.specs.Patterns as P
use Rattle.ex_grammar.specs.Patterns.{Pattern, Patterns, NoPattern}
use Rattle.ex_terms.specs.declared.values.Value.{Value}
use Rattle.ex_terms.specs.declared.values.Value.TheVariants.{Int, Atom, Str, Tuple, List as Listed}
use Rattle.ex_terms.specs.Seen.{term_of, values_of}
use Rattle.ex_terms.specs.Sizes.{size_of}
use Rattle.ex_faults.specs.declared.fault.Fault.TheVariants.{UnboundVariable}
use Rattle.ex_prims.specs.Answers.{list}
use Rattle.ex_prims.specs.Lists.{is_equal}
use Rattle.ex_meaning.specs.Bound.{Bindings, bound_to, put}
use Rattle.ex_meaning.specs.Going.{State, Going, Gives, Ends, ends, charge}

-- the size of a value in units
abbrev pub units : Value → ℕ
units v = size_of (term_of v)

-- the value of a word
abbrev pub word_value : WordValue → Value
word_value W.True = Atom (codes "true")
word_value W.False = Atom (codes "false")
word_value W.Nil = Atom (codes "nil")

-- the items of a tuple, and of a list
abbrev pub tuple_items : Value → Option (List Value)
tuple_items (Int z) = None
tuple_items (Atom t) = None
tuple_items (Str t) = None
tuple_items (Tuple ts) = Some (values_of ts)
tuple_items (Listed ts) = None

abbrev pub list_items : Value → Option (List Value)
list_items (Int z) = None
list_items (Atom t) = None
list_items (Str t) = None
list_items (Tuple ts) = None
list_items (Listed ts) = Some (values_of ts)

-- how many patterns there are
abbrev pub number_of : Patterns → ℕ
number_of NoPattern = 0
number_of (P.OneMore p ps) = 1 + number_of ps

-- what a pattern found so far, kept where a test holds
abbrev pub kept_if : Bool → Bindings → Option Bindings
kept_if true found = Some found
kept_if false found = None

-- a name takes any value; where it stood in the pattern before, an equal one. `_` is bound to nothing
abbrev pub named_again : Option Value → List ℕ → Value → Bindings → Option Bindings
named_again None x v found = Some (put found x v)
named_again (Some w) x v found = kept_if (is_equal v w) found

abbrev pub named : List ℕ → Value → Bindings → Option Bindings
named x v found = if is_underscore x then Some found else named_again (bound_to found x) x v found

-- `^x` takes a value equal to that of x from before the match, for the sizes of both
abbrev pub pinned : Option Value → List ℕ → Value → Bindings → State → Going (Option Bindings)
pinned None x v found s = ends (UnboundVariable x) s
pinned (Some w) x v found s = charge (units v + units w) s (λ s. Gives (kept_if (is_equal v w) found) s)

-- go on where the pattern took the value
abbrev pub if_taken : Going (Option Bindings) → (Bindings → State → Going (Option Bindings)) → Going (Option Bindings)
if_taken (Gives None s) go = Gives None s
if_taken (Gives (Some found) s) go = go found s
if_taken (Ends f printed left) go = Ends f printed left

-- go on with as many items as there are patterns, with at least as many, or fail at once
abbrev pub with_number : ℕ → Option (List Value) → State → (List Value → State → Going (Option Bindings)) → Going (Option Bindings)
with_number n None s go = Gives None s
with_number n (Some vs) s go = if length vs == n then go vs s else Gives None s

abbrev pub with_at_least : ℕ → Option (List Value) → State → (List Value → State → Going (Option Bindings)) → Going (Option Bindings)
with_at_least n None s go = Gives None s
with_at_least n (Some vs) s go = if nat_le n (length vs) then go vs s else Gives None s

-- a pattern tried on a value, with what it found so far; `look` gives the values of names from before the match
abbrev mutual
  pub tried : (List ℕ → Option Value) → Pattern → Value → Bindings → State → Going (Option Bindings)
  tried look (P.Integer n) v found s = charge 1 s (λ s. Gives (kept_if (is_equal v (Int (pos n))) found) s)
  tried look (P.Negative n) v found s = charge 1 s (λ s. Gives (kept_if (is_equal v (Int (neg_ℤ (pos n)))) found) s)
  tried look (P.Atom t) v found s = charge 1 s (λ s. Gives (kept_if (is_equal v (Atom t)) found) s)
  tried look (P.WordIs w) v found s = charge 1 s (λ s. Gives (kept_if (is_equal v (word_value w)) found) s)
  -- a text also takes the size of the value
  tried look (P.Text t) v found s = charge (1 + units v) s (λ s. Gives (kept_if (is_equal v (Str t)) found) s)
  tried look (P.Named x) v found s = charge 1 s (λ s. Gives (named x v found) s)
  tried look (P.Pinned x) v found s = charge 1 s (λ s. pinned (look x) x v found s)
  -- another number of items fails before any of them
  tried look (P.Tuple ps) v found s = charge 1 s (λ s. with_number (number_of ps) (tuple_items v) s (λ vs s. tried_all look ps vs found s))
  tried look (P.Items ps) v found s = charge 1 s (λ s. with_number (number_of ps) (list_items v) s (λ vs s. tried_all look ps vs found s))
  tried look (P.ItemsThen ps q) v found s =
      charge 1 s (λ s. with_at_least (number_of ps) (list_items v) s (λ vs s.
      if_taken (tried_all look ps (take (number_of ps) vs) found s) (λ found s. tried look q (list (drop (number_of ps) vs)) found s)))

  -- patterns on as many values
  pub tried_all : (List ℕ → Option Value) → Patterns → List Value → Bindings → State → Going (Option Bindings)
  tried_all look NoPattern vs found s = Gives (Some found) s
  tried_all look (P.OneMore p ps) [] found s = Gives None s
  tried_all look (P.OneMore p ps) (v ∷ vs) found s = if_taken (tried look p v found s) (λ found s. tried_all look ps vs found s)
