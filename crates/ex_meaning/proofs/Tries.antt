-- Patterns that are tried, and calls, wherever they begin.
use Rattle.std.proofs.Common.{◌≡◌, ◌≤◌, ◌+◌, ◌-◌, ◌==◌, ℕ, nat_le, nat_lt, if◌then◌else◌, Bool, true, false, List, [], ◌∷◌, length, take, drop, Option, Some, None, Result, Ok, Err, refl, arith, length-append}
use Rattle.std.specs.Prelude.{pos, neg_ℤ}
use Rattle.std.proofs.lemmas.Bool.Decides.{nat_tests}
use Rattle.ex_grammar.specs.Patterns as P
use Rattle.ex_grammar.specs.Patterns.{Pattern, Patterns, NoPattern}
use Rattle.ex_terms.specs.declared.values.Value.{Value}
use Rattle.ex_terms.specs.declared.values.Value.TheVariants.{Int, Atom, Str}
use Rattle.ex_faults.specs.declared.fault.Fault.{Fault}
use Rattle.ex_faults.specs.declared.fault.Fault.TheVariants.{UnboundVariable, TooManySteps, TooMuchOutput}
use Rattle.ex_prims.specs.declared.calls.Called.{Called}
use Rattle.ex_prims.specs.Answers as A
use Rattle.ex_prims.specs.Answers.{Answer, list}
use Rattle.ex_prims.specs.Calls.{called, settled, charged as charged_call, charge_of, answered}
use Rattle.ex_prims.specs.Lists.{is_equal}
use Rattle.ex_meaning.specs.Bound.{Bindings}
use Rattle.ex_meaning.specs.Going.{State, Going, Gives, Ends, print_limit, after_call, calls}
use Rattle.ex_meaning.specs.Matching.{units, word_value, list_items, tuple_items, number_of, kept_if, named, pinned, if_taken, with_number, with_at_least, tried, tried_all}
use Rattle.ex_meaning.proofs.Follows.{GoesOn, Keeps, goes_later, given, ended, charged, either_way}

-- what a call prints is within the room that it had
abbrev HasRoom : ℕ → Result Called Fault → Type 0
HasRoom room (Ok c) = length c.printed ≤ room
HasRoom room (Err f) = Unit {0}

-- a call that prints a text with room has room, whether its charge is taken or not
charge_room : (b : Bool) (room n : ℕ) (text : List ℕ) (v : Value) → length text ≤ room → HasRoom room (if b then Ok (record { value = v; printed = text; charge = n }) else Err TooManySteps)
charge_room true room n text v h = h
charge_room false room n text v h = tt

-- a text without room is a fault
print_room : (b : Bool) (args : List Value) (left room : ℕ) (text : List ℕ) (v : Value) → nat_lt room (length text) ≡ b → HasRoom room (if b then Err TooMuchOutput else charged_call args left text v)
print_room true args left room text v e = tt
print_room false args left room text v e = charge_room (nat_le (charge_of args v) left) room (charge_of args v) text v (grind (arith, nat_tests))

-- whatever a name answers, what the call prints has room
settled_room : (name : List ℕ) (args : List Value) (left room : ℕ) (a : Answer) → HasRoom room (settled name args left room a)
settled_room name args left room (A.Gives v) = charge_room (nat_le (charge_of args v) left) room (charge_of args v) [] v (omega arith)
settled_room name args left room (A.Prints text v) = print_room (nat_lt room (length text)) args left room text v refl
settled_room name args left room A.Wrong = tt
settled_room name args left room (A.Refuses f) = tt

-- a call whose print has room goes on: it adds what it prints, and its charge is taken
call_goes : (s : State) (r : Result Called Fault) → HasRoom (print_limit - length s.printed) r → GoesOn s (after_call r s)
call_goes s (Ok c) h = record {
  follows = record { more = c.printed; printed = refl; left = omega arith };
  fits = λ k. omega (arith, length-append s.printed c.printed, h, k);
}
call_goes s (Err f) h = (ended {X = Value} f).goes s

-- a call of a built-in name goes on
pub called_by : (name : List ℕ) (args : List Value) → Keeps (λ s. calls name args s)
called_by name args = record { goes = λ s. call_goes s (called name args s.left (print_limit - length s.printed)) (settled_room name args s.left (print_limit - length s.printed) (answered name args)) }

-- what goes on where a pattern took the value goes on from where the pattern was tried
taken_goes : (s : State) (r : Going (Option Bindings)) (next : Bindings → State → Going (Option Bindings)) → GoesOn s r → ((found : Bindings) → Keeps (next found)) → GoesOn s (if_taken r next)
taken_goes s (Gives None t) next g h = g
taken_goes s (Gives (Some found) t) next g h = goes_later s t (next found t) g ((h found).goes t)
taken_goes s (Ends f printed left) next g h = g

-- so does what follows where a pattern took the value
taken : {go : State → Going (Option Bindings)} {next : Bindings → State → Going (Option Bindings)} → Keeps go → ((found : Bindings) → Keeps (next found)) → Keeps (λ s. if_taken (go s) next)
taken {go} {next} k h = record { goes = λ s. taken_goes s (go s) next (k.goes s) h }

-- so does what is done with as many items as there are patterns
as_many : {next : List Value → State → Going (Option Bindings)} (n : ℕ) (o : Option (List Value)) → ((vs : List Value) → Keeps (next vs)) → Keeps (λ s. with_number n o s next)
as_many n None h = given None
as_many {next} n (Some vs) h = either_way (length vs == n) (h vs) (given None)

-- and with at least as many
at_least : {next : List Value → State → Going (Option Bindings)} (n : ℕ) (o : Option (List Value)) → ((vs : List Value) → Keeps (next vs)) → Keeps (λ s. with_at_least n o s next)
at_least n None h = given None
at_least {next} n (Some vs) h = either_way (nat_le n (length vs)) (h vs) (given None)

-- a name with its value from before the match goes on
pins : (o : Option Value) (x : List ℕ) (v : Value) (found : Bindings) → Keeps (λ s. pinned o x v found s)
pins None x v found = ended (UnboundVariable x)
pins (Some w) x v found = charged (units v + units w) (given (kept_if (is_equal v w) found))

mutual
  -- a pattern that is tried on a value goes on
  pub tries : (look : List ℕ → Option Value) (p : Pattern) (v : Value) (found : Bindings) → Keeps (λ s. tried look p v found s)
  tries look (P.Integer n) v found = charged 1 (given (kept_if (is_equal v (Int (pos n))) found))
  tries look (P.Negative n) v found = charged 1 (given (kept_if (is_equal v (Int (neg_ℤ (pos n)))) found))
  tries look (P.Atom t) v found = charged 1 (given (kept_if (is_equal v (Atom t)) found))
  tries look (P.WordIs w) v found = charged 1 (given (kept_if (is_equal v (word_value w)) found))
  tries look (P.Text t) v found = charged (1 + units v) (given (kept_if (is_equal v (Str t)) found))
  tries look (P.Named x) v found = charged 1 (given (named x v found))
  tries look (P.Pinned x) v found = charged 1 (pins (look x) x v found)
  tries look (P.Tuple ps) v found = charged 1 (as_many (number_of ps) (tuple_items v) (λ vs. try_all look ps vs found))
  tries look (P.Items ps) v found = charged 1 (as_many (number_of ps) (list_items v) (λ vs. try_all look ps vs found))
  tries look (P.ItemsThen ps q) v found =
      charged 1 (at_least (number_of ps) (list_items v) (λ vs. taken (try_all look ps (take (number_of ps) vs) found) (λ found. tries look q (list (drop (number_of ps) vs)) found)))

  -- so do patterns on as many values
  try_all : (look : List ℕ → Option Value) (ps : Patterns) (vs : List Value) (found : Bindings) → Keeps (λ s. tried_all look ps vs found s)
  try_all look NoPattern vs found = given (Some found)
  try_all look (P.OneMore p ps) [] found = given None
  try_all look (P.OneMore p ps) (v ∷ vs) found = taken (tries look p v found) (λ found. try_all look ps vs found)
