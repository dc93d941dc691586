-- What a built-in call answers, before its steps are charged, and the kinds of arguments that it takes.
use Rattle.std.specs.Prelude.{ℕ, ℤ, pos, Bool, true, false, ◌||◌, if◌then◌else◌, List, Option, Some, None, codes}
use Rattle.std.specs.Str.{bytes_eq}
use Rattle.ex_terms.specs.declared.values.Value.{Value}
use Rattle.ex_terms.specs.declared.values.Value.TheVariants.{Int, Atom, Str, Tuple, List as Listed}
use Rattle.ex_terms.specs.Seen.{terms_of, values_of}
use Rattle.ex_faults.specs.declared.fault.Fault.{Fault}

-- a value; a value and what is printed beside it; that an argument is none that the call takes; or another fault
pub data Answer : Type 0 where
  Gives : Value → Answer
  Prints : List ℕ → Value → Answer
  Wrong : Answer
  Refuses : Fault → Answer

-- the call takes an integer here
abbrev pub of_integer : Value → (ℤ → Answer) → Answer
of_integer (Int z) go = go z
of_integer (Atom t) go = Wrong
of_integer (Str t) go = Wrong
of_integer (Tuple ts) go = Wrong
of_integer (Listed ts) go = Wrong

-- a text
abbrev pub of_text : Value → (List ℕ → Answer) → Answer
of_text (Int z) go = Wrong
of_text (Atom t) go = Wrong
of_text (Str t) go = go t
of_text (Tuple ts) go = Wrong
of_text (Listed ts) go = Wrong

-- a tuple, by its items
abbrev pub of_tuple : Value → (List Value → Answer) → Answer
of_tuple (Int z) go = Wrong
of_tuple (Atom t) go = Wrong
of_tuple (Str t) go = Wrong
of_tuple (Tuple ts) go = go (values_of ts)
of_tuple (Listed ts) go = Wrong

-- a list, by its items
abbrev pub of_list : Value → (List Value → Answer) → Answer
of_list (Int z) go = Wrong
of_list (Atom t) go = Wrong
of_list (Str t) go = Wrong
of_list (Tuple ts) go = Wrong
of_list (Listed ts) go = go (values_of ts)

-- two integers, two texts, two lists
abbrev pub of_integers : Value → Value → (ℤ → ℤ → Answer) → Answer
of_integers v w go = of_integer v (λ i. of_integer w (λ j. go i j))

abbrev pub of_texts : Value → Value → (List ℕ → List ℕ → Answer) → Answer
of_texts v w go = of_text v (λ s. of_text w (λ t. go s t))

abbrev pub of_lists : Value → Value → (List Value → List Value → Answer) → Answer
of_lists v w go = of_list v (λ xs. of_list w (λ ys. go xs ys))

-- the values `nil`, `:ok`, and the truth values
abbrev pub nil : Value
nil = Atom (codes "nil")

abbrev pub ok : Value
ok = Atom (codes "ok")

abbrev pub truth : Bool → Value
truth true = Atom (codes "true")
truth false = Atom (codes "false")

-- `nil` and `false` count as false
abbrev pub is_falsy : Value → Bool
is_falsy (Int z) = false
is_falsy (Atom t) = bytes_eq t (codes "nil") || bytes_eq t (codes "false")
is_falsy (Str t) = false
is_falsy (Tuple ts) = false
is_falsy (Listed ts) = false

-- the truth value that a value is, if it is one
abbrev pub boolean_of : Value → Option Bool
boolean_of (Int z) = None
boolean_of (Atom t) = if bytes_eq t (codes "true") then Some true else (if bytes_eq t (codes "false") then Some false else None)
boolean_of (Str t) = None
boolean_of (Tuple ts) = None
boolean_of (Listed ts) = None

-- a list and a tuple of values
abbrev pub list : List Value → Value
list vs = Listed (terms_of vs)

abbrev pub tuple : List Value → Value
tuple vs = Tuple (terms_of vs)

-- a truth value, and a number, as an answer
abbrev pub whether : Bool → Answer
whether b = Gives (truth b)

abbrev pub counted : ℕ → Answer
counted n = Gives (Int (pos n))

-- a value that is there, `nil` or a wrong argument where it isn't
abbrev pub or_nil : Option Value → Answer
or_nil None = Gives nil
or_nil (Some v) = Gives v

abbrev pub or_wrong : Option Value → Answer
or_wrong None = Wrong
or_wrong (Some v) = Gives v
