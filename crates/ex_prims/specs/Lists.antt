-- What is asked of values and lists of values, and what is made of lists.
use Rattle.std.specs.Prelude.{◌-◌, suc, ℤ, pos, negsuc, nat_lt, Bool, not, if◌then◌else◌, List, [], ◌∷◌, length, map, take, drop, slice_get, Option, None}
use Rattle.std.specs.Ordering.{is_eq, is_lt, is_gt}
use Rattle.std.specs.List.{filter, list_any, zip, enumerate_from}
use Rattle.ex_terms.specs.declared.values.Value.{Value}
use Rattle.ex_terms.specs.declared.values.Value.TheVariants.{Int}
use Rattle.ex_terms.specs.Keys.{value_cmp}
use Rattle.ex_prims.specs.Answers.{Answer, Gives, Wrong, tuple, list}

-- by the order of terms: whether two values are equal, the one is less, greater
abbrev pub is_equal : Value → Value → Bool
is_equal v w = is_eq (value_cmp v w)

abbrev pub is_less : Value → Value → Bool
is_less v w = is_lt (value_cmp v w)

abbrev pub is_greater : Value → Value → Bool
is_greater v w = is_gt (value_cmp v w)

-- the greater and the lesser of two values
abbrev pub greater_of : Value → Value → Value
greater_of v w = if is_less v w then w else v

abbrev pub lesser_of : Value → Value → Value
lesser_of v w = if is_greater v w then w else v

-- the greatest and the least of values, of which there is at least one
abbrev pub greatest : Value → List Value → Value
greatest v [] = v
greatest v (w ∷ ws) = greater_of v (greatest w ws)

abbrev pub least : Value → List Value → Value
least v [] = v
least v (w ∷ ws) = lesser_of v (least w ws)

abbrev pub greatest_of : List Value → Answer
greatest_of [] = Wrong
greatest_of (v ∷ vs) = Gives (greatest v vs)

abbrev pub least_of : List Value → Answer
least_of [] = Wrong
least_of (v ∷ vs) = Gives (least v vs)

-- whether an equal value is there
abbrev pub has : List Value → Value → Bool
has vs v = list_any (λ w. is_equal w v) vs

-- the values in ascending order: each put before the first that isn't less
abbrev pub put_in : Value → List Value → List Value
put_in v [] = v ∷ []
put_in v (w ∷ ws) = if is_less w v then w ∷ put_in v ws else v ∷ w ∷ ws

abbrev pub sorted : List Value → List Value
sorted [] = []
sorted (v ∷ vs) = put_in v (sorted vs)

-- the first of equal values alone
abbrev pub unique : List Value → List Value
unique [] = []
unique (v ∷ vs) = v ∷ filter (λ w. not (is_equal w v)) (unique vs)

-- the first value, what follows it, and the last one
abbrev pub first_of : List Value → Option Value
first_of vs = slice_get vs 0

abbrev pub last_of : List Value → Option Value
last_of vs = slice_get vs (length vs - 1)

abbrev pub rest_of : List Value → Answer
rest_of [] = Wrong
rest_of (v ∷ vs) = Gives (list vs)

-- the value at a place from 0
abbrev pub at_place : List Value → ℤ → Option Value
at_place vs (pos n) = slice_get vs n
at_place vs (negsuc n) = None

-- the same, and from the end where the place is below 0: -1 is the last
abbrev pub from_either_end : List Value → ℤ → Option Value
from_either_end vs (pos n) = slice_get vs n
from_either_end vs (negsuc n) = if nat_lt n (length vs) then slice_get vs (length vs - suc n) else None

-- the first values, and those after them; no number is below 0
abbrev pub taken : List Value → ℤ → Answer
taken vs (pos n) = Gives (list (take n vs))
taken vs (negsuc n) = Wrong

abbrev pub dropped : List Value → ℤ → Answer
dropped vs (pos n) = Gives (list (drop n vs))
dropped vs (negsuc n) = Wrong

-- two values as a tuple
abbrev pub pair : Value → Value → Value
pair v w = tuple (v ∷ w ∷ [])

-- the values of two lists in pairs, up to the end of the shorter
abbrev pub pairs : List Value → List Value → List Value
pairs vs ws = map (λ p. pair p.0 p.1) (zip vs ws)

-- each value with its place from 0
abbrev pub with_places : List Value → List Value
with_places vs = map (λ p. pair p.1 (Int (pos p.0))) (enumerate_from 0 vs)
