-- The tables of the built-in calls and operators, a line for each: what it answers for its arguments.
use Rattle.std.specs.Prelude.{pos, ◌+ℤ◌, ◌-ℤ◌, ◌*ℤ◌, neg_ℤ, int_div, int_rem, unsigned_abs, nat_eq, not, Bool, true, false, [], ◌∷◌, ◌++◌, reverse, length, Option, Some, None, is_some}
use Rattle.std.specs.List.{ends_with}
use Rattle.std.specs.Fmt.{signed_decimal}
use Rattle.ex_terms.specs.declared.values.Value.{Value}
use Rattle.ex_terms.specs.declared.values.Value.TheVariants.{Int, Atom, Str, Tuple, List as Listed}
use Rattle.ex_terms.specs.Seen.{term_of}
use Rattle.ex_terms.specs.Printed.{displayed, inspected}
use Rattle.ex_faults.specs.declared.fault.Fault.TheVariants.{NotABoolean}
use Rattle.ex_prims.specs.declared.functions.Unary.{Unary}
use Rattle.ex_prims.specs.declared.functions.Unary.TheVariants as U
use Rattle.ex_prims.specs.declared.functions.Binary.{Binary}
use Rattle.ex_prims.specs.declared.functions.Binary.TheVariants as B
use Rattle.ex_prims.specs.Answers.{Answer, Gives, Prints, Refuses, of_integer, of_text, of_tuple, of_list, of_integers, of_texts, of_lists, nil, ok, is_falsy, boolean_of, list, tuple, whether, counted, or_nil, or_wrong}
use Rattle.ex_prims.specs.Integers.{in_range, divided, modulo, power, integer_in, all_integers, summed}
use Rattle.ex_prims.specs.Lists.{is_equal, is_less, is_greater, greater_of, lesser_of, greatest_of, least_of, has, sorted, unique, first_of, last_of, rest_of, at_place, from_either_end, taken, dropped, pairs, with_places}
use Rattle.ex_prims.specs.Texts.{text_or_none, line_or_none, texts_of, joined, duplicated, begins_with, has_within, split}

-- the kinds of values; truth values and `nil` are atoms
abbrev pub is_integer : Value → Bool
is_integer (Int z) = true
is_integer (Atom t) = false
is_integer (Str t) = false
is_integer (Tuple ts) = false
is_integer (Listed ts) = false

abbrev pub is_atom : Value → Bool
is_atom (Int z) = false
is_atom (Atom t) = true
is_atom (Str t) = false
is_atom (Tuple ts) = false
is_atom (Listed ts) = false

abbrev pub is_text : Value → Bool
is_text (Int z) = false
is_text (Atom t) = false
is_text (Str t) = true
is_text (Tuple ts) = false
is_text (Listed ts) = false

abbrev pub is_tuple : Value → Bool
is_tuple (Int z) = false
is_tuple (Atom t) = false
is_tuple (Str t) = false
is_tuple (Tuple ts) = true
is_tuple (Listed ts) = false

abbrev pub is_list : Value → Bool
is_list (Int z) = false
is_list (Atom t) = false
is_list (Str t) = false
is_list (Tuple ts) = false
is_list (Listed ts) = true

-- a truth value turned round; no other value is
abbrev pub turned_round : Value → Option Bool → Answer
turned_round v None = Refuses (NotABoolean v)
turned_round v (Some b) = whether (not b)

-- of one argument
abbrev pub given_one : Unary → Value → Answer
given_one U.Negate v = of_integer v (λ i. in_range (neg_ℤ i))
given_one U.Keep v = of_integer v (λ i. Gives (Int i))
given_one U.Not v = whether (is_falsy v)
given_one U.StrictNot v = turned_round v (boolean_of v)
given_one U.Absolute v = of_integer v (λ i. in_range (pos (unsigned_abs i)))
given_one U.IntegerToString v = of_integer v (λ i. Gives (Str (signed_decimal i)))
given_one U.StringToInteger v = of_text v integer_in
given_one U.Length v = of_list v (λ xs. counted (length xs))
given_one U.TupleSize v = of_tuple v (λ xs. counted (length xs))
given_one U.ByteSize v = of_text v (λ s. counted (length s))
given_one U.Head v = of_list v (λ xs. or_wrong (first_of xs))
given_one U.Tail v = of_list v rest_of
given_one U.ToString v = text_or_none v (displayed (term_of v))
given_one U.Inspect v = Gives (Str (inspected (term_of v)))
given_one U.IsInteger v = whether (is_integer v)
given_one U.IsAtom v = whether (is_atom v)
given_one U.IsBinary v = whether (is_text v)
given_one U.IsList v = whether (is_list v)
given_one U.IsTuple v = whether (is_tuple v)
given_one U.IsBoolean v = whether (is_some (boolean_of v))
given_one U.IsNil v = whether (is_equal v nil)
given_one U.Sum v = of_list v (λ xs. summed (all_integers xs))
given_one U.Reverse v = of_list v (λ xs. Gives (list (reverse xs)))
given_one U.Sort v = of_list v (λ xs. Gives (list (sorted xs)))
given_one U.Unique v = of_list v (λ xs. Gives (list (unique xs)))
given_one U.WithIndex v = of_list v (λ xs. Gives (list (with_places xs)))
given_one U.Greatest v = of_list v greatest_of
given_one U.Least v = of_list v least_of
given_one U.First v = of_list v (λ xs. or_nil (first_of xs))
given_one U.Last v = of_list v (λ xs. or_nil (last_of xs))
given_one U.ListToTuple v = of_list v (λ xs. Gives (tuple xs))
given_one U.TupleToList v = of_tuple v (λ xs. Gives (list xs))
given_one U.Puts v = line_or_none v (displayed (term_of v))
given_one U.Show v = Prints (inspected (term_of v) ++ 10 ∷ []) v
given_one U.Install v = Gives ok

-- of two arguments
abbrev pub given_two : Binary → Value → Value → Answer
given_two B.Add v w = of_integers v w (λ i j. in_range (i +ℤ j))
given_two B.Subtract v w = of_integers v w (λ i j. in_range (i -ℤ j))
given_two B.Multiply v w = of_integers v w (λ i j. in_range (i *ℤ j))
given_two B.Append v w = of_lists v w (λ xs ys. Gives (list (xs ++ ys)))
given_two B.Concat v w = of_texts v w (λ s t. Gives (Str (s ++ t)))
given_two B.In v w = of_list w (λ xs. whether (has xs v))
given_two B.Equal v w = whether (is_equal v w)
given_two B.NotEqual v w = whether (not (is_equal v w))
given_two B.Less v w = whether (is_less v w)
given_two B.Greater v w = whether (is_greater v w)
given_two B.LessOrEqual v w = whether (not (is_greater v w))
given_two B.GreaterOrEqual v w = whether (not (is_less v w))
given_two B.Max v w = Gives (greater_of v w)
given_two B.Min v w = Gives (lesser_of v w)
given_two B.Divide v w = of_integers v w (λ i j. divided j (in_range (int_div i j)))
given_two B.Remainder v w = of_integers v w (λ i j. divided j (Gives (Int (int_rem i j))))
given_two B.Modulo v w = of_integers v w (λ i j. divided j (Gives (Int (modulo i j))))
given_two B.Power v w = of_integers v w power
given_two B.Element v w = of_tuple v (λ xs. of_integer w (λ i. or_wrong (at_place xs i)))
given_two B.HasMember v w = of_list v (λ xs. whether (has xs w))
given_two B.At v w = of_list v (λ xs. of_integer w (λ i. or_nil (from_either_end xs i)))
given_two B.Take v w = of_list v (λ xs. of_integer w (λ i. taken xs i))
given_two B.Drop v w = of_list v (λ xs. of_integer w (λ i. dropped xs i))
given_two B.Join v w = of_list v (λ xs. of_text w (λ s. joined s (texts_of xs)))
given_two B.Zip v w = of_lists v w (λ xs ys. Gives (list (pairs xs ys)))
given_two B.Duplicate v w = of_text v (λ s. of_integer w (λ i. duplicated s i))
given_two B.Split v w = of_texts v w split
given_two B.Contains v w = of_texts v w (λ s t. whether (has_within s t))
given_two B.StartsWith v w = of_texts v w (λ s t. whether (begins_with s t))
given_two B.EndsWith v w = of_texts v w (λ s t. whether (ends_with nat_eq s t))
given_two B.Install v w = Gives ok
