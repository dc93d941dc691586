-- What is made of texts, as lists of bytes, and asked of them.
use Rattle.std.specs.Prelude.{ℕ, zero, suc, ◌-◌, ℤ, pos, negsuc, ◌||◌, nat_eq, Bool, if◌then◌else◌, List, [], ◌∷◌, ◌++◌, length, map, Option, Some, None}
use Rattle.std.specs.List.{starts_with, repeat, onto_first}
use Rattle.ex_terms.specs.declared.values.Value.{Value}
use Rattle.ex_terms.specs.declared.values.Value.TheVariants.{Str}
use Rattle.ex_terms.specs.Seen.{term_of}
use Rattle.ex_terms.specs.Printed.{displayed}
use Rattle.ex_faults.specs.declared.fault.Fault.TheVariants.{NoText}
use Rattle.ex_prims.specs.Answers.{Answer, Gives, Prints, Wrong, Refuses, list, ok}

-- the text for readers as an answer, unless the value has none
abbrev pub text_or_none : Value → Option (List ℕ) → Answer
text_or_none v None = Refuses (NoText v)
text_or_none v (Some t) = Gives (Str t)

-- a line is printed
abbrev pub line_or_none : Value → Option (List ℕ) → Answer
line_or_none v None = Refuses (NoText v)
line_or_none v (Some t) = Prints (t ++ 10 ∷ []) ok

-- the texts of values for readers, or the first value that has none
pub data Texts : Type 0 where
  AllHave : List (List ℕ) → Texts
  HasNone : Value → Texts

abbrev pub one_more : List ℕ → Texts → Texts
one_more t (AllHave ts) = AllHave (t ∷ ts)
one_more t (HasNone v) = HasNone v

abbrev pub text_before : Value → Option (List ℕ) → Texts → Texts
text_before v None ts = HasNone v
text_before v (Some t) ts = one_more t ts

abbrev pub texts_of : List Value → Texts
texts_of [] = AllHave []
texts_of (v ∷ vs) = text_before v (displayed (term_of v)) (texts_of vs)

-- texts in a row with another between each two
abbrev pub with_between : List ℕ → List (List ℕ) → List ℕ
with_between s [] = []
with_between s (t ∷ []) = t
with_between s (t ∷ u ∷ us) = t ++ (s ++ with_between s (u ∷ us))

abbrev pub joined : List ℕ → Texts → Answer
joined s (AllHave ts) = Gives (Str (with_between s ts))
joined s (HasNone v) = Refuses (NoText v)

-- a text so many times; the number isn't below 0
abbrev pub duplicated : List ℕ → ℤ → Answer
duplicated s (pos n) = Gives (Str (repeat n s))
duplicated s (negsuc n) = Wrong

-- whether the one text begins with the other, and whether the other stands in it
abbrev pub begins_with : List ℕ → List ℕ → Bool
begins_with s t = starts_with nat_eq s t

abbrev pub has_within : List ℕ → List ℕ → Bool
has_within [] t = begins_with [] t
has_within (b ∷ bs) t = begins_with (b ∷ bs) t || has_within bs t

-- the pieces of a text between the occurrences of another from the left; n: how many of the next bytes belong to the occurrence found last
abbrev pub pieces_past : List ℕ → ℕ → List ℕ → List (List ℕ)
pieces_past t n [] = [] ∷ []
pieces_past t (suc n) (b ∷ bs) = pieces_past t n bs
pieces_past t zero (b ∷ bs) = if begins_with (b ∷ bs) t then [] ∷ pieces_past t (length t - 1) bs else onto_first b (pieces_past t zero bs)

-- a text in pieces; an empty one stands nowhere between them
abbrev pub split : List ℕ → List ℕ → Answer
split s [] = Wrong
split s (b ∷ t) = Gives (list (map Str (pieces_past (b ∷ t) 0 s)))
