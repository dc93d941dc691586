-- The one form that a delta is kept in.
use Rattle.std.specs.Prelude.{◌≡◌, ℕ, ◌+◌, ◌-◌, ◌^◌, ◌≤◌, ◌==◌, nat_le, ◌&&◌, not, if◌then◌else◌, Bool, true, false, List, [], ◌∷◌, ◌++◌, length, slice_get, Option, Some, None}
use Rattle.delta.specs.declared.Step.{Step}
use Rattle.delta.specs.declared.Step.TheVariants.{Retain, Insert, Delete}
use Rattle.delta.specs.Steps.{passed, put_in, reach_of, inserted_by}

-- whether a step does something: no zero, and no empty text
abbrev pub is_proper : Step → Bool
is_proper (Retain n) = nat_le 1 n
is_proper (Insert text) = nat_le 1 (length text)
is_proper (Delete n) = nat_le 1 n

-- whether the second step may stand directly after the first: of another kind, and no insert after a delete
abbrev pub may_follow : Step → Step → Bool
may_follow (Retain m) (Retain n) = false
may_follow (Retain m) (Insert text) = true
may_follow (Retain m) (Delete n) = true
may_follow (Insert t) (Retain n) = true
may_follow (Insert t) (Insert text) = false
may_follow (Insert t) (Delete n) = true
may_follow (Delete m) (Retain n) = true
may_follow (Delete m) (Insert text) = false
may_follow (Delete m) (Delete n) = false

abbrev pub may_come_after : Option Step → Step → Bool
may_come_after None step = true
may_come_after (Some last) step = may_follow last step

-- whether a step may stand after these
abbrev pub may_end : List Step → Step → Bool
may_end before step = may_come_after (slice_get before (length before - 1)) step

abbrev pub is_retain : Step → Bool
is_retain (Retain n) = true
is_retain (Insert text) = false
is_retain (Delete n) = false

-- whether a step keeps each rule, after these steps, where it is the last one or not: a retain isn't the last, and the sums stay at most 2^62
abbrev pub keeps_rules : List Step → Step → Bool → Bool
keeps_rules before step last =
    is_proper step && may_end before step && not (is_retain step && last)
    && nat_le (reach_of before + passed step) (2 ^ 62) && nat_le (inserted_by before + put_in step) (2 ^ 62)

-- the place of the first step that breaks a rule, where these stand before
abbrev pub first_bad : List Step → List Step → Option ℕ
first_bad before [] = None
first_bad before (step ∷ after) = if keeps_rules before step (length after == 0) then first_bad (before ++ step ∷ []) after else Some (length before)

abbrev pub bad_step : List Step → Option ℕ
bad_step steps = first_bad [] steps

-- the steps of a delta: none of them breaks a rule
pub record IsCanonical (steps : List Step) : Type 0 where
  pub good : bad_step steps ≡ None
  pub reach : reach_of steps ≤ 2 ^ 62
  pub inserted : inserted_by steps ≤ 2 ^ 62
