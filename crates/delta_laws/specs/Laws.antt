-- What deltas keep to, whatever the text.
use Rattle.std.specs.Prelude.{◌≡◌, ◌<◌, IsTrue, ℕ, Bool, not, List, [], length, None}
use Rattle.utf16_text.specs.Units.{unit_count, AreScalars}
use Rattle.delta.specs.declared.Step.{Step}
use Rattle.delta_laws.specs.Ends.{ends_felt, StaysPast}
use Rattle.delta_laws.specs.Misfits.{misfit}
use Rattle.delta.specs.Steps.{reach_of}
use Rattle.delta.specs.Moves.{FitsText, text_after, composed, transformed}

-- two deltas that fit a text: each, as it goes after the other, fits the text that the other makes, and both orders make one text
pub record IsPairMoved (right_first : Bool) (a b : List Step) (t : List ℕ) : Type 0 where
  pub right_fits : FitsText (transformed right_first a b) (text_after a t)
  pub left_fits : FitsText (transformed (not right_first) b a) (text_after b t)
  pub one_text : text_after (transformed right_first a b) (text_after a t) ≡ text_after (transformed (not right_first) b a) (text_after b t)

-- a delta and one that fits what it makes: as one delta they fit the text, and make of it what they make one after the other
pub record IsPairComposed (a b : List Step) (t : List ℕ) : Type 0 where
  pub fits : FitsText (composed a b) t
  pub one_text : text_after (composed a b) t ≡ text_after b (text_after a t)

-- a delta that fits each text, does nothing to it, and does nothing after any other
pub record IsNothing (d : List Step) : Type 0 where
  pub fits : (t : List ℕ) → FitsText d t
  pub text : (t : List ℕ) → AreScalars t → text_after d t ≡ t
  pub moved : (right_first : Bool) (x : List Step) → transformed right_first x d ≡ d

-- the laws
pub record DeltaLaws : Type 0 where
  pub moved : (right_first : Bool) (a b : List Step) (t : List ℕ) → FitsText a t → FitsText b t → IsPairMoved right_first a b t
  pub one_after_the_other : (a b : List Step) (t : List ℕ) → FitsText a t → FitsText b (text_after a t) → IsPairComposed a b t
  -- the empty delta is the one without steps, and does nothing
  pub empty : (d : List Step) → length d ≡ 0 → d ≡ []
  pub nothing : IsNothing []
  -- a delta that reaches past a text does so after any other that fits
  pub past_end : (right_first : Bool) (x d : List Step) (t : List ℕ) → FitsText x t → IsTrue (ends_felt d) → unit_count t < reach_of d → StaysPast right_first x d t
  -- what a delta makes of a text is a text
  pub makes_text : (d : List Step) (t : List ℕ) → AreScalars (text_after d t)
  -- a delta fits a text exactly where nothing keeps it from it
  pub fits : (d : List Step) (t : List ℕ) → misfit d t ≡ None → FitsText d t
  pub no_misfit : (d : List Step) (t : List ℕ) → FitsText d t → misfit d t ≡ None
