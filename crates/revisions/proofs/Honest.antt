-- A delta that was made from the client's floor on, and fitted the text on which it was made, is taken.
use Rattle.std.proofs.Common.{◌≡◌, ℕ, ◌+◌, ◌≤◌, inl, inr, List, [], ◌∷◌, take, drop, refl, ap, ◌∙◌, arith}
use Rattle.delta.specs.declared.Step.{Step}
use Rattle.delta.specs.Moves.{FitsText, over}
use Rattle.delta_laws.proofs.Laws.{delta_laws}
use Rattle.revisions.specs.declared.errors.RevError.{RevError}
use Rattle.revisions.specs.declared.errors.RevError.TheVariants as error
use Rattle.revisions.specs.declared.floors.Floor.{Floor}
use Rattle.revisions.specs.Answer.{Takes, HasFloorUpTo, IsCause, IsHonest, answer, judged}
use Rattle.revisions.specs.Floors.{lowest}
use Rattle.revisions.specs.Kept.{made_by, LeadsTo}
use Rattle.revisions.specs.Source.{Source, rev_of}
use Rattle.revisions.proofs.Answering.{fitted-answer}
use Rattle.revisions.proofs.Chains.{leads-from, fits-over}
use Rattle.revisions.proofs.Lowest.{lowest-cons}

-- the least floor is at most that of each client
lowest-up-to : (rev client base : ℕ) (fs : List Floor) → HasFloorUpTo client base fs → lowest rev fs ≤ base
lowest-up-to rev client base [] h = absurd h
lowest-up-to rev client base (f ∷ fs) h = elim h [ inl own ↦ omega (arith, lowest-cons rev f fs, own.1) | inr rest ↦ omega (arith, lowest-cons rev f fs, lowest-up-to rev client base fs rest) ]

pub honest-answer : (s : Source) (client base : ℕ) (d : List Step) → LeadsTo s.first s.taken s.text → IsHonest s client base d → answer s base d ≡ Takes (rev_of s + 1) (over d (drop base s.taken))
honest-answer s client base d leads h =
    let xs : List (List Step) = s.taken in
    let x : List Step = over d (drop base xs) in
    let now : FitsText x s.text = fits-over (drop base xs) d (made_by (take base xs) s.first) s.text (leads-from base xs s.first s.text leads) h.fits in
    fitted-answer s base d h.not_new (lowest-up-to (rev_of s) client base s.floors h.joined) ∙ ap (judged (rev_of s) x) (delta_laws.no_misfit x s.text now)

-- so nothing but want of memory keeps it
pub honest-cause : (s : Source) (client base : ℕ) (d : List Step) (e : RevError) → LeadsTo s.first s.taken s.text → IsHonest s client base d → IsCause s base d e → e ≡ error.OutOfMemory
honest-cause s client base d (error.TooNew now) leads h c = let a = honest-answer s client base d leads h in absurd (cc (a, c))
honest-cause s client base d (error.TooOld kept) leads h c = let a = honest-answer s client base d leads h in absurd (cc (a, c))
honest-cause s client base d (error.PastEnd len) leads h c = let a = honest-answer s client base d leads h in absurd (cc (a, c))
honest-cause s client base d (error.SplitsPair at) leads h c = let a = honest-answer s client base d leads h in absurd (cc (a, c))
honest-cause s client base d error.OutOfMemory leads h c = refl
