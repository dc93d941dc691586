-- The deltas that a source took, and the texts between them.
use Rattle.std.proofs.Common.{◌≡◌, ℕ, zero, suc, ◌+◌, ◌<◌, false, List, [], ◌∷◌, ◌++◌, take, drop, refl, sym, ap, subst, ◌∙◌, arith}
use Rattle.std.specs.Prelude.{IsTrue}
use Rattle.utf16_text.specs.Units.{unit_count}
use Rattle.delta.specs.declared.Step.{Step}
use Rattle.delta.specs.Steps.{reach_of}
use Rattle.delta.specs.Moves.{FitsText, text_after, over, transformed}
use Rattle.delta_laws.specs.Ends.{ends_felt}
use Rattle.delta_laws.proofs.Laws.{delta_laws}
use Rattle.revisions.specs.declared.kept.Kept.{Kept}
use Rattle.revisions.specs.Kept.{deltas_of, made_by, LeadsTo, HaveLens}

pub deltas-drop : (n : ℕ) (ks : List Kept) → deltas_of (drop n ks) ≡ drop n (deltas_of ks)
deltas-drop zero ks = refl
deltas-drop (suc n) [] = refl
deltas-drop (suc n) (k ∷ ks) = deltas-drop n ks

pub deltas-more : (ks : List Kept) (k : Kept) → deltas_of (ks ++ k ∷ []) ≡ deltas_of ks ++ k.delta ∷ []
deltas-more [] k = refl
deltas-more (j ∷ ks) k = ap (λ w. j.delta ∷ w) (deltas-more ks k)

take-nil : {X : Type 0} (n : ℕ) → take {A = X} n [] ≡ []
take-nil zero = refl
take-nil (suc n) = refl

-- what the first deltas make, in two parts
pub made-take : (m n k : ℕ) (xs : List (List Step)) (t : List ℕ) → k ≡ m + n → made_by (take n (drop m xs)) (made_by (take m xs) t) ≡ made_by (take k xs) t
made-take zero n k xs t e = ap (λ j. made_by (take j xs) t) (omega (arith, e))
made-take (suc m) n zero xs t e = absurd (omega (arith, e))
made-take (suc m) n (suc k) [] t e = ap (λ ys. made_by ys t) (take-nil n)
made-take (suc m) n (suc k) (x ∷ xs) t e = made-take m n k xs (text_after x t) (omega (arith, e))

pub leads-from : (n : ℕ) (xs : List (List Step)) (t now : List ℕ) → LeadsTo t xs now → LeadsTo (made_by (take n xs) t) (drop n xs) now
leads-from zero xs t now h = h
leads-from (suc n) [] t now h = h
leads-from (suc n) (x ∷ xs) t now h = leads-from n xs (text_after x t) now h.1

pub leads-more : (xs : List (List Step)) (x : List Step) (t now : List ℕ) → LeadsTo t xs now → FitsText x now → LeadsTo t (xs ++ x ∷ []) (text_after x now)
leads-more [] x t now h f = rw h (f, refl)
leads-more (y ∷ xs) x t now h f = (h.0, leads-more xs x (text_after y t) now h.1 f)

pub lens-from : (n : ℕ) (ks : List Kept) (t : List ℕ) → HaveLens t ks → HaveLens (made_by (take n (deltas_of ks)) t) (drop n ks)
lens-from zero ks t h = h
lens-from (suc n) [] t h = tt
lens-from (suc n) (k ∷ ks) t h = lens-from n ks (text_after k.delta t) h.1

pub lens-more : (ks : List Kept) (k : Kept) (t now : List ℕ) → HaveLens t ks → LeadsTo t (deltas_of ks) now → k.len ≡ unit_count now → HaveLens t (ks ++ k ∷ [])
lens-more [] k t now h l e = (e ∙ ap unit_count (sym l), tt)
lens-more (j ∷ ks) k t now h l e = (h.0, lens-more ks k (text_after j.delta t) now h.1 l.1 e)

-- a delta that reaches past the text on which it was made does so however it is moved
pub past-over : (xs : List (List Step)) (d : List Step) (t now : List ℕ) → LeadsTo t xs now → IsTrue (ends_felt d) → unit_count t < reach_of d → unit_count now < reach_of (over d xs)
past-over [] d t now h e lt = rw (← h) lt
past-over (x ∷ xs) d t now h e lt =
    let p = delta_laws.past_end false x d t h.0 e lt in
    past-over xs (transformed false x d) (text_after x t) now h.1 p.felt p.past

-- the present text is what the deltas make of the first
pub leads-made : (xs : List (List Step)) (t now : List ℕ) → LeadsTo t xs now → made_by xs t ≡ now
leads-made [] t now h = h
leads-made (x ∷ xs) t now h = leads-made xs (text_after x t) now h.1

-- a delta that fits the text on which it was made fits the present one, moved over the deltas between
pub fits-over : (xs : List (List Step)) (d : List Step) (t now : List ℕ) → LeadsTo t xs now → FitsText d t → FitsText (over d xs) now
fits-over [] d t now h f = subst (λ a. FitsText d a) h f
fits-over (x ∷ xs) d t now h f = fits-over xs (transformed false x d) (text_after x t) now h.1 (delta_laws.moved false x d t h.0 f).right_fits
