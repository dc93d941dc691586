-- What a composition does, and its runs.
use Rattle.std.proofs.Common.{◌≡◌, ℕ, zero, suc, Bool, true, false, List, [], ◌∷◌, ◌++◌, length, map, replicate, refl, ap}
use Rattle.delta.specs.Spread.{Small, Keep, Drop, Put, keep, gap}
use Rattle.delta.specs.Compose.{mark, followed}

-- the second over the first, whose base is given
abbrev pub followed_by : List Small → List Small → List Small
followed_by b a = followed (keep b) (gap b) a

-- runs
pub drops_first : (m : ℕ) (b a : List Small) → followed_by b (replicate m Drop ++ a) ≡ replicate m Drop ++ followed_by b a
drops_first zero b a = refl
drops_first (suc m) b a = ap (λ w. Drop ∷ w) (drops_first m b a)

pub keeps_meet : (y : Bool) (m : ℕ) (b a : List Small) → followed_by (replicate m (mark y) ++ b) (replicate m Keep ++ a) ≡ replicate m (mark y) ++ followed_by b a
keeps_meet y zero b a = refl
keeps_meet true (suc m) b a = ap (λ w. Keep ∷ w) (keeps_meet true m b a)
keeps_meet false (suc m) b a = ap (λ w. Drop ∷ w) (keeps_meet false m b a)

pub puts_kept : (vs : List ℕ) (b a : List Small) → followed_by (replicate (length vs) Keep ++ b) (map Put vs ++ a) ≡ map Put vs ++ followed_by b a
puts_kept [] b a = refl
puts_kept (v ∷ vs) b a = ap (λ w. Put v ∷ w) (puts_kept vs b a)

pub puts_gone : (vs : List ℕ) (b a : List Small) → followed_by (replicate (length vs) Drop ++ b) (map Put vs ++ a) ≡ followed_by b a
puts_gone [] b a = refl
puts_gone (v ∷ vs) b a = puts_gone vs b a

-- the second's insert comes first, but for the first's drops
pub put_before_keep : (vs : List ℕ) (b a : List Small) → followed_by (map Put vs ++ b) (Keep ∷ a) ≡ map Put vs ++ followed_by b (Keep ∷ a)
put_before_keep [] b a = refl
put_before_keep (v ∷ vs) b a = ap (λ w. Put v ∷ w) (put_before_keep vs b a)

pub put_before_put : (vs : List ℕ) (u : ℕ) (b a : List Small) → followed_by (map Put vs ++ b) (Put u ∷ a) ≡ map Put vs ++ followed_by b (Put u ∷ a)
put_before_put [] u b a = refl
put_before_put (v ∷ vs) u b a = ap (λ w. Put v ∷ w) (put_before_put vs u b a)

pub put_at_end : (vs : List ℕ) (b : List Small) → followed_by (map Put vs ++ b) [] ≡ map Put vs ++ followed_by b []
put_at_end [] b = refl
put_at_end (v ∷ vs) b = ap (λ w. Put v ∷ w) (put_at_end vs b)
