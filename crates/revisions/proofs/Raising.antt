-- A loop that writes each floor anew.
use Rattle.std.proofs.Common.{◌≡◌, ℕ, zero, suc, ◌+◌, ◌<◌, ◌≤◌, List, [], ◌∷◌, ◌++◌, length, take, drop, set, get_or, map, refl, ap, ◌∙◌, arith, add-one}
use Rattle.std.proofs.lemmas.List.{take_all, drop_all, append-nil}

write-at : {X : Type 0} (f : X → X) (i : ℕ) (xs : List X) (d : X) → i < length xs → set (map f (take i xs) ++ drop i xs) i (f (get_or xs i d)) ≡ map f (take (suc i) xs) ++ drop (suc i) xs
write-at f i [] d lt = absurd (omega arith)
write-at f zero (x ∷ xs) d lt = refl
write-at f (suc i) (x ∷ xs) d lt = ap (λ w. f x ∷ w) (write-at f i xs d (omega arith))

read-at : {X : Type 0} (f : X → X) (i : ℕ) (xs : List X) (d : X) → i < length xs → get_or (map f (take i xs) ++ drop i xs) i d ≡ get_or xs i d
read-at f i [] d lt = absurd (omega arith)
read-at f zero (x ∷ xs) d lt = refl
read-at f (suc i) (x ∷ xs) d lt = read-at f i xs d (omega arith)

-- one turn: the elements before the place are mapped, and the others are as they were
pub map-turn : {X : Type 0} (f : X → X) (i : ℕ) (xs ys : List X) (d y : X) → i < length xs → ys ≡ map f (take i xs) ++ drop i xs → y ≡ f (get_or ys i d) → set ys i y ≡ map f (take (i + 1) xs) ++ drop (i + 1) xs
map-turn f i xs ys d y lt e h =
    let g : get_or ys i d ≡ get_or xs i d = ap (λ w. get_or w i d) e ∙ read-at f i xs d lt in
    rw (h, g, e, add-one) (write-at f i xs d lt)

pub map-end : {X : Type 0} (f : X → X) (i : ℕ) (xs ys : List X) → length xs ≤ i → ys ≡ map f (take i xs) ++ drop i xs → ys ≡ map f xs
map-end f i xs ys past e = rw (e, take_all i xs past, drop_all i xs past) (append-nil (map f xs))
