-- Packing, stretch by stretch.
use Rattle.std.proofs.Common.{◌≡◌, ℕ, zero, suc, ◌+◌, ◌==◌, true, List, [], ◌∷◌, ◌++◌, length, map, replicate, refl, ap, ◌∙◌, arith, append_assoc, zero-add}
use Rattle.std.proofs.lemmas.Bool.Decides.{nat_tests}
use Rattle.utf16_text.specs.Units.{decoded}
use Rattle.delta.specs.Pack.{first_puts, first_drops, inserting, deleting, kept, from_keep, packed}
use Rattle.delta.specs.Packers.{kept_many, retaining}
use Rattle.delta.specs.Spread.{Small, Keep, Drop, Put}
use Rattle.delta.specs.declared.Step.{Step}
use Rattle.delta.specs.declared.Step.TheVariants.{Retain, Insert, Delete}

-- past what is put in, and past what is dropped
pub puts_past : (vs : List ℕ) (s : List Small) → first_puts (map Put vs ++ s) ≡ vs ++ first_puts s
puts_past [] s = refl
puts_past (v ∷ vs) s = ap (λ w. v ∷ w) (puts_past vs s)

pub drops_past_puts : (vs : List ℕ) (s : List Small) → first_drops (map Put vs ++ s) ≡ first_drops s
drops_past_puts [] s = refl
drops_past_puts (v ∷ vs) s = drops_past_puts vs s

pub keep_past_puts : (vs : List ℕ) (s : List Small) → from_keep (map Put vs ++ s) ≡ from_keep s
keep_past_puts [] s = refl
keep_past_puts (v ∷ vs) s = keep_past_puts vs s

pub puts_past_drops : (n : ℕ) (s : List Small) → first_puts (replicate n Drop ++ s) ≡ first_puts s
puts_past_drops zero s = refl
puts_past_drops (suc n) s = puts_past_drops n s

pub drops_past : (n : ℕ) (s : List Small) → first_drops (replicate n Drop ++ s) ≡ n + first_drops s
drops_past zero s = rw zero-add refl
drops_past (suc n) s = let e : suc n + first_drops s ≡ suc (n + first_drops s) = omega arith in rw e (ap suc (drops_past n s))

pub keep_past_drops : (n : ℕ) (s : List Small) → from_keep (replicate n Drop ++ s) ≡ from_keep s
keep_past_drops zero s = refl
keep_past_drops (suc n) s = keep_past_drops n s

-- an open stretch, and what comes
pub packed-open : (p : List ℕ) (d : ℕ) (s : List Small)
    → packed (map Put p ++ (replicate d Drop ++ s)) ≡ inserting (decoded (p ++ first_puts s)) ++ (deleting (d + first_drops s) ++ from_keep s)
packed-open p d s =
    let rest : List Small = replicate d Drop ++ s in
    let puts : first_puts (map Put p ++ rest) ≡ p ++ first_puts s = puts_past p rest ∙ ap (λ w. p ++ w) (puts_past_drops d s) in
    let drops : first_drops (map Put p ++ rest) ≡ d + first_drops s = drops_past_puts p rest ∙ drops_past d s in
    let more : from_keep (map Put p ++ rest) ≡ from_keep s = keep_past_puts p rest ∙ keep_past_drops d s in
    append_assoc (inserting (decoded (first_puts (map Put p ++ rest)))) (deleting (first_drops (map Put p ++ rest))) (from_keep (map Put p ++ rest))
    ∙ (ap (λ w. inserting (decoded w) ++ (deleting (first_drops (map Put p ++ rest)) ++ from_keep (map Put p ++ rest))) puts
    ∙ (ap (λ w. inserting (decoded (p ++ first_puts s)) ++ (deleting w ++ from_keep (map Put p ++ rest))) drops ∙ ap (λ w. inserting (decoded (p ++ first_puts s)) ++ (deleting (d + first_drops s) ++ w)) more))

-- as many Keeps before some steps
pub from_keep-keeps : (n : ℕ) (s : List Small) → from_keep (replicate (suc n) Keep ++ s) ≡ kept_many (suc n) (packed s)
from_keep-keeps zero s = refl
from_keep-keeps (suc n) s = ap kept (from_keep-keeps n s)

pub many_none : (n : ℕ) → kept_many n [] ≡ []
many_none zero = refl
many_none (suc n) = ap kept (many_none n)

pub many_retain : (n m : ℕ) (d : List Step) → kept_many n (Retain m ∷ d) ≡ Retain (n + m) ∷ d
many_retain zero m d = rw zero-add refl
many_retain (suc n) m d = let e : suc n + m ≡ suc (n + m) = omega arith in rw e (ap kept (many_retain n m d))

pub many_insert : (n : ℕ) (text : List ℕ) (d : List Step) → kept_many n (Insert text ∷ d) ≡ retaining n ++ Insert text ∷ d
many_insert zero text d = refl
many_insert (suc zero) text d = refl
many_insert (suc (suc n)) text d = ap kept (many_insert (suc n) text d)

pub many_delete : (n m : ℕ) (d : List Step) → kept_many n (Delete m ∷ d) ≡ retaining n ++ Delete m ∷ d
many_delete zero m d = refl
many_delete (suc zero) m d = refl
many_delete (suc (suc n)) m d = ap kept (many_delete (suc n) m d)

pub many_many : (m n : ℕ) (d : List Step) → kept_many (m + n) d ≡ kept_many m (kept_many n d)
many_many zero n d = rw zero-add refl
many_many (suc m) n d = let e : suc m + n ≡ suc (m + n) = omega arith in rw e (ap kept (many_many m n d))

-- a stretch that does something stands after its retain
pub some_stretch : (n : ℕ) (text : List ℕ) (drops : ℕ) (d : List Step) → (text ≡ [] → drops ≡ 0 → ⊥)
    → kept_many n (inserting text ++ (deleting drops ++ d)) ≡ retaining n ++ (inserting text ++ (deleting drops ++ d))
some_stretch n [] zero d some = absurd (some refl refl)
some_stretch n [] (suc m) d some = many_delete n (suc m) d
some_stretch n (c ∷ text) drops d some = many_insert n (c ∷ text) (deleting drops ++ d)

pub no_characters : (cs : List ℕ) → (length cs == 0) ≡ true → cs ≡ []
no_characters [] e = refl
no_characters (c ∷ cs) e = absurd (grind (arith, nat_tests))
