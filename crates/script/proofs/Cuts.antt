-- A line is what stands before the first LF.
use Rattle.std.proofs.Common.{◌≡◌, ◌≢◌, ℕ, suc, ◌+◌, ◌<◌, ◌≤◌, ◌==◌, not, cond, Bool, true, false, List, [], ◌∷◌, length, take, drop, arith, refl, unwrap_or, if◌then◌else◌, ◌-◌, subst, length-drop}
use Rattle.std.proofs.lemmas.List.{take_all}
use Rattle.std.proofs.lemmas.Bool.Decides.{nat_tests}
use Rattle.std.specs.List.{position, position_or_len, onto_first}
use Rattle.std.proofs.lemmas.List.Sums.{prefix_len-le-length}
use Rattle.script.specs.Lines.{lines}

abbrev pub is_feed : ℕ → Bool
is_feed b = b == 10

pub unwrap_or-position : (p : ℕ → Bool) (bs : List ℕ) → unwrap_or (position p bs) (length bs) ≡ position_or_len p bs
unwrap_or-position p bs =
    let within : position_or_len p bs ≤ length bs = prefix_len-le-length (λ b. not (p b)) bs in
    grind (arith, nat_tests)

-- the step at one byte, where n bytes stand before the first LF of the rest
cut_step : (b n : ℕ) (bs : List ℕ) (t : Bool) → (t ≡ false → n < length bs → lines bs ≡ take n bs ∷ lines (drop (n + 1) bs))
    → cond (not t) (1 + n) 0 < suc (length bs)
    → (if t then [] ∷ lines bs else onto_first b (lines bs)) ≡ take (cond (not t) (1 + n) 0) (b ∷ bs) ∷ lines (drop (cond (not t) (1 + n) 0 + 1) (b ∷ bs))
cut_step b n bs true rest h = refl
cut_step b n bs false rest h =
    let e : 1 + n ≡ suc n = omega arith in
    let f : suc n + 1 ≡ suc (n + 1) = omega arith in
    rw (rest refl (omega arith), e, f) refl

pub lines-cut : (bs : List ℕ) → position_or_len is_feed bs < length bs → lines bs ≡ take (position_or_len is_feed bs) bs ∷ lines (drop (position_or_len is_feed bs + 1) bs)
lines-cut [] h = absurd (omega arith)
lines-cut (b ∷ bs) h = cut_step b (position_or_len is_feed bs) bs (b == 10) (λ _ k. lines-cut bs k) h

whole_step : (b n : ℕ) (bs : List ℕ) (t : Bool) → (bs ≢ [] → length bs ≤ n → lines bs ≡ bs ∷ [])
    → suc (length bs) ≤ cond (not t) (1 + n) 0
    → (if t then [] ∷ lines bs else onto_first b (lines bs)) ≡ (b ∷ bs) ∷ []
whole_step b n bs true rest h = absurd (omega arith)
whole_step b n [] false rest h = refl
whole_step b n (c ∷ bs) false rest h = rw (rest (λ e. cc) (omega arith)) refl

pub lines-whole : (bs : List ℕ) → bs ≢ [] → length bs ≤ position_or_len is_feed bs → lines bs ≡ bs ∷ []
lines-whole [] some h = absurd (some refl)
lines-whole (b ∷ bs) some h = whole_step b (position_or_len is_feed bs) bs (b == 10) (lines-whole bs) h

-- the same, as the code cuts
pub lines-first : (bs : List ℕ) (n : ℕ) → n ≡ position_or_len is_feed bs → n < length bs → lines bs ≡ take n bs ∷ lines (take (length bs - (n + 1)) (drop (n + 1) bs))
lines-first bs n e h =
    let whole : take (length bs - (n + 1)) (drop (n + 1) bs) ≡ drop (n + 1) bs = take_all (length bs - (n + 1)) (drop (n + 1) bs) (omega (arith, length-drop (n + 1) bs)) in
    let cut : lines bs ≡ take n bs ∷ lines (drop (n + 1) bs) = rw e (lines-cut bs (subst (λ m. m < length bs) e h)) in
    rw whole cut
