-- What std's trims give, as lists without the bytes at an end that pass.
use Rattle.std.proofs.Common.{◌≡◌, ℕ, ◌+◌, ◌-◌, ◌<◌, ◌≤◌, ◌⊎◌, inl, inr, Bool, true, false, ◌&&◌, cond, List, [], ◌∷◌, ◌++◌, Option, Some, None, length, take, drop, get_or, zero, suc, refl, sym, ap, ◌∙◌, arith, eqb-true, eq-eqb, IfSome}
use Rattle.std.proofs.Math.Seq.{drop-length}
use Rattle.std.specs.Prelude.{◌==◌}
use Rattle.std.specs.Str.Pattern.{FindsCharPrefix, FindsCharSuffix, CutsPrefixes, CutsSuffixes, IsTrimStartMatches, IsTrimEndMatches}
use Rattle.std.proofs.lemmas.List.{take-append-drop, take_more}
use Rattle.std.proofs.lemmas.Str.{len_utf8_ascii, encode_ascii}
use Rattle.std.proofs.lemmas.Str.Pattern.{drop_at_char}
use Rattle.blanks.specs.Blanks.{is_empty, drop_end, drop_front}

not_empty : {X : Type 0} (xs : List X) (c : X) → is_empty (xs ++ c ∷ []) ≡ false
not_empty [] c = refl
not_empty (x ∷ xs) c = refl

stays : {X : Type 0} (a : Bool) (x : X) (xs : List X) (c : X) → cond (a && is_empty (xs ++ c ∷ [])) [] (x ∷ (xs ++ c ∷ [])) ≡ x ∷ (xs ++ c ∷ [])
stays true x xs c = rw (not_empty xs c) refl
stays false x xs c = refl

-- an element at the end that passes goes, and with one that doesn't all stays
pub drop_end-gone : {X : Type 0} (p : X → Bool) (xs : List X) (c : X) → p c ≡ true → drop_end p (xs ++ c ∷ []) ≡ drop_end p xs
drop_end-gone p [] c h = rw h refl
drop_end-gone p (x ∷ xs) c h = ap (λ w. cond (p x && is_empty w) [] (x ∷ w)) (drop_end-gone p xs c h)

pub drop_end-kept : {X : Type 0} (p : X → Bool) (xs : List X) (c : X) → p c ≡ false → drop_end p (xs ++ c ∷ []) ≡ xs ++ c ∷ []
drop_end-kept p [] c h = rw h refl
drop_end-kept p (x ∷ xs) c h = ap (λ w. cond (p x && is_empty w) [] (x ∷ w)) (drop_end-kept p xs c h) ∙ stays (p x) x xs c

-- a list is empty or has a last element
last_of : {X : Type 0} (xs : List X) → (xs ≡ []) ⊎ ((front : List X) × ((x : X) × (xs ≡ front ++ x ∷ [])))
last_of [] = inl refl
last_of (x ∷ xs) = elim (last_of xs) [ inl e ↦ inr ([], (x, ap (λ w. x ∷ w) e)) | inr r ↦ inr (x ∷ r.0, (r.1.0, ap (λ w. x ∷ w) r.1.1)) ]

same_byte : (c : ℕ) → (c == c) ≡ true
same_byte c = eq-eqb c c refl

-- one byte cut off the end
cut_end : (c : ℕ) (m r : List ℕ) (n : ℕ) → c < 128 → FindsCharSuffix c m (Some n) → r ≡ take (length m - n) m → m ≡ r ++ c ∷ []
cut_end c m r n small f e =
    let here : drop (length m - n) m ≡ c ∷ drop (length m) m = drop_at_char c m (length m - n) (length m) f.1 small in
    let none : drop (length m) m ≡ [] = drop-length m in
    sym (take-append-drop (length m - n) m) ∙ (ap (λ w. w ++ drop (length m - n) m) (sym e) ∙ ap (λ w. r ++ w) (here ∙ ap (λ w. c ∷ w) none))

cuts_end : (c : ℕ) (s r : List ℕ) (ns : List ℕ) → c < 128 → CutsSuffixes (FindsCharSuffix c) s ns r → drop_end (λ b. b == c) r ≡ drop_end (λ b. b == c) s
cuts_end c s r [] small h = ap (drop_end (λ b. b == c)) h
cuts_end c s r (n ∷ ns) small h =
    let whole : h.0 ≡ r ++ c ∷ [] = cut_end c h.0 r n small h.2 h.3 in
    sym (ap (drop_end (λ b. b == c)) whole ∙ drop_end-gone (λ b. b == c) r c (same_byte c)) ∙ cuts_end c s h.0 ns small h.1

-- nothing is left to cut
whole_end : (c : ℕ) (r : List ℕ) (o : Option ℕ) → c < 128 → FindsCharSuffix c r o → IfSome o (λ n. n ≡ 0) → drop_end (λ b. b == c) r ≡ r
whole_end c r (Some n) small f z = absurd (omega (arith, f.0, len_utf8_ascii c small))
whole_end c r None small f z =
    elim (last_of r) [
      | inl e ↦ rw e refl
      | inr l ↦ elim (l.1.0 == c)
          as (λ b. (l.1.0 == c) ≡ b → drop_end (λ d. d == c) r ≡ r) [
            | true ↦ λ same. absurd (f l.0 (l.1.1 ∙ ap (λ w. l.0 ++ w) (ap (λ d. d ∷ []) (eqb-true l.1.0 c same) ∙ sym (encode_ascii c small))))
            | false ↦ λ other. rw l.1.1 (drop_end-kept (λ d. d == c) l.0 l.1.0 other)
          ]
          refl
    ]

-- a trim at the end
pub trim_end-is : (c : ℕ) (s r : List ℕ) → c < 128 → IsTrimEndMatches (FindsCharSuffix c) s r → r ≡ drop_end (λ b. b == c) s
trim_end-is c s r small h = sym (whole_end c r h.1.0 small h.1.1 h.1.2) ∙ cuts_end c s r h.0.0 small h.0.1

-- one byte cut off the front
cut_front : (c : ℕ) (m r : List ℕ) (n : ℕ) → c < 128 → FindsCharPrefix c m (Some n) → r ≡ drop n m → m ≡ c ∷ r
cut_front c m r n small f e = drop_at_char c m 0 n f small ∙ ap (λ w. c ∷ w) (sym e)

cuts_front : (c : ℕ) (s r : List ℕ) (ns : List ℕ) → c < 128 → CutsPrefixes (FindsCharPrefix c) s ns r → drop_front (λ b. b == c) r ≡ drop_front (λ b. b == c) s
cuts_front c s r [] small h = ap (drop_front (λ b. b == c)) h
cuts_front c s r (n ∷ ns) small h =
    let whole : h.0 ≡ c ∷ r = cut_front c h.0 r n small h.2 h.3 in
    let one : drop_front (λ b. b == c) (c ∷ r) ≡ drop_front (λ b. b == c) r = rw (same_byte c) refl in
    sym (ap (drop_front (λ b. b == c)) whole ∙ one) ∙ cuts_front c s h.0 ns small h.1

whole_front : (c : ℕ) (r : List ℕ) (o : Option ℕ) → c < 128 → FindsCharPrefix c r o → IfSome o (λ n. n ≡ 0) → drop_front (λ b. b == c) r ≡ r
whole_front c r (Some n) small f z = absurd (omega (arith, f.ends, len_utf8_ascii c small))
whole_front c [] None small f z = refl
whole_front c (x ∷ r) None small f z =
    elim (x == c)
    as (λ b. (x == c) ≡ b → cond b (drop_front (λ d. d == c) r) (x ∷ r) ≡ x ∷ r)
    [ true ↦ λ same. absurd (f r (ap (λ d. d ∷ r) (eqb-true x c same) ∙ ap (λ w. w ++ r) (sym (encode_ascii c small)))) | false ↦ λ other. refl ]
    refl

-- a trim at the front
pub trim_start-is : (c : ℕ) (s r : List ℕ) → c < 128 → IsTrimStartMatches (FindsCharPrefix c) s r → r ≡ drop_front (λ b. b == c) s
trim_start-is c s r small h = sym (whole_front c r h.1.0 small h.1.1 h.1.2) ∙ cuts_front c s r h.0.0 small h.0.1

-- an end that is found from behind
pub cut_back : (p : ℕ → Bool) (bs : List ℕ) (n : ℕ) → 0 < n → n ≤ length bs → p (get_or bs (n - 1) 0) ≡ true → drop_end p (take n bs) ≡ drop_end p bs → drop_end p (take (n - 1) bs) ≡ drop_end p bs
cut_back p bs n some within e h =
    let n1 : n ≡ (n - 1) + 1 = omega arith in
    let parts : take n bs ≡ take (n - 1) bs ++ get_or bs (n - 1) 0 ∷ [] = ap (λ m. take m bs) n1 ∙ take_more bs (n - 1) 0 (omega arith) in
    sym (drop_end-gone p (take (n - 1) bs) (get_or bs (n - 1) 0) e) ∙ (ap (drop_end p) (sym parts) ∙ h)

pub cut_ends : (p : ℕ → Bool) (bs : List ℕ) (n : ℕ) → n ≤ length bs → (0 < n → p (get_or bs (n - 1) 0) ≡ false) → drop_end p (take n bs) ≡ drop_end p bs → take n bs ≡ drop_end p bs
cut_ends p bs zero within stops h = h
cut_ends p bs (suc n) within stops h =
    let parts : take (suc n) bs ≡ take n bs ++ get_or bs n 0 ∷ [] = ap (λ m. take m bs) (let e : suc n ≡ n + 1 = omega arith in e) ∙ take_more bs n 0 (omega arith) in
    let i : suc n - 1 ≡ n = omega arith in
    let last : p (get_or bs n 0) ≡ false = ap (λ k. p (get_or bs k 0)) (sym i) ∙ stops (omega arith) in
    parts ∙ (sym (drop_end-kept p (take n bs) (get_or bs n 0) last) ∙ (ap (drop_end p) (sym parts) ∙ h))
