-- The kinds of lines that stand one after the other, and a fence round lines.
use Rattle.std.proofs.Common.{◌≡◌, ℕ, ◌≤◌, ◌<◌, Bool, true, false, ◌&&◌, cond, List, [], ◌∷◌, ◌++◌, length, Option, Some, None, refl, ap, ◌∙◌, arith, suc, zero, map, append_assoc}
use Rattle.std.specs.Prelude.{nat_le, ◌==◌, ◌||◌}
use Rattle.std.specs.List.{list_all, list_any}
use Rattle.std.proofs.lemmas.Bool.Decides.{nat_tests}
use Rattle.std.proofs.lemmas.List.{length-replicate}
use Rattle.livemd_lines.specs.declared.fences.Fence.{Fence}
use Rattle.livemd_lines.specs.declared.fences.Mark.TheVariants.{Backtick}
use Rattle.blanks.specs.Blanks.{is_empty, drop_end, drop_front, front_of, is_space_or_tab}
use Rattle.livemd_lines.specs.Kinds.{Opens, Inside, Closes, Kinded, after_run, is_byte, is_closing, kind_in, kind_of, kinded, kinds_in, open_after, run}
use Rattle.livemd_lines.specs.Written.{HasShortRuns, IsInfo, fenced, longest_run, open_behind, ticks}

-- the lines behind others are read by the fence that those leave open
pub kinds_in-append : (around : Option Fence) (xs ys : List (List ℕ)) → kinds_in around (xs ++ ys) ≡ kinds_in around xs ++ kinds_in (open_behind around xs) ys
kinds_in-append around [] ys = refl
kinds_in-append around (x ∷ xs) ys = ap (λ w. kinded around x ∷ w) (kinds_in-append (open_after around (kind_in around x)) xs ys)

pub open_behind-append : (around : Option Fence) (xs ys : List (List ℕ)) → open_behind around (xs ++ ys) ≡ open_behind (open_behind around xs) ys
open_behind-append around [] ys = refl
open_behind-append around (x ∷ xs) ys = open_behind-append (open_after around (kind_in around x)) xs ys

run-le-longest_run : (l : List ℕ) → run 96 l ≤ longest_run l
run-le-longest_run [] = omega arith
run-le-longest_run (c ∷ l) = omega arith

-- by the two tests of one step: whether the byte goes, and whether it is the mark
only_step : (c : ℕ) (gone same : Bool) (kept l : List ℕ) → (c == 96) ≡ same → (list_all (is_byte 96) kept ≡ true → length kept ≤ run 96 l)
    → list_all (is_byte 96) (cond gone [] (c ∷ kept)) ≡ true → length (cond gone [] (c ∷ kept)) ≤ length (cond same (c ∷ front_of (is_byte 96) l) [])
only_step c true same kept l e h o = omega arith
only_step c false true kept l e h o = let k : list_all (is_byte 96) kept ≡ true = rw e at o in omega (arith, h k)
only_step c false false kept l e h o = let k : false ≡ true = rw e at o in absurd cc

only_run : (p : ℕ → Bool) (l : List ℕ) → list_all (is_byte 96) (drop_end p l) ≡ true → length (drop_end p l) ≤ run 96 l
only_run p [] h = omega arith
only_run p (c ∷ l) h = only_step c (p c && is_empty (drop_end p l)) (c == 96) (drop_end p l) l refl (only_run p l) h

and_left : (a b : Bool) → (a && b) ≡ true → a ≡ true
and_left true b e = refl
and_left false b e = e

and_right : (a b : Bool) → (a && b) ≡ true → b ≡ true
and_right true b e = e
and_right false b e = cc

le_of : (a b : ℕ) → nat_le a b ≡ true → a ≤ b
le_of a b h = grind (arith, nat_tests)

test_le : (a b : ℕ) → a ≤ b → nat_le a b ≡ true
test_le a b h = grind (arith, nat_tests)

abbrev fence : ℕ → Fence
fence count = record { mark = Backtick; count = count }

-- what closes a fence of backticks has a run of them that is as long
closing_run : (n : ℕ) (l : List ℕ) → is_closing (fence n) l ≡ true → n ≤ longest_run l
closing_run n l h =
    let only = and_left (list_all (is_byte 96) (drop_end is_space_or_tab l)) (nat_le n (length (drop_end is_space_or_tab l))) h in
    let le = le_of n _ (and_right (list_all (is_byte 96) (drop_end is_space_or_tab l)) (nat_le n (length (drop_end is_space_or_tab l))) h) in
    omega (arith, only_run is_space_or_tab l only, run-le-longest_run l)

not_true : (b : Bool) → (b ≡ true → ⊥) → b ≡ false
not_true true h = absurd (h refl)
not_true false h = refl

-- a line whose runs are shorter doesn't close it
pub not_closing : (n : ℕ) (l : List ℕ) → longest_run l < n → is_closing (fence n) l ≡ false
not_closing n l lt = not_true _ (λ h. let le = closing_run n l h in omega arith)

keeps_ticks : (n : ℕ) → drop_end is_space_or_tab (ticks n) ≡ ticks n
keeps_ticks zero = refl
keeps_ticks (suc n) = ap (λ w. 96 ∷ w) (keeps_ticks n)

only_ticks : (n : ℕ) → list_all (is_byte 96) (ticks n) ≡ true
only_ticks zero = refl
only_ticks (suc n) = only_ticks n

-- the closing line closes it
pub ticks_close : (n : ℕ) → is_closing (fence n) (ticks n) ≡ true
ticks_close n = rw (keeps_ticks, only_ticks, length-replicate) (test_le n n (omega arith))

run_ticks : (n : ℕ) (info : List ℕ) → run 96 info ≡ 0 → run 96 (ticks n ++ info) ≡ n
run_ticks zero info h = h
run_ticks (suc n) info h = ap suc (run_ticks n info h)

after_ticks : (n : ℕ) (info : List ℕ) → after_run 96 info ≡ info → after_run 96 (ticks n ++ info) ≡ info
after_ticks zero info h = h
after_ticks (suc n) info h = after_ticks n info h

first_by : (b : Bool) (c : ℕ) (cs : List ℕ) → (b || list_any (is_byte 96) cs) ≡ false → (length (cond b (c ∷ front_of (is_byte 96) cs) []) ≡ 0) × (cond b (drop_front (is_byte 96) cs) (c ∷ cs) ≡ c ∷ cs)
first_by true c cs e = absurd cc
first_by false c cs e = (refl, refl)

info_front : (info : List ℕ) → list_any (is_byte 96) info ≡ false → (run 96 info ≡ 0) × (after_run 96 info ≡ info)
info_front [] h = (refl, refl)
info_front (c ∷ cs) h = first_by (c == 96) c cs h

-- the opening line opens it
pub ticks_open : (n : ℕ) (info : List ℕ) → 3 ≤ n → IsInfo info → kind_of (ticks n ++ info) ≡ Opens (fence n) info
ticks_open n info le i =
    let f = info_front info i.none in
    let three : nat_le 3 n ≡ true = test_le 3 n le in
    rw (run_ticks n info f.0, after_ticks n info f.1, three, i.none, i.trim) refl

abbrev pub inside : List ℕ → Kinded
inside l = record { kind = Inside; text = l }

kinds_inside : (n : ℕ) (ls more : List (List ℕ)) → HasShortRuns n ls → kinds_in (Some (fence n)) (ls ++ ticks n ∷ more) ≡ map inside ls ++ record { kind = Closes; text = ticks n } ∷ kinds_in None more
kinds_inside n [] more h = rw (ticks_close n) refl
kinds_inside n (l ∷ ls) more h = rw (not_closing n l h.0) (ap (λ w. inside l ∷ w) (kinds_inside n ls more h.1))

-- a fence that is longer than each run in it is closed exactly by its closing line
pub kinds_in-fenced : (n : ℕ) (info : List ℕ) (ls more : List (List ℕ)) → 3 ≤ n → IsInfo info → HasShortRuns n ls
    → kinds_in None (fenced n info ls ++ more) ≡ record { kind = Opens (fence n) info; text = ticks n ++ info } ∷ map inside ls ++ record { kind = Closes; text = ticks n } ∷ kinds_in None more
kinds_in-fenced n info ls more le i h =
    rw (ticks_open n info le i)
    (ap (λ w. record { kind = Opens (fence n) info; text = ticks n ++ info } ∷ kinds_in (Some (fence n)) w) (append_assoc ls (ticks n ∷ []) more)
    ∙ ap (λ w. record { kind = Opens (fence n) info; text = ticks n ++ info } ∷ w) (kinds_inside n ls more h))
