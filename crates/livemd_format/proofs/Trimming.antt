-- Lists without what passes at their ends, and texts cut into lines.
use Rattle.std.proofs.Common.{◌≡◌, ℕ, ◌≤◌, suc, zero, Bool, true, false, ◌&&◌, ◌||◌, cond, List, [], ◌∷◌, ◌++◌, map, drop, refl, sym, ap, ◌∙◌, arith, max}
use Rattle.std.specs.Prelude.{◌==◌}
use Rattle.std.specs.List.{AllByRecursion, list_any, onto_first, slice_split}
use Rattle.std.proofs.lemmas.List.Splits.{join_with_byte-slice_split}
use Rattle.blanks.specs.Blanks.{drop_end, drop_front, is_blank, is_cr, is_empty}
use Rattle.livemd_lines.specs.Lines.{is_lf, joined, lines, without_empty_last}
use Rattle.livemd_lines.specs.Kinds.{run}
use Rattle.livemd_lines.specs.Written.{HasNoFeed, HasShortRuns, IsLine, longest_run}
use Rattle.livemd_format.specs.Tidy.{clean_pieces, pieces}
use Rattle.livemd_format.specs.Write.{fence_len}

-- ---- what passes at an end

twice_step : {X : Type 0} (p : X → Bool) (x : X) (xs : List X) (t : Bool) → (p x && is_empty xs) ≡ t → drop_end p xs ≡ xs → drop_end p (cond t [] (x ∷ xs)) ≡ cond t [] (x ∷ xs)
twice_step p x xs true e h = refl
twice_step p x xs false e h = rw (h, e) refl

pub drop_end-twice : {X : Type 0} (p : X → Bool) (xs : List X) → drop_end p (drop_end p xs) ≡ drop_end p xs
drop_end-twice p [] = refl
drop_end-twice p (x ∷ xs) = twice_step p x (drop_end p xs) (p x && is_empty (drop_end p xs)) refl (drop_end-twice p xs)

-- what ends in nothing that passes a test ends in nothing that passes a stricter one
tail_of : {X : Type 0} (x : X) (xs ds : List X) (t : Bool) → cond t [] (x ∷ ds) ≡ x ∷ xs → ds ≡ xs
tail_of x xs ds true h = absurd cc
tail_of x xs ds false h = ap (drop 1) h

stricter_step : {X : Type 0} (x : X) (xs : List X) (s t : Bool) → (s ≡ true → t ≡ true) → cond t [] (x ∷ xs) ≡ x ∷ xs → cond s [] (x ∷ xs) ≡ x ∷ xs
stricter_step x xs false t i h = refl
stricter_step x xs true true i h = h
stricter_step x xs true false i h = let e : false ≡ true = i refl in absurd cc

and_stricter : (a b e : Bool) → (a ≡ true → b ≡ true) → (a && e) ≡ true → (b && e) ≡ true
and_stricter true b e i h = rw (i refl) h
and_stricter false b e i h = absurd cc

end_kept : {X : Type 0} (p : X → Bool) (x : X) (xs : List X) → drop_end p (x ∷ xs) ≡ x ∷ xs → drop_end p xs ≡ xs
end_kept p x xs h = tail_of x xs (drop_end p xs) (p x && is_empty (drop_end p xs)) h

pub end_stricter : {X : Type 0} (p q : X → Bool) → ((c : X) → p c ≡ true → q c ≡ true) → (l : List X) → drop_end q l ≡ l → drop_end p l ≡ l
end_stricter p q i [] h = refl
end_stricter p q i (x ∷ xs) h =
    let e : drop_end q xs ≡ xs = end_kept q x xs h in
    let h2 : cond (q x && is_empty xs) [] (x ∷ xs) ≡ x ∷ xs = sym (ap (λ w. cond (q x && is_empty w) [] (x ∷ w)) e) ∙ h in
    ap (λ w. cond (p x && is_empty w) [] (x ∷ w)) (end_stricter p q i xs e)
    ∙ stricter_step x xs (p x && is_empty xs) (q x && is_empty xs) (and_stricter (p x) (q x) (is_empty xs) (i x)) h2

-- where nothing passes, all stays
pub end_none : (p : ℕ → Bool) (l : List ℕ) → list_any p l ≡ false → drop_end p l ≡ l
end_none p [] h = refl
end_none p (c ∷ l) h =
    elim (p c)
    as (λ b. p c ≡ b → (b || list_any p l) ≡ false → cond (b && is_empty (drop_end p l)) [] (c ∷ drop_end p l) ≡ c ∷ l)
    [ true ↦ λ e g. absurd cc | false ↦ λ e g. ap (λ w. c ∷ w) (end_none p l g) ]
    refl
    h

-- the last of lines that end in no blank one isn't empty
last_step : (x : List ℕ) (t : Bool) → is_empty x ≡ t → drop_end is_blank (x ∷ []) ≡ x ∷ [] → cond t [] (x ∷ []) ≡ x ∷ []
last_step [] t e h = absurd cc
last_step (c ∷ x) t e h = rw (← e) refl

with_last : (ls : List (List ℕ)) → drop_end is_blank ls ≡ ls → without_empty_last ls ≡ ls
with_last [] h = refl
with_last (x ∷ []) h = last_step x (is_empty x) refl h
with_last (x ∷ y ∷ more) h = ap (λ w. x ∷ w) (with_last (y ∷ more) (end_kept is_blank x (y ∷ more) h))

-- ---- facts of each element

pub all_front : {X : Type 0} (P : X → Type 0) (p : X → Bool) (xs : List X) → AllByRecursion P xs → AllByRecursion P (drop_front p xs)
all_front P p [] h = tt
all_front P p (x ∷ xs) h =
    elim (p x)
    as (λ b. AllByRecursion P (cond b (drop_front p xs) (x ∷ xs)))
    [ true ↦ all_front P p xs h.1 | false ↦ h ]

pub all_end : {X : Type 0} (P : X → Type 0) (p : X → Bool) (xs : List X) → AllByRecursion P xs → AllByRecursion P (drop_end p xs)
all_end P p [] h = tt
all_end P p (x ∷ xs) h =
    elim (p x && is_empty (drop_end p xs))
    as (λ b. AllByRecursion P (cond b [] (x ∷ drop_end p xs)))
    [ true ↦ tt | false ↦ (h.0, all_end P p xs h.1) ]

pub all_more : {X : Type 0} (P : X → Type 0) (xs ys : List X) → AllByRecursion P xs → AllByRecursion P ys → AllByRecursion P (xs ++ ys)
all_more P [] ys h k = k
all_more P (x ∷ xs) ys h k = (h.0, all_more P xs ys h.1 k)

-- ---- pieces are lines

no_feed_end : (p : ℕ → Bool) (l : List ℕ) → HasNoFeed l → HasNoFeed (drop_end p l)
no_feed_end p [] h = tt
no_feed_end p (c ∷ l) h =
    elim (p c && is_empty (drop_end p l))
    as (λ b. HasNoFeed (cond b [] (c ∷ drop_end p l)))
    [ true ↦ tt | false ↦ (h.0, no_feed_end p l h.1) ]

feeds_onto : (b : ℕ) (ps : List (List ℕ)) → is_lf b ≡ false → AllByRecursion HasNoFeed ps → AllByRecursion HasNoFeed (onto_first b ps)
feeds_onto b [] e h = ((e, tt), tt)
feeds_onto b (p ∷ ps) e h = ((e, h.0), h.1)

no_feeds : (t : List ℕ) → AllByRecursion HasNoFeed (slice_split is_lf t)
no_feeds [] = (tt, tt)
no_feeds (b ∷ t) =
    elim (is_lf b)
    as (λ v. is_lf b ≡ v → AllByRecursion HasNoFeed (cond v ([] ∷ slice_split is_lf t) (onto_first b (slice_split is_lf t))))
    [ true ↦ λ e. (tt, no_feeds t) | false ↦ λ e. feeds_onto b (slice_split is_lf t) e (no_feeds t) ]
    refl

clean_lines : (ps : List (List ℕ)) → AllByRecursion HasNoFeed ps → AllByRecursion IsLine (map (drop_end is_cr) ps)
clean_lines [] h = tt
clean_lines (p ∷ ps) h = ((no_feed_end is_cr p h.0, drop_end-twice is_cr p), clean_lines ps h.1)

pub lines_of_clean : (t : List ℕ) → AllByRecursion IsLine (clean_pieces t)
lines_of_clean t = clean_lines (pieces t) (no_feeds t)

-- ---- lines joined and cut again

pub one_piece : (l : List ℕ) → HasNoFeed l → slice_split is_lf l ≡ l ∷ []
one_piece [] h = refl
one_piece (c ∷ l) h = rw (h.0, one_piece l h.1) refl

pieces_behind : (l rest : List ℕ) → HasNoFeed l → slice_split is_lf (l ++ 10 ∷ rest) ≡ l ∷ slice_split is_lf rest
pieces_behind [] rest h = refl
pieces_behind (c ∷ l) rest h = rw (h.0, pieces_behind l rest h.1) refl

pub pieces-joined : (l : List ℕ) (ls : List (List ℕ)) → AllByRecursion HasNoFeed (l ∷ ls) → pieces (joined (l ∷ ls)) ≡ l ∷ ls
pieces-joined l [] h = one_piece l h.0
pieces-joined l (k ∷ ls) h = pieces_behind l (joined (k ∷ ls)) h.0 ∙ ap (λ w. l ∷ w) (pieces-joined k ls h.1)

pub joined-pieces : (t : List ℕ) → joined (pieces t) ≡ t
joined-pieces t = join_with_byte-slice_split 10 t

pub feeds_of_lines : (ls : List (List ℕ)) → AllByRecursion IsLine ls → AllByRecursion HasNoFeed ls
feeds_of_lines [] h = tt
feeds_of_lines (l ∷ ls) h = (h.0.0, feeds_of_lines ls h.1)

-- there is a piece at least
some_step : (b : Bool) (c : ℕ) (ps : List (List ℕ)) → (q : List ℕ) × ((qs : List (List ℕ)) × (cond b ([] ∷ ps) (onto_first c ps) ≡ q ∷ qs))
some_step true c ps = ([], (ps, refl))
some_step false c [] = (c ∷ [], ([], refl))
some_step false c (p ∷ ps) = (c ∷ p, (ps, refl))

some_piece : (t : List ℕ) → (q : List ℕ) × ((qs : List (List ℕ)) × (pieces t ≡ q ∷ qs))
some_piece [] = ([], ([], refl))
some_piece (c ∷ t) = some_step (is_lf c) c (pieces t)

-- the pieces of a clean text are its clean pieces
clean_again_if : (ps : List (List ℕ)) (q : List ℕ) (qs : List (List ℕ)) → ps ≡ q ∷ qs → AllByRecursion IsLine (map (drop_end is_cr) ps) → pieces (joined (map (drop_end is_cr) ps)) ≡ map (drop_end is_cr) ps
clean_again_if ps q qs e h =
    let all : AllByRecursion IsLine (map (drop_end is_cr) (q ∷ qs)) = rw e at h in
    rw e (pieces-joined (drop_end is_cr q) (map (drop_end is_cr) qs) (feeds_of_lines (map (drop_end is_cr) (q ∷ qs)) all))

pub pieces_of_clean : (t : List ℕ) → pieces (joined (clean_pieces t)) ≡ clean_pieces t
pieces_of_clean t = let s = some_piece t in clean_again_if (pieces t) s.0 s.1.0 s.1.1 (lines_of_clean t)

-- ---- runs of backticks in pieces

-- each line's runs are at most n long, and the run at the front of the first at most r
abbrev AreBounded : ℕ → ℕ → List (List ℕ) → Type 0
AreBounded r n [] = Unit {0}
AreBounded r n (l ∷ ls) = (run 96 l ≤ r) × (longest_run l ≤ n) × HasShortRuns (suc n) ls

longer_bound : (m n : ℕ) (ls : List (List ℕ)) → m ≤ n → HasShortRuns (suc m) ls → HasShortRuns (suc n) ls
longer_bound m n [] le h = tt
longer_bound m n (l ∷ ls) le h = (omega (arith, h.0), longer_bound m n ls le h.1)

all_short : (r n : ℕ) (ls : List (List ℕ)) → AreBounded r n ls → HasShortRuns (suc n) ls
all_short r n [] h = tt
all_short r n (l ∷ ls) h = (omega (arith, h.1), h.2)

onto : (c r n : ℕ) (same : Bool) (ls : List (List ℕ)) → (c == 96) ≡ same → AreBounded r n ls → AreBounded (cond same (suc r) zero) (max (cond same (suc r) zero) n) (onto_first c ls)
onto c r n true [] e h = rw e (omega arith, omega arith, tt)
onto c r n false [] e h = rw e (omega arith, omega arith, tt)
onto c r n true (l ∷ ls) e h = rw e (omega (arith, h.0), omega (arith, h.0, h.1), longer_bound n (max (suc r) n) ls (omega arith) h.2)
onto c r n false (l ∷ ls) e h = rw e (omega (arith, h.0), omega (arith, h.0, h.1), longer_bound n (max zero n) ls (omega arith) h.2)

feed_step : (c r n r2 n2 : ℕ) (b : Bool) (ls : List (List ℕ)) → n ≤ n2 → AreBounded r n ls → AreBounded r2 n2 (onto_first c ls) → AreBounded r2 n2 (cond b ([] ∷ ls) (onto_first c ls))
feed_step c r n r2 n2 true ls le h k = (omega arith, omega arith, longer_bound n n2 ls le (all_short r n ls h))
feed_step c r n r2 n2 false ls le h k = k

run_cons : (c : ℕ) (cs : List ℕ) (b : Bool) → (c == 96) ≡ b → run 96 (c ∷ cs) ≡ cond b (suc (run 96 cs)) zero
run_cons c cs true e = rw e refl
run_cons c cs false e = rw e refl

bounded : (text : List ℕ) → AreBounded (run 96 text) (longest_run text) (pieces text)
bounded [] = (omega arith, omega arith, tt)
bounded (c ∷ cs) =
    feed_step c (run 96 cs) (longest_run cs) (run 96 (c ∷ cs)) (longest_run (c ∷ cs)) (is_lf c) (pieces cs) (omega arith) (bounded cs)
    (rw (run_cons c cs (c == 96) refl) (onto c (run 96 cs) (longest_run cs) (c == 96) (pieces cs) refl (bounded cs)))

enough : (n m : ℕ) (ls : List (List ℕ)) → suc n ≤ m → HasShortRuns (suc n) ls → HasShortRuns m ls
enough n m [] le h = tt
enough n m (l ∷ ls) le h = (omega (arith, h.0), enough n m ls le h.1)

-- lines joined, of which the last isn't blank, are the lines of their text
pub no_crs : (ls : List (List ℕ)) → AllByRecursion IsLine ls → map (drop_end is_cr) ls ≡ ls
no_crs [] h = refl
no_crs (l ∷ ls) h = rw (h.0.1, no_crs ls h.1) refl

pub lines-joined : (l : List ℕ) (ls : List (List ℕ)) → AllByRecursion IsLine (l ∷ ls) → drop_end is_blank (l ∷ ls) ≡ l ∷ ls → lines (joined (l ∷ ls)) ≡ l ∷ ls
lines-joined l ls h e = ap (λ w. map (drop_end is_cr) (without_empty_last w)) (pieces-joined l ls (feeds_of_lines (l ∷ ls) h)) ∙ (ap (map (drop_end is_cr)) (with_last (l ∷ ls) e) ∙ no_crs (l ∷ ls) h)

pub short_pieces : (text : List ℕ) → HasShortRuns (fence_len text) (pieces text)
short_pieces text = enough (longest_run text) (fence_len text) (pieces text) (omega arith) (all_short _ _ _ (bounded text))
