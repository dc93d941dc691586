-- The logs of a notebook's cells, one after the other.
use Rattle.std.proofs.Common.{◌≡◌, ℕ, ◌+◌, ◌-◌, ◌<◌, ◌≤◌, List, [], ◌∷◌, ◌++◌, length, take, map, zero, suc, refl, sym, ap, subst, ◌∙◌, arith}
use Rattle.std.proofs.Common.{set, get_or}
use Rattle.std.specs.List.{AllByRecursion, flat_map}
use Rattle.std.proofs.lemmas.List.{take_more, append-nil, length-append}
use Rattle.std.proofs.lemmas.List.Concat.{flat_map-append}
use Rattle.notebook.specs.declared.parts.Cell.{Cell}
use Rattle.notebook.specs.declared.parts.Section.{Section}
use Rattle.notebook.specs.Book.{cells_of}
use Rattle.session_ops.proofs.Lists.{all-front, all-back}
use Rattle.session_ops.specs.State.{State, revision}
use Rattle.session_core.specs.Logs.{IsCellLog, LineUp, ArePast, log_cell, with_revision}
use Rattle.session_core.specs.declared.logs.CellLog.{CellLog}

take-front : {X : Type 0} (xs ys : List X) → take (length xs) (xs ++ ys) ≡ xs
take-front [] ys = refl
take-front (x ∷ xs) ys = ap (λ zs. x ∷ zs) (take-front xs ys)

-- what was put at the end and taken off again leaves the list
pub popped : {X : Type 0} (xs ys zs : List X) (x : X) (n : ℕ) → ys ≡ xs ++ x ∷ [] → length ys ≡ n → zs ≡ take (n - 1) ys → zs ≡ xs
popped xs ys zs x n put len cut =
    let all : length ys ≡ length xs + 1 = ap length put ∙ length-append xs (x ∷ []) in
    let less : n - 1 ≡ length xs = omega (arith, len, all) in
    cut ∙ (ap (λ k. take k ys) less ∙ (ap (take (length xs)) put ∙ take-front xs (x ∷ [])))

-- one log more
pub logs-more : (s : State) (cs : List Cell) (ls : List CellLog) (c : Cell) (l : CellLog) → LineUp s cs ls → IsCellLog s c l → LineUp s (cs ++ c ∷ []) (ls ++ l ∷ [])
logs-more s [] [] c l h k = (k, tt)
logs-more s [] (x ∷ ls) c l h k = absurd h
logs-more s (x ∷ cs) [] c l h k = absurd h
logs-more s (x ∷ cs) (y ∷ ls) c l h k = (h.0, logs-more s cs ls c l h.1 k)

-- what all are, the one at a place is
pub all-at : {X : Type 0} (P : X → Type 0) (xs : List X) (i : ℕ) (x : X) → AllByRecursion P xs → i < length xs → x ≡ get_or xs i x → P x
all-at P [] i x h lt e = absurd (omega (arith, lt))
all-at P (y ∷ ys) zero x h lt e = subst P (sym e) h.0
all-at P (y ∷ ys) (suc i) x h lt e = all-at P ys i x h.1 (omega (arith, lt)) e

pub take-next : {X : Type 0} (xs : List X) (i : ℕ) (x : X) → i < length xs → x ≡ get_or xs i x → take (i + 1) xs ≡ take i xs ++ x ∷ []
take-next xs i x lt e = take_more xs i x lt ∙ ap (λ y. take i xs ++ y ∷ []) (sym e)

-- the cells of the sections up to one more
pub flat-next : (ss : List Section) (i : ℕ) (s : Section) → i < length ss → s ≡ get_or ss i s → flat_map cells_of (take (i + 1) ss) ≡ flat_map cells_of (take i ss) ++ s.cells
flat-next ss i s lt e =
    ap (flat_map cells_of) (take-next ss i s lt e)
    ∙ (flat_map-append cells_of (take i ss) (s ∷ []) ∙ ap (λ cs. flat_map cells_of (take i ss) ++ cs) (append-nil s.cells))

pub all-in-section : (P : Cell → Type 0) (ss : List Section) (i : ℕ) (s : Section) → AllByRecursion P (flat_map cells_of ss) → i < length ss → s ≡ get_or ss i s → AllByRecursion P s.cells
all-in-section P [] i s h lt e = absurd (omega (arith, lt))
all-in-section P (x ∷ ss) zero s h lt e = subst (λ t. AllByRecursion P t.cells) (sym e) (all-front P x.cells (flat_map cells_of ss) h)
all-in-section P (x ∷ ss) (suc i) s h lt e = all-in-section P ss i s (all-back P x.cells (flat_map cells_of ss) h) (omega (arith, lt)) e

-- another log of the same cell in its place
pub cells-set : (ls : List CellLog) (n : ℕ) (l l' : CellLog) → n < length ls → l ≡ get_or ls n l → l'.cell ≡ l.cell → map log_cell (set ls n l') ≡ map log_cell ls
cells-set [] n l l' lt e k = absurd (omega (arith, lt))
cells-set (x ∷ ls) zero l l' lt e k = ap (λ n. n ∷ map log_cell ls) (k ∙ ap log_cell e)
cells-set (x ∷ ls) (suc n) l l' lt e k = ap (λ ns. x.cell ∷ ns) (cells-set ls n l l' (omega (arith, lt)) e k)

-- the log at a place where those before it are so and the others so, and another one in its place
pub past-at : (P Q : CellLog → Type 0) (n : ℕ) (ls : List CellLog) (l : CellLog) → ArePast P Q n ls → n < length ls → l ≡ get_or ls n l → Q l
past-at P Q n [] l h lt e = absurd (omega (arith, lt))
past-at P Q zero (x ∷ ls) l h lt e = subst Q (sym e) h.0
past-at P Q (suc n) (x ∷ ls) l h lt e = past-at P Q n ls l h.1 (omega (arith, lt)) e

pub past-forth : (P Q : CellLog → Type 0) (n : ℕ) (ls : List CellLog) (l' : CellLog) → ArePast P Q n ls → n < length ls → P l' → ArePast P Q (suc n) (set ls n l')
past-forth P Q n [] l' h lt k = absurd (omega (arith, lt))
past-forth P Q zero (x ∷ ls) l' h lt k = (k, h.1)
past-forth P Q (suc n) (x ∷ ls) l' h lt k = (h.0, past-forth P Q n ls l' h.1 (omega (arith, lt)) k)

pub past-stay : (P Q : CellLog → Type 0) (n : ℕ) (ls : List CellLog) (l' : CellLog) → ArePast P Q n ls → n < length ls → Q l' → ArePast P Q n (set ls n l')
past-stay P Q n [] l' h lt k = absurd (omega (arith, lt))
past-stay P Q zero (x ∷ ls) l' h lt k = (k, h.1)
past-stay P Q (suc n) (x ∷ ls) l' h lt k = (h.0, past-stay P Q n ls l' h.1 (omega (arith, lt)) k)

-- the last of those before
pub past-last : (P Q : CellLog → Type 0) (n : ℕ) (ls : List CellLog) (l : CellLog) → ArePast P Q (suc n) ls → n < length ls → l ≡ get_or ls n l → P l
past-last P Q n [] l h lt e = absurd (omega (arith, lt))
past-last P Q zero (x ∷ ls) l h lt e = subst P (sym e) h.0
past-last P Q (suc n) (x ∷ ls) l h lt e = past-last P Q n ls l h.1 (omega (arith, lt)) e

pub past-back : (P Q : CellLog → Type 0) (n : ℕ) (ls : List CellLog) (l' : CellLog) → ArePast P Q (suc n) ls → n < length ls → Q l' → ArePast P Q n (set ls n l')
past-back P Q n [] l' h lt k = absurd (omega (arith, lt))
past-back P Q zero (x ∷ ls) l' h lt k = (k, h.1)
past-back P Q (suc n) (x ∷ ls) l' h lt k = (h.0, past-back P Q n ls l' h.1 (omega (arith, lt)) k)

-- all of them
pub past-all : (P Q : CellLog → Type 0) (n : ℕ) (ls : List CellLog) → ArePast P Q n ls → length ls ≤ n → AllByRecursion P ls
past-all P Q n [] h le = tt
past-all P Q zero (l ∷ ls) h le = absurd (omega (arith, le))
past-all P Q (suc n) (l ∷ ls) h le = (h.0, past-all P Q n ls h.1 (omega (arith, le)))

-- the revisions up to one more
pub revisions-next : (s : State) (ls : List CellLog) (i : ℕ) (l : CellLog) (r : ℕ) → i < length ls → l ≡ get_or ls i l → r ≡ revision s l.cell → map (with_revision s) (map log_cell (take (i + 1) ls)) ≡ map (with_revision s) (map log_cell (take i ls)) ++ (l.cell, r) ∷ []
revisions-next s [] i l r lt e f = absurd (omega (arith, lt))
revisions-next s (x ∷ ls) zero l r lt e f =
    let same : x.cell ≡ l.cell = ap log_cell (sym e) in
    rw (same, f) refl
revisions-next s (x ∷ ls) (suc i) l r lt e f =
    let one : suc i + 1 ≡ suc (i + 1) = omega arith in
    rw one (ap (λ rs. (x.cell, revision s x.cell) ∷ rs) (revisions-next s ls i l r (omega (arith, lt)) e f))
