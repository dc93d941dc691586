-- Marks that follow a notebook: which cell has which mark then.
use Rattle.std.proofs.Common.{◌≡◌, ℕ, ◌==◌, ◌&&◌, ◌||◌, Bool, true, false, cond, List, [], ◌∷◌, ◌++◌, Option, Some, None, map, filter, find, refl, sym, ap, subst, ◌∙◌, eqb-true}
use Rattle.std.specs.Prelude.{MatchOption, is_some, if◌then◌else◌, unwrap_or, flat_map}
use Rattle.std.specs.Option.{option_map}
use Rattle.std.specs.List.{list_any}
use Rattle.std.proofs.lemmas.List.Folds.{list_any-append}
use Rattle.notebook.specs.declared.parts.Cell.{Cell}
use Rattle.notebook.specs.declared.parts.Section.{Section}
use Rattle.notebook.specs.declared.parts.Parts.{Parts}
use Rattle.notebook.specs.declared.states.Lane.TheVariants.{Main}
use Rattle.notebook.specs.Rules.{cell_number}
use Rattle.notebook.specs.Flow.{code_cells, has_code, is_cell, is_code, is_code_numbered, section_lane}
use Rattle.freshness.specs.declared.mark.Mark.{Mark}
use Rattle.freshness.specs.Marked.{Marked, IsMarked, is_live, is_mark_of, mark_of, new_mark}
use Rattle.freshness.specs.Calls.{IsBroughtTo, IsNew, mark_in}
use Rattle.freshness.specs.Places.{IsFirst}
use Rattle.freshness.proofs.Lists.{first-found}
use Rattle.freshness.specs.Following.{code_numbers, followed, section_numbers, with_mark, with_marks}

abbrev is_number : ℕ → ℕ → Bool
is_number k j = j == k

-- a cell that has a mark gets none
place-known : (cell : ℕ) (ms : List Mark) (at : ℕ) → IsFirst (is_mark_of cell) ms at → ms ≡ with_mark cell ms
place-known cell ms at t = sym (ap (λ o. if is_some o then ms else ms ++ new_mark cell ∷ []) (first-found (is_mark_of cell) ms at t))

pub mark-known : (cell : ℕ) (ms : List Mark) (o : Option ℕ) → MatchOption o (find (is_mark_of cell) ms ≡ None) (IsFirst (is_mark_of cell) ms) → is_some o ≡ true → ms ≡ with_mark cell ms
mark-known cell ms None t e = absurd (cc e)
mark-known cell ms (Some at) t e = place-known cell ms at t

-- the first of two marks
abbrev either : Option Mark → Option Mark → Option Mark
either None other = other
either (Some m) other = Some m

abbrev new_if : Bool → ℕ → Option Mark
new_if b k = if b then Some (new_mark k) else None

find-end : (k : ℕ) (ms : List Mark) (m : Mark) → find (is_mark_of k) (ms ++ m ∷ []) ≡ either (find (is_mark_of k) ms) (cond (is_mark_of k m) (Some m) None)
find-end k [] m = refl
find-end k (x ∷ ms) m =
    elim (is_mark_of k x)
    as (λ b. cond b (Some x) (find (is_mark_of k) (ms ++ m ∷ [])) ≡ either (cond b (Some x) (find (is_mark_of k) ms)) (cond (is_mark_of k m) (Some m) None)) [
      | true ↦ refl
      | false ↦ find-end k ms m
    ]

new-here : (j k : ℕ) → cond (j == k) (Some (new_mark j)) None ≡ new_if (j == k) k
new-here j k =
    elim (j == k)
    as (λ b. (j == k) ≡ b → cond b (Some (new_mark j)) None ≡ new_if b k) [
      | true ↦ λ t. ap (λ i. Some (new_mark i)) (eqb-true j k t)
      | false ↦ λ t. refl
    ]
    refl

either-none : (o : Option Mark) → o ≡ either o None
either-none None = refl
either-none (Some m) = refl

known-first : (o other : Option Mark) → is_some o ≡ true → o ≡ either o other
known-first None other e = absurd (cc e)
known-first (Some m) other e = refl

with-mark-has : (j k : ℕ) (ms : List Mark) → is_some (find (is_mark_of j) ms) ≡ true → find (is_mark_of k) ms ≡ either (find (is_mark_of k) ms) (new_if (j == k) k)
with-mark-has j k ms e =
    elim (j == k)
    as (λ b. (j == k) ≡ b → find (is_mark_of k) ms ≡ either (find (is_mark_of k) ms) (new_if b k)) [
      | true ↦ λ t.
          let there : is_some (find (is_mark_of k) ms) ≡ true = subst (λ i. is_some (find (is_mark_of i) ms) ≡ true) (eqb-true j k t) e in
          known-first (find (is_mark_of k) ms) (new_if true k) there
      | false ↦ λ t. either-none (find (is_mark_of k) ms)
    ]
    refl

pub with-mark-at : (j k : ℕ) (ms : List Mark) → find (is_mark_of k) (with_mark j ms) ≡ either (find (is_mark_of k) ms) (new_if (j == k) k)
with-mark-at j k ms =
    elim (is_some (find (is_mark_of j) ms))
    as (λ b. is_some (find (is_mark_of j) ms) ≡ b → find (is_mark_of k) (if b then ms else ms ++ new_mark j ∷ []) ≡ either (find (is_mark_of k) ms) (new_if (j == k) k)) [
      | true ↦ λ t. with-mark-has j k ms t
      | false ↦ λ t. find-end k ms (new_mark j) ∙ ap (either (find (is_mark_of k) ms)) (new-here j k)
    ]
    refl

either-new : (o : Option Mark) (a b : Bool) (k : ℕ) → either (either o (new_if a k)) (new_if b k) ≡ either o (new_if (a || b) k)
either-new None true b k = refl
either-new None false b k = refl
either-new (Some m) a b k = refl

pub with-marks-at : (ks : List ℕ) (k : ℕ) (ms : List Mark) → find (is_mark_of k) (with_marks ks ms) ≡ either (find (is_mark_of k) ms) (new_if (list_any (is_number k) ks) k)
with-marks-at [] k ms = either-none (find (is_mark_of k) ms)
with-marks-at (j ∷ ks) k ms =
    with-marks-at ks k (with_mark j ms)
    ∙ (ap (λ o. either o (new_if (list_any (is_number k) ks) k)) (with-mark-at j k ms)
    ∙ either-new (find (is_mark_of k) ms) (j == k) (list_any (is_number k) ks) k)

-- marks that are kept by their cell's number
kept-here : (q : ℕ → Bool) (k : ℕ) (x : Mark) (ms : List Mark) → (x.cell == k) ≡ true → find (is_mark_of k) (filter (λ m. q m.cell) ms) ≡ (if q k then find (is_mark_of k) ms else None) → find (is_mark_of k) (filter (λ m. q m.cell) (x ∷ ms)) ≡ (if q k then Some x else None)
kept-here q k x ms own rest =
    let same : q x.cell ≡ q k = ap q (eqb-true x.cell k own) in
    ap (λ b. find (is_mark_of k) (cond b (x ∷ filter (λ m. q m.cell) ms) (filter (λ m. q m.cell) ms))) same
    ∙ elim (q k)
    as (λ b. q k ≡ b → find (is_mark_of k) (cond b (x ∷ filter (λ m. q m.cell) ms) (filter (λ m. q m.cell) ms)) ≡ (if b then Some x else None)) [
      | true ↦ λ t. ap (λ b. cond b (Some x) (find (is_mark_of k) (filter (λ m. q m.cell) ms))) own
      | false ↦ λ t. rest ∙ ap (λ b. if b then find (is_mark_of k) ms else None) t
    ]
    refl

kept-past : (q : ℕ → Bool) (k : ℕ) (x : Mark) (ms : List Mark) → (x.cell == k) ≡ false → find (is_mark_of k) (filter (λ m. q m.cell) (x ∷ ms)) ≡ find (is_mark_of k) (filter (λ m. q m.cell) ms)
kept-past q k x ms other =
    elim (q x.cell)
    as (λ b. find (is_mark_of k) (cond b (x ∷ filter (λ m. q m.cell) ms) (filter (λ m. q m.cell) ms)) ≡ find (is_mark_of k) (filter (λ m. q m.cell) ms)) [
      | true ↦ ap (λ b. cond b (Some x) (find (is_mark_of k) (filter (λ m. q m.cell) ms))) other
      | false ↦ refl
    ]

pub kept-at : (q : ℕ → Bool) (k : ℕ) (ms : List Mark) → find (is_mark_of k) (filter (λ m. q m.cell) ms) ≡ (if q k then find (is_mark_of k) ms else None)
kept-at q k [] = elim (q k) as (λ b. ◌≡◌ {A = Option Mark} None (if b then None else None)) [ true ↦ refl | false ↦ refl ]
kept-at q k (x ∷ ms) =
    elim (x.cell == k)
    as (λ b. (x.cell == k) ≡ b → find (is_mark_of k) (filter (λ m. q m.cell) (x ∷ ms)) ≡ (if q k then cond b (Some x) (find (is_mark_of k) ms) else None)) [
      | true ↦ λ t. kept-here q k x ms t (kept-at q k ms)
      | false ↦ λ t. kept-past q k x ms t ∙ kept-at q k ms
    ]
    refl

-- the live setup and code cells are those of the numbers
code-any : (k : ℕ) (cs : List Cell) → list_any (is_number k) (map cell_number (code_cells cs)) ≡ list_any (is_code_numbered k) cs
code-any k [] = refl
code-any k (c ∷ cs) =
    elim (is_code c)
    as (λ b. list_any (is_number k) (map cell_number (cond b (c ∷ code_cells cs) (code_cells cs))) ≡ ((b && is_cell k c) || list_any (is_code_numbered k) cs)) [
      | true ↦ ap (λ b. is_cell k c || b) (code-any k cs)
      | false ↦ code-any k cs
    ]

sections-any : (k : ℕ) (ss : List Section) → list_any (is_number k) (flat_map section_numbers ss) ≡ list_any (has_code k) ss
sections-any k [] = refl
sections-any k (s ∷ ss) =
    list_any-append (is_number k) (section_numbers s) (flat_map section_numbers ss)
    ∙ (ap (λ b. b || list_any (is_number k) (flat_map section_numbers ss)) (code-any k s.cells)
    ∙ ap (λ b. has_code k s || b) (sections-any k ss))

found-any : {X Y : Type 0} (p : X → Bool) (f : X → Y) (xs : List X) → is_some (option_map f (find p xs)) ≡ list_any p xs
found-any p f [] = refl
found-any p f (x ∷ xs) =
    elim (p x)
    as (λ b. is_some (option_map f (cond b (Some x) (find p xs))) ≡ (b || list_any p xs)) [
      | true ↦ refl
      | false ↦ found-any p f xs
    ]

pub live-is : (n : Parts) (k : ℕ) → is_live n k ≡ list_any (is_number k) (code_numbers n)
live-is n k =
    elim (n.setup.id == k)
    as (λ b. is_some (if b then Some Main else option_map section_lane (find (has_code k) n.sections)) ≡ (b || list_any (is_number k) (flat_map section_numbers n.sections))) [
      | true ↦ refl
      | false ↦ found-any (has_code k) section_lane n.sections ∙ sym (sections-any k n.sections)
    ]

-- all together
known-or-new : (b : Bool) (o : Option Mark) (k : ℕ) → (if b then either o (new_if b k) else None) ≡ (if b then Some (unwrap_or o (new_mark k)) else None)
known-or-new true None k = refl
known-or-new true (Some m) k = refl
known-or-new false o k = refl

pub followed-at : (n : Parts) (ms : List Mark) (k : ℕ) → find (is_mark_of k) (followed n ms) ≡ mark_in n k (unwrap_or (find (is_mark_of k) ms) (new_mark k))
followed-at n ms k =
    kept-at (is_live n) k (with_marks (code_numbers n) ms)
    ∙ (ap (λ o. if is_live n k then o else None) (with-marks-at (code_numbers n) k ms)
    ∙ (ap (λ b. if is_live n k then either (find (is_mark_of k) ms) (new_if b k) else None) (sym (live-is n k))
    ∙ known-or-new (is_live n k) (find (is_mark_of k) ms) k))

some-in : (n : Parts) (k : ℕ) (m : Mark) → is_some (mark_in n k m) ≡ is_live n k
some-in n k m = elim (is_live n k) as (λ b. is_some (if b then Some m else None) ≡ b) [ true ↦ refl | false ↦ refl ]

-- a notebook's new marks
pub made-new : (n : Parts) (m : Marked) → m.book ≡ n → m.marks ≡ followed n [] → IsNew n m
made-new n m book marks = record { book = book; marks = λ k. ap (find (is_mark_of k)) marks ∙ followed-at n [] k }

pub new-marked : (n : Parts) (m : Marked) → IsNew n m → IsMarked m
new-marked n m t = record { each = λ k. ap is_some (t.marks k) ∙ (some-in n k (new_mark k) ∙ ap (λ b. is_live b k) (sym t.book)) }

-- marks brought to a notebook
pub made-brought : (n : Parts) (old new : Marked) → new.book ≡ n → new.marks ≡ followed n old.marks → IsBroughtTo n old new
made-brought n old new book marks = record { book = book; marks = λ k. ap (find (is_mark_of k)) marks ∙ followed-at n old.marks k }

pub brought-marked : (n : Parts) (old new : Marked) → IsBroughtTo n old new → IsMarked new
brought-marked n old new t = record { each = λ k. ap is_some (t.marks k) ∙ (some-in n k (unwrap_or (mark_of old k) (new_mark k)) ∙ ap (λ b. is_live b k) (sym t.book)) }
