-- The list of cells and their revisions.
use Rattle.std.proofs.Common.{◌≡◌, ℕ, zero, suc, ◌+◌, ◌<◌, ◌≤◌, ◌==◌, Bool, true, false, if◌then◌else◌, List, [], ◌∷◌, ◌++◌, Option, Some, None, length, take, drop, set, get_or, map, refl, sym, ap, subst, ◌∙◌, arith, add-one, eqb-true}
use Rattle.std.proofs.lemmas.List.{take_all, drop_all, append-nil}
use Rattle.notebook.specs.declared.parts.Cell.{Cell}
use Rattle.notebook.specs.Book.{cells, found}
use Rattle.notebook.specs.Rules.{AreDistinct}
use Rattle.session_ops.specs.State.{State, revision}
use Rattle.session_ops.specs.Snapshot.{HasRevisions, revision_if, listed_revision, listed_cell}
use Rattle.client_sync.specs.Revisions.{raised}

write-at : {X : Type 0} (f : X → X) (i : ℕ) (xs : List X) (d : X) → i < length xs → set (map f (take i xs) ++ drop i xs) i (f (get_or xs i d)) ≡ map f (take (suc i) xs) ++ drop (suc i) xs
write-at f i [] d lt = absurd (omega arith)
write-at f zero (x ∷ xs) d lt = refl
write-at f (suc i) (x ∷ xs) d lt = ap (λ w. f x ∷ w) (write-at f i xs d (omega arith))

read-at : {X : Type 0} (f : X → X) (i : ℕ) (xs : List X) (d : X) → i < length xs → get_or (map f (take i xs) ++ drop i xs) i d ≡ get_or xs i d
read-at f i [] d lt = absurd (omega arith)
read-at f zero (x ∷ xs) d lt = refl
read-at f (suc i) (x ∷ xs) d lt = read-at f i xs d (omega arith)

-- one turn: the elements before the place are mapped, and the others are as they were
pub map-turn : {X : Type 0} (f : X → X) (i : ℕ) (xs ys : List X) (d y : X) → i < length xs → ys ≡ map f (take i xs) ++ drop i xs → y ≡ f (get_or ys i d) → set ys i y ≡ map f (take (i + 1) xs) ++ drop (i + 1) xs
map-turn f i xs ys d y lt e h =
    let g : get_or ys i d ≡ get_or xs i d = ap (λ w. get_or w i d) e ∙ read-at f i xs d lt in
    rw (h, g, e, add-one) (write-at f i xs d lt)

pub map-end : {X : Type 0} (f : X → X) (i : ℕ) (xs ys : List X) → length xs ≤ i → ys ≡ map f (take i xs) ++ drop i xs → ys ≡ map f xs
map-end f i xs ys past e = rw (e, take_all i xs past, drop_all i xs past) (append-nil (map f xs))

-- a cell's revision is raised: the cells are the same, and so are the others' revisions
raised-cells : (k rev : ℕ) (rs : List (ℕ × ℕ)) → map listed_cell (raised k rev rs) ≡ map listed_cell rs
raised-cells k rev [] = refl
raised-cells k rev (r ∷ rs) = ap (λ cs. r.0 ∷ cs) (raised-cells k rev rs)

abbrev raised_option : Bool → ℕ → Option ℕ → Option ℕ
raised_option here rev None = None
raised_option here rev (Some known) = Some (if here then rev else known)

raised-listed : (k rev j : ℕ) (rs : List (ℕ × ℕ)) → listed_revision j (raised k rev rs) ≡ raised_option (j == k) rev (listed_revision j rs)
raised-listed k rev j [] = refl
raised-listed k rev j (r ∷ rs) =
    elim (r.0 == j)
    as (λ b. (r.0 == j) ≡ b → (if b then Some (if r.0 == k then rev else r.1) else listed_revision j (raised k rev rs)) ≡ raised_option (j == k) rev (if b then Some r.1 else listed_revision j rs))
    [ true ↦ λ t. ap (λ i. Some (if i == k then rev else r.1)) (eqb-true r.0 j t) | false ↦ λ t. raised-listed k rev j rs ]
    refl

-- two cells of one number, or none
abbrev pub SameNumber : Option Cell → Option Cell → Type 0
SameNumber None None = Unit {0}
SameNumber None (Some d) = ⊥
SameNumber (Some c) None = ⊥
SameNumber (Some c) (Some d) = c.id ≡ d.id

raised-if : (s t : State) (k rev j : ℕ) (o o' : Option Cell) → ((i : ℕ) → revision t i ≡ (if i == k then rev else revision s i)) → ((c : Cell) → o ≡ Some c → c.id ≡ j) → SameNumber o o' → raised_option (j == k) rev (revision_if s o) ≡ revision_if t o'
raised-if s t k rev j None None h is same = refl
raised-if s t k rev j None (Some d) h is same = absurd same
raised-if s t k rev j (Some c) None h is same = absurd same
raised-if s t k rev j (Some c) (Some d) h is same =
    ap (λ i. Some (if i == k then rev else revision s c.id)) (sym (is c refl)) ∙ (ap (λ r. Some r) (sym (h c.id)) ∙ ap (λ i. Some (revision t i)) same)

pub revisions-raised : (s t : State) (k rev : ℕ) (rs : List (ℕ × ℕ)) → HasRevisions s rs → ((i : ℕ) → revision t i ≡ (if i == k then rev else revision s i)) → ((j : ℕ) (c : Cell) → found j (cells s.book) ≡ Some c → c.id ≡ j)
    → ((j : ℕ) → SameNumber (found j (cells s.book)) (found j (cells t.book))) → HasRevisions t (raised k rev rs)
revisions-raised s t k rev rs is h number same = record {
  apart = subst AreDistinct (sym (raised-cells k rev rs)) is.apart;
  each = λ j. raised-listed k rev j rs ∙ (ap (raised_option (j == k) rev) (is.each j) ∙ raised-if s t k rev j (found j (cells s.book)) (found j (cells t.book)) h (number j) (same j));
}
