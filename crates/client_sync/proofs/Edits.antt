-- The list of pending edits, when those of one cell change.
use Rattle.std.proofs.Common.{◌≡◌, ℕ, zero, suc, ◌==◌, true, false, if◌then◌else◌, List, [], ◌∷◌, ◌++◌, Option, Some, None, map, refl, sym, ap, subst, ◌∙◌, arith}
use Rattle.std.specs.Prelude.{Contains}
use Rattle.std.proofs.lemmas.Bool.{eqb-true, eq-eqb}
use Rattle.std.proofs.lemmas.Bool.Decides.{nat_tests}
use Rattle.std.proofs.lemmas.List.{map-append}
use Rattle.delta.specs.declared.Step.{Step}
use Rattle.delta.specs.Moves.{composed, transformed}
use Rattle.notebook.specs.Rules.{AreDistinct}
use Rattle.client_sync.specs.Client.{Pending, pending_of, all_moved, moved, without, buffered}
use Rattle.client_sync.specs.Stands.{pending_cell}

-- another's delta moves what is in flight and what is buffered
abbrev pub shifted : List Step → Pending → Pending
shifted x p = record p { flight = transformed false x p.flight; buffer = transformed false (transformed true p.flight x) p.buffer }

abbrev pub shifted_option : List Step → Option Pending → Option Pending
shifted_option x None = None
shifted_option x (Some p) = Some (shifted x p)

abbrev pub with_buffer : List Step → Pending → Pending
with_buffer d p = record p { buffer = composed p.buffer d }

abbrev pub buffer_option : List Step → Option Pending → Option Pending
buffer_option d None = None
buffer_option d (Some p) = Some (with_buffer d p)

pub shifted-same : (j : ℕ) (x : List Step) (ps : List Pending) → pending_of j (all_moved j x ps) ≡ shifted_option x (pending_of j ps)
shifted-same j x [] = refl
shifted-same j x (p ∷ ps) =
    elim (p.cell == j)
    as (λ b. (p.cell == j) ≡ b → (if (if b then shifted x p else p).cell == j then Some (if b then shifted x p else p) else pending_of j (all_moved j x ps)) ≡ shifted_option x (if b then Some p else pending_of j ps)) [
      | true ↦ λ t. ap (λ c. if c then Some (shifted x p) else pending_of j (all_moved j x ps)) t
      | false ↦ λ t. ap (λ c. if c then Some p else pending_of j (all_moved j x ps)) t ∙ shifted-same j x ps
    ]
    refl

pub shifted-other : (j k : ℕ) (x : List Step) (ps : List Pending) → (j == k) ≡ false → pending_of k (all_moved j x ps) ≡ pending_of k ps
shifted-other j k x [] ne = refl
shifted-other j k x (p ∷ ps) ne =
    elim (p.cell == j)
    as (λ b. (p.cell == j) ≡ b → (if (if b then shifted x p else p).cell == k then Some (if b then shifted x p else p) else pending_of k (all_moved j x ps)) ≡ (if p.cell == k then Some p else pending_of k ps)) [
      | true ↦ λ t. let no : (p.cell == k) ≡ false = grind (arith, nat_tests, t, ne) in
          ap (λ c. if c then Some (shifted x p) else pending_of k (all_moved j x ps)) no ∙ (shifted-other j k x ps ne ∙ sym (ap (λ c. if c then Some p else pending_of k ps) no))
      | false ↦ λ t. ap (λ r. if p.cell == k then Some p else r) (shifted-other j k x ps ne)
    ]
    refl

pub buffered-same : (j : ℕ) (d : List Step) (ps : List Pending) → pending_of j (buffered j d ps) ≡ buffer_option d (pending_of j ps)
buffered-same j d [] = refl
buffered-same j d (p ∷ ps) =
    elim (p.cell == j)
    as (λ b. (p.cell == j) ≡ b → (if (if b then with_buffer d p else p).cell == j then Some (if b then with_buffer d p else p) else pending_of j (buffered j d ps)) ≡ buffer_option d (if b then Some p else pending_of j ps)) [
      | true ↦ λ t. ap (λ c. if c then Some (with_buffer d p) else pending_of j (buffered j d ps)) t
      | false ↦ λ t. ap (λ c. if c then Some p else pending_of j (buffered j d ps)) t ∙ buffered-same j d ps
    ]
    refl

pub buffered-other : (j k : ℕ) (d : List Step) (ps : List Pending) → (j == k) ≡ false → pending_of k (buffered j d ps) ≡ pending_of k ps
buffered-other j k d [] ne = refl
buffered-other j k d (p ∷ ps) ne =
    elim (p.cell == j)
    as (λ b. (p.cell == j) ≡ b → (if (if b then with_buffer d p else p).cell == k then Some (if b then with_buffer d p else p) else pending_of k (buffered j d ps)) ≡ (if p.cell == k then Some p else pending_of k ps)) [
      | true ↦ λ t. let no : (p.cell == k) ≡ false = grind (arith, nat_tests, t, ne) in
          ap (λ c. if c then Some (with_buffer d p) else pending_of k (buffered j d ps)) no ∙ (buffered-other j k d ps ne ∙ sym (ap (λ c. if c then Some p else pending_of k ps) no))
      | false ↦ λ t. ap (λ r. if p.cell == k then Some p else r) (buffered-other j k d ps ne)
    ]
    refl

pub without-same : (j : ℕ) (ps : List Pending) → pending_of j (without j ps) ≡ None
without-same j [] = refl
without-same j (p ∷ ps) =
    elim (p.cell == j)
    as (λ b. (p.cell == j) ≡ b → pending_of j (if b then without j ps else p ∷ without j ps) ≡ None)
    [ true ↦ λ t. without-same j ps | false ↦ λ t. ap (λ c. if c then Some p else pending_of j (without j ps)) t ∙ without-same j ps ]
    refl

pub without-other : (j k : ℕ) (ps : List Pending) → (j == k) ≡ false → pending_of k (without j ps) ≡ pending_of k ps
without-other j k [] ne = refl
without-other j k (p ∷ ps) ne =
    elim (p.cell == j)
    as (λ b. (p.cell == j) ≡ b → pending_of k (if b then without j ps else p ∷ without j ps) ≡ (if p.cell == k then Some p else pending_of k ps)) [
      | true ↦ λ t. let no : (p.cell == k) ≡ false = grind (arith, nat_tests, t, ne) in without-other j k ps ne ∙ sym (ap (λ c. if c then Some p else pending_of k ps) no)
      | false ↦ λ t. ap (λ r. if p.cell == k then Some p else r) (without-other j k ps ne)
    ]
    refl

-- one more at the end, for a cell that has none
pub pending-added : (k : ℕ) (ps : List Pending) (q : Pending) → pending_of k ps ≡ None → q.cell ≡ k → pending_of k (ps ++ q ∷ []) ≡ Some q
pending-added k [] q e is = ap (λ b. if b then Some q else None) (eq-eqb q.cell k is)
pending-added k (p ∷ ps) q e is =
    elim (p.cell == k)
    as (λ b. (if b then Some p else pending_of k ps) ≡ None → (if b then Some p else pending_of k (ps ++ q ∷ [])) ≡ Some q)
    [ true ↦ λ h. absurd (cc h) | false ↦ λ h. pending-added k ps q h is ]
    e

-- one more of another cell
pub pending-beside : (k : ℕ) (ps : List Pending) (q : Pending) → (q.cell == k) ≡ false → pending_of k (ps ++ q ∷ []) ≡ pending_of k ps
pending-beside k [] q ne = ap (λ b. if b then Some q else None) ne
pending-beside k (p ∷ ps) q ne = ap (λ r. if p.cell == k then Some p else r) (pending-beside k ps q ne)

-- where the cell has none, nothing changes
pub without-none : (k : ℕ) (ps : List Pending) → pending_of k ps ≡ None → without k ps ≡ ps
without-none k [] e = refl
without-none k (p ∷ ps) e =
    elim (p.cell == k)
    as (λ b. (if b then Some p else pending_of k ps) ≡ None → (if b then without k ps else p ∷ without k ps) ≡ p ∷ ps)
    [ true ↦ λ h. absurd (cc h) | false ↦ λ h. ap (λ qs. p ∷ qs) (without-none k ps h) ]
    e

pub moved-none : (k : ℕ) (x : List Step) (ps : List Pending) → pending_of k ps ≡ None → all_moved k x ps ≡ ps
moved-none k x [] e = refl
moved-none k x (p ∷ ps) e =
    elim (p.cell == k)
    as (λ b. (if b then Some p else pending_of k ps) ≡ None → (if b then shifted x p else p) ∷ all_moved k x ps ≡ p ∷ ps)
    [ true ↦ λ h. absurd (cc h) | false ↦ λ h. ap (λ qs. p ∷ qs) (moved-none k x ps h) ]
    e

pub buffered-none : (k : ℕ) (d : List Step) (ps : List Pending) → pending_of k ps ≡ None → buffered k d ps ≡ ps
buffered-none k d [] e = refl
buffered-none k d (p ∷ ps) e =
    elim (p.cell == k)
    as (λ b. (if b then Some p else pending_of k ps) ≡ None → (if b then with_buffer d p else p) ∷ buffered k d ps ≡ p ∷ ps)
    [ true ↦ λ h. absurd (cc h) | false ↦ λ h. ap (λ qs. p ∷ qs) (buffered-none k d ps h) ]
    e

-- lists that are joined
without-append : (k : ℕ) (xs ys : List Pending) → without k (xs ++ ys) ≡ without k xs ++ without k ys
without-append k [] ys = refl
without-append k (x ∷ xs) ys =
    elim (x.cell == k)
    as (λ b. (if b then without k (xs ++ ys) else x ∷ without k (xs ++ ys)) ≡ (if b then without k xs else x ∷ without k xs) ++ without k ys)
    [ true ↦ without-append k xs ys | false ↦ ap (λ qs. x ∷ qs) (without-append k xs ys) ]

moved-append : (k : ℕ) (x : List Step) (xs ys : List Pending) → all_moved k x (xs ++ ys) ≡ all_moved k x xs ++ all_moved k x ys
moved-append k x [] ys = refl
moved-append k x (p ∷ xs) ys = ap (λ qs. moved k x p ∷ qs) (moved-append k x xs ys)

buffered-append : (k : ℕ) (d : List Step) (xs ys : List Pending) → buffered k d (xs ++ ys) ≡ buffered k d xs ++ buffered k d ys
buffered-append k d [] ys = refl
buffered-append k d (p ∷ xs) ys = ap (λ qs. (if p.cell == k then with_buffer d p else p) ∷ qs) (buffered-append k d xs ys)

-- the only edits of the cell stand between others
pub record StandsAlone (k : ℕ) (front : List Pending) (p : Pending) (back : List Pending) : Type 0 where
  pub number : (p.cell == k) ≡ true
  pub before : pending_of k front ≡ None
  pub behind : pending_of k back ≡ None

pub without-alone : (k : ℕ) (front : List Pending) (p : Pending) (back : List Pending) → StandsAlone k front p back → without k (front ++ p ∷ back) ≡ front ++ back
without-alone k front p back h =
    let here : without k (p ∷ back) ≡ back = ap (λ b. if b then without k back else p ∷ without k back) h.number ∙ without-none k back h.behind in
    without-append k front (p ∷ back) ∙ (ap (λ qs. qs ++ without k (p ∷ back)) (without-none k front h.before) ∙ ap (λ qs. front ++ qs) here)

pub moved-alone : (k : ℕ) (x : List Step) (front : List Pending) (p : Pending) (back : List Pending) → StandsAlone k front p back → all_moved k x (front ++ p ∷ back) ≡ front ++ shifted x p ∷ back
moved-alone k x front p back h =
    let here : all_moved k x (p ∷ back) ≡ shifted x p ∷ back = ap (λ b. (if b then shifted x p else p) ∷ all_moved k x back) h.number ∙ ap (λ qs. shifted x p ∷ qs) (moved-none k x back h.behind) in
    moved-append k x front (p ∷ back) ∙ (ap (λ qs. qs ++ all_moved k x (p ∷ back)) (moved-none k x front h.before) ∙ ap (λ qs. front ++ qs) here)

pub buffered-alone : (k : ℕ) (d : List Step) (front : List Pending) (p : Pending) (back : List Pending) → StandsAlone k front p back → buffered k d (front ++ p ∷ back) ≡ front ++ with_buffer d p ∷ back
buffered-alone k d front p back h =
    let here : buffered k d (p ∷ back) ≡ with_buffer d p ∷ back = ap (λ b. (if b then with_buffer d p else p) ∷ buffered k d back) h.number ∙ ap (λ qs. with_buffer d p ∷ qs) (buffered-none k d back h.behind) in
    buffered-append k d front (p ∷ back) ∙ (ap (λ qs. qs ++ buffered k d (p ∷ back)) (buffered-none k d front h.before) ∙ ap (λ qs. front ++ qs) here)

-- numbers that differ
pub contains-behind : (n x : ℕ) (ns : List ℕ) → Contains ns x → Contains (n ∷ ns) x
contains-behind n x ns h = (suc h.0, omega (arith, h.1), h.2)

contains-last : (ns : List ℕ) (n x : ℕ) → Contains (ns ++ n ∷ []) x → (¬ Contains ns x) → n ≡ x
contains-last [] n x (zero, within, at) h = at
contains-last [] n x (suc k, within, at) h = absurd (omega (arith, within))
contains-last (y ∷ ns) n x (zero, within, at) h = absurd (h (0, omega arith, at))
contains-last (y ∷ ns) n x (suc k, within, at) h = contains-last ns n x (k, omega (arith, within), at) (λ w. h (contains-behind y x ns w))

pub distinct-added : (ns : List ℕ) (n : ℕ) → AreDistinct ns → (¬ Contains ns n) → AreDistinct (ns ++ n ∷ [])
distinct-added [] n d h = (h, tt)
distinct-added (x ∷ ns) n d h =
    (λ w. h (0, omega arith, sym (contains-last ns n x w d.0)), distinct-added ns n d.1 (λ w. h (contains-behind x n ns w)))

contains-either : (p : Pending) (ms ns : List ℕ) (n : ℕ) → Contains (p.cell ∷ ms) n → (Contains ms n → Contains ns n) → Contains (p.cell ∷ ns) n
contains-either p ms ns n (zero, within, at) f = (0, omega arith, at)
contains-either p ms ns n (suc k, within, at) f = contains-behind p.cell n ns (f (k, omega (arith, within), at))

pub contains-rest : (m : ℕ) (ns : List ℕ) (n : ℕ) → (m == n) ≡ false → Contains (m ∷ ns) n → Contains ns n
contains-rest m ns n e (zero, within, at) = absurd (grind (arith, nat_tests, e, at))
contains-rest m ns n e (suc k, within, at) = (k, omega (arith, within), at)

absent-behind : (k : ℕ) (p : Pending) (ps : List Pending) → (p.cell == k) ≡ false → (¬ Contains (map pending_cell ps) k) → ¬ Contains (map pending_cell (p ∷ ps)) k
absent-behind k p ps e h = λ w. h (contains-rest p.cell (map pending_cell ps) k e w)

absent-number : (k : ℕ) (ps : List Pending) → pending_of k ps ≡ None → ¬ Contains (map pending_cell ps) k
absent-number k [] e = λ w. absurd (omega (arith, w.1))
absent-number k (p ∷ ps) e =
    elim (p.cell == k)
    as (λ b. (p.cell == k) ≡ b → (if b then Some p else pending_of k ps) ≡ None → ¬ Contains (map pending_cell (p ∷ ps)) k)
    [ true ↦ λ t h. absurd (cc h) | false ↦ λ t h. absent-behind k p ps t (absent-number k ps h) ]
    refl
    e

-- the cells of the pending edits go on differing
pub apart-added : (ps : List Pending) (q : Pending) → AreDistinct (map pending_cell ps) → pending_of q.cell ps ≡ None → AreDistinct (map pending_cell (ps ++ q ∷ []))
apart-added ps q d none = subst AreDistinct (sym (map-append pending_cell ps (q ∷ []))) (distinct-added (map pending_cell ps) q.cell d (absent-number q.cell ps none))

pub cells-buffered : (k : ℕ) (d : List Step) (ps : List Pending) → map pending_cell (buffered k d ps) ≡ map pending_cell ps
cells-buffered k d [] = refl
cells-buffered k d (p ∷ ps) =
    elim (p.cell == k)
    as (λ b. (if b then with_buffer d p else p).cell ∷ map pending_cell (buffered k d ps) ≡ p.cell ∷ map pending_cell ps)
    [ true ↦ ap (λ ns. p.cell ∷ ns) (cells-buffered k d ps) | false ↦ ap (λ ns. p.cell ∷ ns) (cells-buffered k d ps) ]

pub cells-moved : (k : ℕ) (x : List Step) (ps : List Pending) → map pending_cell (all_moved k x ps) ≡ map pending_cell ps
cells-moved k x [] = refl
cells-moved k x (p ∷ ps) =
    elim (p.cell == k)
    as (λ b. (if b then shifted x p else p).cell ∷ map pending_cell (all_moved k x ps) ≡ p.cell ∷ map pending_cell ps)
    [ true ↦ ap (λ ns. p.cell ∷ ns) (cells-moved k x ps) | false ↦ ap (λ ns. p.cell ∷ ns) (cells-moved k x ps) ]

contains-without : (k : ℕ) (ps : List Pending) (n : ℕ) → Contains (map pending_cell (without k ps)) n → Contains (map pending_cell ps) n
contains-without k [] n w = w
contains-without k (p ∷ ps) n w =
    elim (p.cell == k)
    as (λ b. Contains (map pending_cell (if b then without k ps else p ∷ without k ps)) n → Contains (map pending_cell (p ∷ ps)) n)
    [ true ↦ λ h. contains-behind p.cell n (map pending_cell ps) (contains-without k ps n h) | false ↦ λ h. contains-either p (map pending_cell (without k ps)) (map pending_cell ps) n h (contains-without k ps n) ]
    w

pub apart-without : (k : ℕ) (ps : List Pending) → AreDistinct (map pending_cell ps) → AreDistinct (map pending_cell (without k ps))
apart-without k [] d = tt
apart-without k (p ∷ ps) d =
    elim (p.cell == k)
    as (λ b. AreDistinct (map pending_cell (if b then without k ps else p ∷ without k ps)))
    [ true ↦ apart-without k ps d.1 | false ↦ (λ w. d.0 (contains-without k ps p.cell w), apart-without k ps d.1) ]

-- of pending edits of different cells, none after those of a cell is of it
none-of : (k : ℕ) (ps : List Pending) → (¬ Contains (map pending_cell ps) k) → pending_of k ps ≡ None
none-of k [] h = refl
none-of k (p ∷ ps) h =
    elim (p.cell == k)
    as (λ b. (p.cell == k) ≡ b → (if b then Some p else pending_of k ps) ≡ None)
    [ true ↦ λ t. absurd (h (0, omega arith, eqb-true p.cell k t)) | false ↦ λ t. none-of k ps (λ w. h (contains-behind p.cell k (map pending_cell ps) w)) ]
    refl

pub none-behind : (k : ℕ) (front : List Pending) (p : Pending) (back : List Pending) → p.cell ≡ k → AreDistinct (map pending_cell (front ++ p ∷ back)) → pending_of k back ≡ None
none-behind k [] p back e d = none-of k back (subst (λ i. ¬ Contains (map pending_cell back) i) e d.0)
none-behind k (q ∷ front) p back e d = none-behind k front p back e d.1
