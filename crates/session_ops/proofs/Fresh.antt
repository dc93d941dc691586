-- Of a cell that is yet to come nothing is noted, and each cell keeps the source with which it began.
use Rattle.std.proofs.Common.{◌≡◌, ℕ, ◌<◌, ◌≤◌, ◌==◌, Bool, true, false, if◌then◌else◌, List, [], ◌∷◌, ◌++◌, refl, ap, ◌∙◌, arith, eq-eqb}
use Rattle.std.specs.Prelude.{◌&&◌, max}
use Rattle.std.specs.List.{AllByRecursion}
use Rattle.std.proofs.lemmas.Bool.Decides.{nat_tests}
use Rattle.session_ops.specs.State.{State, Began, Taken, Known, first_source, taken_by, floor}
use Rattle.session_ops.specs.Orderly.{IsOrderly, IsBeganBelow, IsTakenBelow, IsKnownBelow, has_begun}

taken-none : (next cell : ℕ) (ts : List Taken) → next ≤ cell → AllByRecursion (IsTakenBelow next) ts → taken_by cell ts ≡ []
taken-none next cell [] l h = refl
taken-none next cell (t ∷ ts) l h =
    let below : t.cell < next = h.0 in
    let other : (t.cell == cell) ≡ false = grind (arith, nat_tests, below, l) in
    ap (λ b. if b then t.delta ∷ taken_by cell ts else taken_by cell ts) other ∙ taken-none next cell ts l h.1

and-none : (a : Bool) → (a && false) ≡ false
and-none true = refl
and-none false = refl

floor-none : (next client cell : ℕ) (ks : List Known) → next ≤ cell → AllByRecursion (IsKnownBelow next) ks → floor client cell ks ≡ 0
floor-none next client cell [] l h = refl
floor-none next client cell (k ∷ ks) l h =
    let below : k.cell < next = h.0 in
    let other : (k.cell == cell) ≡ false = grind (arith, nat_tests, below, l) in
    let both : ((k.client == client) && (k.cell == cell)) ≡ false = ap (λ b. (k.client == client) && b) other ∙ and-none (k.client == client) in
    ap (λ b. if b then max k.rev (floor client cell ks) else floor client cell ks) both ∙ floor-none next client cell ks l h.1

-- a cell that begins begins with its source
begins-none : (next cell : ℕ) (bs more : List Began) → next ≤ cell → AllByRecursion (IsBeganBelow next) bs → first_source cell (bs ++ more) ≡ first_source cell more
begins-none next cell [] more l h = refl
begins-none next cell (b ∷ bs) more l h =
    let below : b.cell < next = h.0 in
    let other : (b.cell == cell) ≡ false = grind (arith, nat_tests, below, l) in
    ap (λ t. if t then b.source else first_source cell (bs ++ more)) other ∙ begins-none next cell bs more l h.1

-- a new cell has taken no delta, nobody knows more than its first revision, and it begins with its source
pub fresh-taken : (s : State) (cell : ℕ) → IsOrderly s → s.book.next_cell ≤ cell → taken_by cell s.taken ≡ []
fresh-taken s cell h l = taken-none s.book.next_cell cell s.taken l h.taken

pub fresh-floor : (s : State) (client cell : ℕ) → IsOrderly s → s.book.next_cell ≤ cell → floor client cell s.known ≡ 0
fresh-floor s client cell h l = floor-none s.book.next_cell client cell s.known l h.known

pub fresh-source : (s : State) (cell : ℕ) (source : List ℕ) → IsOrderly s → s.book.next_cell ≤ cell → first_source cell (s.began ++ record { cell = cell; source = source } ∷ []) ≡ source
fresh-source s cell source h l =
    begins-none s.book.next_cell cell s.began (record { cell = cell; source = source } ∷ []) l h.began
    ∙ ap (λ t. if t then source else []) (eq-eqb cell cell refl)

-- a cell that has begun keeps its first source
pub kept-source : (cell : ℕ) (bs more : List Began) → has_begun cell bs ≡ true → first_source cell (bs ++ more) ≡ first_source cell bs
kept-source cell [] more e = absurd (cc e)
kept-source cell (b ∷ bs) more e =
    elim (b.cell == cell)
    as (λ t. (if t then true else has_begun cell bs) ≡ true → (if t then b.source else first_source cell (bs ++ more)) ≡ (if t then b.source else first_source cell bs))
    [ true ↦ λ k. refl | false ↦ λ k. kept-source cell bs more k ]
    e
