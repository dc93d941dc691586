-- The floors of those who have joined, by what is known of them.
use Rattle.std.proofs.Common.{◌≡◌, ◌≢◌, ℕ, ◌≤◌, ◌==◌, max, min, inl, inr, true, false, if◌then◌else◌, List, [], ◌∷◌, ◌++◌, refl, sym, ap, ◌∙◌, arith}
use Rattle.std.specs.Prelude.{filter, not, ◌&&◌, IsSome}
use Rattle.std.proofs.lemmas.Bool.Decides.{eqb_tells, nat_tests}
use Rattle.notebook.specs.declared.parts.Cell.{Cell}
use Rattle.notebook.specs.Book.{found}
use Rattle.session_ops.specs.Numbers.{is_in, is_other}
use Rattle.session_ops.specs.State.{State, Known, floor, least_floor, least_among, revision, knows_all, is_of_other as is_known_of_other}
use Rattle.revisions.specs.Floors.{at_zero, has_floor, lowest, raised_one, raised, without, with_client}
use Rattle.revisions.proofs.Lowest.{lowest-cons, without-stranger}
use Rattle.session_core.specs.Stands.{floors_of}

-- floors that are at most the revision have the least floor of the session's state
least-first : (cell : ℕ) (known : List Known) (rev n : ℕ) (ns : List ℕ) → ((m : ℕ) → floor m cell known ≤ rev) → lowest rev (floors_of cell known (n ∷ ns)) ≡ least_floor cell known n ns
least-first cell known rev n [] h = omega (arith, h n)
least-first cell known rev n (m ∷ ms) h =
    lowest-cons rev (record { client = n; rev = floor n cell known }) (floors_of cell known (m ∷ ms)) ∙ ap (λ k. min (floor n cell known) k) (least-first cell known rev m ms h)

pub least-same : (s : State) (cell : ℕ) (ns : List ℕ) → ((m : ℕ) → floor m cell s.known ≤ revision s cell) → lowest (revision s cell) (floors_of cell s.known ns) ≡ least_among s cell ns
least-same s cell [] h = refl
least-same s cell (n ∷ ns) h = least-first cell s.known (revision s cell) n ns h

-- who has a floor has joined
pub has-joined : (client cell : ℕ) (ks : List Known) (ns : List ℕ) → has_floor client (floors_of cell ks ns) ≡ is_in client ns
has-joined client cell ks [] = refl
has-joined client cell ks (n ∷ ns) = ap (λ b. if n == client then true else b) (has-joined client cell ks ns)

-- one more thing is known of a client
knows-own : (n cell rev : ℕ) → floor n cell (record { client = n; cell = cell; rev = rev } ∷ []) ≡ rev
knows-own n cell rev = elim (eqb_tells n n) [ inl e ↦ (elim (eqb_tells cell cell) [ inl g ↦ rw (e.0, g.0) (omega arith) | inr g ↦ absurd (g.1 refl) ]) | inr e ↦ absurd (e.1 refl) ]

knows-other : (n m cell rev : ℕ) → m ≢ n → floor n cell (record { client = m; cell = cell; rev = rev } ∷ []) ≡ 0
knows-other n m cell rev h = elim (eqb_tells m n) [ inl e ↦ absurd (h e.1) | inr e ↦ rw e.0 refl ]

pub floor-append : (n cell : ℕ) (ks ls : List Known) → floor n cell (ks ++ ls) ≡ max (floor n cell ks) (floor n cell ls)
floor-append n cell [] ls = omega arith
floor-append n cell (k ∷ ks) ls =
    let more = floor-append n cell ks ls in
    elim ((k.client == n) && (k.cell == cell))
    as (λ b. (if b then max k.rev (floor n cell (ks ++ ls)) else floor n cell (ks ++ ls)) ≡ max (if b then max k.rev (floor n cell ks) else floor n cell ks) (floor n cell ls))
    [ true ↦ omega (arith, more) | false ↦ more ]

knowing-one : (n m cell rev : ℕ) (ks : List Known) → record { client = n; rev = floor n cell (ks ++ record { client = m; cell = cell; rev = rev } ∷ []) } ≡ raised_one m rev (record { client = n; rev = floor n cell ks })
knowing-one n m cell rev ks =
    let all = floor-append n cell ks (record { client = m; cell = cell; rev = rev } ∷ []) in
    elim (eqb_tells n m) [
      | inl e ↦ (
          let own : floor n cell (record { client = m; cell = cell; rev = rev } ∷ []) ≡ rev = rw (← e.1) (knows-own n cell rev) in
          rw (e.0, all, own) refl)
      | inr e ↦ (
          let none : floor n cell (record { client = m; cell = cell; rev = rev } ∷ []) ≡ 0 = knows-other n m cell rev (λ q. e.1 (sym q)) in
          let same : max (floor n cell ks) 0 ≡ floor n cell ks = omega arith in
          rw (e.0, all, none, same) refl)
    ]

pub knowing-floors : (m cell rev : ℕ) (ks : List Known) (ns : List ℕ) → floors_of cell (ks ++ record { client = m; cell = cell; rev = rev } ∷ []) ns ≡ raised m rev (floors_of cell ks ns)
knowing-floors m cell rev ks [] = refl
knowing-floors m cell rev ks (n ∷ ns) = rw (knowing-one n m cell rev ks, knowing-floors m cell rev ks ns) refl

knows-le : (n m cell rev : ℕ) → floor n cell (record { client = m; cell = cell; rev = rev } ∷ []) ≤ rev
knows-le n m cell rev =
    elim ((m == n) && (cell == cell)) as (λ b. (if b then max rev 0 else 0) ≤ rev) [ true ↦ omega arith | false ↦ omega arith ]

-- what is known stays at most the revision
pub knowing-low : (m cell rev a b : ℕ) (ks : List Known) → rev ≤ b → a ≤ b → ((n : ℕ) → floor n cell ks ≤ a) → (n : ℕ) → floor n cell (ks ++ record { client = m; cell = cell; rev = rev } ∷ []) ≤ b
knowing-low m cell rev a b ks low up h n = omega (arith, floor-append n cell ks (record { client = m; cell = cell; rev = rev } ∷ []), knows-le n m cell rev, h n)

-- clients of whom nothing is known
pub zero-floors : (cell : ℕ) (ks : List Known) (ns : List ℕ) → ((n : ℕ) → floor n cell ks ≡ 0) → floors_of cell ks ns ≡ at_zero ns
zero-floors cell ks [] h = refl
zero-floors cell ks (n ∷ ns) h = rw (h n, zero-floors cell ks ns h) refl

-- who joins knows the revision of each live cell
joins-other : (s : State) (n m cell : ℕ) (cs : List Cell) → m ≢ n → floor n cell (knows_all s m cs) ≡ 0
joins-other s n m cell [] h = refl
joins-other s n m cell (c ∷ cs) h = elim (eqb_tells m n) [ inl e ↦ absurd (h e.1) | inr e ↦ rw e.0 (joins-other s n m cell cs h) ]

joins-low : (s : State) (n m cell : ℕ) (cs : List Cell) → floor n cell (knows_all s m cs) ≤ revision s cell
joins-low s n m cell [] = omega arith
joins-low s n m cell (c ∷ cs) =
    elim (eqb_tells m n) [
      | inl e ↦ (elim (eqb_tells c.id cell) [ inl g ↦ rw (e.0, g.0, g.1) (omega (arith, joins-low s n m cell cs)) | inr g ↦ rw (e.0, g.0) (joins-low s n m cell cs) ])
      | inr e ↦ rw e.0 (joins-low s n m cell cs)
    ]

joins-own : (s : State) (m cell : ℕ) (cs : List Cell) → IsSome (found cell cs) → floor m cell (knows_all s m cs) ≡ revision s cell
joins-own s m cell [] h = absurd (cc h)
joins-own s m cell (c ∷ cs) h =
    elim (eqb_tells m m) [
      | inl e ↦ (elim (eqb_tells c.id cell) [
        | inl g ↦ rw (e.0, g.0, g.1) (omega (arith, joins-low s m m cell cs))
        | inr g ↦ rw (e.0, g.0) (joins-own s m cell cs (rw g.0 at h))
      ])
      | inr e ↦ absurd (e.1 refl)
    ]

others-floors : (s : State) (m cell : ℕ) (cs : List Cell) (ks : List Known) (ns : List ℕ) → is_in m ns ≡ false → floors_of cell (ks ++ knows_all s m cs) ns ≡ floors_of cell ks ns
others-floors s m cell cs ks [] h = refl
others-floors s m cell cs ks (n ∷ ns) h =
    elim (eqb_tells n m) [
      | inl e ↦ absurd (cc (rw e.0 at h))
      | inr e ↦ (
          let none : floor n cell (knows_all s m cs) ≡ 0 = joins-other s n m cell cs (λ q. e.1 (sym q)) in
          let same : max (floor n cell ks) 0 ≡ floor n cell ks = omega arith in
          rw (floor-append n cell ks (knows_all s m cs), none, same, others-floors s m cell cs ks ns (rw e.0 at h)) refl)
    ]

floors-last : (cell : ℕ) (ks : List Known) (ns : List ℕ) (n : ℕ) → floors_of cell ks (ns ++ n ∷ []) ≡ floors_of cell ks ns ++ record { client = n; rev = floor n cell ks } ∷ []
floors-last cell ks [] n = refl
floors-last cell ks (m ∷ ns) n = ap (λ fs. record { client = m; rev = floor m cell ks } ∷ fs) (floors-last cell ks ns n)

pub joined-floors : (s : State) (m cell : ℕ) (cs : List Cell) (ks : List Known) (ns : List ℕ) → is_in m ns ≡ false → IsSome (found cell cs) → floor m cell ks ≤ revision s cell
    → floors_of cell (ks ++ knows_all s m cs) (ns ++ m ∷ []) ≡ with_client m (revision s cell) (floors_of cell ks ns)
joined-floors s m cell cs ks ns out live low =
    let own : floor m cell (ks ++ knows_all s m cs) ≡ revision s cell = omega (arith, floor-append m cell ks (knows_all s m cs), joins-own s m cell cs live, low) in
    let stranger : without m (floors_of cell ks ns) ≡ floors_of cell ks ns = without-stranger m (floors_of cell ks ns) (has-joined m cell ks ns ∙ out) in
    floors-last cell (ks ++ knows_all s m cs) ns m ∙ rw (own, others-floors s m cell cs ks ns out, stranger) refl

pub joined-low : (s : State) (m cell : ℕ) (cs : List Cell) (ks : List Known) → ((n : ℕ) → floor n cell ks ≤ revision s cell) → (n : ℕ) → floor n cell (ks ++ knows_all s m cs) ≤ revision s cell
joined-low s m cell cs ks h n = omega (arith, floor-append n cell ks (knows_all s m cs), joins-low s n m cell cs, h n)

-- of a client that has left nothing is known; what is known of the others stays
floor-others : (n client cell : ℕ) (ks : List Known) → (n == client) ≡ false → floor n cell (filter (is_known_of_other client) ks) ≡ floor n cell ks
floor-others n client cell [] e = refl
floor-others n client cell (k ∷ ks) e =
    elim (k.client == client)
    as (λ b. (k.client == client) ≡ b → floor n cell (if not b then k ∷ filter (is_known_of_other client) ks else filter (is_known_of_other client) ks) ≡ (if (k.client == n) && (k.cell == cell) then max k.rev (floor n cell ks) else floor n cell ks)) [
      | true ↦ λ t.
          let other : (k.client == n) ≡ false = grind (arith, nat_tests, e, t) in
          floor-others n client cell ks e ∙ sym (ap (λ b. if b && (k.cell == cell) then max k.rev (floor n cell ks) else floor n cell ks) other)
      | false ↦ λ t. ap (λ f. if (k.client == n) && (k.cell == cell) then max k.rev f else f) (floor-others n client cell ks e)
    ]
    refl

-- and nothing more is known of anybody
pub floor-fewer : (n client cell : ℕ) (ks : List Known) → floor n cell (filter (is_known_of_other client) ks) ≤ floor n cell ks
floor-fewer n client cell [] = omega arith
floor-fewer n client cell (k ∷ ks) =
    elim (k.client == client)
    as (λ b. floor n cell (if not b then k ∷ filter (is_known_of_other client) ks else filter (is_known_of_other client) ks) ≤ (if (k.client == n) && (k.cell == cell) then max k.rev (floor n cell ks) else floor n cell ks)) [
      | true ↦ elim ((k.client == n) && (k.cell == cell)) as (λ b. floor n cell (filter (is_known_of_other client) ks) ≤ (if b then max k.rev (floor n cell ks) else floor n cell ks)) [ true ↦ omega (arith, floor-fewer n client cell ks) | false ↦ floor-fewer n client cell ks ]
      | false ↦ elim ((k.client == n) && (k.cell == cell)) as (λ b. (if b then max k.rev (floor n cell (filter (is_known_of_other client) ks)) else floor n cell (filter (is_known_of_other client) ks)) ≤ (if b then max k.rev (floor n cell ks) else floor n cell ks)) [ true ↦ omega (arith, floor-fewer n client cell ks) | false ↦ floor-fewer n client cell ks ]
    ]

pub left-floors : (client cell : ℕ) (ks : List Known) (ns : List ℕ) → floors_of cell (filter (is_known_of_other client) ks) (filter (is_other client) ns) ≡ without client (floors_of cell ks ns)
left-floors client cell ks [] = refl
left-floors client cell ks (n ∷ ns) =
    elim (n == client)
    as (λ b. (n == client) ≡ b → floors_of cell (filter (is_known_of_other client) ks) (if not b then n ∷ filter (is_other client) ns else filter (is_other client) ns) ≡ (if not b then record { client = n; rev = floor n cell ks } ∷ without client (floors_of cell ks ns) else without client (floors_of cell ks ns)))
    [ true ↦ λ t. left-floors client cell ks ns | false ↦ λ t. rw (floor-others n client cell ks t, left-floors client cell ks ns) refl ]
    refl
