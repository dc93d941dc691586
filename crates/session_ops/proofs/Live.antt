-- Live cells: their numbers, kinds and lanes.
use Rattle.std.proofs.Common.{◌≡◌, ℕ, ◌<◌, ◌==◌, Bool, true, false, if◌then◌else◌, List, [], ◌∷◌, ◌++◌, map, Option, Some, None, suc, refl, sym, ap, subst, ◌∙◌, arith}
use Rattle.std.specs.Prelude.{◌&&◌, ◌||◌, Contains, IsSome, filter, find, option_and_then, unwrap_or}
use Rattle.std.specs.Option.{option_map}
use Rattle.std.specs.List.{list_any, list_all, flat_map, AllByRecursion}
use Rattle.std.proofs.lemmas.Bool.{and_from, or_left, or_right, eqb-true}
use Rattle.std.proofs.lemmas.List.{map-append}
use Rattle.std.proofs.lemmas.List.Folds.{list_any-append}
use Rattle.notebook.specs.declared.parts.Cell.{Cell}
use Rattle.notebook.specs.declared.parts.Section.{Section}
use Rattle.notebook.specs.declared.parts.Parts.{Parts}
use Rattle.notebook.specs.declared.parts.Kind.{Kind}
use Rattle.notebook.specs.declared.parts.Kind.TheVariants.{Setup, Code, Markdown}
use Rattle.notebook.specs.declared.states.Lane.{Lane}
use Rattle.notebook.specs.declared.states.Lane.TheVariants.{Main, Branch}
use Rattle.notebook.specs.Book.{cells, cells_of, section_cells, found}
use Rattle.notebook.specs.Rules.{IsNotebook, IsBelow, IsSectionCell, IsSectionKind, AreDistinct, cell_number, numbered_cells}
use Rattle.notebook.specs.Flow.{is_code, is_code_kind, is_cell, is_main, is_code_numbered, has_code, section_code, main_cells, section_lane, lane_of, flow_in, passed, path}
use Rattle.lanes.specs.declared.work.Work.{Work}
use Rattle.lanes.specs.Work.{earlier, is_branch, is_due, is_settled, settled_before, own_cells, runs_in, may_start}
use Rattle.session_ops.specs.Numbers.{is_in}
use Rattle.session_ops.proofs.Lists.{all-front}
use Rattle.session_ops.proofs.Members.{in-here, in-later, in-append}
use Rattle.session_ops.specs.Orderly.{IsCodeKind, IsCodeLive}

-- what is found has the number, and is as all are
pub found-number : (id : ℕ) (cs : List Cell) (c : Cell) → found id cs ≡ Some c → c.id ≡ id
found-number id [] c e = absurd (cc e)
found-number id (x ∷ xs) c e =
    elim (x.id == id)
    as (λ b. (x.id == id) ≡ b → (if b then Some x else found id xs) ≡ Some c → c.id ≡ id)
    [ true ↦ λ t k. let same : x ≡ c = cc k in ap (λ (d : Cell). d.id) (sym same) ∙ eqb-true x.id id t | false ↦ λ t k. found-number id xs c k ]
    refl
    e

pub found-is : (P : Cell → Type 0) (id : ℕ) (cs : List Cell) (c : Cell) → AllByRecursion P cs → found id cs ≡ Some c → P c
found-is P id [] c h e = absurd (cc e)
found-is P id (x ∷ xs) c h e =
    elim (x.id == id)
    as (λ b. (if b then Some x else found id xs) ≡ Some c → P c)
    [ true ↦ λ k. let same : x ≡ c = cc k in subst P same h.0 | false ↦ λ k. found-is P id xs c h.1 k ]
    e

-- the numbers of the live cells are below the next one
abbrev pub HasNumberBelow : ℕ → Cell → Type 0
HasNumberBelow next c = c.id < next

below-of : (next : ℕ) (cs : List Cell) → AllByRecursion (IsBelow next) (map cell_number cs) → AllByRecursion (HasNumberBelow next) cs
below-of next [] h = tt
below-of next (c ∷ cs) h = (h.0, below-of next cs h.1)

pub live-below : (n : Parts) → IsNotebook n → AllByRecursion (HasNumberBelow n.next_cell) (cells n)
live-below n h = (subst (λ k. k < n.next_cell) (sym h.setup_number) h.next_cell.0, all-front (HasNumberBelow n.next_cell) (section_cells n) n.bin (below-of n.next_cell (numbered_cells n) h.next_cell.1))

pub found-below : (n : Parts) (id : ℕ) (c : Cell) → IsNotebook n → found id (cells n) ≡ Some c → id < n.next_cell
found-below n id c h e = subst (λ k. k < n.next_cell) (found-number id (cells n) c e) (found-is (HasNumberBelow n.next_cell) id (cells n) c (live-below n h) e)

-- no cell of these has the number
abbrev pub lacks_number : ℕ → List Cell → Bool
lacks_number id cs = list_any (is_cell id) cs

-- no two have one number
abbrev pub AreApart : List Cell → Type 0
AreApart [] = Unit {0}
AreApart (c ∷ cs) = (list_any (is_cell c.id) cs ≡ false) × AreApart cs

or-first : (a b : Bool) → (a || b) ≡ false → a ≡ false
or-first true b e = e
or-first false b e = refl

or-second : (a b : Bool) → (a || b) ≡ false → b ≡ false
or-second true b e = absurd (cc e)
or-second false b e = e

unnumbered : (id : ℕ) (cs : List Cell) → (¬ Contains (map cell_number cs) id) → list_any (is_cell id) cs ≡ false
unnumbered id [] h = refl
unnumbered id (c ∷ cs) h =
    let rest : list_any (is_cell id) cs ≡ false = unnumbered id cs (λ (k, within, at). h (suc k, omega (arith, within), at)) in
    elim (c.id == id)
    as (λ b. (c.id == id) ≡ b → (b || list_any (is_cell id) cs) ≡ false)
    [ true ↦ λ same. absurd (h (0, omega arith, eqb-true c.id id same)) | false ↦ λ other. rest ]
    refl

apart-of : (cs : List Cell) → AreDistinct (map cell_number cs) → AreApart cs
apart-of [] h = tt
apart-of (c ∷ cs) h = (unnumbered c.id cs h.0, apart-of cs h.1)

any-front : (id : ℕ) (xs ys : List Cell) → list_any (is_cell id) (xs ++ ys) ≡ false → list_any (is_cell id) xs ≡ false
any-front id [] ys e = refl
any-front id (x ∷ xs) ys e =
    let here : is_cell id x ≡ false = or-first (is_cell id x) (list_any (is_cell id) (xs ++ ys)) e in
    ap (λ b. b || list_any (is_cell id) xs) here ∙ any-front id xs ys (or-second (is_cell id x) (list_any (is_cell id) (xs ++ ys)) e)

any-back : (id : ℕ) (xs ys : List Cell) → list_any (is_cell id) (xs ++ ys) ≡ false → list_any (is_cell id) ys ≡ false
any-back id [] ys e = e
any-back id (x ∷ xs) ys e = any-back id xs ys (or-second (is_cell id x) (list_any (is_cell id) (xs ++ ys)) e)

apart-front : (xs ys : List Cell) → AreApart (xs ++ ys) → AreApart xs
apart-front [] ys h = tt
apart-front (x ∷ xs) ys h = (any-front x.id xs ys h.0, apart-front xs ys h.1)

-- the live cells have numbers of their own
pub live-apart : (n : Parts) → IsNotebook n → AreApart (cells n)
live-apart n h =
    let all : AreApart (numbered_cells n) = apart-of (numbered_cells n) h.cell_numbers.1 in
    let zero_none : list_any (is_cell 0) (numbered_cells n) ≡ false = unnumbered 0 (numbered_cells n) h.cell_numbers.0 in
    (subst (λ k. list_any (is_cell k) (section_cells n) ≡ false) (sym h.setup_number) (any-front 0 (section_cells n) n.bin zero_none), apart-front (section_cells n) n.bin all)

-- a code cell of the number among some cells
pub record HasCode (id : ℕ) (cs : List Cell) : Type 0 where
  pub cell : Cell
  pub is_found : found id cs ≡ Some cell
  pub code : is_code cell ≡ true

drop-first : (a b : Bool) → ((a && false) || b) ≡ true → b ≡ true
drop-first true b e = e
drop-first false b e = e

none-both : (id : ℕ) (cs : List Cell) → list_any (is_cell id) cs ≡ false → list_any (is_code_numbered id) cs ≡ true → ⊥
none-both id [] e k = cc k
none-both id (c ∷ cs) e k =
    let other : (c.id == id) ≡ false = or-first (c.id == id) (list_any (is_cell id) cs) e in
    none-both id cs (or-second (c.id == id) (list_any (is_cell id) cs) e) (drop-first (is_code c) (list_any (is_code_numbered id) cs) (subst (λ b. ((is_code c && b) || list_any (is_code_numbered id) cs) ≡ true) other k))

-- where the numbers differ, a code cell of the number is the one that is found
code-of : (id : ℕ) (cs : List Cell) → AreApart cs → list_any (is_code_numbered id) cs ≡ true → HasCode id cs
code-of id [] h e = absurd (cc e)
code-of id (c ∷ cs) h e =
    elim (c.id == id)
    as (λ b. (c.id == id) ≡ b → ((is_code c && b) || list_any (is_code_numbered id) cs) ≡ true → HasCode id (c ∷ cs)) [
      | true ↦ λ t k.
          elim (is_code c)
          as (λ a. is_code c ≡ a → ((a && true) || list_any (is_code_numbered id) cs) ≡ true → HasCode id (c ∷ cs)) [
            | true ↦ λ i j. record { cell = c; is_found = ap (λ b. if b then Some c else found id cs) t; code = i }
            | false ↦ λ i j. absurd (none-both id cs (subst (λ m. list_any (is_cell m) cs ≡ false) (eqb-true c.id id t) h.0) j)
          ]
          refl
          k
      | false ↦ λ t k.
          let rest : HasCode id cs = code-of id cs h.1 (drop-first (is_code c) (list_any (is_code_numbered id) cs) k) in
          record { cell = rest.cell; is_found = ap (λ b. if b then Some c else found id cs) t ∙ rest.is_found; code = rest.code }
    ]
    refl
    e

code-kind : (k : Kind) → is_code_kind k ≡ true → IsCodeKind k
code-kind Setup e = tt
code-kind Code e = tt
code-kind Markdown e = absurd (cc e)

-- the setup cell, and code of a section
pub setup-live : (n : Parts) (id : ℕ) → IsNotebook n → (n.setup.id == id) ≡ true → IsCodeLive n id
setup-live n id h e = record { cell = n.setup; is_found = ap (λ b. if b then Some n.setup else found id (section_cells n)) e; code = subst IsCodeKind (sym h.setup_kind) tt }

code-live-of : (n : Parts) (id : ℕ) → (n.setup.id == id) ≡ false → HasCode id (section_cells n) → IsCodeLive n id
code-live-of n id e c = record { cell = c.cell; is_found = ap (λ b. if b then Some n.setup else found id (section_cells n)) e ∙ c.is_found; code = code-kind c.cell.kind c.code }

pub code-live : (n : Parts) (id : ℕ) → IsNotebook n → list_any (is_code_numbered id) (section_cells n) ≡ true → IsCodeLive n id
code-live n id h e =
    let apart : AreApart (cells n) = live-apart n h in
    elim (n.setup.id == id)
    as (λ b. (n.setup.id == id) ≡ b → IsCodeLive n id) [
      | true ↦ λ t. setup-live n id h t
      | false ↦ λ t. code-live-of n id t (code-of id (section_cells n) apart.1 e)
    ]
    refl

-- which numbers a section's code has
pub code-in : (id : ℕ) (cs : List Cell) → is_in id (map cell_number (filter is_code cs)) ≡ list_any (is_code_numbered id) cs
code-in id [] = refl
code-in id (c ∷ cs) =
    elim (is_code c)
    as (λ b. is_in id (map cell_number (if b then c ∷ filter is_code cs else filter is_code cs)) ≡ ((b && is_cell id c) || list_any (is_code_numbered id) cs)) [
      | true ↦ elim (c.id == id) as (λ a. (if a then true else is_in id (map cell_number (filter is_code cs))) ≡ (a || list_any (is_code_numbered id) cs)) [ true ↦ refl | false ↦ code-in id cs ]
      | false ↦ code-in id cs
    ]

in-front : (id : ℕ) (s : Section) (ss : List Section) → list_any (is_code_numbered id) s.cells ≡ true → list_any (is_code_numbered id) (flat_map cells_of (s ∷ ss)) ≡ true
in-front id s ss e = list_any-append (is_code_numbered id) s.cells (flat_map cells_of ss) ∙ or_left (list_any (is_code_numbered id) s.cells) (list_any (is_code_numbered id) (flat_map cells_of ss)) e

in-back : (id : ℕ) (s : Section) (ss : List Section) → list_any (is_code_numbered id) (flat_map cells_of ss) ≡ true → list_any (is_code_numbered id) (flat_map cells_of (s ∷ ss)) ≡ true
in-back id s ss e = list_any-append (is_code_numbered id) s.cells (flat_map cells_of ss) ∙ or_right (list_any (is_code_numbered id) s.cells) (list_any (is_code_numbered id) (flat_map cells_of ss)) e

by-or : (a b c : Bool) → (a || b) ≡ true → (a ≡ true → c ≡ true) → (b ≡ true → c ≡ true) → c ≡ true
by-or true b c e f g = f refl
by-or false b c e f g = g e

main-any : (id : ℕ) (ss : List Section) → is_in id (map cell_number (main_cells ss)) ≡ true → list_any (is_code_numbered id) (flat_map cells_of ss) ≡ true
main-any id [] e = absurd (cc e)
main-any id (s ∷ ss) e =
    elim (is_main s)
    as (λ b. is_in id (map cell_number (flat_map section_code (if b then s ∷ filter is_main ss else filter is_main ss))) ≡ true → list_any (is_code_numbered id) (flat_map cells_of (s ∷ ss)) ≡ true) [
      | true ↦ λ k.
          let split : (is_in id (map cell_number (section_code s)) || is_in id (map cell_number (main_cells ss))) ≡ true =
          sym (ap (is_in id) (map-append cell_number (section_code s) (main_cells ss)) ∙ in-append id (map cell_number (section_code s)) (map cell_number (main_cells ss))) ∙ k in
          by-or _ _ _ split (λ j. in-front id s ss (sym (code-in id s.cells) ∙ j)) (λ j. in-back id s ss (main-any id ss j))
      | false ↦ λ k. in-back id s ss (main-any id ss k)
    ]
    e

branch-any : (id b : ℕ) (ss : List Section) → is_in id (map cell_number (unwrap_or (option_map section_code (find (is_branch b) ss)) [])) ≡ true → list_any (is_code_numbered id) (flat_map cells_of ss) ≡ true
branch-any id b [] e = absurd (cc e)
branch-any id b (s ∷ ss) e =
    elim (is_branch b s)
    as (λ c. is_in id (map cell_number (unwrap_or (option_map section_code (if c then Some s else find (is_branch b) ss)) [])) ≡ true → list_any (is_code_numbered id) (flat_map cells_of (s ∷ ss)) ≡ true)
    [ true ↦ λ k. in-front id s ss (sym (code-in id s.cells) ∙ k) | false ↦ λ k. in-back id s ss (branch-any id b ss k) ]
    e

own-live : (n : Parts) (lane : Lane) (id : ℕ) → IsNotebook n → is_in id (map cell_number (own_cells n lane)) ≡ true → IsCodeLive n id
own-live n (Branch b) id h e = code-live n id h (branch-any id b n.sections e)
own-live n Main id h e =
    elim (n.setup.id == id)
    as (λ b. (n.setup.id == id) ≡ b → (if b then true else is_in id (map cell_number (main_cells n.sections))) ≡ true → IsCodeLive n id)
    [ true ↦ λ t k. setup-live n id h t | false ↦ λ t k. code-live n id h (main-any id n.sections k) ]
    refl
    e

found-in : (p : ℕ → Bool) (ns : List ℕ) (n : ℕ) → find p ns ≡ Some n → is_in n ns ≡ true
found-in p [] n e = absurd (cc e)
found-in p (m ∷ ns) n e =
    elim (p m)
    as (λ b. (if b then Some m else find p ns) ≡ Some n → is_in n (m ∷ ns) ≡ true)
    [ true ↦ λ k. let same : m ≡ n = cc k in subst (λ j. is_in j (m ∷ ns) ≡ true) same (in-here m ns) | false ↦ λ k. in-later n m ns (found-in p ns n k) ]
    e

settled-is : (n : Parts) (w : Work) (o : Option ℕ) (cell : ℕ) → option_and_then (settled_before n w) o ≡ Some cell → o ≡ Some cell
settled-is n w None cell e = absurd (cc e)
settled-is n w (Some c) cell e =
    elim (list_all (is_settled n w) (earlier n c))
    as (λ b. (if b then Some c else None) ≡ Some cell → Some c ≡ Some cell)
    [ true ↦ λ k. k | false ↦ λ k. absurd (cc k) ]
    e

-- what may start is a live setup or code cell
pub may-live : (n : Parts) (w : Work) (lane : Lane) (cell : ℕ) → IsNotebook n → may_start n w lane ≡ Some cell → IsCodeLive n cell
may-live n w lane cell h e =
    elim (list_any (runs_in lane) w.running)
    as (λ b. (if b then None else option_and_then (settled_before n w) (find (is_due n w) (map cell_number (own_cells n lane)))) ≡ Some cell → IsCodeLive n cell) [
      | true ↦ λ k. absurd (cc k)
      | false ↦ λ k. own-live n lane cell h (found-in (is_due n w) (map cell_number (own_cells n lane)) cell (settled-is n w (find (is_due n w) (map cell_number (own_cells n lane))) cell k))
    ]
    e

-- each of them has a lane
abbrev pub HasLane : Parts → ℕ → Type 0
HasLane n id = IsSome (lane_of n id)

code-cell : (k : Kind) → IsSectionKind k → IsCodeKind k → is_code_kind k ≡ true
code-cell Setup s e = absurd s
code-cell Code s e = refl
code-cell Markdown s e = absurd e

code-found : (id : ℕ) (cs : List Cell) (c : Cell) → found id cs ≡ Some c → is_code c ≡ true → list_any (is_code_numbered id) cs ≡ true
code-found id [] c e k = absurd (cc e)
code-found id (x ∷ xs) c e k =
    elim (x.id == id)
    as (λ b. (x.id == id) ≡ b → (if b then Some x else found id xs) ≡ Some c → list_any (is_code_numbered id) (x ∷ xs) ≡ true)
    [ true ↦ λ t j. let same : x ≡ c = cc j in or_left (is_code_numbered id x) (list_any (is_code_numbered id) xs) (and_from _ _ (ap is_code same ∙ k) t) | false ↦ λ t j. or_right (is_code_numbered id x) (list_any (is_code_numbered id) xs) (code-found id xs c j k) ]
    refl
    e

lane-some : (id : ℕ) (ss : List Section) → list_any (is_code_numbered id) (flat_map cells_of ss) ≡ true → IsSome (option_map section_lane (find (has_code id) ss))
lane-some id [] e = absurd (cc e)
lane-some id (s ∷ ss) e =
    elim (has_code id s)
    as (λ b. (b || list_any (is_code_numbered id) (flat_map cells_of ss)) ≡ true → IsSome (option_map section_lane (if b then Some s else find (has_code id) ss)))
    [ true ↦ λ k. search | false ↦ λ k. lane-some id ss k ]
    (sym (list_any-append (is_code_numbered id) s.cells (flat_map cells_of ss)) ∙ e)

pub live-lane : (n : Parts) (id : ℕ) → IsNotebook n → IsCodeLive n id → HasLane n id
live-lane n id h c =
    elim (n.setup.id == id)
    as (λ b. (if b then Some n.setup else found id (section_cells n)) ≡ Some c.cell → IsSome (if b then Some Main else option_map section_lane (find (has_code id) n.sections))) [
      | true ↦ λ k. search
      | false ↦ λ k.
          let kind : IsSectionCell c.cell = found-is IsSectionCell id (section_cells n) c.cell (all-front IsSectionCell (section_cells n) n.bin h.kinds) k in
          lane-some id n.sections (code-found id (section_cells n) c.cell k (code-cell c.cell.kind kind c.code))
    ]
    c.is_found

path-by : (n : Parts) (id : ℕ) (o : Option Lane) → lane_of n id ≡ o → IsSome o → IsSome (path n id)
path-by n id None e h = absurd (cc h)
path-by n id (Some lane) e h = subst IsSome (sym (ap (λ o. option_map (map passed) (option_map (flow_in n id) o)) e)) search

-- and a path
pub live-path : (n : Parts) (id : ℕ) → IsNotebook n → IsCodeLive n id → IsSome (path n id)
live-path n id h c = path-by n id (lane_of n id) refl (live-lane n id h c)
