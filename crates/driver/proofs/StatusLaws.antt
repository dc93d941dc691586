-- The printed states of the cells, one after the other.
use Rattle.std.proofs.Common.{◌≡◌, ℕ, ◌+◌, ◌<◌, ◌==◌, Bool, true, false, if◌then◌else◌, List, [], ◌∷◌, ◌++◌, length, drop, get_or, map, Option, Some, None, is_some, refl, sym, ap, subst, ◌∙◌, append_assoc, arith}
use Rattle.std.proofs.lemmas.Bool.Decides.{nat_tests}
use Rattle.std.specs.Prelude.{find, ◌||◌, option_map, MatchOption}
use Rattle.std.specs.Option.{option_copied}
use Rattle.std.specs.List.{list_any}
use Rattle.std.proofs.lemmas.Bool.{or_left, or_right, and_from}
use Rattle.std.proofs.lemmas.List.{drop_more}
use Rattle.std.proofs.lemmas.Grind.{flat_map-append}
use Rattle.notebook.specs.declared.parts.Cell.{Cell}
use Rattle.notebook.specs.declared.parts.Section.{Section}
use Rattle.notebook.specs.declared.parts.Parts.{Parts}
use Rattle.notebook.specs.declared.parts.Kind.{Kind}
use Rattle.notebook.specs.declared.parts.Kind.TheVariants.{Setup, Code, Markdown}
use Rattle.notebook.specs.declared.states.Lane.{Lane}
use Rattle.notebook.specs.declared.states.Lane.TheVariants.{Main}
use Rattle.notebook.specs.Flow.{path, passed, flow_in, lane_of, section_lane, is_cell, is_code_kind, is_code_numbered, has_code}
use Rattle.lanes.specs.declared.work.Work.{Work}
use Rattle.transcript.specs.Texts.{as_text, ended_line}
use Rattle.transcript.specs.States.{state_line}
use Rattle.lanes.specs.declared.judge.Row.{Row}
use Rattle.lanes.specs.Rows.{IsRow}
use Rattle.session_core.specs.Session.{Session, state_of}
use Rattle.driver.specs.Statuses.{Tells, HasPath, HasPathIfCode, AllHavePaths, AllSectionsHavePaths, cell_line, line_of_kind, code_lines, section_code_lines, setup_line}

-- one more cell
pub cells-more : (n : Parts) (w : Work) (lane : Lane) (cs : List Cell) (i : ℕ) (c : Cell) (out : List ℕ) → i < length cs → c ≡ get_or cs i c → (out ++ as_text (line_of_kind n w lane c c.kind)) ++ as_text (code_lines n w lane (drop (i + 1) cs)) ≡ out ++ as_text (code_lines n w lane (drop i cs))
cells-more n w lane cs i c out lt is =
    let front : drop i cs ≡ c ∷ drop (i + 1) cs = drop_more cs i c lt ∙ ap (λ x. x ∷ drop (i + 1) cs) (sym is) in
    append_assoc out (as_text (line_of_kind n w lane c c.kind)) (as_text (code_lines n w lane (drop (i + 1) cs)))
    ∙ ap (λ x. out ++ x) (sym (flat_map-append ended_line (line_of_kind n w lane c c.kind) (code_lines n w lane (drop (i + 1) cs))) ∙ ap (λ x. as_text (code_lines n w lane x)) (sym front))

-- one more section
pub sections-more : (n : Parts) (w : Work) (ss : List Section) (i : ℕ) (s : Section) (out : List ℕ) → i < length ss → s ≡ get_or ss i s
    → (out ++ as_text (code_lines n w (section_lane s) s.cells)) ++ as_text (section_code_lines n w (drop (i + 1) ss)) ≡ out ++ as_text (section_code_lines n w (drop i ss))
sections-more n w ss i s out lt is =
    let front : drop i ss ≡ s ∷ drop (i + 1) ss = drop_more ss i s lt ∙ ap (λ x. x ∷ drop (i + 1) ss) (sym is) in
    append_assoc out (as_text (code_lines n w (section_lane s) s.cells)) (as_text (section_code_lines n w (drop (i + 1) ss)))
    ∙ ap (λ x. out ++ x) (sym (flat_map-append ended_line (code_lines n w (section_lane s) s.cells) (section_code_lines n w (drop (i + 1) ss))) ∙ ap (λ x. as_text (section_code_lines n w x)) (sym front))

-- the setup cell's line where its source isn't empty
pub setup-some : (n : Parts) (w : Work) (c : Cell) → false ≡ (length c.source == 0) → as_text (setup_line n w c) ≡ ended_line (cell_line n w Main c.id) ++ []
setup-some n w c e = ap (λ b. as_text (if b then [] else cell_line n w Main c.id ∷ [])) (sym e)

pub setup-none : (n : Parts) (w : Work) (c : Cell) → true ≡ (length c.source == 0) → as_text (setup_line n w c) ≡ []
setup-none n w c e = ap (λ b. as_text (if b then [] else cell_line n w Main c.id ∷ [])) (sym e)

-- a cell of a list, and a section
pub paths-at : (n : Parts) (cs : List Cell) (i : ℕ) (c : Cell) → AllHavePaths n (drop i cs) → i < length cs → c ≡ get_or cs i c → HasPathIfCode n c c.kind × AllHavePaths n (drop (i + 1) cs)
paths-at n cs i c h lt is =
    let front : drop i cs ≡ c ∷ drop (i + 1) cs = drop_more cs i c lt ∙ ap (λ x. x ∷ drop (i + 1) cs) (sym is) in
    let k : AllHavePaths n (c ∷ drop (i + 1) cs) = subst (AllHavePaths n) front h in
    (k.0, k.1)

pub section-paths-at : (n : Parts) (ss : List Section) (i : ℕ) (s : Section) → AllSectionsHavePaths n (drop i ss) → i < length ss → s ≡ get_or ss i s → AllHavePaths n s.cells × AllSectionsHavePaths n (drop (i + 1) ss)
section-paths-at n ss i s h lt is =
    let front : drop i ss ≡ s ∷ drop (i + 1) ss = drop_more ss i s lt ∙ ap (λ x. x ∷ drop (i + 1) ss) (sym is) in
    let k : AllSectionsHavePaths n (s ∷ drop (i + 1) ss) = subst (AllSectionsHavePaths n) front h in
    (k.0, k.1)

-- a cell of a lane has a path
some-mapped : {X Y : Type 0} (f : X → Y) (o : Option X) → is_some o ≡ true → is_some (option_map f o) ≡ true
some-mapped f None e = absurd (cc e)
some-mapped f (Some x) e = refl

lane-path : (n : Parts) (id : ℕ) → is_some (lane_of n id) ≡ true → HasPath n id
lane-path n id e = some-mapped (map passed) (option_map (flow_in n id) (lane_of n id)) (some-mapped (flow_in n id) (lane_of n id) e)

some-found : {X : Type 0} (p : X → Bool) (xs : List X) → list_any p xs ≡ true → is_some (find p xs) ≡ true
some-found p [] e = absurd (cc e)
some-found p (x ∷ xs) e = elim (p x) as (λ b. (b || list_any p xs) ≡ true → is_some (if b then Some x else find p xs) ≡ true) [ true ↦ λ k. refl | false ↦ λ k. some-found p xs k ] e

lane-of : (b : Bool) (o : Option Lane) → is_some o ≡ true → is_some (if b then Some Main else o) ≡ true
lane-of true o e = refl
lane-of false o e = e

code-path : (n : Parts) (id : ℕ) → list_any (has_code id) n.sections ≡ true → HasPath n id
code-path n id e = lane-path n id (lane-of (is_cell id n.setup) (option_map section_lane (find (has_code id) n.sections)) (some-mapped section_lane (find (has_code id) n.sections) (some-found (has_code id) n.sections e)))

equal-self : (n : ℕ) → (n == n) ≡ true
equal-self n = grind (arith, nat_tests)

kind-path : (n : Parts) (c : Cell) (kind : Kind) → c.kind ≡ kind → (is_code_numbered c.id c ≡ true → HasPath n c.id) → HasPathIfCode n c kind
kind-path n c Setup e f = tt
kind-path n c Code e f = f (and_from _ _ (ap is_code_kind e) (equal-self c.id))
kind-path n c Markdown e f = tt

cells-paths : (n : Parts) (cs : List Cell) → ((id : ℕ) → list_any (is_code_numbered id) cs ≡ true → HasPath n id) → AllHavePaths n cs
cells-paths n [] f = tt
cells-paths n (c ∷ cs) f = (kind-path n c c.kind refl (λ e. f c.id (or_left _ _ e)), cells-paths n cs (λ id e. f id (or_right _ _ e)))

sections-paths : (n : Parts) (ss : List Section) → ((id : ℕ) → list_any (has_code id) ss ≡ true → HasPath n id) → AllSectionsHavePaths n ss
sections-paths n [] f = tt
sections-paths n (s ∷ ss) f = (cells-paths n s.cells (λ id e. f id (or_left _ _ e)), sections-paths n ss (λ id e. f id (or_right _ _ e)))

-- each code cell of a notebook has a path, and so has the setup cell
pub all-paths : (n : Parts) → AllSectionsHavePaths n n.sections
all-paths n = sections-paths n n.sections (code-path n)

pub setup-path : (n : Parts) → HasPath n n.setup.id
setup-path n = lane-path n n.setup.id (ap (λ b. is_some (if b then Some Main else option_map section_lane (find (has_code n.setup.id) n.sections))) {y = true} (equal-self n.setup.id))

-- a cell's line by its row
pub row-line : (n : Parts) (w : Work) (home : Lane) (cell : ℕ) (r : Row) → IsRow n w cell r → state_line cell home r.status r.validity (option_copied r.shown) ≡ cell_line n w home cell
row-line n w home cell r is = rw (is.live, is.status, is.validity, is.shown) refl

pub no-row : (n : Parts) (cell : ℕ) → HasPath n cell → path n cell ≡ None → ⊥
no-row n cell some none = absurd (let k : is_some (path n cell) ≡ false = ap is_some none in cc (some, k))

-- a row that a session tells of
abbrev pub IsRowOf : Parts → Work → ℕ → Option Row → Type 0
IsRowOf n w cell o = MatchOption o (path n cell ≡ None) (IsRow n w cell)

pub told-row : (n : Parts) (w : Work) (s : Session) (cell : ℕ) (r : Option Row) → (t : Tells n w s) → IsRowOf (state_of t.opening s).book (state_of t.opening s).work cell r → IsRowOf n w cell r
told-row n w s cell r t is = subst (λ v. IsRowOf n v cell r) (sym t.work) (subst (λ m. IsRowOf m (state_of t.opening s).work cell r) (sym t.book) is)
