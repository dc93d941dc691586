-- The last section and the last cell, written as the code does it.
use Rattle.std.proofs.Common.{◌≡◌, ℕ, ◌+◌, ◌-◌, ◌<◌, suc, Bool, true, false, cond, List, [], ◌∷◌, ◌++◌, None, Some, length, get_or, set, refl, sym, ap, ◌∙◌, arith, codes}
use Rattle.std.specs.Prelude.{slice_get, slice_set}
use Rattle.std.specs.Str.{chars}
use Rattle.std.proofs.lemmas.Option.{get_or_from_slice_get}
use Rattle.notebook.specs.declared.parts.Cell.{Cell}
use Rattle.notebook.specs.declared.parts.Saved.{Saved}
use Rattle.notebook.specs.declared.parts.Section.{Section}
use Rattle.notebook.specs.declared.parts.Parts.{Parts}
use Rattle.notebook.specs.declared.parts.Kind.{Kind}
use Rattle.blanks.specs.Blanks.{is_empty}
use Rattle.livemd_format.specs.Walk.{add_cell, add_last_output, add_output, on_last, with_cell, with_output, with_section, with_some_section}

-- the last element written
set_last : {X : Type 0} (f : X → X) (xs : List X) (d : X) → 0 < length xs → set xs (length xs - 1) (f (get_or xs (length xs - 1) d)) ≡ on_last f xs
set_last f [] d h = absurd (omega arith)
set_last f (x ∷ []) d h = refl
set_last f (x ∷ y ∷ xs) d h =
    let e : length (x ∷ y ∷ xs) - 1 ≡ suc (length (y ∷ xs) - 1) = omega arith in
    ap (λ k. set (x ∷ y ∷ xs) k (f (get_or (x ∷ y ∷ xs) k d))) e ∙ ap (λ ys. x ∷ ys) (set_last f (y ∷ xs) d (omega arith))

pub last_written : {X : Type 0} (f : X → X) (xs : List X) (x : X) (n : ℕ) → 0 < n → n ≡ length xs → slice_get xs (n - 1) ≡ Some x → slice_set xs (n - 1) (f x) ≡ on_last f xs
last_written f xs x n some count at =
    let is : get_or xs (n - 1) x ≡ x = get_or_from_slice_get xs (n - 1) x x at in
    ap (λ y. set xs (n - 1) (f y)) (sym is) ∙ (ap (λ k. set xs (k - 1) (f (get_or xs (k - 1) x))) count ∙ set_last f xs x (omega (arith, count, some)))

above_zero : (n : ℕ) → ¬ (n ≡ 0) → 0 < n
above_zero n h = omega arith

not_empty : {X : Type 0} (xs : List X) (n : ℕ) → n ≡ length xs → 0 < n → is_empty xs ≡ false
not_empty [] n e lt = absurd (omega (arith, e, lt))
not_empty (x ∷ xs) n e lt = refl

-- a section where there is none
pub made_section : (n m : Parts) (before : List (List ℕ)) → n.sections ≡ [] → before ≡ [] → m ≡ with_section (chars (codes "Section")) before None n → m ≡ with_some_section n
unfolding chars
made_section n m before e b h =
    h ∙ (ap (λ ls. with_section (codes "Section") ls None n) b ∙ ap (λ (t : Bool). cond t (with_section (codes "Section") [] None n) n) (sym (ap is_empty e)))

-- a cell pushed to the last section
pub cell_pushed : (n : Parts) (s : Section) (cs : List Cell) (many : ℕ) (kind : Kind) (t source : List ℕ) (before : List (List ℕ)) (saved : List Saved) → 0 < length n.sections → many ≡ length n.sections → slice_get n.sections (many - 1) ≡ Some s → source ≡ t → saved ≡ []
    → cs ≡ s.cells ++ record { id = n.next_cell; kind = kind; source = source; before = before; saved = saved } ∷ []
    → record n { sections = slice_set n.sections (many - 1) (record s { cells = cs }); next_cell = n.next_cell + 1 } ≡ with_cell kind t before n
cell_pushed n s cs many kind t source before saved some count at e v more =
    let c : Cell = record { id = n.next_cell; kind = kind; source = t; before = before; saved = [] } in
    let cells : cs ≡ s.cells ++ c ∷ [] = more ∙ rw (e, v) refl in
    let sections : slice_set n.sections (many - 1) (record s { cells = cs }) ≡ on_last (add_cell c) n.sections =
    ap (λ ds. slice_set n.sections (many - 1) (record s { cells = ds })) cells ∙ last_written (add_cell c) n.sections s many (omega (arith, count, some)) count at in
    ap (λ ss. record n { sections = ss; next_cell = n.next_cell + 1 }) sections

-- an output pushed to the last cell of a section, and to that of the last section
pub cell_output_pushed : (s : Section) (o : Saved) (c : Cell) (saved : List Saved) (many : ℕ) → many ≡ length s.cells → ¬ (many ≡ 0) → slice_get s.cells (many - 1) ≡ Some c → saved ≡ c.saved ++ o ∷ []
    → record s { cells = slice_set s.cells (many - 1) (record c { saved = saved }) } ≡ add_last_output o s
cell_output_pushed s o c saved many count some at more =
    let cells : slice_set s.cells (many - 1) (record c { saved = saved }) ≡ on_last (add_output o) s.cells =
    ap (λ os. slice_set s.cells (many - 1) (record c { saved = os })) more ∙ last_written (add_output o) s.cells c many (above_zero many some) count at in
    ap (λ cs. record s { cells = cs }) cells

pub output_pushed : (n : Parts) (o : Saved) (s t : Section) (many : ℕ) → many ≡ length n.sections → ¬ (many ≡ 0) → slice_get n.sections (many - 1) ≡ Some s → t ≡ add_last_output o s
    → record n { sections = slice_set n.sections (many - 1) t } ≡ with_output o n
output_pushed n o s t many count some at more =
    let sections : slice_set n.sections (many - 1) t ≡ on_last (add_last_output o) n.sections =
    ap (λ u. slice_set n.sections (many - 1) u) more ∙ last_written (add_last_output o) n.sections s many (above_zero many some) count at in
    ap (λ ss. record n { sections = ss }) sections
    ∙ ap (λ (b : Bool). cond b (record n { setup = add_output o n.setup }) (record n { sections = on_last (add_last_output o) n.sections })) (sym (not_empty n.sections many count (above_zero many some)))
