-- How the code's items count.
use Rattle.std.proofs.Common.{◌≡◌, ◌⊎◌, inl, inr, ℕ, ◌+◌, max, String, Global, List, [], length, refl, ap, ◌∙◌, arith}
use Rattle.std.specs.Borrow.{Bor}
use Rattle.notebook.specs.Book.{section_cells}
use Rattle.notebook.specs.Rules.{code_count}
use Rattle.livemd_format.specs.Walk.{Draft, with_item}
use Rattle.livemd_read.specs.declared.items.Item.{Item}
use Rattle.livemd_read.specs.declared.items.Item.TheVariants.{Name, Section, Setup, Code, Markdown, Saved, Kept, Stamp, Branch, Dropped, Misplaced}
use Rattle.livemd_read.specs.Views.{item_of}
use Rattle.livemd_read.proofs.Growing.{added, cell_count-item, code_count-item, codes_in, section_count-item, sections_after}

abbrev pub Text : Type 0
Text = String Global

abbrev pub IsCell : Item → Type 0
IsCell i = ((x : Text) × (i ≡ Code x)) ⊎ ((x : Text) × (i ≡ Markdown x))

-- ---- sections

pub sections_by : (i : Item) (n m : ℕ) → sections_after n (item_of i) ≡ m → (d : Draft) → length d.parts.sections ≡ n → length (with_item d (item_of i)).parts.sections ≡ m
sections_by i n m h d e = section_count-item d (item_of i) ∙ (ap (λ k. sections_after k (item_of i)) e ∙ h)

pub section_of_cell : (i : Item) (n : ℕ) → IsCell i → sections_after n (item_of i) ≡ max n 1
section_of_cell i n (inl (x, e)) = rw e refl
section_of_cell i n (inr (x, e)) = rw e refl

pub no_section : (i : Item) (n : ℕ) → ((x : Bor (List ℕ)) → ¬ (i ≡ Section x)) → ((x : Text) → ¬ (i ≡ Code x)) → ((x : Text) → ¬ (i ≡ Markdown x)) → sections_after n (item_of i) ≡ n
no_section (Name x) n s c m = refl
no_section (Section x) n s c m = absurd (s x refl)
no_section (Setup x) n s c m = refl
no_section (Code x) n s c m = absurd (c x refl)
no_section (Markdown x) n s c m = absurd (m x refl)
no_section (Saved x y) n s c m = refl
no_section (Kept x) n s c m = refl
no_section (Stamp x) n s c m = refl
no_section (Branch x y) n s c m = refl
no_section Dropped n s c m = refl
no_section (Misplaced x) n s c m = refl

-- ---- cells

pub cells_by : (i : Item) (n k : ℕ) → length (added (item_of i)) ≡ k → (d : Draft) → length (section_cells d.parts) ≡ n → length (section_cells (with_item d (item_of i)).parts) ≡ n + k
cells_by i n k h d e = cell_count-item d (item_of i) ∙ (ap (λ m. m + length (added (item_of i))) e ∙ ap (λ m. n + m) h)

pub one_cell : (i : Item) → IsCell i → length (added (item_of i)) ≡ 1
one_cell i (inl (x, e)) = rw e refl
one_cell i (inr (x, e)) = rw e refl

pub no_cell : (i : Item) → ((x : Text) → ¬ (i ≡ Code x)) → ((x : Text) → ¬ (i ≡ Markdown x)) → length (added (item_of i)) ≡ 0
no_cell (Name x) c m = refl
no_cell (Section x) c m = refl
no_cell (Setup x) c m = refl
no_cell (Code x) c m = absurd (c x refl)
no_cell (Markdown x) c m = absurd (m x refl)
no_cell (Saved x y) c m = refl
no_cell (Kept x) c m = refl
no_cell (Stamp x) c m = refl
no_cell (Branch x y) c m = refl
no_cell Dropped c m = refl
no_cell (Misplaced x) c m = refl

-- ---- code cells

pub code_cells_by : (i : Item) (n k : ℕ) → codes_in (added (item_of i)) ≡ k → (d : Draft) → code_count (section_cells d.parts) ≡ n → code_count (section_cells (with_item d (item_of i)).parts) ≡ n + k
code_cells_by i n k h d e = code_count-item d (item_of i) ∙ (ap (λ m. m + codes_in (added (item_of i))) e ∙ ap (λ m. n + m) h)

pub one_code_cell : (i : Item) (x : Text) → i ≡ Code x → codes_in (added (item_of i)) ≡ 1
one_code_cell i x e = rw e refl

pub no_code_cell : (i : Item) → ((x : Text) → ¬ (i ≡ Code x)) → codes_in (added (item_of i)) ≡ 0
no_code_cell (Name x) c = refl
no_code_cell (Section x) c = refl
no_code_cell (Setup x) c = refl
no_code_cell (Code x) c = absurd (c x refl)
no_code_cell (Markdown x) c = refl
no_code_cell (Saved x y) c = refl
no_code_cell (Kept x) c = refl
no_code_cell (Stamp x) c = refl
no_code_cell (Branch x y) c = refl
no_code_cell Dropped c = refl
no_code_cell (Misplaced x) c = refl
