-- The notebook of the tests keeps the rules.
use Rattle.std.proofs.Common.{◌≡◌, ◌≢◌, ℕ, ◌+◌, ◌≤◌, [], ◌∷◌, ◌++◌, length, map, None, Contains, sym, ◌∙◌, ap, subst, arith, lit<, lit≤}
use Rattle.std.specs.List.{AllByRecursion, flat_map}
use Rattle.std.proofs.lemmas.Map.Made.{Contains-tail}
use Rattle.notebook.specs.declared.parts.Cell.{Cell}
use Rattle.notebook.specs.declared.parts.Section.{Section}
use Rattle.notebook.specs.declared.parts.Parts.{Parts}
use Rattle.notebook.specs.declared.parts.Kind.TheVariants.{Setup, Markdown}
use Rattle.notebook.specs.Book.{cells_of, section_cells}
use Rattle.notebook.specs.Rules.{cell_number, section_number, AreDistinct, IsSectionKind, IsSectionCell, IsBelow, IsParentAmong, ParentsStand, code_weight, code_count, numbered_cells, IsNotebook}

none_there : (n : ℕ) → ¬ Contains {X = ℕ} [] n
none_there n c = absurd (omega (arith, c.1))

another : (m n : ℕ) → m ≢ n → ¬ Contains (m ∷ []) n
another m n ne c = none_there n (Contains-tail m [] n ne c)

apart : AreDistinct (0 ∷ 1 ∷ [])
apart = (another 1 0 (λ e. cc), (none_there 1, tt))

below_two : AllByRecursion (IsBelow 2) (0 ∷ 1 ∷ [])
below_two = (lit< tt, (lit< tt, tt))

-- one section 1, of the Markdown cell 1
pub sample_rules : (n : Parts) (a : Cell) (s : Section) → n.setup.id ≡ 0 → n.setup.kind ≡ Setup → n.sections ≡ s ∷ [] → n.bin ≡ [] → n.next_cell ≡ 2 → n.next_section ≡ 2 → s.id ≡ 1 → s.parent ≡ None → s.cells ≡ a ∷ [] → a.id ≡ 1 → a.kind ≡ Markdown → IsNotebook n
sample_rules n a s si sk ss bin nc ns s1 sp sc a1 ak =
    let live : section_cells n ≡ a ∷ [] = ap (λ l. flat_map cells_of l) ss ∙ ap (λ l. l ++ []) sc in
    let numbered : numbered_cells n ≡ a ∷ [] = ap (λ l. l ++ n.bin) live ∙ ap (λ l. a ∷ l) bin in
    let numbers : map cell_number (numbered_cells n) ≡ 1 ∷ [] = ap (λ l. map cell_number l) numbered ∙ ap (λ k. k ∷ []) a1 in
    let sections : map section_number n.sections ≡ 1 ∷ [] = ap (λ l. map section_number l) ss ∙ ap (λ k. k ∷ []) s1 in
    let first : IsParentAmong [] s.parent = subst (IsParentAmong []) (sym sp) tt in
    let one : 1 ≤ 1000 = lit≤ tt in
    let one_cell : 1 ≤ 4000 = lit≤ tt in
    let none : 0 ≤ 1000 = lit≤ tt in
    let codes : code_weight a.kind + 0 ≡ 0 = ap (λ k. code_weight k + 0) ak in
    record {
      setup_number = si;
      setup_kind = sk;
      kinds = subst (AllByRecursion IsSectionCell) (sym numbered) (subst IsSectionKind (sym ak) tt, tt);
      cell_numbers = subst (λ l. AreDistinct (0 ∷ l)) (sym numbers) apart;
      next_cell = subst (λ m. AllByRecursion (IsBelow m) (0 ∷ map cell_number (numbered_cells n))) (sym nc) (subst (λ l. AllByRecursion (IsBelow 2) (0 ∷ l)) (sym numbers) below_two);
      section_numbers = subst (λ l. AreDistinct (0 ∷ l)) (sym sections) apart;
      next_section = subst (λ m. AllByRecursion (IsBelow m) (0 ∷ map section_number n.sections)) (sym ns) (subst (λ l. AllByRecursion (IsBelow 2) (0 ∷ l)) (sym sections) below_two);
      parents = subst (ParentsStand []) (sym ss) (first, tt);
      few_sections = subst (λ l. length l ≤ 1000) (sym ss) one;
      few_cells = subst (λ l. length l ≤ 4000) (sym live) one_cell;
      few_code_cells = subst (λ l. code_count l ≤ 1000) (sym live) (subst (λ m. m ≤ 1000) (sym codes) none);
    }
