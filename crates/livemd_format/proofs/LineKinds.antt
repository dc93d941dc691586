-- What the lines are that a writer writes.
use Rattle.std.proofs.Common.{◌≡◌, ◌⊎◌, inl, inr, ℕ, ◌<◌, suc, zero, Bool, true, false, ◌&&◌, ◌||◌, cond, List, [], ◌∷◌, ◌++◌, Option, Some, None, codes, length, drop, refl, sym, ap, ◌∙◌, arith, subst, eqb-true}
use Rattle.std.specs.Prelude.{◌==◌, not, option_and_then}
use Rattle.std.specs.Fmt.{digits}
use Rattle.std.specs.List.{list_any}
use Rattle.serde_json.proofs.OnLiterals.{serde_json_on_literals}
use Rattle.livemd_lines.specs.declared.metadata.Metadata.{Metadata}
use Rattle.livemd_lines.specs.declared.metadata.Metadata.TheVariants as metadata
use Rattle.blanks.specs.Blanks.{drop_end, drop_front, is_blank, is_cr, is_empty, is_space, is_space_or_tab}
use Rattle.livemd_lines.specs.Lines.{is_lf}
use Rattle.livemd_lines.specs.Kinds.{Meta, Heading1, Heading2, Plain, kind_of}
use Rattle.livemd_lines.specs.Meanings.{before, begins, meaning_in, metadata_of}
use Rattle.livemd_lines.specs.Written.{IsLine}
use Rattle.livemd_format.specs.Write.{break_line, branch_line, force_line, output_line}
use Rattle.livemd_format.proofs.Trimming.{end_none}
use Rattle.livemd_format.proofs.Characters.{feed_of_none}

-- ---- metadata lines

-- a metadata line begins with `<`
no_begin : (c : ℕ) (l : List ℕ) (t : Bool) → (60 == c) ≡ false → begins (codes "<!-- livebook:") (cond t [] (c ∷ l)) ≡ false
no_begin c l true e = refl
no_begin c l false e = rw e refl

front_step : (c : ℕ) (l : List ℕ) (m : Metadata) → (60 == c) ≡ false → metadata_of (c ∷ l) ≡ Some m → ⊥
front_step c l m e h =
    let w : List ℕ = drop_end is_space_or_tab (c ∷ l) in
    let b : begins (codes "<!-- livebook:") w ≡ false = no_begin c (drop_end is_space_or_tab l) (is_space_or_tab c && is_empty (drop_end is_space_or_tab l)) e in
    let none : metadata_of (c ∷ l) ≡ None = ap (λ (v : Bool). option_and_then meaning_in (option_and_then (before (codes " -->")) (cond v (Some (drop (length (codes "<!-- livebook:")) w)) None))) b in
    let both : None ≡ Some m = sym none ∙ h in
    absurd cc

metadata_front : (l : List ℕ) (m : Metadata) → metadata_of l ≡ Some m → (cs : List ℕ) × (l ≡ 60 ∷ cs)
metadata_front [] m h = absurd cc
metadata_front (c ∷ l) m h =
    elim (60 == c)
    as (λ b. (60 == c) ≡ b → (cs : List ℕ) × (c ∷ l ≡ 60 ∷ cs))
    [ true ↦ λ e. (l, ap (λ d. d ∷ l) (sym (eqb-true 60 c e))) | false ↦ λ e. absurd (front_step c l m e h) ]
    refl

meta_at : (cs : List ℕ) (m : Metadata) → metadata_of (60 ∷ cs) ≡ Some m → kind_of (60 ∷ cs) ≡ Meta m
meta_at cs m h = rw h refl

-- so it opens no fence, and isn't blank
pub metadata_kind : (l : List ℕ) (m : Metadata) → metadata_of l ≡ Some m → kind_of l ≡ Meta m
metadata_kind l m h = let f = metadata_front l m h in rw f.1 (meta_at f.0 m (rw f.1 at h))

pub metadata_text : (l : List ℕ) (m : Metadata) → metadata_of l ≡ Some m → is_blank l ≡ false
metadata_text l m h = let f = metadata_front l m h in rw f.1 refl

-- ---- the known ones

pub break_is : metadata_of break_line ≡ Some metadata.BreakMarkdown
unfolding serde_json_on_literals
break_is = refl

pub force_is : metadata_of force_line ≡ Some metadata.ForceMarkdown
unfolding serde_json_on_literals
force_is = refl

pub output_is : metadata_of output_line ≡ Some metadata.Output
unfolding serde_json_on_literals
output_is = refl

-- a line by tests
abbrev is_plain_line : List ℕ → Bool
is_plain_line l = not (list_any is_lf l) && not (list_any is_cr l)

not_of : (b : Bool) → not b ≡ true → b ≡ false
not_of true h = absurd cc
not_of false h = refl

plain_step : (a b : Bool) → (not a && not b) ≡ true → (a ≡ false) × (b ≡ false)
plain_step true b h = absurd cc
plain_step false b h = (refl, not_of b h)

pub plain_line : (l : List ℕ) → is_plain_line l ≡ true → IsLine l
plain_line l h = let s = plain_step (list_any is_lf l) (list_any is_cr l) h in (feed_of_none l s.0, end_none is_cr l s.1)

pub break_line-IsLine : IsLine break_line
break_line-IsLine = plain_line break_line refl

pub force_line-IsLine : IsLine force_line
force_line-IsLine = plain_line force_line refl

pub output_line-IsLine : IsLine output_line
output_line-IsLine = plain_line output_line refl

-- each branch line of an index below 1000, by computing all of them
abbrev is_branch_to : ℕ → Option Metadata → Bool
is_branch_to n (Some (metadata.BranchParentIndex m)) = m == n
is_branch_to n other = false

abbrev are_branches : ℕ → Bool
are_branches zero = true
are_branches (suc n) = cond (is_branch_to n (metadata_of (branch_line n)) && is_plain_line (branch_line n)) (are_branches n) false

all_branches : are_branches 1000 ≡ true
unfolding serde_json_on_literals digits
all_branches = refl

here_or_below : (n k : ℕ) → n < suc k → (n ≡ k) ⊎ (n < k)
here_or_below n k h = grind arith

cond_both : (a b : Bool) → cond a b false ≡ true → (a ≡ true) × (b ≡ true)
cond_both true b h = (refl, h)
cond_both false b h = absurd cc

branch_below : (n k : ℕ) → n < k → are_branches k ≡ true → (is_branch_to n (metadata_of (branch_line n)) && is_plain_line (branch_line n)) ≡ true
branch_below n zero lt h = absurd (omega arith)
branch_below n (suc k) lt h =
    let s = cond_both (is_branch_to k (metadata_of (branch_line k)) && is_plain_line (branch_line k)) (are_branches k) h in
    elim (here_or_below n k lt) [
      | inl e ↦ subst (λ i. (is_branch_to i (metadata_of (branch_line i)) && is_plain_line (branch_line i)) ≡ true) (sym e) s.0
      | inr less ↦ branch_below n k less s.1
    ]

and_both : (a b : Bool) → (a && b) ≡ true → (a ≡ true) × (b ≡ true)
and_both true b h = (refl, h)
and_both false b h = absurd cc

branch_by : (n : ℕ) (o : Option Metadata) → is_branch_to n o ≡ true → o ≡ Some (metadata.BranchParentIndex n)
branch_by n None h = absurd cc
branch_by n (Some (metadata.BranchParentIndex m)) h = ap (λ i. Some (metadata.BranchParentIndex i)) (eqb-true m n h)
branch_by n (Some metadata.BreakMarkdown) h = absurd cc
branch_by n (Some metadata.ForceMarkdown) h = absurd cc
branch_by n (Some metadata.Output) h = absurd cc
branch_by n (Some metadata.Stamp) h = absurd cc
branch_by n (Some metadata.Unknown) h = absurd cc

pub branch_is : (n : ℕ) → n < 1000 → metadata_of (branch_line n) ≡ Some (metadata.BranchParentIndex n)
branch_is n lt = branch_by n (metadata_of (branch_line n)) (and_both (is_branch_to n (metadata_of (branch_line n))) (is_plain_line (branch_line n)) (branch_below n 1000 lt all_branches)).0

pub branch_line-IsLine : (n : ℕ) → n < 1000 → IsLine (branch_line n)
branch_line-IsLine n lt = plain_line (branch_line n) (and_both (is_branch_to n (metadata_of (branch_line n))) (is_plain_line (branch_line n)) (branch_below n 1000 lt all_branches)).1

-- ---- headings

pub name_kind : (name : List ℕ) → drop_front is_space name ≡ name → drop_end is_space name ≡ name → kind_of (codes "# " ++ name) ≡ Heading1 name
name_kind name f e = ap (λ w. Heading1 (drop_end is_space w)) f ∙ ap Heading1 e

pub section_kind : (name : List ℕ) → drop_front is_space name ≡ name → drop_end is_space name ≡ name → kind_of (codes "## " ++ name) ≡ Heading2 name
section_kind name f e = ap (λ w. Heading2 (drop_end is_space w)) f ∙ ap Heading2 e

-- ---- blank lines are text

blank_end : (l : List ℕ) → is_blank l ≡ true → drop_end is_space_or_tab l ≡ []
blank_end [] h = refl
blank_end (c ∷ l) h = let s = and_both (is_space_or_tab c) (is_blank l) h in rw (blank_end l s.1, s.0) refl

space_or_tab : (c : ℕ) (b : Bool) → (c == 32) ≡ b → (b || (c == 9)) ≡ true → (c ≡ 32) ⊎ (c ≡ 9)
space_or_tab c true e h = inl (eqb-true c 32 e)
space_or_tab c false e h = inr (eqb-true c 9 h)

pub blank_plain : (l : List ℕ) → is_blank l ≡ true → kind_of l ≡ Plain
blank_plain [] h = refl
blank_plain (c ∷ l) h =
    let none : drop_end is_space_or_tab (c ∷ l) ≡ [] = blank_end (c ∷ l) h in
    elim (space_or_tab c (c == 32) refl (and_both (is_space_or_tab c) (is_blank l) h).0) [
      | inl e ↦ at_space c l e none
      | inr e ↦ at_tab c l e none
    ]
  where
    at_space : (c : ℕ) (l : List ℕ) → c ≡ 32 → drop_end is_space_or_tab (c ∷ l) ≡ [] → kind_of (c ∷ l) ≡ Plain
    at_space c l e n = rw e (rw (rw e at n) refl)

    at_tab : (c : ℕ) (l : List ℕ) → c ≡ 9 → drop_end is_space_or_tab (c ∷ l) ≡ [] → kind_of (c ∷ l) ≡ Plain
    at_tab c l e n = rw e (rw (rw e at n) refl)
