-- Spaces and tabs are ASCII, so a text may be cut before its first one.
use Rattle.std.proofs.Common.{◌≡◌, ℕ, ◌<◌, ◌≤◌, List, length, get_or, arith, subst, not}
use Rattle.std.specs.List.{position_or_len}
use Rattle.std.specs.Str.{IsUtf8, IsCharBoundary}
use Rattle.std.proofs.lemmas.List.Sums.{prefix_len-le-length, passes_at_first}
use Rattle.blanks.specs.Blanks.{is_space_or_tab}
use Rattle.blanks.proofs.Fronts.{is_space_or_tab-ascii}

pub word_boundary : (bs : List ℕ) (n : ℕ) → n ≡ position_or_len is_space_or_tab bs → IsUtf8 bs → IsCharBoundary bs n
word_boundary bs n e utf8 =
    let within : position_or_len is_space_or_tab bs ≤ length bs = prefix_len-le-length (λ b. not (is_space_or_tab b)) bs in
    let byte : n < length bs → get_or bs n 0 < 128 = λ h. rw e (is_space_or_tab-ascii _ (passes_at_first is_space_or_tab bs 0 (subst (λ m. m < length bs) e h))) in
    (omega arith, λ h k. absurd (omega (arith, byte h)))
